-- What a verifier knows: the answers of its last checks, for one ring of keys.
use Rattle.std.specs.Prelude.{◌≡◌, ◌+◌, ◌-◌, ◌^◌, ◌⊎◌, ℕ, Bool, true, false, min, List, [], ◌∷◌, take, nat_eq, slice_get, Contains}
use Rattle.std.specs.Prelude.{Option, is_some, if◌then◌else◌}
use Rattle.std.specs.Cmp.Lexicographic.{pointwise}
use Rattle.std.specs.Map.{lookup}
use Rattle.std.specs.Option.{option_eq}
use Rattle.lru.specs.LruCache.{promoted}
use Rattle.ledger_model.specs.Rules.{Ring, is_signed_by}
use Rattle.signed_frames.specs.Lending.{SignedPartView}
use Rattle.verify_cache.specs.declared.signed.SignedMessage.{SignedMessage}
use Rattle.verify_cache.specs.Same.{same, signed_of}

-- the most answers that a replica's verifier remembers
abbrev pub max_known : ℕ
max_known = 1024

-- a verifier: its ring, the most answers that it remembers, those that it knows, the most recent first, and how many checks it computed
pub record VerifierView : Type 0 where
  pub ring : Ring
  pub capacity : ℕ
  pub known : List (SignedMessage × Bool)
  pub computed : ℕ

-- a verifier that knows nothing yet
abbrev pub new_verifier : Ring → ℕ → VerifierView
new_verifier r capacity = record { ring = r; capacity = capacity; known = []; computed = 0 }

-- the ring's answer
abbrev pub answer_by : Ring → SignedMessage → Bool
answer_by r m = is_signed_by (slice_get r m.signer) m.message m.signature

-- each known answer is the ring's
abbrev pub AreAnswers : Ring → List (SignedMessage × Bool) → Type 0
AreAnswers r es = (e : SignedMessage × Bool) → Contains es e → e.1 ≡ answer_by r e.0

-- the answer, if it is known
abbrev pub answer_in : VerifierView → SignedMessage → Option Bool
answer_in v m = lookup (same m) v.known

-- the answer is known
abbrev pub is_known : VerifierView → SignedMessage → Bool
is_known v m = is_some (answer_in v m)

-- an answer is added as the most recent, and one too many goes
abbrev pub added : ℕ → SignedMessage → Bool → List (SignedMessage × Bool) → List (SignedMessage × Bool)
added capacity m answer es = (m, answer) ∷ take (capacity - 1) es

-- one more check was computed
abbrev pub one_more : ℕ → ℕ
one_more n = min (n + 1) (2 ^ 64 - 1)

-- a check of what is known: nothing is computed, and it is the most recent unless memory for its key is refused
abbrev pub Recalls : SignedMessage → VerifierView → VerifierView → Type 0
Recalls m old new =
    is_known old m ≡ true → (new.computed ≡ old.computed) × ((new.known ≡ promoted (same m) old.known) ⊎ (new.known ≡ old.known))

-- a check of what is not known: one more is computed, and its answer is the most recent unless memory is refused
abbrev pub Learns : SignedMessage → VerifierView → VerifierView → Type 0
Learns m old new =
    is_known old m ≡ false
    → (new.computed ≡ one_more old.computed)
    × ((new.known ≡ added old.capacity m (answer_by old.ring m) old.known) ⊎ (new.known ≡ old.known))

-- ---- answers that were computed elsewhere

-- both rings have the same key at this replica's number, or none
abbrev pub has_same_key : Ring → Ring → ℕ → Bool
has_same_key r q signer = option_eq (pointwise nat_eq) (slice_get r signer) (slice_get q signer)

-- a verifier takes an answer in: if it knew it, the answer is the most recent now, and if not, it is added
abbrev pub with_answer : SignedMessage → Bool → VerifierView → VerifierView
with_answer m answer v =
    record v { known = if is_known v m then promoted (same m) v.known else added v.capacity m answer v.known }

-- the verifier takes in what this ring answers, unless the ring has another key of the signer than the verifier's ring
abbrev pub primed : Ring → SignedMessage → VerifierView → VerifierView
primed ring m v = if has_same_key ring v.ring m.signer then with_answer m (answer_by ring m) v else v

-- the check of a part of a frame
abbrev pub check_of : SignedPartView → SignedMessage
check_of p = signed_of p.signer p.message p.signature

-- the verifier takes in what this ring answers to the check, or leaves it out: no clause says that memory was refused then
abbrev pub Primes : Ring → SignedMessage → VerifierView → VerifierView → Type 0
Primes ring m old new = (new ≡ primed ring m old) ⊎ (new ≡ old)

-- it does so with each of these parts, one after the other
abbrev pub PrimesAll : Ring → List SignedPartView → VerifierView → VerifierView → Type 0
PrimesAll ring [] old new = new ≡ old
PrimesAll ring (p ∷ ps) old new = (next : VerifierView) × (Primes ring (check_of p) old next × PrimesAll ring ps next new)
