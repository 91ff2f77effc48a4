-- Which parts of the frames that arrived are worth a check.
use Rattle.std.specs.Prelude.{ℕ, Bool, false, not, ◌&&◌, List, [], ◌∷◌, ◌++◌, map, nat_eq, is_ok, if◌then◌else◌}
use Rattle.std.specs.List.{list_any}
use Rattle.std.specs.Option.{option_map_or}
use Rattle.std.specs.Cmp.Lexicographic.{pointwise}
use Rattle.ledger_model.specs.declared.config.Config.{Config}
use Rattle.ledger_model.specs.declared.statement.SignedStatement.{SignedStatement}
use Rattle.ledger_model.specs.declared.statement.Statement.{Statement}
use Rattle.ledger_model.specs.declared.statement.Statement.TheVariants as statement
use Rattle.ledger_model.specs.Validity.{is_quorate}
use Rattle.signed_frames.specs.Lending.{SignedPartView, own_part, lent_of, proof_of}
use Rattle.verify_cache.specs.Same.{same}
use Rattle.verify_cache.specs.Verifiers.{VerifierView, is_known, answer_in, check_of}
use Rattle.locked_replica.specs.States.{StateView}
use Rattle.replica_core.specs.Placing.{answer_before_signature}

-- the list with these bytes at its end, unless it has them
abbrev pub with_bytes : List ℕ → List (List ℕ) → List (List ℕ)
with_bytes b once = if list_any (pointwise nat_eq b) once then once else once ++ b ∷ []

-- the list with each of these byte strings put in, one after the other
abbrev pub with_each : List (List ℕ) → List (List ℕ) → List (List ℕ)
with_each [] once = once
with_each (b ∷ bs) once = with_each bs (with_bytes b once)

-- the different byte strings, each where it stands first
abbrev pub distinct : List (List ℕ) → List (List ℕ)
distinct bs = with_each bs []

-- the replica checks the signature of a frame with this statement: no cause that comes before the signature applies
abbrev pub is_checked : StateView → Statement → Bool
is_checked r s = is_ok (answer_before_signature r.config r.id r.entries s)

-- the verifier doesn't know whether the part is signed
abbrev pub is_unknown : VerifierView → SignedPartView → Bool
is_unknown v p = not (is_known v (check_of p))

-- the parts with this one at their end, unless they have it
abbrev pub with_part : SignedPartView → List SignedPartView → List SignedPartView
with_part p once = if list_any (λ q. same (check_of p) (check_of q)) once then once else once ++ p ∷ []

-- the parts with each of these put in of which the verifier doesn't know whether it is signed
abbrev pub with_unknown : VerifierView → List SignedPartView → List SignedPartView → List SignedPartView
with_unknown v [] once = once
with_unknown v (p ∷ ps) once = with_unknown v ps (if is_unknown v p then with_part p once else once)

-- the statement is a lock whose proof is a quorum's
abbrev pub has_quorum : Config → Statement → Bool
has_quorum config (statement.Report r) = false
has_quorum config (statement.Lock l) = is_quorate config l
has_quorum config (statement.Ack a) = false

-- the verifier knows that the frame itself is signed
abbrev pub is_known_signed : VerifierView → SignedStatement → Bool
is_known_signed v s = option_map_or (λ answer. answer) (answer_in v (check_of (own_part s))) false

-- the reports of the frame's proof, if the replica looks at their signatures: the frame itself is signed, as the verifier knows, and
-- the proof is a quorum's
abbrev pub reports_of_signed : Config → VerifierView → SignedStatement → List SignedPartView
reports_of_signed config v s =
    if is_known_signed v s && has_quorum config s.statement then map lent_of (proof_of s.statement) else []
