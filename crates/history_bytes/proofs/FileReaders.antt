-- Files of histories are read back from their encoding: the laws.
use Rattle.std.proofs.Common.{◌≡◌, ℕ, zero, suc, ◌<◌, ◌≤◌, List, [], ◌∷◌, ◌++◌, length, Option, Some, None, refl, sym, ap}
use Rattle.std.proofs.Common.{subst, ◌∙◌, append_assoc, arith}
use Rattle.std.specs.List.{flat_map, AllByRecursion}
use Rattle.std.proofs.lemmas.List.{length-append, append-nil}
use Rattle.ledger_model.specs.declared.history.History.{History}
use Rattle.ledger_model.specs.declared.version.Version.{Version}
use Rattle.ledger_model.specs.GrammarLaws.{IsBytes}
use Rattle.ledger_model.specs.Reading.{◌>>=◌}
use Rattle.ledger_model.proofs.Readers.{bind_some, some_is}
use Rattle.statements.specs.declared.fault.DecodeFault.{DecodeFault}
use Rattle.statements.specs.declared.fault.DecodeFault.TheVariants.{Malformed, NoMemory}
use Rattle.statements.specs.Reads.{IsFaultOf}
use Rattle.history_bytes.specs.Histories.{history_bytes}
use Rattle.history_bytes.specs.HistorySpelling.{IsHistory}
use Rattle.history_bytes.specs.HistoryReading.{history_at, histories_within}
use Rattle.history_bytes.specs.HistoryReading.{histories_reading}
use Rattle.history_bytes.specs.HistoryLaws.{SpellsHistories, HistoriesSpelledAreRead, OneList}
use Rattle.history_bytes.proofs.Combined.{taken}
use Rattle.history_bytes.proofs.HistoryReaders.{history_reader}

-- a history has a byte
history_some : (h : History) → 1 ≤ length (history_bytes h)
unfolding history_bytes
history_some h = omega arith

-- what is left after a history is less
pub less_left : (version : Version) (bytes : List ℕ) (h : History) (rest : List ℕ) → IsBytes bytes
    → history_at version bytes ≡ Some (h, rest)
    → (length rest < length bytes) × IsBytes rest
less_left version bytes h rest fits e =
    let t = (history_reader version).takes bytes h rest fits e in
    let len : length bytes ≡ length (history_bytes h ++ rest) = ap length t.0 in
    (omega (arith, len, history_some h, length-append (history_bytes h) rest), t.2)

-- the first history, followed by the others
abbrev histories_from : Version → ℕ → Option (History × List ℕ) → Option (List History)
histories_from version n read = read >>= λ first. histories_within version n first.1 >>= λ rest. Some (first.0 ∷ rest)

-- any bound that is enough finds the same
within_same : (version : Version) (n m : ℕ) (bytes : List ℕ) → IsBytes bytes → length bytes ≤ n → length bytes ≤ m
    → histories_within version n bytes ≡ histories_within version m bytes
unfolding histories_within
within_same version zero zero bytes fits le ge = refl
within_same version zero (suc m) [] fits le ge = refl
within_same version zero (suc m) (b ∷ bytes) fits le ge = absurd (omega (arith, le))
within_same version (suc n) zero [] fits le ge = refl
within_same version (suc n) zero (b ∷ bytes) fits le ge = absurd (omega (arith, ge))
within_same version (suc n) (suc m) [] fits le ge = refl
within_same version (suc n) (suc m) (b ∷ bytes) fits le ge =
    at (history_at version (b ∷ bytes)) refl (λ rest rest_fits rest_le rest_ge. within_same version n m rest rest_fits rest_le rest_ge)
  where
    at : (o : Option (History × List ℕ)) → history_at version (b ∷ bytes) ≡ o
        → ((rest : List ℕ) → IsBytes rest → length rest ≤ n → length rest ≤ m
        → histories_within version n rest ≡ histories_within version m rest)
        → histories_from version n o ≡ histories_from version m o
    at None e same = refl
    at (Some x) e same =
        let t = less_left version (b ∷ bytes) x.0 x.1 fits e in
        rw (same x.1 t.1 (omega (arith, t.0, le)) (omega (arith, t.0, ge))) refl

-- one history is read, and then the others
pub reading_more : (version : Version) (bytes : List ℕ) → IsBytes bytes → 1 ≤ length bytes
    → histories_reading version bytes
    ≡ (history_at version bytes >>= λ first. histories_reading version first.1 >>= λ rest. Some (first.0 ∷ rest))
unfolding histories_reading histories_within
reading_more version [] fits some = absurd (omega (arith, some))
reading_more version (b ∷ bytes) fits some = at (history_at version (b ∷ bytes)) refl
  where
    at : (o : Option (History × List ℕ)) → history_at version (b ∷ bytes) ≡ o
        → histories_from version (length bytes) o
        ≡ (o >>= λ first. histories_within version (length first.1) first.1 >>= λ rest. Some (first.0 ∷ rest))
    at None e = refl
    at (Some x) e =
        let t = less_left version (b ∷ bytes) x.0 x.1 fits e in
        rw (within_same version (length bytes) (length x.1) x.1 t.1 (omega (arith, t.0)) (omega arith)) refl

pub reading_none : (version : Version) (bytes : List ℕ) → length bytes ≡ 0 → histories_reading version bytes ≡ Some []
unfolding histories_reading histories_within
reading_none version [] none = refl
reading_none version (b ∷ bytes) none = absurd (omega (arith, none))

-- ---- the laws

within_spelled : (version : Version) (n : ℕ) (bytes : List ℕ) (hs : List History) → IsBytes bytes
    → histories_within version n bytes ≡ Some hs
    → SpellsHistories version bytes hs
unfolding histories_within
within_spelled version zero [] hs fits e =
    subst (SpellsHistories version []) (some_is [] hs e) (record { spelled = tt; written = refl })
within_spelled version zero (b ∷ bytes) hs fits e = absurd cc
within_spelled version (suc n) [] hs fits e =
    subst (SpellsHistories version []) (some_is [] hs e) (record { spelled = tt; written = refl })
within_spelled version (suc n) (b ∷ bytes) hs fits e =
    taken (history_reader version) (b ∷ bytes) (λ first. histories_within version n first.1 >>= λ rest. Some (first.0 ∷ rest)) hs fits e
    (λ h more h_parts h_is h_fits f.
    let a = bind_some (histories_within version n more) (λ rest. Some (h ∷ rest)) hs f in
    let others = within_spelled version n more a.0 h_fits a.1 in
    subst (SpellsHistories version (b ∷ bytes)) (some_is (h ∷ a.0) hs a.2)
    (record {
      spelled = (h_is, others.spelled);
      written = h_parts ∙ ap (λ (t : List ℕ). history_bytes h ++ t) others.written;
    }))

-- bytes that read as histories are the encodings of those histories
pub read_are_spelled : (version : Version) (bytes : List ℕ) (hs : List History) → IsBytes bytes
    → histories_reading version bytes ≡ Some hs → SpellsHistories version bytes hs
unfolding histories_reading
read_are_spelled version bytes hs fits e = within_spelled version (length bytes) bytes hs fits e

-- a history that was spelled is read by any bound that is enough
within_again : (version : Version) (n : ℕ) (hs : List History) → AllByRecursion (IsHistory version) hs
    → length (flat_map history_bytes hs) ≤ n
    → histories_within version n (flat_map history_bytes hs) ≡ Some hs
unfolding histories_within history_bytes
within_again version zero [] is le = refl
within_again version (suc n) [] is le = refl
within_again version zero (h ∷ hs) is le = absurd (omega (arith, le))
within_again version (suc n) (h ∷ hs) is le =
    let fewer : length (flat_map history_bytes hs) ≤ n =
    omega (arith, le, history_some h, length-append (history_bytes h) (flat_map history_bytes hs)) in
    rw ((history_reader version).again h (flat_map history_bytes hs) is.0, within_again version n hs is.1 fewer) refl

pub spelled_are_read : HistoriesSpelledAreRead
unfolding histories_reading
spelled_are_read version hs is = within_again version (length (flat_map history_bytes hs)) hs is (omega arith)

pub one_list : OneList
one_list version bytes hs others one other =
    some_is hs others (sym (spelled_are_read version hs one.spelled) ∙ ap (histories_reading version) (sym one.written ∙ other.written)
    ∙ spelled_are_read version others other.spelled)

-- ---- reading one history after another, as a loop does

-- what was read before, and what is still read
abbrev pub with_found : List History → Option (List History) → Option (List History)
with_found front read = read >>= λ hs. Some (front ++ hs)

regroup : (front : List History) (h : History) (read : Option (List History))
    → with_found front (read >>= λ hs. Some (h ∷ hs)) ≡ with_found (front ++ h ∷ []) read
regroup front h (Some hs) = ap (λ (x : List History). Some x) (simp append_assoc)
regroup front h None = refl

-- one more was read
pub history_goes_on : (version : Version) (front : List History) (bytes : List ℕ) (h : History) (left : List ℕ)
    (total : Option (List History)) → IsBytes bytes
    → 1 ≤ length bytes → history_at version bytes ≡ Some (h, left) → with_found front (histories_reading version bytes) ≡ total
    → with_found (front ++ h ∷ []) (histories_reading version left) ≡ total
history_goes_on version front bytes h left total fits some e so_far =
    let step : with_found front (histories_reading version bytes) ≡ with_found (front ++ h ∷ []) (histories_reading version left) =
    rw (reading_more version bytes fits some, e) (regroup front h (histories_reading version left)) in
    sym step ∙ so_far

-- one more could not be read
pub history_ends : (version : Version) (fault : DecodeFault) (front : List History) (bytes : List ℕ) (total : Option (List History))
    → IsBytes bytes
    → 1 ≤ length bytes → IsFaultOf fault (history_at version bytes) → with_found front (histories_reading version bytes) ≡ total
    → IsFaultOf fault total
history_ends version NoMemory front bytes total fits some e so_far = tt
history_ends version Malformed front bytes total fits some e so_far =
    let step : with_found front (histories_reading version bytes) ≡ None = rw (reading_more version bytes fits some, e) refl in
    sym so_far ∙ step

-- all were read
pub histories_are_done : (version : Version) (front : List History) (bytes : List ℕ) (total : Option (List History)) → length bytes ≡ 0
    → with_found front (histories_reading version bytes) ≡ total → total ≡ Some front
histories_are_done version front bytes total none so_far =
    let step : with_found front (histories_reading version bytes) ≡ Some front =
    rw (reading_none version bytes none) (ap (λ (x : List History). Some x) (append-nil front)) in
    sym so_far ∙ step

-- ---- what is spelled is what is read

pub spelled_are_found : (version : Version) (bytes : List ℕ) (hs others : List History) → histories_reading version bytes ≡ Some hs
    → SpellsHistories version bytes others
    → hs ≡ others
spelled_are_found version bytes hs others e spells =
    some_is hs others (sym e ∙ ap (histories_reading version) spells.written ∙ spelled_are_read version others spells.spelled)

pub spelled_not_none : (version : Version) (bytes : List ℕ) (hs : List History) → histories_reading version bytes ≡ None
    → SpellsHistories version bytes hs → ⊥
spelled_not_none version bytes hs e spells = both (sym e ∙ ap (histories_reading version) spells.written
    ∙ spelled_are_read version hs spells.spelled)
  where
    both : None ≡ Some hs → ⊥
    both e = cc
