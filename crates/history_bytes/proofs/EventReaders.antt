-- Events are read back from their encoding.
use Rattle.std.proofs.Common.{◌≡◌, ℕ, List, [], ◌∷◌, ◌++◌, length, Some, refl, sym, ap, subst, ◌∙◌, append_assoc, eqb}
use Rattle.std.specs.Int.{w32, to_be_bytes}
use Rattle.std.proofs.lemmas.Bool.{eqb-true}
use Rattle.ledger_model.specs.declared.event.Event.{Event}
use Rattle.ledger_model.specs.declared.event.Event.TheVariants as event
use Rattle.ledger_model.specs.GrammarLaws.{IsBytes}
use Rattle.ledger_model.specs.Reading.{◌>>=◌}
use Rattle.ledger_model.proofs.Readers.{some_is}
use Rattle.history_bytes.specs.Histories.{count_in_1, event_bytes}
use Rattle.history_bytes.specs.HistorySpelling.{IsEvent, event_number}
use Rattle.history_bytes.specs.HistoryReading.{key_at, query_at, event_at}
use Rattle.history_bytes.proofs.Combined.{taken, if_some, IsTagged, branch_takes, nothing_reader}
use Rattle.history_bytes.proofs.FieldReaders.{word_reader, long_bytes, short_bytes, long_reader, key_reader}

-- the encoding of an event after its number
abbrev pub event_tail : Event → List ℕ
event_tail (event.Submit tx) = long_bytes tx
event_tail (event.Propose height) = to_be_bytes w32 height
event_tail (event.Deliver bytes) = long_bytes bytes
event_tail event.RoundEnd = []
event_tail event.Execute = []
event_tail (event.Query key height) = to_be_bytes w32 height ++ short_bytes key
event_tail (event.Retire floor) = to_be_bytes w32 floor

pub event_parts : (e : Event) → event_bytes e ≡ event_number e ∷ event_tail e
event_parts (event.Submit tx) = refl
event_parts (event.Propose height) = refl
event_parts (event.Deliver bytes) = refl
event_parts event.RoundEnd = refl
event_parts event.Execute = refl
event_parts (event.Query key height) = ap (λ (t : List ℕ). 6 ∷ t) (append_assoc (to_be_bytes w32 height) (count_in_1 (length key)) key)
event_parts (event.Retire floor) = refl

-- what an event of the number n was taken from
abbrev EventTaken : ℕ → List ℕ → Event → List ℕ → Type 0
EventTaken n bytes e rest = (bytes ≡ event_tail e ++ rest) × IsEvent e × IsBytes rest × (event_number e ≡ n)

query_takes : (bytes : List ℕ) (e : Event) (rest : List ℕ) → IsBytes bytes → query_at bytes ≡ Some (e, rest) → EventTaken 6 bytes e rest
unfolding query_at
query_takes bytes e rest fits read =
    taken word_reader bytes (λ height. key_at height.1 >>= λ key. Some (event.Query key.0 height.0, key.1)) (e, rest) fits read
    (λ height more h_parts h_is h_fits f. taken key_reader more (λ key. Some (event.Query key.0 height, key.1)) (e, rest) h_fits f
    (λ key last k_parts k_is k_fits g.
    let made : Event × List ℕ = (event.Query key height, last) in
    subst (λ (p : Event × List ℕ). EventTaken 6 bytes p.0 p.1) (some_is made (e, rest) g) (
      h_parts ∙ ap (λ (t : List ℕ). to_be_bytes w32 height ++ t) k_parts
          ∙ sym (append_assoc (to_be_bytes w32 height) (short_bytes key) last),
      (h_is, k_is),
      k_fits,
      refl,
    )))

event_takes : (n : ℕ) (bytes : List ℕ) (e : Event) (rest : List ℕ) → IsBytes bytes → event_at n bytes ≡ Some (e, rest)
    → EventTaken n bytes e rest
unfolding event_at
event_takes n bytes e rest fits read =
    if_some (eqb n 1) _ _ (e, rest) read
    (λ is f. branch_takes long_reader event_number event_tail IsEvent event.Submit n (λ x. sym (eqb-true n 1 is)) (λ x. refl) (λ x i. i)
    bytes e rest fits f)
    (λ _ f1. if_some (eqb n 2) _ _ (e, rest) f1
    (λ is f. branch_takes word_reader event_number event_tail IsEvent event.Propose n (λ x. sym (eqb-true n 2 is)) (λ x. refl) (λ x i. i)
    bytes e rest fits f)
    (λ _ f2. if_some (eqb n 3) _ _ (e, rest) f2
    (λ is f. branch_takes long_reader event_number event_tail IsEvent event.Deliver n (λ x. sym (eqb-true n 3 is)) (λ x. refl) (λ x i. i)
    bytes e rest fits f)
    (λ _ f3. if_some (eqb n 4) _ _ (e, rest) f3
    (λ is f. branch_takes nothing_reader event_number event_tail IsEvent (λ _. event.RoundEnd) n (λ x. sym (eqb-true n 4 is)) (λ x. refl)
    (λ x i. i) bytes e rest fits f)
    (λ _ f4. if_some (eqb n 5) _ _ (e, rest) f4
    (λ is f. branch_takes nothing_reader event_number event_tail IsEvent (λ _. event.Execute) n (λ x. sym (eqb-true n 5 is)) (λ x. refl)
    (λ x i. i) bytes e rest fits f)
    (λ _ f5. if_some (eqb n 6) _ _ (e, rest) f5
    (λ is f. subst (λ (k : ℕ). EventTaken k bytes e rest) (sym (eqb-true n 6 is)) (query_takes bytes e rest fits f))
    (λ _ f6. if_some (eqb n 7) _ _ (e, rest) f6
    (λ is f. branch_takes word_reader event_number event_tail IsEvent event.Retire n (λ x. sym (eqb-true n 7 is)) (λ x. refl) (λ x i. i)
    bytes e rest fits f)
    (λ _ none. absurd cc)))))))

event_again : (e : Event) (rest : List ℕ) → IsEvent e → event_at (event_number e) (event_tail e ++ rest) ≡ Some (e, rest)
unfolding event_at query_at
event_again (event.Submit tx) rest is = rw (long_reader.again tx rest is) refl
event_again (event.Propose height) rest is = rw (word_reader.again height rest is) refl
event_again (event.Deliver bytes) rest is = rw (long_reader.again bytes rest is) refl
event_again event.RoundEnd rest is = refl
event_again event.Execute rest is = refl
event_again (event.Query key height) rest is =
    ap (event_at 6) (append_assoc (to_be_bytes w32 height) (short_bytes key) rest)
    ∙ rw (word_reader.again height (short_bytes key ++ rest) is.0, key_reader.again key rest is.1) refl
event_again (event.Retire floor) rest is = rw (word_reader.again floor rest is) refl

pub event_tagged : IsTagged event_number event_tail IsEvent event_at
event_tagged = record { takes = event_takes; again = event_again }
