-- What an audit finds in the examples, by computing.
use Rattle.ledger_model.specs.Kinds.{meaning_of}
use Rattle.std.proofs.Common.{◌≡◌, ℕ, zero, suc, ◌≤◌, inl, inr, List, [], ◌∷◌, refl, sym, ap, subst, ◌∙◌, arith}
use Rattle.std.specs.Prelude.{IsTrue, Some, slice_get}
use Rattle.std.specs.List.{AllByRecursion}
use Rattle.std.proofs.lemmas.Bool.{cases_lt, lt-ltb}
use Rattle.std.proofs.lemmas.Option.{same_Some}
use Rattle.ledger_model.specs.declared.config.AppKind.TheVariants.{KvStore}
use Rattle.ledger_model.specs.declared.history.Entry.{Entry}
use Rattle.ledger_model.specs.declared.history.History.{History}
use Rattle.ledger_model.specs.Notes.{Has}
use Rattle.ledger_model.specs.Lawful.{Replay, ReplaysFrom}
use Rattle.ledger_model.specs.Logs.{log_of, log_after, notes_of, statements_made, statements_sent, own_ack}
use Rattle.ledger_model.specs.Rules.{MayMake}
use Rattle.ledger_model.specs.Spelling.{statement_bytes, body_bytes, frame_bytes}
use Rattle.ledger_model.specs.Reading.{reading_in, body_reading, statement_at, report_at, lock_at, ack_at, proof_at, signed_at, place_at}
use Rattle.ledger_model.specs.Reading.{positive_at, flag_at, value_at, tx_at, txs_at, list_at, values_at, signature_at}
use Rattle.ledger_model.specs.Audits.{own_sent, unsent_in, is_not_after, NothingUnsent}
use Rattle.ledger_laws.specs.Examples.{four, a, b, signed_report, quiet_end, round_entries}
use Rattle.ledger_laws.specs.Vacuity.{proposes, send_entry, accept_entry, ack_on, commits, first_result, three, forked}
use Rattle.ledger_laws.specs.Audits.{CaughtForkExample, QuietHistoriesPass, ReportExample, LockExample}
use Rattle.ledger_laws.proofs.Computed.{round_entries_replay}
use Rattle.ledger_laws.proofs.Refuted.{each_of_three}

-- ---- the fork

abbrev of_1 : List Entry
of_1 = commits a a (first_result a)

abbrev of_2 : List Entry
of_2 = commits b b (first_result b)

-- an unsent statement of the entry at a place is one of the entry that is given for the place
at_place : (x e : Entry) (y : ℕ) → Some x ≡ Some e → Has (unsent_in forked e) y → Has (unsent_in forked x) y
at_place x e y at has = subst (λ z. Has (unsent_in forked z) y) (sym (same_Some x e at)) has

first_of_1 : (j y : ℕ) (e : Entry) → slice_get of_1 j ≡ Some e → Has (unsent_in forked e) y → IsTrue (is_not_after 1 4 0 1 j y)
unfolding own_sent unsent_in statement_bytes body_bytes frame_bytes reading_in body_reading statement_at report_at lock_at ack_at proof_at
    signed_at place_at positive_at flag_at value_at tx_at txs_at list_at values_at signature_at
first_of_1 j y e at has = elim (cases_lt 4 j) [ inl above ↦ rw (lt-ltb 4 j above) refl | inr low ↦ below j low at ]
  where
    below : (j : ℕ) → j ≤ 4 → slice_get of_1 j ≡ Some e → IsTrue (is_not_after 1 4 0 1 j y)
    below zero low at = absurd (at_place _ e y at has)
    below (suc zero) low at = absurd (at_place _ e y at has)
    below (suc (suc zero)) low at = absurd (at_place _ e y at has)
    below (suc (suc (suc zero))) low at = absurd (at_place _ e y at has)
    below (suc (suc (suc (suc zero)))) low at = elim (at_place _ e y at has) [
      | inl same ↦ subst (λ z. IsTrue (is_not_after 1 4 0 1 4 z)) same refl
      | inr none ↦ absurd none
    ]
    below (suc (suc (suc (suc (suc j))))) low at = absurd (omega (arith, low))

pub caught_fork_example : CaughtForkExample
unfolding own_sent unsent_in statement_bytes body_bytes frame_bytes reading_in body_reading statement_at report_at lock_at ack_at proof_at
    signed_at place_at positive_at flag_at value_at tx_at txs_at list_at values_at signature_at
caught_fork_example = (
  refl,
  record {
    is = record { history = record { replica = 1; entries = of_1 }; of = refl; entry = accept_entry (ack_on a 0); at = refl; unsent = inl refl };
    least = λ q j y is.
        each_of_three [] of_1 of_2 (λ r m. (e : Entry) → slice_get m.entries j ≡ Some e → Has (unsent_in forked e) y
        → IsTrue (is_not_after 1 4 0 r j y))
        (λ e at has. cc) (λ e at has. first_of_1 j y e at has) (λ e at has. refl) q is.history is.of is.entry is.at is.unsent;
  },
  record { history = record { replica = 1; entries = of_1 }; of = refl; entry = accept_entry (ack_on a 2); at = refl; unsent = inl refl },
)

-- ---- histories that pass

-- no entry of the list accepts an unsent statement, if none is computed for any of them
none_of : (histories : List History) (es : List Entry) → AllByRecursion (λ e. unsent_in histories e ≡ []) es
    → (i x : ℕ) (e : Entry) → slice_get es i ≡ Some e → Has (unsent_in histories e) x → ⊥
none_of histories [] each i x e at has = cc
none_of histories (d ∷ es) each zero x e at has =
    subst (λ xs. Has xs x) (ap (unsent_in histories) (sym (same_Some d e at)) ∙ each.0) has
none_of histories (d ∷ es) each (suc i) x e at has = none_of histories es each.1 i x e at has

nothing_of_three : (of_0 of_1 of_2 : List Entry)
    → AllByRecursion (λ e. unsent_in (three of_0 of_1 of_2) e ≡ []) of_0
    → AllByRecursion (λ e. unsent_in (three of_0 of_1 of_2) e ≡ []) of_1
    → AllByRecursion (λ e. unsent_in (three of_0 of_1 of_2) e ≡ []) of_2
    → NothingUnsent (three of_0 of_1 of_2)
nothing_of_three of_0 of_1 of_2 none_0 none_1 none_2 r i x is =
    let histories : List History = three of_0 of_1 of_2 in
    each_of_three of_0 of_1 of_2 (λ q m. (e : Entry) → slice_get m.entries i ≡ Some e → Has (unsent_in histories e) x → ⊥)
    (none_of histories of_0 none_0 i x) (none_of histories of_1 none_1 i x) (none_of histories of_2 none_2 i x) r is.history is.of is.entry
    is.at is.unsent

quiet_replay_1 : Replay meaning_of (four KvStore) [] 1 (quiet_end ∷ [])
unfolding Replay ReplaysFrom log_of log_after notes_of statements_made statements_sent own_ack MayMake
quiet_replay_1 = (
  (
    omega arith,
    record { mute = λ m. absurd (cc m); frames = tt; order = refl; makes = λ h. refl; sends_on = λ h place. absurd (cc place) },
  ),
  refl,
  tt,
)

quiet_replay_2 : Replay meaning_of (four KvStore) [] 2 (quiet_end ∷ quiet_end ∷ [])
unfolding Replay ReplaysFrom log_of log_after notes_of statements_made statements_sent own_ack MayMake
quiet_replay_2 = (
  (
    omega arith,
    record { mute = λ m. absurd (cc m); frames = tt; order = refl; makes = λ h. refl; sends_on = λ h place. absurd (cc place) },
  ),
  refl,
  (
    (
      omega arith,
      record { mute = λ m. absurd (cc m); frames = tt; order = refl; makes = λ h. refl; sends_on = λ h place. absurd (cc place) },
    ),
    refl,
    tt,
  ),
)

pub quiet_histories_pass : QuietHistoriesPass
unfolding unsent_in
quiet_histories_pass = (
  refl,
  λ r m found. each_of_three round_entries (quiet_end ∷ []) (quiet_end ∷ quiet_end ∷ [])
      (λ q n. Replay meaning_of (four KvStore) [] q n.entries) round_entries_replay quiet_replay_1 quiet_replay_2 r m found,
  nothing_of_three round_entries (quiet_end ∷ []) (quiet_end ∷ quiet_end ∷ []) (refl, (refl, (refl, (refl, (refl, (refl, tt)))))) (refl, tt)
      (refl, (refl, tt)),
)

pub report_example : ReportExample
unfolding own_sent unsent_in statement_bytes body_bytes frame_bytes reading_in body_reading statement_at report_at lock_at ack_at proof_at
    signed_at place_at positive_at flag_at value_at tx_at txs_at list_at values_at signature_at
report_example = (
  nothing_of_three (proposes a ∷ send_entry signed_report ∷ []) (accept_entry signed_report ∷ []) (accept_entry signed_report ∷ [])
      (refl, (refl, tt)) (refl, tt) (refl, tt),
  record {
    history = record { replica = 1; entries = accept_entry signed_report ∷ [] };
    of = refl;
    entry = accept_entry signed_report;
    at = refl;
    unsent = inl refl;
  },
  record {
    history = record { replica = 2; entries = accept_entry signed_report ∷ [] };
    of = refl;
    entry = accept_entry signed_report;
    at = refl;
    unsent = inl refl;
  },
)

pub lock_example : LockExample
unfolding own_sent unsent_in statement_bytes body_bytes frame_bytes reading_in body_reading statement_at report_at lock_at ack_at proof_at
    signed_at place_at positive_at flag_at value_at tx_at txs_at list_at values_at signature_at
lock_example = (refl, refl)
