-- Entries and histories are read back from their encoding.
use Rattle.std.proofs.Common.{◌≡◌, ℕ, ◌<◌, ◌^◌, true, List, ◌∷◌, ◌++◌, length, Option, Some, refl, sym, ap}
use Rattle.std.proofs.Common.{subst, ◌∙◌, append_assoc, eqb}
use Rattle.std.specs.List.{flat_map, AllByRecursion}
use Rattle.std.proofs.lemmas.Bool.{eqb-true, eq-eqb}
use Rattle.ledger_model.specs.declared.event.Event.{Event}
use Rattle.ledger_model.specs.declared.history.Entry.{Entry}
use Rattle.ledger_model.specs.declared.history.History.{History}
use Rattle.ledger_model.specs.declared.reply.Reply.{Reply}
use Rattle.ledger_model.specs.declared.version.Version.{Version}
use Rattle.ledger_model.specs.GrammarLaws.{IsBytes}
use Rattle.ledger_model.specs.Reading.{◌>>=◌, guarded, byte_at}
use Rattle.ledger_model.proofs.Readers.{bind_some, guarded-some, some_is, IsReader}
use Rattle.history_bytes.specs.Histories.{count_in_4, entry_bytes, history_bytes}
use Rattle.history_bytes.specs.HistorySpelling.{event_number, reply_number, IsEntry, IsHistory}
use Rattle.history_bytes.specs.HistoryReading.{event_at, reply_at, entry_at, entry_list_of, entry_list_at, history_at}
use Rattle.history_bytes.proofs.Combined.{taken, same_reader, pair_reader, IsSizedReader, many_reader, counted_reader}
use Rattle.history_bytes.proofs.FieldReaders.{byte_reader, count_4_reader}
use Rattle.history_bytes.proofs.EventReaders.{event_tail, event_parts, event_tagged}
use Rattle.history_bytes.proofs.ReplyReaders.{reply_tail, reply_parts, reply_tagged}

-- ---- entries

-- an entry by its parts
entry_parts : (e : Entry) → reply_number e.reply ≡ event_number e.event
    → entry_bytes e ≡ (event_number e.event ∷ event_tail e.event) ++ (event_number e.event ∷ reply_tail e.reply)
entry_parts e kind = rw (event_parts e.event, reply_parts e.reply, kind) refl

-- an entry by its event and what is read after it
abbrev with_reply : Event → Reply × List ℕ → Option (Entry × List ℕ)
with_reply event reply = Some (record { event = event; reply = reply.0 }, reply.1)

abbrev after_number : Version → ℕ → Event → ℕ × List ℕ → Option (Entry × List ℕ)
after_number version n event again = guarded (eqb again.0 n) (reply_at version n again.1) >>= with_reply event

abbrev after_kind : Version → ℕ × List ℕ → Option (Entry × List ℕ)
after_kind version kind = event_at kind.0 kind.1 >>= λ event. byte_at event.1 >>= after_number version kind.0 event.0

entry_takes : (version : Version) (bytes : List ℕ) (e : Entry) (rest : List ℕ) → IsBytes bytes → entry_at version bytes ≡ Some (e, rest)
    → (bytes ≡ entry_bytes e ++ rest) × IsEntry version e × IsBytes rest
unfolding entry_at
entry_takes version bytes e rest fits read =
    taken byte_reader bytes (after_kind version) (e, rest) fits read
    (λ n more n_parts n_is n_fits f.
    let a = bind_some (event_at n more) (λ event. byte_at event.1 >>= after_number version n event.0) (e, rest) f in
    after_event bytes e rest n more n_parts n_fits a.0.0 a.0.1 a.1 a.2)
  where
    after_event : (bytes : List ℕ) (e : Entry) (rest : List ℕ) (n : ℕ) (more : List ℕ) → bytes ≡ n ∷ more → IsBytes more
        → (event : Event) (others : List ℕ) → event_at n more ≡ Some (event, others)
        → (byte_at others >>= after_number version n event) ≡ Some (e, rest)
        → (bytes ≡ entry_bytes e ++ rest) × IsEntry version e × IsBytes rest
    after_event bytes e rest n more parts fits event others is f =
        let t = event_tagged.takes n more event others fits is in
        taken byte_reader others (after_number version n event) (e, rest) t.2 f
        (λ m last m_parts m_is m_fits g.
        let b = bind_some (guarded (eqb m n) (reply_at version n last)) (with_reply event) (e, rest) g in
        let o = guarded-some (eqb m n) (reply_at version n last) b.0 b.1 in
        let u = (reply_tagged version).takes n last b.0.0 b.0.1 m_fits o.1 in
        let made : Entry × List ℕ = (record { event = event; reply = b.0.0 }, b.0.1) in
        let kind : reply_number b.0.0 ≡ event_number event = u.3 ∙ sym t.3 in
        let m_is_n : m ≡ event_number event = eqb-true m n o.0 ∙ sym t.3 in
        let regrouped : event_number event ∷ (event_tail event ++ (event_number event ∷ (reply_tail b.0.0 ++ b.0.1)))
        ≡ ((event_number event ∷ event_tail event) ++ (event_number event ∷ reply_tail b.0.0)) ++ b.0.1 =
        sym (append_assoc (event_number event ∷ event_tail event) (event_number event ∷ reply_tail b.0.0) b.0.1) in
        let whole : bytes ≡ entry_bytes made.0 ++ made.1 =
        parts ∙ ap (λ (k : ℕ). k ∷ more) (sym t.3) ∙ ap (λ (x : List ℕ). event_number event ∷ x) (t.0
        ∙ ap (λ (x : List ℕ). event_tail event ++ x) (m_parts ∙ ap (λ (k : ℕ). k ∷ last) m_is_n
        ∙ ap (λ (x : List ℕ). event_number event ∷ x) u.0))
        ∙ regrouped ∙ ap (λ (x : List ℕ). x ++ b.0.1) (sym (entry_parts made.0 kind)) in
        subst (λ (p : Entry × List ℕ). (bytes ≡ entry_bytes p.0 ++ p.1) × IsEntry version p.0 × IsBytes p.1) (some_is made (e, rest) b.2)
        (whole, record { event = t.1; reply = u.1; kind = kind }, u.2))

entry_again : (version : Version) (e : Entry) (rest : List ℕ) → IsEntry version e
    → entry_at version (entry_bytes e ++ rest) ≡ Some (e, rest)
unfolding entry_at
entry_again version e rest is =
    let n = event_number e.event in
    let regrouped : entry_bytes e ++ rest ≡ n ∷ (event_tail e.event ++ (n ∷ (reply_tail e.reply ++ rest))) =
    ap (λ (x : List ℕ). x ++ rest) (entry_parts e is.kind)
    ∙ append_assoc (n ∷ event_tail e.event) (n ∷ reply_tail e.reply) rest in
    let same : eqb n n ≡ true = eq-eqb n n refl in
    let replied : reply_at version n (reply_tail e.reply ++ rest) ≡ Some (e.reply, rest) =
    ap (λ (k : ℕ). reply_at version k (reply_tail e.reply ++ rest)) (sym is.kind) ∙ (reply_tagged version).again e.reply rest is.reply in
    ap (entry_at version) regrouped
    ∙ rw (event_tagged.again e.event (n ∷ (reply_tail e.reply ++ rest)) is.event, same, replied) refl

entry_reader : (version : Version) → IsReader entry_bytes (IsEntry version) (entry_at version)
entry_reader version = record { takes = entry_takes version; again = entry_again version }

-- ---- histories

many_entries_reader : (version : Version)
    → IsSizedReader (flat_map entry_bytes) (AllByRecursion (IsEntry version)) length (entry_list_of version)
unfolding entry_list_of
many_entries_reader version = many_reader (entry_reader version) (entry_list_of version) (λ bytes. refl) (λ n bytes. refl)

abbrev entries_bytes : List Entry → List ℕ
entries_bytes entries = count_in_4 (length entries) ++ flat_map entry_bytes entries

abbrev AreEntries : Version → List Entry → Type 0
AreEntries version entries = (length entries < 2 ^ 32) × AllByRecursion (IsEntry version) entries

entries_reader : (version : Version) → IsReader entries_bytes (AreEntries version) (entry_list_at version)
unfolding entry_list_at
entries_reader version = counted_reader count_4_reader (many_entries_reader version)

abbrev history_of_parts : ℕ → List Entry → History
history_of_parts replica entries = record { replica = replica; entries = entries }

pub history_reader : (version : Version) → IsReader history_bytes (IsHistory version) (history_at version)
unfolding history_at history_bytes
history_reader version = same_reader (pair_reader byte_reader (entries_reader version) history_of_parts (λ h. h.replica) (λ h. h.entries)
    (λ h. refl)
    (λ a b. refl) (λ a b. refl)) history_bytes (IsHistory version) (λ h. refl)
    (λ h is. record { replica = is.0; few = is.1.0; each = is.1.1 }) (λ h is. (is.replica, (is.few, is.each)))
