-- Entries whose strings are in a table mean the same when the table grows.
use Rattle.ledger_model.specs.Meanings.{Meanings}
use Rattle.std.proofs.Common.{◌≡◌, ℕ, zero, suc, ◌+◌, ◌<◌, List, [], ◌∷◌, ◌++◌, length, get_or, take, map, refl, sym, ap, subst, ◌∙◌}
use Rattle.std.specs.Prelude.{Ok, Err, Some, slice_get}
use Rattle.std.specs.List.{AllByRecursion}
use Rattle.std.proofs.lemmas.List.{map-append}
use Rattle.std.proofs.lemmas.Option.{slice_get_read}
use Rattle.ledger_model.proofs.Lists.{each_append, each_weaker, take_item, each_at}
use Rattle.ledger_model.specs.declared.event.Event.{Event}
use Rattle.ledger_model.specs.declared.event.Event.TheVariants as event
use Rattle.ledger_model.specs.declared.history.Entry.{Entry}
use Rattle.ledger_model.specs.declared.reply.Reply.{Reply}
use Rattle.ledger_model.specs.declared.reply.Reply.TheVariants as reply
use Rattle.ledger_model.specs.declared.reply.Sent.{Sent}
use Rattle.ledger_model.specs.Lawful.{Lawful}
use Rattle.ledger_model.specs.Rules.{Ring}
use Rattle.ledger_model.specs.declared.config.Config.{Config}
use Rattle.locked_replica.specs.declared.stored_entry.StoredEntry.{StoredEntry}
use Rattle.locked_replica.specs.declared.stored_entry.StoredEntry.TheVariants as stored
use Rattle.locked_replica.specs.declared.stored_entry.StoredFrame.{StoredFrame}
use Rattle.locked_replica.specs.Strings.{Extends, strings_of, with_string, with_strings, strings_at, strings_in}
use Rattle.locked_replica.specs.StoredEntries.{sent_of, entry_of, entries_of, AreSentWithin, IsWithin, EndsNone, BringsNone, IsDelivered}
use Rattle.locked_replica.specs.StoredEntries.{AreStored}
use Rattle.locked_replica.proofs.Strings.{extends_one, within_still, string_still, put_within, put_at, with_strings-append, strings_of-snoc}

-- what holds of each element holds of the one that is read
pub each_read : {X : Type 0} (P : X → Type 0) (xs : List X) (i : ℕ) (x : X) → AllByRecursion P xs → i < length xs → x ≡ get_or xs i x → P x
each_read P xs i x all below is = each_at P xs i x all (slice_get_read xs (length xs) i x refl below is)

module _ (old new : List (List ℕ)) (grown : Extends old new) where
  -- sent frames stay
  pub sent_still : (sent : List StoredFrame) → AreSentWithin (length old) sent → map (sent_of new) sent ≡ map (sent_of old) sent
  sent_still [] within = refl
  sent_still (s ∷ sent) within =
      let same : sent_of new s ≡ sent_of old s =
      ap (λ frame. record { addressee = s.addressee; frame = frame }) (string_still old new s.position grown within.0) in
      let rest = sent_still sent within.1 in
      ap (λ x. x ∷ map (sent_of new) sent) same ∙ ap (λ l. sent_of old s ∷ l) rest

  pub sent_within : (sent : List StoredFrame) → AreSentWithin (length old) sent → AreSentWithin (length new) sent
  sent_within sent within =
      each_weaker (λ (s : StoredFrame). s.position < length old) (λ (s : StoredFrame). s.position < length new) sent
      (λ s below. within_still old new s.position grown below) within

  -- an entry stays
  pub entry_still : (e : StoredEntry) → IsWithin (length old) e → entry_of new e ≡ entry_of old e
  entry_still (stored.Delivered position answer) within =
      ap (λ bytes. record { event = event.Deliver bytes; reply = reply.Delivered answer }) (string_still old new position grown within)
  entry_still (stored.RoundEnded (Ok ended)) within =
      ap (λ frames. record { event = event.RoundEnd; reply = reply.RoundEnded (Ok (record { mute = ended.value.mute; frames = frames })) })
      (sent_still ended.value.sent.items within)
  entry_still (stored.RoundEnded (Err last)) within = refl
  entry_still (stored.Other entry) within = refl

  pub entry_within : (e : StoredEntry) → IsWithin (length old) e → IsWithin (length new) e
  entry_within (stored.Delivered position answer) within = within_still old new position grown within
  entry_within (stored.RoundEnded (Ok ended)) within = sent_within ended.value.sent.items within
  entry_within (stored.RoundEnded (Err last)) within = tt
  entry_within (stored.Other entry) within = within

  -- a history stays
  pub entries_still : (entries : List StoredEntry) → AllByRecursion (IsWithin (length old)) entries
      → entries_of new entries ≡ entries_of old entries
  entries_still [] within = refl
  entries_still (e ∷ entries) within =
      ap (λ x. x ∷ entries_of new entries) (entry_still e within.0) ∙ ap (λ l. entry_of old e ∷ l) (entries_still entries within.1)

  -- a history with one more entry
  pub entries_more : (entries : List StoredEntry) (e : StoredEntry) → AllByRecursion (IsWithin (length old)) entries
      → entries_of new (entries ++ e ∷ []) ≡ entries_of old entries ++ entry_of new e ∷ []
  entries_more entries e within =
      map-append (entry_of new) entries (e ∷ []) ∙ ap (λ l. l ++ entry_of new e ∷ []) (entries_still entries within)

  -- the table has each string of it
  pub stored_more : (entries : List StoredEntry) (e : StoredEntry) → AreStored old entries → IsWithin (length new) e
      → new ≡ with_strings old (strings_in (entry_of new e)) → AreStored new (entries ++ e ∷ [])
  stored_more entries e was within strings = record {
    within = each_append (IsWithin (length new)) entries (e ∷ [])
        (each_weaker (IsWithin (length old)) (IsWithin (length new)) entries entry_within was.within) (within, tt);
    exact = strings ∙ ap (λ l. with_strings l (strings_in (entry_of new e))) was.exact
        ∙ sym (strings_of-snoc (entries_of old entries) (entry_of new e)) ∙ sym (ap strings_of (entries_more entries e was.within));
  }

-- ---- frames that are put in one by one

module _ (old new : List (List ℕ)) (x : Sent) (position : ℕ) (put : new ≡ with_string old x.frame)
    (there : slice_get new position ≡ Some x.frame) where
  -- the table only grows
  pub one_grown : Extends old new
  one_grown = subst (Extends old) (sym put) (extends_one old x.frame)

  -- the frames that were stored stay, and this one is the next
  pub sent_more : (stored : List StoredFrame) (shown : List Sent) → AreSentWithin (length old) stored → map (sent_of old) stored ≡ shown
      → map (sent_of new) (stored ++ record { addressee = x.addressee; position = position } ∷ []) ≡ shown ++ x ∷ []
  sent_more stored shown within was =
      let s : StoredFrame = record { addressee = x.addressee; position = position } in
      let same : sent_of new s ≡ x = ap (λ frame. record { addressee = x.addressee; frame = frame }) (put_at new position x.frame there) in
      map-append (sent_of new) stored (s ∷ [])
      ∙ ap (λ l. l ++ sent_of new s ∷ []) (sent_still old new one_grown stored within ∙ was)
      ∙ ap (λ y. shown ++ y ∷ []) same

  -- all of their positions are those of strings
  pub sent_within_more : (stored : List StoredFrame) → AreSentWithin (length old) stored
      → AreSentWithin (length new) (stored ++ record { addressee = x.addressee; position = position } ∷ [])
  sent_within_more stored within =
      each_append (λ (s : StoredFrame). s.position < length new) stored (record { addressee = x.addressee; position = position } ∷ [])
      (sent_within old new one_grown stored within) (put_within new position x.frame there, tt)

  -- and the table has their strings, and what it had at first
  pub strings_more : (first : List (List ℕ)) (frames : List Sent) (i : ℕ) → i < length frames → x ≡ get_or frames i x
      → old ≡ with_strings first (map (λ (s : Sent). s.frame) (take i frames))
      → new ≡ with_strings first (map (λ (s : Sent). s.frame) (take (i + 1) frames))
  strings_more first frames i below is was =
      put ∙ ap (λ l. with_string l x.frame) was
      ∙ sym (with_strings-append first (map (λ (s : Sent). s.frame) (take i frames)) (x.frame ∷ []))
      ∙ ap (with_strings first) (sym (map-append (λ (s : Sent). s.frame) (take i frames) (x ∷ []))
      ∙ ap (map (λ (s : Sent). s.frame)) (sym (take_item frames i x below is)))

-- ---- replies by their events

-- bytes that are delivered have a reply to a delivery
pub delivered : (meaning : Meanings) (config : Config) (ring : Ring) (id : ℕ) (entries : List Entry) (bytes : List ℕ) (r : Reply)
    → Lawful meaning config ring id entries (event.Deliver bytes) r → IsDelivered r
delivered meaning config ring id entries bytes (reply.Delivered answer) lawful = (answer, refl)
delivered meaning config ring id entries bytes (reply.Submitted r) lawful = absurd lawful
delivered meaning config ring id entries bytes (reply.Proposed r) lawful = absurd lawful
delivered meaning config ring id entries bytes (reply.RoundEnded r) lawful = absurd lawful
delivered meaning config ring id entries bytes (reply.Executed r) lawful = absurd lawful
delivered meaning config ring id entries bytes (reply.Queried r) lawful = absurd lawful
delivered meaning config ring id entries bytes (reply.Retired r) lawful = absurd lawful

-- an event that ends no round has a reply that opens none
pub opens_none : (meaning : Meanings) (config : Config) (ring : Ring) (id : ℕ) (entries : List Entry) (e : Event) (r : Reply)
    → BringsNone e → Lawful meaning config ring id entries e r → EndsNone r
opens_none meaning config ring id entries (event.Deliver bytes) r none lawful = absurd none
opens_none meaning config ring id entries event.RoundEnd r none lawful = absurd none
opens_none meaning config ring id entries (event.Submit bytes) r none lawful =
    λ ended is. subst (Lawful meaning config ring id entries (event.Submit bytes)) is lawful
opens_none meaning config ring id entries (event.Propose h) r none lawful =
    λ ended is. subst (Lawful meaning config ring id entries (event.Propose h)) is lawful
opens_none meaning config ring id entries event.Execute r none lawful = λ ended is. subst
    (Lawful meaning config ring id entries event.Execute) is lawful
opens_none meaning config ring id entries (event.Query key h) r none lawful =
    λ ended is. subst (Lawful meaning config ring id entries (event.Query key h)) is lawful
opens_none meaning config ring id entries (event.Retire floor) r none lawful =
    λ ended is. subst (Lawful meaning config ring id entries (event.Retire floor)) is lawful

-- and brings no string
pub brings_none : (e : Event) (r : Reply) → BringsNone e → strings_at e r ≡ []
brings_none (event.Deliver bytes) r none = absurd none
brings_none event.RoundEnd r none = absurd none
brings_none (event.Submit bytes) r none = refl
brings_none (event.Propose h) r none = refl
brings_none event.Execute r none = refl
brings_none (event.Query key h) r none = refl
brings_none (event.Retire floor) r none = refl
