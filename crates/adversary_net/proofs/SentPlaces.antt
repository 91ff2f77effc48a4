-- The index of the entries that sent frames: one more entry, and where the frame of a number is.
use Rattle.std.proofs.Common.{◌≡◌, ℕ, zero, suc, ◌+◌, ◌-◌, ◌^◌, ◌<◌, ◌≤◌, inl, inr, true, false, cond, List, [], ◌∷◌, ◌++◌, length, refl}
use Rattle.std.proofs.Common.{sym, ap, subst, ◌∙◌, arith, length-append}
use Rattle.std.specs.Prelude.{nat_eq, nat_le, Some, None, slice_get, slice_index_or}
use Rattle.std.specs.List.Sorted.{IsNonDecreasingBy, IsPartitionPoint}
use Rattle.std.proofs.lemmas.List.{append-nil, nil_from_length}
use Rattle.std.proofs.lemmas.Bool.{cases_Bool, eqb-true, eqb-false, leb-true, leb-false}
use Rattle.std.proofs.iter.runs.Lists.{nth_left}
use Rattle.ledger_model.specs.declared.history.Entry.{Entry}
use Rattle.ledger_model.specs.Worlds.{frames_in, frames_sent}
use Rattle.adversary_net.specs.declared.sent_index.SendingEntry.{SendingEntry}
use Rattle.adversary_net.specs.Sending.{sending_from, IsIndexed, frame_of}

-- how many frames an entry sent
abbrev pub sent_by : Entry → ℕ
sent_by e = length (frames_in e.reply)

-- ---- one entry more

moved : (i j before after : ℕ) (entries : List Entry) → i ≡ j → before ≡ after
    → sending_from i before entries ≡ sending_from j after entries
moved i j before after entries place sent = ap (λ k. sending_from k before entries) place ∙ ap (λ b. sending_from j b entries) sent

sending_more : (i before : ℕ) (entries : List Entry) (e : Entry)
    → sending_from i before (entries ++ e ∷ []) ≡ sending_from i before entries
    ++ sending_from (i + length entries) (before + length (frames_sent entries)) (e ∷ [])
unfolding frames_sent
sending_more i before [] e = moved i (i + 0) before (before + 0) (e ∷ []) (omega arith) (omega arith)
sending_more i before (x ∷ xs) e =
    let there : (i + 1) + length xs ≡ i + length (x ∷ xs) = omega arith in
    let frames : length (frames_sent (x ∷ xs)) ≡ sent_by x + length (frames_sent xs) = length-append (frames_in x.reply) (frames_sent xs) in
    elim (cases_Bool (nat_eq (sent_by x) 0)) [
      | inl none ↦
          let zero_sent : sent_by x ≡ 0 = eqb-true (sent_by x) 0 none in
          let rest = sending_more (i + 1) before xs e in
          rw none (rest ∙ ap (λ l. sending_from (i + 1) before xs ++ l)
          (moved ((i + 1) + length xs) (i + length (x ∷ xs)) (before + length (frames_sent xs))
          (before + length (frames_sent (x ∷ xs))) (e ∷ []) there (omega (arith, frames, zero_sent))))
      | inr some ↦
          let rest = sending_more (i + 1) (before + sent_by x) xs e in
          rw some (ap (λ l. record { entry = i; before = before } ∷ l)
          (rest ∙ ap (λ l. sending_from (i + 1) (before + sent_by x) xs ++ l)
          (moved ((i + 1) + length xs) (i + length (x ∷ xs)) ((before + sent_by x) + length (frames_sent xs))
          (before + length (frames_sent (x ∷ xs))) (e ∷ []) there (omega (arith, frames)))))
    ]

frames_more : (entries : List Entry) (e : Entry) → length (frames_sent (entries ++ e ∷ [])) ≡ length (frames_sent entries) + sent_by e
unfolding frames_sent
frames_more [] e = ap length (append-nil (frames_in e.reply)) ∙ omega arith
frames_more (x ∷ xs) e =
    let rest = frames_more xs e in
    let left : length (frames_sent ((x ∷ xs) ++ e ∷ [])) ≡ sent_by x + length (frames_sent (xs ++ e ∷ [])) =
    length-append (frames_in x.reply) (frames_sent (xs ++ e ∷ [])) in
    let right : length (frames_sent (x ∷ xs)) ≡ sent_by x + length (frames_sent xs) = length-append (frames_in x.reply) (frames_sent xs) in
    omega (arith, rest, left, right)

last_sending : (i before : ℕ) (e : Entry)
    → sending_from i before (e ∷ []) ≡ cond (nat_eq (sent_by e) 0) [] (record { entry = i; before = before } ∷ [])
last_sending i before e = refl

-- a history with one entry more is indexed so
pub indexed_more : (sending : List SendingEntry) (total count : ℕ) (entries : List Entry) (e : Entry) → IsIndexed sending total entries
    → count ≡ sent_by e → count < 2 ^ 64
    → IsIndexed (cond (nat_eq count 0) sending (sending ++ record { entry = length entries; before = total } ∷ [])) (total + count)
    (entries ++ e ∷ [])
indexed_more sending total count entries e indexed counted small = record {
  places = places_more count counted ∙ sym (sending_more 0 0 entries e);
  counts = omega (arith, frames_more entries e, indexed.counts, counted);
  bound = omega (arith, indexed.bound, length-append entries (e ∷ []), small);
}
  where
    placed : total ≡ 0 + length (frames_sent entries)
    placed = indexed.counts ∙ omega arith

    own : sending_from (length entries) total (e ∷ []) ≡ sending_from (0 + length entries) (0 + length (frames_sent entries)) (e ∷ [])
    own = moved (length entries) (0 + length entries) total (0 + length (frames_sent entries)) (e ∷ []) (omega arith) placed

    places_more : (count : ℕ) → count ≡ sent_by e
        → cond (nat_eq count 0) sending (sending ++ record { entry = length entries; before = total } ∷ []) ≡ sending_from 0 0 entries
        ++ sending_from (0 + length entries) (0 + length (frames_sent entries)) (e ∷ [])
    places_more count counted = elim (cases_Bool (nat_eq count 0)) [
      | inl none ↦
          let nothing : sending_from (length entries) total (e ∷ []) ≡ [] = rw (sym counted, none) refl in
          rw none (indexed.places ∙ sym (append-nil (sending_from 0 0 entries))
          ∙ ap (λ l. sending_from 0 0 entries ++ l) (sym nothing ∙ own))
      | inr some ↦
          let one : sending_from (length entries) total (e ∷ []) ≡ record { entry = length entries; before = total } ∷ [] =
          rw (sym counted, some) refl in
          rw some (ap (λ l. l ++ record { entry = length entries; before = total } ∷ []) indexed.places
          ∙ ap (λ l. sending_from 0 0 entries ++ l) (sym one ∙ own))
    ]

-- ---- the numbers of frames before ascend

abbrev pub Above : ℕ → List SendingEntry → Type 0
Above least sending = (k : ℕ) (d : SendingEntry) → k < length sending → least ≤ (slice_index_or sending k d).before

above_cons : (least : ℕ) (p : SendingEntry) (sending : List SendingEntry) → least ≤ p.before → Above least sending
    → Above least (p ∷ sending)
above_cons least p sending first rest zero d lt = first
above_cons least p sending first rest (suc k) d lt = rest k d (omega arith)

above_lower : (least low : ℕ) (sending : List SendingEntry) → low ≤ least → Above least sending → Above low sending
above_lower least low sending lower above k d lt = omega (arith, lower, above k d lt)

sending_above : (i before : ℕ) (entries : List Entry) → Above before (sending_from i before entries)
sending_above i before [] = λ k d lt. absurd (omega arith)
sending_above i before (x ∷ xs) =
    elim (nat_eq (sent_by x) 0) as
    (λ b. Above before (cond b (sending_from (i + 1) before xs)
    (record { entry = i; before = before } ∷ sending_from (i + 1) (before + sent_by x) xs))) [
      | true ↦ sending_above (i + 1) before xs
      | false ↦ above_cons before (record { entry = i; before = before }) (sending_from (i + 1) (before + sent_by x) xs) (omega arith)
          (above_lower (before + sent_by x) before (sending_from (i + 1) (before + sent_by x) xs) (omega arith)
          (sending_above (i + 1) (before + sent_by x) xs))
    ]

abbrev pub Rises : List SendingEntry → Type 0
Rises sending = IsNonDecreasingBy (λ (s : SendingEntry). s.before) sending

rises_cons : (p : SendingEntry) (sending : List SendingEntry) → Above p.before sending → Rises sending → Rises (p ∷ sending)
rises_cons p sending above rises zero zero d le lt = omega arith
rises_cons p sending above rises zero (suc j) d le lt = above j d (omega arith)
rises_cons p sending above rises (suc i) zero d le lt = absurd (omega arith)
rises_cons p sending above rises (suc i) (suc j) d le lt = rises i j d (omega arith) (omega arith)

sending_rises : (i before : ℕ) (entries : List Entry) → Rises (sending_from i before entries)
sending_rises i before [] = λ k l d le lt. absurd (omega arith)
sending_rises i before (x ∷ xs) =
    elim (nat_eq (sent_by x) 0) as
    (λ b. Rises (cond b (sending_from (i + 1) before xs)
    (record { entry = i; before = before } ∷ sending_from (i + 1) (before + sent_by x) xs))) [
      | true ↦ sending_rises (i + 1) before xs
      | false ↦ rises_cons (record { entry = i; before = before }) (sending_from (i + 1) (before + sent_by x) xs)
          (above_lower (before + sent_by x) before (sending_from (i + 1) (before + sent_by x) xs) (omega arith)
          (sending_above (i + 1) (before + sent_by x) xs))
          (sending_rises (i + 1) (before + sent_by x) xs)
    ]

pub indexed_rises : (sending : List SendingEntry) (total : ℕ) (entries : List Entry) → IsIndexed sending total entries → Rises sending
indexed_rises sending total entries indexed = subst Rises (sym indexed.places) (sending_rises 0 0 entries)

-- ---- the frame of an index

get_right : {X : Type 0} (xs ys : List X) (i : ℕ) → length xs ≤ i → slice_get (xs ++ ys) i ≡ slice_get ys (i - length xs)
get_right [] ys i le = ap (slice_get ys) (omega arith)
get_right (x ∷ xs) ys zero le = absurd (omega arith)
get_right (x ∷ xs) ys (suc i) le = get_right xs ys i (omega arith) ∙ ap (slice_get ys) (omega arith)

-- the first entry that sent frames had none before it
abbrev pub BeginsAt : ℕ → List SendingEntry → Type 0
BeginsAt before sending = (d : SendingEntry) → 0 < length sending → (slice_index_or sending 0 d).before ≡ before

sending_begins : (i before : ℕ) (entries : List Entry) → BeginsAt before (sending_from i before entries)
sending_begins i before [] = λ d lt. absurd (omega arith)
sending_begins i before (x ∷ xs) =
    elim (nat_eq (sent_by x) 0) as
    (λ b. BeginsAt before (cond b (sending_from (i + 1) before xs)
    (record { entry = i; before = before } ∷ sending_from (i + 1) (before + sent_by x) xs))) [
      | true ↦ sending_begins (i + 1) before xs
      | false ↦ λ d lt. refl
    ]

-- where no entry sent frames there are none
none_sent : (i before : ℕ) (entries : List Entry) → length (sending_from i before entries) ≡ 0 → frames_sent entries ≡ []
unfolding frames_sent
none_sent i before [] none = refl
none_sent i before (x ∷ xs) none =
    elim (cases_Bool (nat_eq (sent_by x) 0)) [
      | inl zero_sent ↦
          let first : frames_in x.reply ≡ [] = nil_from_length (frames_in x.reply) (eqb-true (sent_by x) 0 zero_sent) in
          let rest : frames_sent xs ≡ [] = none_sent (i + 1) before xs (rw zero_sent at none) in
          ap (λ l. l ++ frames_sent xs) first ∙ rest
      | inr some ↦ absurd (let one = rw some at none in omega (arith, one))
    ]

-- where the frame of an index is: at an entry, this number of entries after the first
record Stands (i before : ℕ) (entries : List Entry) (index : ℕ) (p : SendingEntry) : Type 0 where
  behind : ℕ
  place : p.entry ≡ i + behind
  frame : slice_get (frames_sent entries) (index - before) ≡ frame_of entries behind (index - p.before)

-- p is the last entry that sent frames among those with at most this number before it
record IsLast (sending : List SendingEntry) (index : ℕ) (p : SendingEntry) (k : ℕ) : Type 0 where
  within : k < length sending
  here : (d : SendingEntry) → slice_index_or sending k d ≡ p
  least : p.before ≤ index
  next : (d : SendingEntry) → suc k < length sending → index < (slice_index_or sending (suc k) d).before

stands : (i before : ℕ) (entries : List Entry) (index k : ℕ) (p : SendingEntry) → before ≤ index
    → IsLast (sending_from i before entries) index p k → Stands i before entries index p
unfolding frames_sent
stands i before [] index k p le last = absurd (omega (arith, last.within))
stands i before (x ∷ xs) index k p le last =
    elim (cases_Bool (nat_eq (sent_by x) 0)) [
      | inl none ↦
          let first : frames_in x.reply ≡ [] = nil_from_length (frames_in x.reply) (eqb-true (sent_by x) 0 none) in
          let rest = stands (i + 1) before xs index k p le
          (subst (λ b. IsLast (cond b (sending_from (i + 1) before xs)
          (record { entry = i; before = before } ∷ sending_from (i + 1) (before + sent_by x) xs)) index p k) none last) in
          record {
            behind = suc rest.behind;
            place = omega (arith, rest.place);
            frame = ap (λ l. slice_get (l ++ frames_sent xs) (index - before)) first ∙ rest.frame;
          }
      | inr some ↦ sends (λ j at. stands (i + 1) (before + sent_by x) xs index j p at) k
          (subst (λ b. IsLast (cond b (sending_from (i + 1) before xs)
          (record { entry = i; before = before } ∷ sending_from (i + 1) (before + sent_by x) xs)) index p k) some last)
    ]
  where
    sends : ((j : ℕ) → before + sent_by x ≤ index → IsLast (sending_from (i + 1) (before + sent_by x) xs) index p j
        → Stands (i + 1) (before + sent_by x) xs index p)
        → (k : ℕ) → IsLast (record { entry = i; before = before } ∷ sending_from (i + 1) (before + sent_by x) xs) index p k
        → Stands i before (x ∷ xs) index p
    sends rest_stands zero last =
        let is : record { entry = i; before = before } ≡ p = last.here p in
        let at : p.before ≡ before = ap (λ (s : SendingEntry). s.before) (sym is) in
        let entry : p.entry ≡ i = ap (λ (s : SendingEntry). s.entry) (sym is) in
        let here : slice_get (frames_in x.reply ++ frames_sent xs) (index - before) ≡ slice_get (frames_in x.reply) (index - before) =
        elim (cases_Bool (nat_eq (length (sending_from (i + 1) (before + sent_by x) xs)) 0)) [
          | inl no_more ↦
              let rest = none_sent (i + 1) (before + sent_by x) xs
              (eqb-true (length (sending_from (i + 1) (before + sent_by x) xs)) 0 no_more) in
              ap (λ l. slice_get (frames_in x.reply ++ l) (index - before)) rest
              ∙ ap (λ l. slice_get l (index - before)) (append-nil (frames_in x.reply))
          | inr more_sent ↦
              let some_more : 0 < length (sending_from (i + 1) (before + sent_by x) xs) =
              omega (arith, eqb-false (length (sending_from (i + 1) (before + sent_by x) xs)) 0 more_sent) in
              let next = last.next p (omega (arith, some_more)) in
              let first = sending_begins (i + 1) (before + sent_by x) xs p some_more in
              nth_left (frames_in x.reply) (frames_sent xs) (index - before) (omega (arith, next, first, le))
        ] in
        record { behind = 0; place = omega (arith, entry); frame = here ∙ ap (λ b. slice_get (frames_in x.reply) (index - b)) (sym at) }
    sends rest_stands (suc k) last =
        let above = sending_above (i + 1) (before + sent_by x) xs k p (omega (arith, last.within)) in
        let is = last.here p in
        let at : before + sent_by x ≤ index = omega (arith, above, ap (λ (s : SendingEntry). s.before) is, last.least) in
        let rest = rest_stands k at (record {
          within = omega (arith, last.within);
          here = last.here;
          least = last.least;
          next =
              λ d lt. last.next d (omega (arith, lt));
        }) in
        record {
          behind = suc rest.behind;
          place = omega (arith, rest.place);
          frame = get_right (frames_in x.reply) (frames_sent xs) (index - before) (omega (arith, at))
              ∙ ap (slice_get (frames_sent xs)) (omega (arith, at)) ∙ rest.frame;
        }

-- the frame of an index stands at the last entry with no more frames before it
pub frame_stands : (sending : List SendingEntry) (total : ℕ) (entries : List Entry) (index k : ℕ) (p : SendingEntry)
    → IsIndexed sending total entries
    → k < length sending → ((d : SendingEntry) → slice_index_or sending k d ≡ p) → p.before ≤ index
    → ((d : SendingEntry) → suc k < length sending → index < (slice_index_or sending (suc k) d).before)
    → slice_get (frames_sent entries) index ≡ frame_of entries p.entry (index - p.before)
frame_stands sending total entries index k p indexed within here least next =
    let is = indexed.places in
    let found = stands 0 0 entries index k p (omega arith)
    (subst (λ l. IsLast l index p k) is (record { within = within; here = here; least = least; next = next })) in
    let whole : index - 0 ≡ index = omega arith in
    let own : found.behind ≡ p.entry = omega (arith, found.place) in
    ap (slice_get (frames_sent entries)) (sym whole) ∙ found.frame ∙ ap (λ i. frame_of entries i (index - p.before)) own

-- and there is none where each entry that sent frames has more before it
pub no_frame : (sending : List SendingEntry) (total : ℕ) (entries : List Entry) (index : ℕ) → IsIndexed sending total entries
    → ((d : SendingEntry) → 0 < length sending → index < (slice_index_or sending 0 d).before) → slice_get (frames_sent entries) index ≡ None
no_frame sending total entries index indexed above =
    let is = indexed.places in
    elim (cases_Bool (nat_eq (length (sending_from 0 0 entries)) 0)) [
      | inl none ↦ ap (λ l. slice_get l index) (none_sent 0 0 entries (eqb-true (length (sending_from 0 0 entries)) 0 none))
      | inr some ↦
          let d : SendingEntry = record { entry = 0; before = 0 } in
          let more : 0 < length (sending_from 0 0 entries) = omega (arith, eqb-false (length (sending_from 0 0 entries)) 0 some) in
          let first = sending_begins 0 0 entries d more in
          let too_far : index < (slice_index_or (sending_from 0 0 entries) 0 d).before =
          subst (λ (l : List SendingEntry). 0 < length l → index < (slice_index_or l 0 d).before) is (above d) more in
          absurd (omega (arith, first, too_far))
    ]

-- an element within a list is one whatever stands for none
pub index_any : (sending : List SendingEntry) (k : ℕ) (p : SendingEntry) → k < length sending → slice_index_or sending k p ≡ p
    → (d : SendingEntry) → slice_index_or sending k d ≡ p
index_any [] k p lt is d = absurd (omega arith)
index_any (x ∷ xs) zero p lt is d = is
index_any (x ∷ xs) (suc k) p lt is d = index_any xs k p (omega arith) is d

-- where the test of `partition_point` turns
pub parts_of : (sending lent : List SendingEntry) (index k : ℕ) → lent ≡ sending
    → IsPartitionPoint (λ (s : SendingEntry). nat_le s.before index ≡ true) (λ (s : SendingEntry). nat_le s.before index ≡ false) lent k
    → IsPartitionPoint (λ (s : SendingEntry). s.before ≤ index) (λ (s : SendingEntry). index < s.before) sending k
parts_of sending lent index k same point =
    subst (λ l. IsPartitionPoint (λ (s : SendingEntry). s.before ≤ index) (λ (s : SendingEntry). index < s.before) l k) same (
      (λ j d low lt. leb-true (slice_index_or lent j d).before index (point.0 j d low lt)),
      (λ j d low lt. leb-false (slice_index_or lent j d).before index (point.1 j d low lt)),
    )

-- a history with one entry more is indexed by what counts that entry
pub indexed_after : (sending room new : List SendingEntry) (total room_total new_total count index : ℕ) (entries after : List Entry)
    (e : Entry)
    → IsIndexed sending total entries → count ≡ sent_by e → count < 2 ^ 64 → room ≡ sending → room_total ≡ total → index ≡ length entries
    → new ≡ cond (nat_eq count 0) room (room ++ record { entry = index; before = room_total } ∷ []) → new_total ≡ room_total + count
    → after ≡ entries ++ e ∷ []
    → IsIndexed new new_total after
indexed_after sending room new total room_total new_total count index entries after e indexed counted small same same_total place is
    is_total grown =
    let base = indexed_more sending total count entries e indexed counted small in
    let shape : new ≡ cond (nat_eq count 0) sending (sending ++ record { entry = length entries; before = total } ∷ []) =
    is ∙ ap (λ l. cond (nat_eq count 0) l (l ++ record { entry = index; before = room_total } ∷ [])) same
    ∙ ap (λ k. cond (nat_eq count 0) sending (sending ++ record { entry = k; before = room_total } ∷ [])) place
    ∙ ap (λ b. cond (nat_eq count 0) sending (sending ++ record { entry = length entries; before = b } ∷ [])) same_total in
    let counts : new_total ≡ total + count = is_total ∙ ap (λ t. t + count) same_total in
    subst (λ l. IsIndexed l new_total after) (sym shape)
    (subst (λ t. IsIndexed (cond (nat_eq count 0) sending (sending ++ record { entry = length entries; before = total } ∷ [])) t after)
    (sym counts)
    (subst (λ es. IsIndexed (cond (nat_eq count 0) sending (sending ++ record { entry = length entries; before = total } ∷ []))
    (total + count) es) (sym grown) base))
