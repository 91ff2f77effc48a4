-- The frames and the fault of a stream are determined by its bytes, whatever the pieces.
use Rattle.std.proofs.Common.{◌≡◌, ℕ, ◌≤◌, List, [], ◌∷◌, ◌++◌, length, take, drop, Some, None, Option, refl, sym, ap, subst, ◌∙◌}
use Rattle.std.proofs.Common.{append_assoc, append-nil, arith}
use Rattle.std.specs.Int.{w32, from_be_bytes}
use Rattle.std.specs.List.{flat_map}
use Rattle.std.proofs.lemmas.List.{length-append, length-drop, take-append-le, drop-append-le}
use Rattle.std.proofs.lemmas.List.Concat.{flat_map-cons}
use Rattle.ledger_model.specs.declared.statement.SignedStatement.{SignedStatement}
use Rattle.ledger_model.specs.Spelling.{Frames as FramesIn}
use Rattle.ledger_model.specs.Reading.{body_reading}
use Rattle.ledger_model.specs.declared.version.Version.{Version}
use Rattle.ledger_model.specs.Streams.{announced, IsPartial, BeginsTooLong, BeginsMalformed, SplitsTo, BreaksOff}
use Rattle.ledger_model.proofs.FrameReading.{one_split, split_or_break, one_break}
use Rattle.signed_frames.specs.declared.fault.FrameFault.{FrameFault}
use Rattle.signed_frames.specs.declared.fault.FrameFault.TheVariants as fault
use Rattle.signed_frames.specs.Reader.{ReaderState, Reading, Found, Failed, LeavesReader}
use Rattle.signed_frames.specs.Cuts.{Answer, Frames, Fault, TakesAll, returned_frames, returned_fault, SameHoweverCut}
use Rattle.signed_frames.proofs.Fronts.{frames_join}
use Rattle.signed_frames.proofs.Joined.{longer}

-- the bytes are these frames, and then less than one more, or what is of no frame
abbrev Outcome : Version → List ℕ → List SignedStatement → Option FrameFault → Type 0
Outcome version bytes frames None = (rest : List ℕ) × SplitsTo version bytes frames rest
Outcome version bytes frames (Some fault.TooLong) = BreaksOff BeginsTooLong version bytes frames
Outcome version bytes frames (Some fault.Malformed) = BreaksOff BeginsMalformed version bytes frames
Outcome version bytes frames (Some fault.Failed) = ⊥
Outcome version bytes frames (Some fault.NoMemory) = ⊥

-- ---- bytes have one outcome

one_outcome : (version : Version) (bytes : List ℕ) (frames others : List SignedStatement) (a b : Option FrameFault)
    → Outcome version bytes frames a
    → Outcome version bytes others b → (frames ≡ others) × (a ≡ b)
one_outcome version bytes frames others None None x y = ((one_split version bytes frames others x.0 y.0 x.1 y.1).0, refl)
one_outcome version bytes frames others None (Some fault.TooLong) x y = absurd ((split_or_break version bytes frames others x.0 x.1).0 y)
one_outcome version bytes frames others None (Some fault.Malformed) x y = absurd ((split_or_break version bytes frames others x.0 x.1).1 y)
one_outcome version bytes frames others None (Some fault.Failed) x y = absurd y
one_outcome version bytes frames others None (Some fault.NoMemory) x y = absurd y
one_outcome version bytes frames others (Some fault.TooLong) None x y = absurd ((split_or_break version bytes others frames y.0 y.1).0 x)
one_outcome version bytes frames others (Some fault.TooLong) (Some fault.TooLong) x y =
    ((one_break version bytes frames others).0 x y, refl)
one_outcome version bytes frames others (Some fault.TooLong) (Some fault.Malformed) x y = absurd
    ((one_break version bytes frames others).2 x y)
one_outcome version bytes frames others (Some fault.TooLong) (Some fault.Failed) x y = absurd y
one_outcome version bytes frames others (Some fault.TooLong) (Some fault.NoMemory) x y = absurd y
one_outcome version bytes frames others (Some fault.Malformed) None x y = absurd ((split_or_break version bytes others frames y.0 y.1).1 x)
one_outcome version bytes frames others (Some fault.Malformed) (Some fault.TooLong) x y = absurd
    ((one_break version bytes others frames).2 y x)
one_outcome version bytes frames others (Some fault.Malformed) (Some fault.Malformed) x y =
    ((one_break version bytes frames others).1 x y, refl)
one_outcome version bytes frames others (Some fault.Malformed) (Some fault.Failed) x y = absurd y
one_outcome version bytes frames others (Some fault.Malformed) (Some fault.NoMemory) x y = absurd y
one_outcome version bytes frames others (Some fault.Failed) b x y = absurd x
one_outcome version bytes frames others (Some fault.NoMemory) b x y = absurd x

-- ---- more bytes after what is of no frame

announced-longer : (bytes more : List ℕ) → 4 ≤ length bytes → announced (bytes ++ more) ≡ announced bytes
announced-longer bytes more four = ap (from_be_bytes w32) (take-append-le 4 bytes more four)

too_long-longer : (version : Version) (bytes more : List ℕ) → BeginsTooLong version bytes → BeginsTooLong version (bytes ++ more)
too_long-longer version bytes more begins =
    let same = announced-longer bytes more begins.0 in
    (omega (arith, begins.0, length-append bytes more), omega (arith, begins.1, same))

malformed-longer : (version : Version) (bytes more : List ℕ) → BeginsMalformed version bytes → BeginsMalformed version (bytes ++ more)
malformed-longer version bytes more begins =
    let same = announced-longer bytes more begins.0 in
    let longer_body : take (announced bytes) (drop 4 (bytes ++ more)) ≡ take (announced bytes) (drop 4 bytes) =
    ap (take (announced bytes)) (drop-append-le 4 bytes more begins.0)
    ∙ take-append-le (announced bytes) (drop 4 bytes) more (omega (arith, begins.2, length-drop 4 bytes)) in (
      omega (arith, begins.0, length-append bytes more),
      omega (arith, begins.1, same),
      omega (arith, begins.2, same, length-append bytes more),
      ap (λ (n : ℕ). body_reading version (take n (drop 4 (bytes ++ more)))) same ∙ ap (body_reading version) longer_body ∙ begins.3,
    )

long_break-longer : (version : Version) (bytes more : List ℕ) (frames : List SignedStatement) → BreaksOff BeginsTooLong version bytes frames
    → BreaksOff BeginsTooLong version (bytes ++ more) frames
long_break-longer version bytes more frames b = (
  b.0 ++ more,
  (longer version bytes b.0 more frames b.1.0, too_long-longer version b.0 more b.1.1),
)

bad_break-longer : (version : Version) (bytes more : List ℕ) (frames : List SignedStatement)
    → BreaksOff BeginsMalformed version bytes frames
    → BreaksOff BeginsMalformed version (bytes ++ more) frames
bad_break-longer version bytes more frames b = (
  b.0 ++ more,
  (longer version bytes b.0 more frames b.1.0, malformed-longer version b.0 more b.1.1),
)

-- frames in front of an outcome
outcome_behind : (version : Version) (bytes left more : List ℕ) (first second : List SignedStatement) (found : Option FrameFault)
    → FramesIn version bytes first left
    → Outcome version (left ++ more) second found → Outcome version (bytes ++ more) (first ++ second) found
outcome_behind version bytes left more first second None f o =
    (o.0, (frames_join version (bytes ++ more) (left ++ more) o.0 first second (longer version bytes left more first f) o.1.0, o.1.1))
outcome_behind version bytes left more first second (Some fault.TooLong) f o =
    (o.0, (frames_join version (bytes ++ more) (left ++ more) o.0 first second (longer version bytes left more first f) o.1.0, o.1.1))
outcome_behind version bytes left more first second (Some fault.Malformed) f o =
    (o.0, (frames_join version (bytes ++ more) (left ++ more) o.0 first second (longer version bytes left more first f) o.1.0, o.1.1))
outcome_behind version bytes left more first second (Some fault.Failed) f o = absurd o
outcome_behind version bytes left more first second (Some fault.NoMemory) f o = absurd o

-- ---- a reader that found a fault hands out nothing more

failed_gives : (version : Version) (pieces : List (List ℕ)) (answers : List Answer) (new : ReaderState)
    → TakesAll version Failed pieces answers new
    → returned_frames answers ≡ []
failed_gives version [] [] new h = refl
failed_gives version [] (a ∷ more) new h = absurd h
failed_gives version (p ∷ ps) [] new h = absurd h
failed_gives version (p ∷ ps) (Frames frames ∷ more) new h = absurd h.1.0
failed_gives version (p ∷ ps) (Fault fault.TooLong ∷ more) new h =
    failed_gives version ps more new (subst (λ (r : ReaderState). TakesAll version r ps more new) h.1.0.1 h.1.1)
failed_gives version (p ∷ ps) (Fault fault.Malformed ∷ more) new h =
    failed_gives version ps more new (subst (λ (r : ReaderState). TakesAll version r ps more new) h.1.0.1 h.1.1)
failed_gives version (p ∷ ps) (Fault fault.Failed ∷ more) new h =
    failed_gives version ps more new (subst (λ (r : ReaderState). TakesAll version r ps more new) h.1.0.1 h.1.1)
failed_gives version (p ∷ ps) (Fault fault.NoMemory ∷ more) new h = absurd h.1.0

found_gives : (version : Version) (found : FrameFault) (pieces : List (List ℕ)) (answers : List Answer) (new : ReaderState)
    → TakesAll version (Found found) pieces answers new → (returned_frames answers ≡ []) × (returned_fault answers new ≡ Some found)
found_gives version found [] [] new h = (refl, ap (returned_fault []) h)
found_gives version found [] (a ∷ more) new h = absurd h
found_gives version found (p ∷ ps) [] new h = absurd h
found_gives version found (p ∷ ps) (Frames frames ∷ more) new h = absurd h.1.0
found_gives version found (p ∷ ps) (Fault fault.TooLong ∷ more) new h = (
  failed_gives version ps more new (subst (λ (r : ReaderState). TakesAll version r ps more new) h.1.0.1 h.1.1),
  ap (λ (f : FrameFault). Some f)
      h.1.0.0,
)
found_gives version found (p ∷ ps) (Fault fault.Malformed ∷ more) new h = (
  failed_gives version ps more new (subst (λ (r : ReaderState). TakesAll version r ps more new) h.1.0.1 h.1.1),
  ap (λ (f : FrameFault). Some f)
      h.1.0.0,
)
found_gives version found (p ∷ ps) (Fault fault.Failed ∷ more) new h = (
  failed_gives version ps more new (subst (λ (r : ReaderState). TakesAll version r ps more new) h.1.0.1 h.1.1),
  ap (λ (f : FrameFault). Some f)
      h.1.0.0,
)
found_gives version found (p ∷ ps) (Fault fault.NoMemory ∷ more) new h = absurd h.1.0

-- ---- what comes of pieces

abbrev joined : List (List ℕ) → List ℕ
joined pieces = flat_map (λ piece. piece) pieces

-- the first piece gave frames
outcome_frames : (version : Version) (kept p : List ℕ) (ps : List (List ℕ)) (frames : List SignedStatement) (mid : ReaderState)
    (more : List Answer)
    (new : ReaderState)
    → ((left : List ℕ) → IsPartial version left → TakesAll version (Reading left) ps more new
    → Outcome version (left ++ joined ps) (returned_frames more) (returned_fault more new))
    → LeavesReader version (kept ++ p) frames mid → TakesAll version mid ps more new
    → Outcome version ((kept ++ p) ++ joined ps) (frames ++ returned_frames more) (returned_fault more new)
outcome_frames version kept p ps frames (Reading left) more new again l h =
    outcome_behind version (kept ++ p) left (joined ps) frames (returned_frames more) (returned_fault more new) l.0 (again left l.1 h)
outcome_frames version kept p ps frames (Found fault.TooLong) more new again l h =
    let gives = found_gives version fault.TooLong ps more new h in
    rw (gives.0, gives.1, append-nil frames) (long_break-longer version (kept ++ p) (joined ps) frames l.1)
outcome_frames version kept p ps frames (Found fault.Malformed) more new again l h =
    let gives = found_gives version fault.Malformed ps more new h in
    rw (gives.0, gives.1, append-nil frames) (bad_break-longer version (kept ++ p) (joined ps) frames l.1)
outcome_frames version kept p ps frames (Found fault.Failed) more new again l h = absurd l
outcome_frames version kept p ps frames (Found fault.NoMemory) more new again l h = absurd l
outcome_frames version kept p ps frames Failed more new again l h = absurd l

-- pieces, one after the other
outcome : (version : Version) (kept : List ℕ) (pieces : List (List ℕ)) (answers : List Answer) (new : ReaderState) → IsPartial version kept
    → TakesAll version (Reading kept) pieces answers new
    → Outcome version (kept ++ joined pieces) (returned_frames answers) (returned_fault answers new)
outcome version kept [] [] new partial h =
    subst (λ (found : Option FrameFault). Outcome version (kept ++ joined []) [] found) (sym (ap (returned_fault []) h))
    (kept, (((tt, append-nil kept), partial)))
outcome version kept [] (a ∷ more) new partial h = absurd h
outcome version kept (p ∷ ps) [] new partial h = absurd h
outcome version kept (p ∷ ps) (Frames frames ∷ more) new partial h =
    subst (λ (bytes : List ℕ). Outcome version bytes (frames ++ returned_frames more) (returned_fault more new))
    (append_assoc kept p (joined ps) ∙ ap (λ (x : List ℕ). kept ++ x) (sym (flat_map-cons (λ piece. piece) p ps)))
    (outcome_frames version kept p ps frames h.0 more new (λ left part g. outcome version left ps more new part g) h.1.0 h.1.1)
outcome version kept (p ∷ ps) (Fault fault.TooLong ∷ more) new partial h =
    let none = failed_gives version ps more new (subst (λ (r : ReaderState). TakesAll version r ps more new) h.1.0.1 h.1.1) in
    subst (λ (bytes : List ℕ). Outcome version bytes (returned_frames more) (Some fault.TooLong))
    (append_assoc kept p (joined ps) ∙ ap (λ (x : List ℕ). kept ++ x) (sym (flat_map-cons (λ piece. piece) p ps)))
    (subst (λ (frames : List SignedStatement). BreaksOff BeginsTooLong version ((kept ++ p) ++ joined ps) frames) (sym none)
    (long_break-longer version (kept ++ p) (joined ps) [] h.1.0.0))
outcome version kept (p ∷ ps) (Fault fault.Malformed ∷ more) new partial h =
    let none = failed_gives version ps more new (subst (λ (r : ReaderState). TakesAll version r ps more new) h.1.0.1 h.1.1) in
    subst (λ (bytes : List ℕ). Outcome version bytes (returned_frames more) (Some fault.Malformed))
    (append_assoc kept p (joined ps) ∙ ap (λ (x : List ℕ). kept ++ x) (sym (flat_map-cons (λ piece. piece) p ps)))
    (subst (λ (frames : List SignedStatement). BreaksOff BeginsMalformed version ((kept ++ p) ++ joined ps) frames) (sym none)
    (bad_break-longer version (kept ++ p) (joined ps) [] h.1.0.0))
outcome version kept (p ∷ ps) (Fault fault.Failed ∷ more) new partial h = absurd h.1.0
outcome version kept (p ∷ ps) (Fault fault.NoMemory ∷ more) new partial h = absurd h.1.0

-- however it is cut
pub same_outcome : SameHoweverCut
same_outcome version kept pieces others answers those new end partial same h g =
    let one = outcome version kept pieces answers new partial h in
    let other = subst (λ (bytes : List ℕ). Outcome version (kept ++ bytes) (returned_frames those) (returned_fault those end)) (sym same)
    (outcome version kept others those end partial g) in
    one_outcome version (kept ++ joined pieces) (returned_frames answers) (returned_frames those) (returned_fault answers new) (returned_fault those end) one other
