-- Bytes that are read into a buffer after earlier ones.
use Rattle.std.proofs.Common.{◌≡◌, ℕ, ◌+◌, ◌<◌, ◌≤◌, List, ◌++◌, length, take, drop, ap, subst, sym, ◌∙◌, le_refl, drop_at, length-take-le}
use Rattle.std.proofs.Common.{arith}
use Rattle.std.specs.Prelude.{Option}
use Rattle.std.specs.Io.KnownBytes.{Consumes, IsAtEnd, Keeps}
use Rattle.std.proofs.KnownBytes.{Consumes-kept, Consumes-trans}
use Rattle.std.proofs.lemmas.Slice.{take-put_mid_below}
use Rattle.std.proofs.lemmas.List.{take-append-le}
use Rattle.std.proofs.Math.Seq.{take-add}
use Rattle.client_sessions.specs.Reading.{Fills, ReadsFewer}
use borrow.Rule.Slice.PartMut.{put_mid, post_of}

-- the first bytes of the buffer grow by those of the part after them
pub grown : (from room n : ℕ) (xs ys : List ℕ) → from ≤ length xs → n ≤ length ys
    → take (from + n) (put_mid from room xs ys) ≡ take from xs ++ take n ys
grown from room n xs ys within fits =
    let after = post_of from room xs in
    take-add from n (put_mid from room xs ys)
    ∙ ap (λ l. l ++ take n (drop from (put_mid from room xs ys))) (take-put_mid_below from room xs ys from (le_refl from) within)
    ∙ ap (λ l. take from xs ++ take n l) (drop_at (take from xs) (ys ++ after) from (length-take-le from xs within))
    ∙ ap (λ l. take from xs ++ l) (take-append-le n ys after fits)

-- a read failed before the buffer was full
pub broken : (unread mid left : Option (List ℕ)) (count : ℕ) (xs new : List ℕ) → length new ≡ length xs → count < length xs
    → Consumes unread mid (take count xs) → Keeps mid left → ReadsFewer unread left (length new)
broken unread mid left count xs new same within read kept = record {
  bytes = take count xs;
  fewer = omega (arith, same, within, length-take-le count xs (omega (arith, within)));
  read = Consumes-kept unread mid left (take count xs) read kept;
}

-- a read gave nothing before the buffer was full
pub drained : (unread mid left : Option (List ℕ)) (count room more : ℕ) (xs ys : List ℕ) → count < length xs → 0 < length ys → more ≡ 0
    → Consumes unread mid (take count xs)
    → Consumes mid left (take more ys) × (more ≡ 0 → 0 < length ys → IsAtEnd left) → count ≤ length (put_mid count room xs ys)
    → Fills unread left (put_mid count room xs ys) count
drained unread mid left count room more xs ys within some none read step fits =
    let joined : take (count + more) (put_mid count room xs ys) ≡ take count xs ++ take more ys =
    grown count room more xs ys (omega (arith, within)) (omega (arith, none)) in
    let same : count + more ≡ count = omega (arith, none) in
    record {
      within = fits;
      read = subst (λ n. Consumes unread left (take n (put_mid count room xs ys))) same
          (subst (Consumes unread left) (sym joined) (Consumes-trans unread mid left (take count xs) (take more ys) read step.0));
      end = λ short. step.1 none some;
    }
