-- Bytes that are read into a buffer after others, until they are a head.
use Rattle.std.proofs.Common.{◌≡◌, ℕ, ◌+◌, ◌<◌, ◌≤◌, List, ◌++◌, length, take, ap, subst, sym, ◌∙◌, append-nil, arith, inl, inr}
use Rattle.std.proofs.Common.{length-append, length-take-le}
use Rattle.std.specs.Prelude.{Option, Result, Err}
use Rattle.std.specs.Io.KnownBytes.{Consumes, IsAtEnd}
use Rattle.std.proofs.KnownBytes.{Consumes-trans}
use Rattle.http_messages.specs.declared.fault.RequestFault.{RequestFault}
use Rattle.http_messages.specs.declared.fault.RequestFault.TheVariants as fault
use Rattle.http_messages.specs.declared.request.Request.{Request}
use Rattle.http_messages.specs.Requests.{AnswersHead}
use Rattle.http_sessions.specs.Hearing.{AnswersRead, Hears, HearsNone, IsPart}
use Rattle.client_sessions.proofs.Filling.{grown}
use borrow.Rule.Slice.PartMut.{put_mid}

-- a read that gave nothing
nothing_more : (unread mid left : Option (List ℕ)) (xs ys : List ℕ) (more : ℕ) → more ≡ 0 → Consumes unread mid xs
    → Consumes mid left (take more ys) → Consumes unread left xs
nothing_more unread mid left xs ys more none first second =
    let same : xs ++ take more ys ≡ xs = ap (λ n. xs ++ take n ys) none ∙ append-nil xs in
    subst (Consumes unread left) same (Consumes-trans unread mid left xs (take more ys) first second)

module _ (unread mid left : Option (List ℕ)) (count more most : ℕ) (xs ys : List ℕ) (within : count < length xs) (sized : length xs ≡ most)
    (first : Consumes unread mid (take count xs))
    (second : Consumes mid left (take more ys) × (more ≡ 0 → 0 < length ys → IsAtEnd left)) where
  -- the input ended before its first byte
  pub none_heard : 0 < length ys → more ≡ 0 → count ≡ 0 → HearsNone unread left
  none_heard room none start = record {
    read = subst (λ n. Consumes unread left (take n xs)) start (nothing_more unread mid left (take count xs) ys more none first second.0);
    end = second.1 none room;
  }

  -- or within a head
  pub part_heard : 0 < length ys → more ≡ 0 → (count ≡ 0 → ⊥) → IsPart (take count xs) → Hears most unread left (Err fault.Incomplete)
  part_heard room none some part =
      let long : length (take count xs) ≡ count = length-take-le count xs (omega (arith, within)) in
      let answers : AnswersHead (take count xs) (Err fault.Incomplete) =
      elim part as (λ _. AnswersHead (take count xs) (Err fault.Incomplete))
      [ inl empty ↦ absurd (some (sym long ∙ ap length empty)) | inr answers ↦ answers ] in record {
        bytes = take count xs;
        some = omega (arith, long, some);
        within = omega (arith, long, within, sized);
        read = nothing_more unread mid left (take count xs) ys more none first second.0;
        answers = inl (answers.0, answers);
        end = λ _. second.1 none room;
      }

  -- more bytes came
  pub more_read : (r : ℕ) → more ≤ length ys → Consumes unread left (take (count + more) (put_mid count r xs ys))
  more_read r fits =
      subst (Consumes unread left) (sym (grown count r more xs ys (omega (arith, within)) fits))
      (Consumes-trans unread mid left (take count xs) (take more ys) first second.0)

  -- and are no part of a head any more
  pub more_heard : (r : ℕ) (asked : Result Request RequestFault) → more ≤ length ys → count + more ≤ most → (more ≡ 0 → ⊥)
      → AnswersRead (take (count + more) (put_mid count r xs ys)) asked → (asked ≡ Err fault.Incomplete → ⊥)
      → Hears most unread left asked
  more_heard r asked fits few some answers whole =
      let bytes = take (count + more) (put_mid count r xs ys) in
      let joined : bytes ≡ take count xs ++ take more ys = grown count r more xs ys (omega (arith, within)) fits in
      let long : length (take count xs) ≡ count = length-take-le count xs (omega (arith, within)) in
      let more_long : length (take more ys) ≡ more = length-take-le more ys fits in
      let all_long : length bytes ≡ length (take count xs) + length (take more ys) =
      ap length joined ∙ length-append (take count xs) (take more ys) in record {
        bytes = bytes;
        some = omega (arith, long, more_long, all_long, some);
        within = omega (arith, long, more_long, all_long, few);
        read = more_read r fits;
        answers = answers;
        end = λ e. absurd (whole e);
      }
