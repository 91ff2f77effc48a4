use Rattle.std.proofs.Common.{ℕ, ◌+◌, List, ◌++◌, ◌∷◌, [], length, ap, sym, subst}
use Rattle.ledger_model.specs.declared.statement.SignedStatement.{SignedStatement}
use Rattle.ledger_model.specs.Spelling.{frame_bytes}
use Rattle.signed_frames.specs.declared.splitting.Front.TheVariants.{Whole}
use Rattle.signed_frames.specs.Reader.{StartsWith}
use Rattle.signed_frames.proofs.Fronts.{TakesUp, one_more, less_left}
use Rattle.signed_frames.proofs.splitting.frames_of.Goals as goal

pub loop-frames-preserved : goal.loop-frames-preserved
loop-frames-preserved c =
    let bytes = c.args.bytes.now in
    let s = c.in-Whole.frame in
    let begins = subst (λ (rest : List ℕ). StartsWith c.args.version rest (Whole s)) c.split_at.ensures.back
    (subst (λ front. StartsWith c.args.version c.split_at.result.1.now front) c.in-Whole.is c.in_ok-frame.ensures) in
    let more : TakesUp c.args.version bytes (c.loop-frames.frames.items ++ s ∷ []) (c.loop-frames.used + length (frame_bytes s)) =
    one_more c.args.version bytes c.loop-frames.frames.items c.loop-frames.used s c.loop-frames.invariant begins.0 begins.1 in
    let counted = subst (λ (n : ℕ). TakesUp c.args.version bytes (c.loop-frames.frames.items ++ s ∷ []) (c.loop-frames.used + n))
    (ap length (sym c.as_bytes.ensures)) more in
    subst (λ (frames : List SignedStatement). TakesUp c.args.version bytes frames (c.loop-frames.used + length c.as_bytes.result.now))
    (sym c.in_ok-push-in-Whole.ensures.items) counted

pub loop-frames-smaller : goal.loop-frames-smaller
loop-frames-smaller c = less_left c.args.version c.args.bytes.now c.push.new.self.items c.loop-frames.used (length c.as_bytes.result.now)
    c.in-Whole.frame
    (loop-frames-preserved c) (ap length c.as_bytes.ensures)
