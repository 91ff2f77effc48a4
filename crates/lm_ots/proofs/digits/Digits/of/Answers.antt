use Rattle.std.proofs.Common.{◌++◌, refl, ap, ◌∙◌}
use Rattle.std.specs.Int.{w16, to_be_bytes}
use Rattle.lm_ots.proofs.Writes.{put_mid-last}
use Rattle.lm_ots.proofs.digits.Digits.of.Goals as goal

pub returns-clause-bytes : goal.returns-clause-bytes
returns-clause-bytes c =
    put_mid-last 32 2 c.copy_from_slice.new.self c.copy_from_slice-2.new.self _ c.copy_from_slice.ensures.len refl
    ∙ ap (λ zs. zs ++ c.copy_from_slice-2.new.self) c.copy_from_slice.ensures.after
    ∙ ap (λ zs. c.args.digest.now ++ zs)
    (c.copy_from_slice-2.ensures.after ∙ c.to_be_bytes.ensures ∙ ap (to_be_bytes w16) c.checksum.ensures)
