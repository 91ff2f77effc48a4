-- The lengths of signatures.
use Rattle.std.proofs.Common.{◌≡◌, ℕ, ◌≤◌, List, length, lit≤, subst, sym}
use Rattle.ledger_model.specs.Signatures.{signature_len, signature_of}
use Rattle.lm_ots.specs.declared.params.Params.{Params}
use Rattle.lm_ots.specs.declared.params.Width.{Width}
use Rattle.lm_ots.specs.declared.params.Width.TheVariants.{W4, W8}
use Rattle.lm_ots.specs.declared.params.TreeHeight.{TreeHeight}
use Rattle.lm_ots.specs.declared.params.TreeHeight.TheVariants.{H5, H10}
use Rattle.lm_ots.specs.Parameters.{numbers_of}
use Rattle.lms_tree.proofs.Law.{length-signature_of}

longest : (w : Width) (h : TreeHeight) → signature_len (numbers_of (record { width = w; height = h })) ≤ 2508
longest W4 H5 = lit≤ tt
longest W4 H10 = lit≤ tt
longest W8 H5 = lit≤ tt
longest W8 H10 = lit≤ tt

-- no signature of the four parameter sets has more than 2508 bytes
pub signed_short : (p : Params) (id seed : List ℕ) (q : ℕ) (message signature : List ℕ)
    → signature ≡ signature_of (numbers_of p) id seed q message → length signature ≤ 2508
signed_short p id seed q message signature is =
    let long : length (signature_of (numbers_of p) id seed q message) ≡ signature_len (numbers_of p) =
    length-signature_of p id seed q message in
    subst (λ (s : List ℕ). length s ≤ 2508) (sym is) (subst (λ n. n ≤ 2508) (sym long) (longest p.width p.height))
