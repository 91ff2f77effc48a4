use Rattle.std.proofs.Common.{◌≡◌, ◌<◌, ◌+◌, ◌^◌, take, drop, refl, sym, ap, ◌∙◌, arith}
use Rattle.std.proofs.lemmas.List.{take_all, length-drop}
use Rattle.std.proofs.lemmas.Bool.{false≢true}
use Rattle.ledger_model.specs.Signatures.{root_above, leaf_hash, leaf_candidate, bytes_same}
use Rattle.lm_ots.specs.Parameters.{numbers_of}
use Rattle.lms_tree.proofs.Checks.{IsCut, refused, other_length, other_type, other_tree, other_leaf, checked, bytes_same-pointwise}
use Rattle.lms_tree.proofs.verification.verify.Goals as goal
use Rattle.lms_tree.proofs.verification.verify.Goals.{then-parts-code-via-then-parts-code}
use Rattle.lms_tree.proofs.verification.verify.Goals.{then-parts-code-via-else-parts-code+then-parts-leaves}

pub returns-then-signature-signature_len : goal.returns-then-signature-signature_len
returns-then-signature-signature_len c =
    let n = numbers_of c.params-params.result in
    refused n c.args.key.now c.args.message.now c.args.signature.now c.params-params.ensures
    (other_length n c.args.key.now c.args.message.now c.args.signature.now
    (λ same. c.if-signature-signature_len.true (same ∙ sym c.signature_len.ensures)))

pub returns-then-parts-code : goal.returns-then-parts-code
returns-then-parts-code c =
    let n = numbers_of c.params-params.result in
    let told = c.cut-parts.ensures in
    let cut : IsCut n c.args.signature.now c.cut-parts.result.leaf c.cut-parts.result.lms_code c.cut-parts.result.ots.now
    c.cut-parts.result.path.now = record { leaf = told.leaf; one_time = told.ots; tree_code = told.lms_code; rest = told.path } in
    refused n c.args.key.now c.args.message.now c.args.signature.now c.params-params.ensures (elim c.then-parts-code.branch [
      | then-parts-code-via-then-parts-code w ↦
          other_tree n c.args.key.now c.args.message.now c.args.signature.now _ _ _ _ cut
          (λ same. w.if-parts-code.true (same ∙ sym c.code.ensures))
      | then-parts-code-via-else-parts-code+then-parts-leaves w ↦
          other_leaf n c.args.key.now c.args.message.now c.args.signature.now _ _ _ _ cut (omega (arith, w.leaves.ensures))
    ])

pub returns-in_default : goal.returns-in_default
returns-in_default c =
    let n = numbers_of c.params-params.result in
    let told = c.cut-parts.ensures in
    let cut : IsCut n c.args.signature.now c.cut-parts.result.leaf c.cut-parts.result.lms_code c.cut-parts.result.ots.now
    c.cut-parts.result.path.now = record { leaf = told.leaf; one_time = told.ots; tree_code = told.lms_code; rest = told.path } in
    refused n c.args.key.now c.args.message.now c.args.signature.now c.params-params.ensures
    (other_type n c.args.key.now c.args.message.now c.args.signature.now _ _ _ _ cut
    (λ same. false≢true (c.in_default.ensures.fits.1 (told.ots_len, same))))

pub returns : goal.returns
returns c =
    let n = numbers_of c.params-params.result in
    let key = c.args.key.now in
    let message = c.args.message.now in
    let q = c.cut-parts.result.leaf in
    let ots = c.cut-parts.result.ots.now in
    let path = c.cut-parts.result.path.now in
    let id = c.identifier-identifier.result in
    let id_is = c.identifier-identifier.ensures in
    let number = 2 ^ n.height + q in
    let told = c.cut-parts.ensures in
    let cut : IsCut n c.args.signature.now c.cut-parts.result.leaf c.cut-parts.result.lms_code c.cut-parts.result.ots.now
    c.cut-parts.result.path.now = record { leaf = told.leaf; one_time = told.ots; tree_code = told.lms_code; rest = told.path } in
    let fits = c.in-Some.ensures.fits.0 refl in
    let whole = c.as_bytes.ensures.whole in
    let root : c.as_slice.result.now ≡ root_above id path n.height 0 number (leaf_hash id number (leaf_candidate n id q message ots)) =
    c.as_slice.ensures ∙ c.root_above-root.ensures
    ∙ ap (λ x. root_above id path n.height 0 (c.leaves-2.result + q) x)
    (c.leaf_hash-hash.ensures ∙ ap (leaf_hash id (c.leaves-2.result + q)) c.in-Some.ensures.value)
    ∙ ap (λ k. root_above id path n.height 0 (k + q) (leaf_hash id (k + q) (leaf_candidate n id q message ots))) c.leaves-2.ensures in
    let below : q < 2 ^ n.height = omega (arith, c.leaves.ensures) in
    let key_root : take 32 (drop 24 c.as_bytes.result.now) ≡ drop 24 key =
    ap (λ zs. take 32 (drop 24 zs)) c.as_bytes.ensures.bytes ∙ take_all 32 (drop 24 key) (omega (arith, length-drop 24 key)) in
    c.eq.ensures
    ∙ bytes_same-pointwise c.as_slice.result.now (take 32 (drop 24 c.as_bytes.result.now))
    ∙ ap (λ zs. bytes_same c.as_slice.result.now zs) key_root
    ∙ ap (λ zs. bytes_same zs (drop 24 key)) root
    ∙ ap (λ i. bytes_same (root_above i path n.height 0 number (leaf_hash i number (leaf_candidate n i q message ots))) (drop 24 key)) id_is
    ∙ sym (checked n key message c.args.signature.now q c.cut-parts.result.lms_code ots path cut c.params-params.ensures whole
    (c.if-signature-signature_len.false ∙ c.signature_len.ensures) fits.1 (c.if-parts-code.false ∙ c.code.ensures) below)
