use Rattle.std.proofs.Common.{◌≡◌, ◌+◌, ◌^◌, ◌++◌, length, ap, subst, ◌∙◌}
use Rattle.std.specs.Int.{w32, to_be_bytes}
use Rattle.std.proofs.lemmas.Slice.{pushed}
use Rattle.ledger_model.specs.Signatures.{leaf_signature, path, public_key, signature_of, verifies}
use Rattle.lm_ots.specs.Parameters.{numbers_of, lms_code_of}
use Rattle.lms_tree.specs.Trees.{Secret}
use Rattle.lms_tree.proofs.Law.{signed_verifies}
use Rattle.lms_tree.proofs.Lengths.{signed_short}
use Rattle.lms_tree.proofs.tree.Tree.sign.Goals as goal

pub returns-clause-signature : goal.returns-clause-signature
unfolding signature_of
returns-clause-signature c =
    let t = c.self.inside in
    let s = c.args.self.now in
    let q = c.args.leaf in
    let number = to_be_bytes w32 q in
    let signed = λ (v : Secret). leaf_signature (numbers_of v.params) v.identifier v.seed q c.args.message.now in
    let way = path (numbers_of s.params) s.identifier s.seed (numbers_of s.params).height 0 (2 ^ (numbers_of s.params).height + q) in
    let head = pushed c.to_be_bytes.result c.in_ok-signature.ensures.items c.in_ok-extend_from_slice.was c.extend_from_slice.ensures.items
    ∙ c.to_be_bytes.ensures in
    let with_ots = c.append_signature.ensures.items
    ∙ ap (λ zs. zs ++ signed (record { params = t.params; identifier = t.identifier; seed = t.seed })) head
    ∙ ap (λ (v : Secret). number ++ signed v) c.self.view_is in
    let code : c.to_be_bytes-2.result ≡ to_be_bytes w32 (lms_code_of s.params.height) =
    c.to_be_bytes-2.ensures ∙ ap (to_be_bytes w32) (c.code.ensures ∙ ap (λ (v : Secret). lms_code_of v.params.height) c.self.view_is) in
    let with_code = pushed c.to_be_bytes-2.result with_ots c.in_ok-extend_from_slice-2.was c.extend_from_slice-2.ensures.items in
    c.in_ok-append_path.ensures ∙ ap (λ zs. zs ++ way) (with_code ∙ ap (λ zs. number ++ signed s ++ zs) code)

pub returns-clause-verifies : goal.returns-clause-verifies
returns-clause-verifies c =
    let s = c.args.self.now in
    let P : Secret → Type 0 = λ v. length v.identifier ≡ 16 in
    let long : length s.identifier ≡ 16 = subst P c.self.view_is c.self.invariant.0 in
    ap (verifies (public_key (numbers_of s.params) s.identifier s.seed) c.args.message.now) (returns-clause-signature c)
    ∙ signed_verifies s.params s.identifier s.seed c.args.leaf c.args.message.now long c.requires

pub returns-clause-short : goal.returns-clause-short
returns-clause-short c =
    let s = c.args.self.now in
    signed_short s.params s.identifier s.seed c.args.leaf c.args.message.now _ (returns-clause-signature c)
