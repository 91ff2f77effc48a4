-- The parts of the frames that are left are put in after those of the first frames.
use Rattle.std.proofs.Common.{◌≡◌, ◌∙◌, ℕ, ◌+◌, ◌<◌, List, [], ◌∷◌, ◌++◌, length, get_or, drop, refl, sym, ap}
use Rattle.std.specs.Prelude.{if◌then◌else◌}
use Rattle.std.specs.List.{flat_map}
use Rattle.std.proofs.lemmas.List.{at_drop_more}
use Rattle.ledger_model.specs.declared.statement.SignedStatement.{SignedStatement}
use Rattle.signed_frames.specs.Lending.{SignedPartView}
use Rattle.verify_cache.specs.Verifiers.{VerifierView}
use Rattle.replica_turns.specs.Arrivals.{is_unknown, with_part, with_unknown}

-- some parts and then others
put_both : (v : VerifierView) (ps qs once : List SignedPartView)
    → with_unknown v (ps ++ qs) once ≡ with_unknown v qs (with_unknown v ps once)
put_both v [] qs once = refl
put_both v (p ∷ ps) qs once = put_both v ps qs (if is_unknown v p then with_part p once else once)

-- those of one frame more
pub next_put : (v : VerifierView) (f : SignedStatement → List SignedPartView) (frames : List SignedStatement) (i : ℕ) (x : SignedStatement)
    (once new all : List SignedPartView) → i < length frames → x ≡ get_or frames i x → new ≡ with_unknown v (f x) once
    → with_unknown v (flat_map f (drop i frames)) once ≡ all → with_unknown v (flat_map f (drop (i + 1) frames)) new ≡ all
next_put v f frames i x once new all within is put before =
    ap (λ n. with_unknown v (flat_map f (drop (i + 1) frames)) n) put
    ∙ sym (put_both v (f x) (flat_map f (drop (i + 1) frames)) once)
    ∙ ap (λ y. with_unknown v (f y ++ flat_map f (drop (i + 1) frames)) once) is
    ∙ sym (at_drop_more (λ l. with_unknown v (flat_map f l) once) frames i x within)
    ∙ before
