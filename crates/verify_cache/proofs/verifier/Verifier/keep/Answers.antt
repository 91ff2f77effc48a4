use Rattle.std.proofs.Common.{◌≡◌, ◌∙◌, false, refl, subst, sym, ap}
use Rattle.lru.specs.LruCache.{lru_cache}
use Rattle.verify_cache.specs.Same.{same}
use Rattle.verify_cache.specs.Verifiers.{answer_by, added, is_known}
use Rattle.std.specs.Map.{lookup}
use Rattle.verify_cache.proofs.StoredAnswers.{put-new, held-put, none-from}
use Rattle.verify_cache.proofs.verifier.Verifier.keep.Goals as goal

-- what `put` leaves
put : (c : goal.In_ok-put)
    → c.put.new.self
    ≡ lru_cache (added c.self.inside.known.cap c.args.signed c.args.answer c.self.inside.known.entries) c.self.inside.known.cap
put c =
    let known = c.self.inside.known in
    let unknown = subst (λ v. is_known v c.args.signed ≡ false) (sym c.self.view_is) c.requires.fresh in
    let fresh = none-from (lookup (same c.args.signed) known.entries) unknown in
    c.in_ok-put.ensures.entries ∙ ap (λ es. lru_cache es known.cap) (put-new known c.args.signed c.args.answer fresh)

pub invariant_of-self-2 : goal.invariant_of-self-2
invariant_of-self-2 c =
    held-put c.self.inside.ring c.self.inside.known c.put.new.self c.args.signed c.args.answer (put c) c.self.invariant
    (subst (λ v. c.args.answer ≡ answer_by v.ring c.args.signed) (sym c.self.view_is) c.requires.right)

pub returns-clause-added : goal.returns-clause-added
returns-clause-added c = rw (sym c.self.view_is, put c) refl
