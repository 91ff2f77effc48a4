use Rattle.std.proofs.Common.{◌≡◌, ◌∙◌, Bool, subst, sym, ap, rules}
use Rattle.lru.specs.LruCache.{LruCache, lru_cache, promoted}
use Rattle.verify_cache.specs.declared.signed.SignedMessage.{SignedMessage}
use Rattle.verify_cache.specs.Same.{same}
use Rattle.verify_cache.specs.Verifiers.{AreAnswers}
use Rattle.verify_cache.proofs.StoredAnswers.{held-promoted, found-any, promoted-new}
use Rattle.verify_cache.proofs.verifier.Verifier.recall.Goals as goal

pub invariant_of-self : goal.invariant_of-self
invariant_of-self c =
    let old = c.self.inside.known in
    held-promoted c.self.inside.ring (same c.args.signed.now) old c.get.follows.lender-at-none (search rules) c.self.invariant

pub returns-clause-answer : goal.returns-clause-answer
returns-clause-answer c =
    found-any c.args.self.now.ring c.self.inside.known.entries c.args.signed.now c.copied.result
    (subst (λ v. AreAnswers v.ring c.self.inside.known.entries) c.self.view_is c.self.invariant.2) (c.copied.ensures ∙ c.get.ensures.value)

pub returns-clause-kept : goal.returns-clause-kept
returns-clause-kept c none =
    let old = c.self.inside.known in
    let is : c.get.follows.lender-at-none ≡ lru_cache (promoted (same c.args.signed.now) old.entries) old.cap = search rules in
    let new = promoted-new old.entries c.args.signed.now (sym (c.copied.ensures ∙ c.get.ensures.value) ∙ none) in
    ap (λ (k : LruCache SignedMessage Bool). record {
      ring = c.self.inside.ring;
      capacity = k.cap;
      known = k.entries;
      computed = c.self.inside.computed;
    }) (is ∙ ap (λ es. lru_cache es old.cap) new) ∙ c.self.view_is
