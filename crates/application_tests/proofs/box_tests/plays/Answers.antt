-- What a box holds stays the same application from call to call: each call finds what the one before it left.
use mathlib.Core.List.{mem-append_right}
use Rattle.std.proofs.Common.{◌≡◌, ◌+◌, refl, sym, ap, ◌∙◌}
use Rattle.std.specs.Option.{is_some}
use Rattle.ledger_model.specs.Applications.{Machine}
use Rattle.application_tests.proofs.box_tests.plays.Goals as goal

-- what is computed of equal values is equal
along : {A B : Type 0} {x y : A} → x ≡ y → (f : A → B) → f x ≡ f y
along e f = ap f e

pub init_chain-requires : goal.init_chain-requires
init_chain-requires g c κs =
    let height_is = along (c.deref_box_mut-1.ensures.value.1 ∙ sym (c.deref_box-1.ensures.1))
    (λ p. ((g.dyn-1.0.entry p.0).1.machine p.1).height) in
    (refl, λ incl. (tt, (λ a m. incl a (mem-append_right _ m), height_is ∙ sym (c.info.ensures.0) ∙ c.if-info-ne0.false)))

pub begin_block-requires : goal.begin_block-requires
begin_block-requires g c κs =
    let before = along (c.deref_box_mut-1.ensures.value.1 ∙ sym (c.deref_box-1.ensures.1))
    (λ p. ((g.dyn-1.0.entry p.0).1.machine p.1).height) ∙ sym (c.info.ensures.0) ∙ c.if-info-ne0.false in
    let now = along (c.deref_box_mut-2.ensures.value.1) (λ p. ((g.dyn-1.0.entry p.0).1.machine p.1).height)
    ∙ ap (λ (m : Machine). m.height) (c.in_ok-init_chain.ensures) ∙ before in
    (refl, λ incl. (tt, (λ a m. incl a (mem-append_right _ m), c.new.ensures ∙ sym (ap (λ h. h + 1) now))))

pub deliver_tx-requires : goal.deliver_tx-requires
deliver_tx-requires g c κs =
    let works = along (c.deref_box_mut-3.ensures.value.1) (λ p. is_some ((g.dyn-1.0.entry p.0).1.machine p.1).working)
    ∙ ap (λ (m : Machine). is_some m.working) (c.in_ok-begin_block.ensures.0) in
    (refl, λ incl. (tt, (λ a m. incl a (mem-append_right _ m), works)))

pub end_block-requires : goal.end_block-requires
end_block-requires g c κs =
    let works = along (c.deref_box_mut-4.ensures.value.1) (λ p. is_some ((g.dyn-1.0.entry p.0).1.machine p.1).working)
    ∙ c.in_ok-code.ensures.0.0 in
    (refl, λ incl. (tt, (λ a m. incl a (mem-append_right _ m), works)))

pub commit-hash-requires : goal.commit-hash-requires
commit-hash-requires g c κs =
    let works = along (c.deref_box_mut-5.ensures.value.1) (λ p. is_some ((g.dyn-1.0.entry p.0).1.machine p.1).working)
    ∙ ap (λ (m : Machine). is_some m.working) (c.in_ok-end_block.ensures.0)
    ∙ along (c.deref_box_mut-4.ensures.value.1) (λ p. is_some ((g.dyn-1.0.entry p.0).1.machine p.1).working)
    ∙ c.in_ok-code.ensures.0.0 in
    (refl, λ incl. (tt, (λ a m. incl a (mem-append_right _ m), works)))
