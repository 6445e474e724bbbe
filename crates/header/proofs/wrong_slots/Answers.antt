use mathlib.Core.Path.{◌≡◌, sym, ◌∙◌}
use native.Mathlib.Omega.{arith}
use borrow.Author.Tests.{ne_eqb, eq-eqb}
use Rattle.rules.specs.Counting.{any_below}
use Rattle.rules.specs.Accepted.{wrong_slot, wrong_slots}
use Rattle.counting.specs.Laws.{any_below-none, any_below_more, any_below_hit}
use Rattle.header.proofs.wrong_slots.Goals as goal

pub returns-then-first-eq0 : goal.returns-then-first-eq0
unfolding wrong_slots
returns-then-first-eq0 c = rw (← c.slot_of-first.ensures, eq-eqb _ _ c.if-first-eq0.true)

pub loop-s-init : goal.loop-s-init
loop-s-init c = any_below-none _

pub returns-then-wrong_slot : goal.returns-then-wrong_slot
unfolding wrong_slots
returns-then-wrong_slot c = let slots-left : let i = c.args.image.now in wrong_slots i ≡ any_below (wrong_slot i) 42 = rw (← c.slot_of-first.ensures, ne_eqb _ _ c.if-first-eq0.false) in
    sym (slots-left ∙ any_below_hit _ _ 42 c.loop-s-test.true (sym c.wrong_slot.ensures ∙ c.if-wrong_slot.true))

pub loop-s-preserved : goal.loop-s-preserved
loop-s-preserved c = any_below_more _ _ c.loop-s.invariant (sym c.wrong_slot.ensures ∙ c.if-wrong_slot.false)

pub returns : goal.returns
unfolding wrong_slots
returns c = let slots-left : let i = c.args.image.now in wrong_slots i ≡ any_below (wrong_slot i) 42 = rw (← c.slot_of-first.ensures, ne_eqb _ _ c.if-first-eq0.false) in
    let e : c.loop-s.s ≡ 42 = omega arith in
    sym (slots-left ∙ rw e at c.loop-s.invariant)
