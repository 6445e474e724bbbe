use Rattle.rules.specs.Counting.{any_in}
use Rattle.rules.specs.Accepted.{not_up_to}
use Rattle.anodes.specs.Loaded.{anodes_from}
use Rattle.chains.proofs.wrong_from_two.Goals as goal

pub loop-a-init : goal.loop-a-init
unfolding anodes_from
loop-a-init c = rw (c.into_iter-a-iterator.ensures.into_iter_gives, c.along-a-items.ensures)

pub returns-then-ends_past : goal.returns-then-ends_past
unfolding any_in not_up_to anodes_from
returns-then-ends_past c = rw (c.in-Some.ensures.steps, ← c.entry-count.ensures, ← c.entry-first.ensures, ← c.ends_past.ensures, c.if-ends_past.true) at c.loop-a.invariant

pub loop-a-preserved : goal.loop-a-preserved
unfolding any_in not_up_to anodes_from
loop-a-preserved c = rw (c.in-Some.ensures.steps, ← c.entry-count.ensures, ← c.entry-first.ensures, ← c.ends_past.ensures, c.if-ends_past.false) at c.loop-a.invariant

pub returns : goal.returns
unfolding any_in
returns c = rw c.in-None.ensures.steps.0 at c.loop-a.invariant
