use mathlib.Core.Path.{sym}
use borrow.Author.Tests.{eq-eqb, ne_eqb}
use Rattle.rules.specs.Accepted.{not_above}
use Rattle.anodes.specs.Loaded.{anodes_from}
use Rattle.chains.proofs.FreeList.{before_in, before_chain}
use Rattle.chains.proofs.wrong_before_two.Goals as goal

pub loop-a-init : goal.loop-a-init
unfolding anodes_from
loop-a-init c = let g = c.args in rw (c.into_iter-a-iterator.ensures.into_iter_gives, c.along-a-items.ensures) (sym (before_chain (anodes_from g.counts.now g.firsts.now g.nexts.now) g.last 3444 1))

pub returns-then-a-eq2 : goal.returns-then-a-eq2
unfolding before_in
returns-then-a-eq2 c = rw (c.in-Some.ensures.steps, eq-eqb _ _ c.if-a-eq2.true) at c.loop-a.invariant

pub returns-then-not_above : goal.returns-then-not_above
unfolding before_in not_above anodes_from
returns-then-not_above c = rw (c.in-Some.ensures.steps, ne_eqb _ _ c.if-a-eq2.false, ← c.entry-count.ensures, ← c.entry-first.ensures, ← c.not_above.ensures, c.if-not_above.true) at c.loop-a.invariant

pub loop-a-preserved : goal.loop-a-preserved
unfolding before_in not_above anodes_from
loop-a-preserved c = rw (c.in-Some.ensures.steps, ne_eqb _ _ c.if-a-eq2.false, ← c.entry-count.ensures, ← c.entry-first.ensures, ← c.not_above.ensures, c.if-not_above.false) at c.loop-a.invariant

pub returns : goal.returns
unfolding before_in
returns c = rw c.in-None.ensures.steps.0 at c.loop-a.invariant
