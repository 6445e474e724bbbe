use mathlib.Core.Path.{sym}
use borrow.Author.Rules.{rules}
use Rattle.chains.proofs.Storing.{stored_in, stored_chain}
use Rattle.chains.proofs.store_along.Goals as goal

pub loop-a-init : goal.loop-a-init
loop-a-init c = rw (c.into_iter-a-iterator.ensures.into_iter_gives, c.along-a-items.ensures) (search rules, sym (stored_chain _ _ 3444 _ _))

pub loop-a-preserved : goal.loop-a-preserved
unfolding stored_in
loop-a-preserved c = (search rules, rw c.set_entry.ensures (rw c.in-Some.ensures.steps at c.loop-a.invariant.1))

pub returns : goal.returns
unfolding stored_in
returns c = rw c.in-None.ensures.steps.0 at c.loop-a.invariant.1
