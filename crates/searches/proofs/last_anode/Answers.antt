use Rattle.rules.specs.Counting.{last_of}
use Rattle.searches.proofs.last_anode.Goals as goal

pub loop-a-preserved : goal.loop-a-preserved
unfolding last_of
loop-a-preserved c = rw c.in-Some.ensures.steps at c.loop-a.invariant

pub returns : goal.returns
unfolding last_of
returns c = rw c.in-None.ensures.steps.0 at c.loop-a.invariant
