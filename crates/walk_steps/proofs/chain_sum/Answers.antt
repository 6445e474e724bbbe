use Rattle.std.proofs.Common.{arith}
use lib.ListN.{get_or}
use Rattle.rules.specs.Counting.{sum_list}
use Rattle.laws.specs.Chains.{chain_short}
use Rattle.walk_steps.specs.Steps.{sum_from}
use Rattle.walk_steps.proofs.chain_sum.Goals as goal

pub loop-x-init : goal.loop-x-init
unfolding sum_from
loop-x-init c = rw (c.into_iter-x-iterator.ensures.into_iter_gives, c.along-x-items.ensures) (omega arith, omega (arith, chain_short (λ a. get_or c.args.nexts.now a 0) 3444 c.args.a.0))

pub loop-x-preserved : goal.loop-x-preserved
unfolding sum_list
loop-x-preserved c = let v = rw c.in-Some.ensures.steps at c.loop-x.invariant in rw c.entry.ensures (omega (arith, v.0), omega (arith, v.1, c.type_inv.counts c.in-Some.x.0))

pub returns : goal.returns
unfolding sum_list
returns c = omega (arith, rw c.in-None.ensures.steps.0 at c.loop-x.invariant.0)
