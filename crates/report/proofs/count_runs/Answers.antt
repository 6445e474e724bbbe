use native.Mathlib.Omega.{arith}
use lib.ListN.{get_or}
use Rattle.report.proofs.Passes.{surveyed_first, surveyed_longest, counted-all}
use borrow.Author.Rules.{rules}
use Rattle.report.proofs.count_runs.Goals as goal

pub overflow_cast-owner : goal.overflow_cast-owner
overflow_cast-owner c = omega (arith, c.type_inv.table 0)

pub count_at-requires : goal.count_at-requires
count_at-requires c = omega (arith, c.requires.by_index (get_or c.args.table.now 0 0))

pub loop-x-init : goal.loop-x-init
loop-x-init c = rw c.count_at.ensures (surveyed_first _ _ c.requires.by_index)

pub pass_block-s-requires : goal.pass_block-s-requires
pass_block-s-requires c = record { x_in_bounds = (search rules, search rules); surveyed = c.loop-x.invariant }

pub loop-x-preserved : goal.loop-x-preserved
loop-x-preserved c = c.pass_block-s.ensures

pub overflow_sub-n : goal.overflow_sub-n
overflow_sub-n c = omega (arith, c.loop-x.invariant.begun)

pub returns : goal.returns
returns c = record { longest = surveyed_longest _ c.loop-x.x _ _ c.loop-x.invariant _ (omega arith) _ c.longer.ensures; counted = counted-all _ c.loop-x.starts _ c.loop-x.x (omega arith) c.loop-x.invariant.counts }
