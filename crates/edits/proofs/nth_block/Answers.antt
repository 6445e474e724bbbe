use mathlib.Core.Path.{sym, ◌∙◌}
use Rattle.rules.specs.Counting.{gather}
use Rattle.laws.specs.ChainBlocks.{blocks_of_extents}
use Rattle.anodes.specs.Loaded.{anodes_from}
use Rattle.edits.proofs.Along.{nth_here, nth-later}
use native.Mathlib.Omega.{arith}
use Rattle.edits.proofs.nth_block.Goals as goal

pub loop-a-init : goal.loop-a-init
unfolding anodes_from
loop-a-init c = rw (c.into_iter-a-iterator.ensures.into_iter_gives, c.along-a-items.ensures, blocks_of_extents)

pub overflow_add-result : goal.overflow_add-result
overflow_add-result c = omega (arith, c.requires c.in-Some.a.0 (omega (arith, c.entry-count.ensures)), c.entry.ensures, c.entry-count.ensures)

pub returns-then-left-count : goal.returns-then-left-count
unfolding anodes_from
returns-then-left-count c = rw c.entry.ensures (sym (nth_here _ c.in-Some.a.0 _ c.loop-a.left (omega (arith, c.entry-count.ensures)))) ∙ rw c.in-Some.ensures.steps at c.loop-a.invariant

pub loop-a-preserved : goal.loop-a-preserved
unfolding anodes_from
loop-a-preserved c = rw c.entry-count.ensures (sym (nth-later _ c.in-Some.a.0 _ c.loop-a.left (omega (arith, c.entry-count.ensures)))) ∙ rw c.in-Some.ensures.steps at c.loop-a.invariant

pub returns : goal.returns
unfolding gather
returns c = rw c.in-None.ensures.steps.0 at c.loop-a.invariant
