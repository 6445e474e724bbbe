use borrow.Author.Rules.{rules}
use native.Mathlib.Omega.{arith}
use mathlib.Core.Path.{refl, ◌∙◌}
use lib.Seq.{drop-nil}
use Rattle.rules.specs.Counting.{gather}
use Rattle.links.specs.Links.{anodes_left}
use Rattle.laws.specs.ChainBlocks.{blocks_of_extents}
use Rattle.anodes.specs.Loaded.{anodes_from}
use Rattle.edits.proofs.Blocks.{owners-set}
use Rattle.edits.proofs.Along.{set_here, behind-later}
use Rattle.edits.proofs.set_behind.Goals as goal

pub loop-a-init : goal.loop-a-init
unfolding anodes_from
loop-a-init c = (refl, rw (c.into_iter-a-iterator.ensures.into_iter_gives, c.along-a-items.ensures, blocks_of_extents))

pub overflow_add-entry : goal.overflow_add-entry
overflow_add-entry c = omega (arith, c.requires c.in-Some.a.0 (omega (arith, c.entry-count.ensures)), c.entry.ensures, c.entry-count.ensures)

pub returns : goal.returns
unfolding gather
returns c = let l = c.loop-a in
    owners-set _ _ c.args.owner.0 (drop-nil l.before) ∙ rw c.in-None.ensures.steps.0 at l.invariant.1

pub loop-a-preserved-then-before-count : goal.loop-a-preserved-then-before-count
unfolding anodes_from
loop-a-preserved-then-before-count c =
    let n = c.entry-count.ensures in
    let e = rw (c.entry.ensures, n) at c.set_run.ensures in
    (search rules, set_here _ c.in-Some.a.0 _ c.loop-a.before (omega (arith, n)) _ _ _ e ∙ rw c.in-Some.ensures.steps at c.loop-a.invariant.1)

pub loop-a-preserved : goal.loop-a-preserved
unfolding anodes_from
loop-a-preserved c =
    let n = c.entry-count.ensures in
    (search rules, rw (n, ← behind-later (anodes_from c.args.counts.now c.args.firsts.now c.args.nexts.now) c.in-Some.a.0 (anodes_left c.next.new.self) c.loop-a.before (omega (arith, n))) (rw c.in-Some.ensures.steps at c.loop-a.invariant.1))
