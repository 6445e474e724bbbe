use mathlib.Core.Path.{sym, ◌∙◌}
use lib.ListN.{get_or}
use Rattle.disk.specs.Blocks.{block_of}
use Rattle.rules.specs.Counting.{gather}
use Rattle.rules.specs.Chains.{run}
use Rattle.rules.specs.Lookup.{bytes_of}
use Rattle.anodes.specs.Loaded.{anodes_from}
use Rattle.laws.specs.Bags.{gather_append}
use Rattle.laws.specs.ChainBlocks.{extent, blocks_of_extents}
use Rattle.links.specs.Links.{anodes_left}
use Rattle.contents.proofs.Copying.{part_length, filled-start, filled-full, filled-end}
use Rattle.contents.proofs.copy_out.Goals as goal

pub loop-a-init : goal.loop-a-init
unfolding bytes_of anodes_from
loop-a-init c = rw (c.into_iter-a-iterator.ensures.into_iter_gives, c.along-a-items.ensures) (rw (blocks_of_extents _ _) (filled-start _ _))

pub returns-then-out-cursor : goal.returns-then-out-cursor
returns-then-out-cursor c = sym (filled-full _ _ _ c.if-out-cursor.true) ∙ c.loop-a.invariant

pub loop-a-preserved : goal.loop-a-preserved
unfolding anodes_from extent gather
loop-a-preserved c =
    let g = c.args in
    let a = c.in-Some.a.0 in
    let own = run (get_or g.firsts.now a 0) (get_or g.counts.now a 0) in
    let rest = gather (extent (anodes_from g.counts.now g.firsts.now g.nexts.now)) (anodes_left c.next.new.self) in
    let before = rw c.in-Some.ensures.steps at c.loop-a.invariant in
    (rw (c.entry.ensures, c.entry-count.ensures, ← gather_append (block_of g.image.now) own rest) at (c.copy_run-cursor.ensures (gather (block_of g.image.now) rest))) ∙ before

pub returns : goal.returns
unfolding gather
returns c = filled-end _ _ _ _ c.loop-a.cursor.skip _ (rw c.in-None.ensures.steps.0) c.loop-a.invariant (part_length _ _ _ c.requires ∙ sym c.loop-a.auto.out)
