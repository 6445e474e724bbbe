use mathlib.Core.Path.{sym, ◌∙◌}
use lib.ListN.{get_or}
use Rattle.rules.specs.Counting.{gather}
use Rattle.rules.specs.Chains.{run}
use Rattle.anodes.specs.Loaded.{anodes_from}
use Rattle.laws.specs.ChainBlocks.{extent, blocks_of_extents}
use Rattle.links.specs.Links.{anodes_left}
use Rattle.contents.proofs.Writing.{over_empty, over_done, over_written, inside_append}
use Rattle.contents.proofs.write_along.Goals as goal

pub loop-a-init : goal.loop-a-init
unfolding anodes_from
loop-a-init c = let g = c.args in
    let whole = blocks_of_extents (anodes_from g.counts.now g.firsts.now g.nexts.now) g.head.0 in
    rw (c.into_iter-a-iterator.ensures.into_iter_gives, c.along-a-items.ensures)
    (rw (← whole) c.requires.0, λ e is. rw (← whole) (over_written _ _ _ e _ _ is c.requires))

pub returns-then-bytes-cursor : goal.returns-then-bytes-cursor
returns-then-bytes-cursor c = λ e is. sym (over_done _ _ _ _ _ c.if-bytes-cursor.true) ∙ c.loop-a.invariant.1 e is

pub write_run-cursor-requires : goal.write_run-cursor-requires
unfolding anodes_from extent gather
write_run-cursor-requires c = let g = c.args in
    let a = c.in-Some.a.0 in
    let own = run (get_or g.firsts.now a 0) (get_or g.counts.now a 0) in
    let rest = gather (extent (anodes_from g.counts.now g.firsts.now g.nexts.now)) (anodes_left c.next.new.self) in
    let before = rw c.in-Some.ensures.steps at c.loop-a.invariant in
    let i = inside_append g.image.now own rest before.0 in
    rw (c.entry.ensures, c.entry-count.ensures, c.loop-a.auto.image) i.0

pub loop-a-preserved : goal.loop-a-preserved
unfolding anodes_from extent gather
loop-a-preserved c = let g = c.args in
    let a = c.in-Some.a.0 in
    let own = run (get_or g.firsts.now a 0) (get_or g.counts.now a 0) in
    let rest = gather (extent (anodes_from g.counts.now g.firsts.now g.nexts.now)) (anodes_left c.next.new.self) in
    let before = rw c.in-Some.ensures.steps at c.loop-a.invariant in
    ((inside_append g.image.now own rest before.0).1, λ e is. (rw (c.entry.ensures, c.entry-count.ensures) at (c.write_run-cursor.ensures rest)) ∙ before.1 e is)

pub returns : goal.returns
unfolding gather
returns c = λ e is. sym (over_empty _ _ _ _ (rw c.in-None.ensures.steps.0)) ∙ c.loop-a.invariant.1 e is
