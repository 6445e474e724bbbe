use mathlib.Core.Path.{◌≡◌, sym, ap, ◌∙◌}
use mathlib.Core.List.{[]}
use native.Mathlib.Omega.{arith}
use lib.ListN.{length}
use Rattle.rules.specs.Counting.{gather}
use Rattle.anodes.specs.Loaded.{anodes_from}
use Rattle.laws.specs.ChainBlocks.{extent, blocks_of_extents}
use Rattle.links.specs.Links.{anodes_left}
use Rattle.write_lists.proofs.Laws.{no_write, run_low, anode_inside, behind_inside, anode_length, anode_put}
use borrow.Author.Rules.{rules}
use Rattle.write_lists.proofs.put_chain.Goals as goal

pub loop-a-init : goal.loop-a-init
unfolding anodes_from
loop-a-init c = let x = c.args in
    let whole = blocks_of_extents (anodes_from x.counts.now x.firsts.now x.nexts.now) x.head.0 in
    rw (c.into_iter-a-iterator.ensures.into_iter_gives, c.along-a-items.ensures)
    (omega (arith, ap length whole), rw (← whole) c.requires.inside, rw whole)

pub put_run-place-requires : goal.put_run-place-requires
unfolding anodes_from gather
put_run-place-requires c = let x = c.args in
    let s = anodes_from x.counts.now x.firsts.now x.nexts.now in
    let a = c.in-Some.a.0 in
    let behind = gather (extent s) (anodes_left c.next.new.self) in
    let now = rw c.in-Some.ensures.steps at c.loop-a.invariant in
    let b = c.entry.ensures in
    let n = c.entry-count.ensures in
    let long = anode_length x.image.now s a behind now.1 _ _ b n in
    (anode_inside x.image.now s a behind now.1 _ _ b n, run_low _ _ (search rules) (λ q. omega (arith, b, n, c.requires.by_index a (omega arith))), omega (arith, now.0, c.requires.head_in_bounds, long))

pub loop-a-preserved : goal.loop-a-preserved
unfolding anodes_from gather
loop-a-preserved c = let x = c.args in
    let s = anodes_from x.counts.now x.firsts.now x.nexts.now in
    let a = c.in-Some.a.0 in
    let behind = gather (extent s) (anodes_left c.next.new.self) in
    let now = rw c.in-Some.ensures.steps at c.loop-a.invariant in
    let b = c.entry.ensures in
    let n = c.entry-count.ensures in
    let p = c.put_run-place.ensures in
    let long = anode_length x.image.now s a behind now.1 _ _ b n in (
      omega (arith, now.0, p.1, long),
      behind_inside x.image.now s a behind now.1 _ _ b n,
      anode_put x.image.now s a behind now.1 _ _ b n c.loop-a.out _ c.loop-a.place _ p.0 p.1 ∙ now.2,
    )

pub returns : goal.returns
unfolding gather
returns c = let x = c.args in
    let l = c.loop-a in
    let s = anodes_from x.counts.now x.firsts.now x.nexts.now in
    let none : gather (extent s) (anodes_left l.a-iterator) ≡ [] = rw c.in-None.ensures.steps.0 in
    (sym (no_write l.out l.place x.image.now _ none) ∙ l.invariant.2, omega (arith, l.invariant.0, ap length none))
