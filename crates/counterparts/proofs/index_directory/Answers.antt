use mathlib.Core.List.{[]}
use Rattle.lookup.proofs.Laws.{along_whole, along_end, along, unbroken_along}
use Rattle.counterparts.proofs.Laws.{filling_start, filling_done, filling_room, filling_next}
use Rattle.counterparts.proofs.index_directory.Goals as goal

pub loop-a-init : goal.loop-a-init
loop-a-init c = rw (c.into_iter-a-iterator.ensures.into_iter_gives, c.along-a-items.ensures, along_whole _ _ _ _ _) (filling_start _ _ _ _ c.requires.0 (rw (along_whole _ _ _ _ _) at c.requires.1))

pub index_block-n-requires : goal.index_block-n-requires
index_block-n-requires c = let l = c.loop-a in
    let is = c.in-Some.ensures.steps in
    rw c.entry.ensures (l.invariant.added.indexed, (unbroken_along _ _ _ _ _ is l.invariant.unbroken).0, filling_room l.invariant _ _ (along _ _ _ _ _ is) c.requires.2)

pub loop-a-preserved : goal.loop-a-preserved
loop-a-preserved c = let l = c.loop-a in
    let is = c.in-Some.ensures.steps in
    filling_next l.invariant _ _ (along _ _ _ _ _ is) (unbroken_along _ _ _ _ _ is l.invariant.unbroken).1 (rw c.entry.ensures at c.index_block-n.ensures)

pub returns : goal.returns
returns c = let a = c.args in
    λ counts. rw (along_whole a.image.now a.firsts.now a.nexts.now counts _, ← along_whole a.image.now a.firsts.now a.nexts.now [] _) (filling_done c.loop-a.invariant (along_end _ _ _ c.in-None.ensures.steps.0))
