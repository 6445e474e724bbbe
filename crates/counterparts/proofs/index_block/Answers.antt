use mathlib.Core.Path.{◌≡◌}
use Rattle.disk.specs.Blocks.{block_of}
use Rattle.laws.specs.Entries.{reads_none, read_within}
use Rattle.lookup.proofs.Laws.{reader_whole, reads_placed, reads_same, unbroken_rest, place_entry, places_none}
use Rattle.counterparts.proofs.Laws.{filling_start, filling_done, filling_one-room, filling_one}
use Rattle.counterparts.proofs.index_block.Goals as goal

pub loop-at-init : goal.loop-at-init
loop-at-init c = rw c.into_iter-at-iterator.ensures.into_iter_gives
    (let p = c.of-at-items in
    let same : p.result.reader.block.now ≡ block_of c.args.image.now c.args.b.0 = rw p.ensures.0 c.block_part.ensures in
    (same, rw (reader_whole _ _ p.result.reader same p.ensures.1 p.ensures.2) (filling_start _ _ _ _ c.requires.0 c.requires.1)))

pub add_name-requires : goal.add_name-requires
add_name-requires c = let l = c.loop-at in
    let (x, read) = place_entry c.args.b.0 _ _ _ c.in-Some.ensures.steps l.invariant.1.unbroken in
    (l.invariant.1.added.indexed, filling_one-room l.invariant.1 _ _ (reads_placed _ c.args.b.0 _ _ l.invariant.0 _ read) c.requires.2, read_within c.args.b.0 _ _ _ read)

pub loop-at-preserved : goal.loop-at-preserved
loop-at-preserved c = let l = c.loop-at in
    let y = c.args.b.0 in
    let (x, read) = place_entry y _ _ _ c.in-Some.ensures.steps l.invariant.1.unbroken in
    let n = c.add_name.ensures in (
      reads_same _ y _ _ l.invariant.0 _ read,
      filling_one l.invariant.1 _ _ (reads_placed _ y _ _ l.invariant.0 _ read) (unbroken_rest _ y _ _ l.invariant.0 _ read l.invariant.1.unbroken) n.indexed n.placed n.others n.within,
    )

pub returns : goal.returns
returns c = let l = c.loop-at in filling_done l.invariant.1 (reads_none _ l.at-iterator.reader c.next.new.self.reader (places_none _ _ c.in-None.ensures.steps))
