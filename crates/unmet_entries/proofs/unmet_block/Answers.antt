use mathlib.Core.Path.{◌≡◌, refl, sym, ap, ◌∙◌}
use native.Mathlib.Omega.{arith}
use Prim.Native.Nat.{◌+◌}
use Rattle.endian.specs.Bytes.{be16}
use Rattle.disk.specs.Blocks.{block_of}
use Rattle.directory.specs.Entries.{entry_in}
use Rattle.directory.specs.declared.Entry.{Entry}
use Rattle.directory.proofs.Laws.{found_fields}
use Rattle.laws.specs.Entries.{reads_none, reads_more, read_within}
use Rattle.lookup.proofs.Laws.{reader_whole, reads_same, unbroken_rest, place_entry, places_none}
use Rattle.unmet_entries.specs.Along.{hand_no_entries, hand_first}
use Rattle.unmet_entries.proofs.unmet_block.Goals as goal

pub loop-at-init : goal.loop-at-init
loop-at-init c = rw c.into_iter-at-iterator.ensures.into_iter_gives
    (let p = c.of-at-items in
    let same : p.result.reader.block.now ≡ block_of c.args.image.now c.args.b.0 = rw p.ensures.0 c.block_part-block.ensures in
    let w = reader_whole _ _ p.result.reader same p.ensures.1 p.ensures.2 in
    (same, rw w c.requires, rw w))

pub unmet_entry-so_far-requires : goal.unmet_entry-so_far-requires
unmet_entry-so_far-requires c = let l = c.loop-at in
    let (x, read) = place_entry c.args.b.0 _ _ _ c.in-Some.ensures.steps l.invariant.1 in
    omega (arith, read_within c.args.b.0 _ _ _ read)

pub loop-at-preserved : goal.loop-at-preserved
unfolding entry_in
loop-at-preserved c = let l = c.loop-at in
    let y = c.args.b.0 in
    let (x, read) = place_entry y _ _ _ c.in-Some.ensures.steps l.invariant.1 in
    let anode = ap (λ (e : Entry). e.anode.0) (found_fields _ _ x read.entry).1 in
    let its : be16 l.at-iterator.reader.block.now (l.at-iterator.reader.at + 2) ≡ c.read16.result = rw (l.invariant.0, ← read.place) (rw c.block_part-block.ensures at (sym c.read16.ensures)) in (
      reads_same _ y _ _ l.invariant.0 _ read,
      unbroken_rest _ y _ _ l.invariant.0 _ read l.invariant.1,
      hand_first _ _ _ _ _ _ (reads_more y _ _ _ read) (c.unmet_entry-so_far.ensures _ (anode ∙ its) refl) ∙ l.invariant.2,
    )

pub returns : goal.returns
returns c = let l = c.loop-at in sym (hand_no_entries _ _ _ (reads_none _ l.at-iterator.reader c.next.new.self.reader (places_none _ _ c.in-None.ensures.steps))) ∙ l.invariant.2
