use mathlib.Core.Path.{◌≡◌, refl, sym, ap, ◌∙◌}
use native.Mathlib.Omega.{arith}
use Rattle.disk.specs.Blocks.{block_of}
use Rattle.rules.specs.Anodes.{anodes_of}
use Rattle.rules.specs.Lookup.{entry_named}
use Rattle.laws.specs.Entries.{reads_none, read_within}
use Rattle.lookup.specs.Answers.{entered}
use Rattle.lookup.proofs.Laws.{name_at_lem, reader_whole, reads_placed, reads_same, unbroken_no_fault}
use Rattle.unmet_entries.specs.Along.{hand_no_entries, hand_first}
use Rattle.comparing.proofs.Laws.{pair_step, difference_step, found_readable, readable_here, readable_rest, pairs_none, pairs_first}
use Rattle.comparing.proofs.compare_block.Goals as goal

pub loop-item-init : goal.loop-item-init
loop-item-init c = rw c.into_iter-item-iterator.ensures.into_iter_gives
    (let r = c.of-item-items in
    let same : r.result.block.now ≡ block_of c.args.image.now c.args.b.0 = rw r.ensures.0 c.block_part.ensures in
    let w = reader_whole _ _ r.result same r.ensures.1 r.ensures.2 in
    (same, rw w c.requires.loaded.1, rw w, rw w))

pub returns-in_default : goal.returns-in_default
returns-in_default c = let l = c.loop-item in
    absurd (unbroken_no_fault _ _ l.item-iterator c.next.new.self l.invariant.0 _ (rw c.in_default.is at c.in-Some.ensures.steps) l.invariant.1.unbroken)

pub overflow_cast-read : goal.overflow_cast-read
overflow_cast-read c = omega (arith, read_within c.args.b.0 _ _ _ (rw c.in-Ok.is at c.in-Some.ensures.steps))

pub entry_in_image-requires : goal.entry_in_image-requires
entry_in_image-requires c = omega (arith, read_within c.args.b.0 _ _ _ (rw c.in-Ok.is at c.in-Some.ensures.steps))

pub compare_entry-so_far-requires : goal.compare_entry-so_far-requires
compare_entry-so_far-requires c = let a = c.args in
    let l = c.loop-item in
    let placed = reads_placed _ a.b.0 _ _ l.invariant.0 _ (rw c.in-Ok.is at c.in-Some.ensures.steps) in
    record {
      loaded = (c.requires.loaded.0, rw c.entry_in_image.ensures (readable_here _ _ _ _ placed l.invariant.1));
      loaded_2 = (c.requires.loaded_2.0, λ x is. found_readable a.other.now a.p.0 c.requires.loaded_2.1 _ x (sym (c.find_counterpart.ensures a.p.0 c.requires.span_of c.requires.loaded_2.1) ∙ is));
    }

pub loop-item-preserved : goal.loop-item-preserved
loop-item-preserved c = let a = c.args in
    let l = c.loop-item in
    let y = a.b.0 in
    let j = a.other.now in
    let read = rw c.in-Ok.is at c.in-Some.ensures.steps in
    let placed = reads_placed _ y _ _ l.invariant.0 _ read in
    let same = ap (entered a.image.now) c.entry_in_image.ensures in
    let name = c.name_at-name.ensures ∙ sym (name_at_lem a.image.now y _ c.in-Ok.read.at refl (read_within y _ _ _ read)) in
    let is = c.find_counterpart.ensures a.p.0 c.requires.span_of c.requires.loaded_2.1 ∙ ap (entry_named j (anodes_of j) a.p.0) name in
    let made = c.compare_entry-so_far.ensures in (
      reads_same _ y _ _ l.invariant.0 _ read,
      readable_rest _ _ _ _ placed l.invariant.1,
      pairs_first _ _ _ _ _ _ _ placed (pair_step a.image.now j a.p.0 _ _ same _ is _ _ _ _ made.pairs) ∙ l.invariant.2,
      hand_first _ _ _ _ _ _ placed (difference_step a.image.now j a.p.0 _ _ same _ is _ _ made.difference) ∙ l.invariant.3,
    )

pub returns : goal.returns
returns c = let l = c.loop-item in
    let done = reads_none _ l.item-iterator c.next.new.self c.in-None.ensures.steps in
    record { pairs = sym (pairs_none _ _ _ _ done) ∙ l.invariant.2; differences = sym (hand_no_entries _ _ _ done) ∙ l.invariant.3 }
