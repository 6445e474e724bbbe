use mathlib.Core.Path.{◌≡◌, refl, ◌∙◌}
use Rattle.rules.specs.Table.{with_table}
use Rattle.rules.specs.Changes.{zero_taken, resized_image}
use Rattle.anodes.specs.Loaded.{anodes_from}
use Rattle.lookup.specs.Answers.{entered}
use Rattle.change_tables.specs.Chains.{extents_fit, loaded_size, loaded_good}
use Rattle.resizing.proofs.Laws.{resized_slots, resized_anodes, resized_links, resized-fit, size_fits, grown-blocks, done_leaves, owners-set, zeroed_some, zeroed-none}
use Rattle.laws.specs.OwnerTable.{set_all}
use Rattle.change_laws.specs.ResizePlan.{moved_blocks, new_owner}
use Rattle.resizing.proofs.commit_resize.Goals as goal
use Rattle.resizing.proofs.commit_resize.Goals.{then-e-size, else-e-size, then-have-want, else-have-want}

pub set_behind-requires : goal.set_behind-requires
unfolding anodes_from
set_behind-requires c = let s = c in
    resized-fit s.requires.loaded.0 (entered s.args.image.now s.args.e) s.requires.loaded.1 s.args.size s.requires.by_index.1

pub set_behind-requires-else-have-want : goal.set_behind-requires-else-have-want
unfolding anodes_from
set_behind-requires-else-have-want c = let l = c.requires.loaded.0 in extents_fit _ (loaded_size l) (loaded_good l)

pub store_slots-requires : goal.store_slots-requires
store_slots-requires c = let s = c in
    (loaded_size s.requires.loaded.0, resized_slots s.requires.loaded.0 (entered s.args.image.now s.args.e) s.requires.loaded.1 s.args.size s.requires.by_index.1)

pub store_anodes-requires : goal.store_anodes-requires
store_anodes-requires c = let s = c in
    rw c.store_slots.ensures (resized_anodes s.requires.loaded.0 (entered s.args.image.now s.args.e) s.requires.loaded.1 s.args.size s.requires.by_index.1)

pub zero_behind-requires : goal.zero_behind-requires
unfolding anodes_from
zero_behind-requires c = let s = c in
    resized-fit s.requires.loaded.0 (entered s.args.image.now s.args.e) s.requires.loaded.1 s.args.size s.requires.by_index.1

pub zero_tail-requires : goal.zero_tail-requires
unfolding anodes_from
zero_tail-requires c = let l = c.requires.loaded.0 in extents_fit _ (loaded_size l) (loaded_good l)

pub overflow_cast-size : goal.overflow_cast-size
overflow_cast-size c = let s = c in
    record { fits = size_fits s.requires.loaded.0 (entered s.args.image.now s.args.e) s.requires.loaded.1 s.args.size s.requires.by_index.1 }

pub show_heads-requires : goal.show_heads-requires
unfolding anodes_from
show_heads-requires c = let s = c in
    (s.requires.in_bounds.0, s.requires.in_bounds.1, resized_links s.requires.loaded.0 (entered s.args.image.now s.args.e) s.requires.loaded.1 s.args.size s.requires.by_index.1)

pub returns : goal.returns
unfolding resized_image with_table
returns c = λ ys known.
    let s = c in
    let a = s.args in
    let e = entered a.image.now a.e in
    let stored = c.store_anodes in
    let zeroed : c.if-e-size.image ≡ zero_taken stored.new.image e a.size ys =
    elim c.if-e-size.branch [
      | then-e-size w ↦ w.image-is ∙ w.zero_behind.ensures ∙ rw (s.requires.have_value.0, grown-blocks s.requires.loaded.0 e s.requires.loaded.1 a.size known w.if-e-size.true) (zeroed_some _ _ _ _ w.if-e-size.true)
      | else-e-size w ↦ w.image-is ∙ zeroed-none _ _ _ _ w.if-e-size.false
    ] in
    let shown = owners-set (anodes_from a.counts.now a.firsts.now a.nexts.now) (anodes_from a.new_counts.now a.new_firsts.now a.new_nexts.now) a.e.anode.0 a.have a.want a.blocks.now c.if-have-want.blocks in
    let was = anodes_from a.counts.now a.firsts.now a.nexts.now in
    let now' = anodes_from a.new_counts.now a.new_firsts.now a.new_nexts.now in
    let owned : c.if-have-want.blocks ≡ set_all a.blocks.now (moved_blocks was now' a.e.anode.0 a.have a.want) (new_owner a.e.anode.0 a.have a.want) = elim c.if-have-want.branch [
      | then-have-want w ↦ shown.0 w.if-have-want.true (w.blocks-is ∙ w.set_behind.ensures)
      | else-have-want w ↦ shown.1 w.if-have-want.false (w.blocks-is ∙ w.set_behind-else-have-want.ensures)
    ] in
    rw (c.put_size.ensures, c.zero_tail.ensures e refl refl, zeroed, stored.ensures, c.store_slots.ensures, c.show_slots.ensures, owned, c.show_heads.ensures a.new_counts.now, s.requires.loaded.0.is_loaded)
    (done_leaves s.requires.loaded.0 e s.requires.loaded.1 a.size known _ _ s.requires.have_value.0 s.requires.have_value.1 _ _)
