use Rattle.rules.specs.Table.{with_table}
use Rattle.rules.specs.Changes.{removed_image}
use Rattle.anodes.specs.Loaded.{anodes_from}
use Rattle.lookup.specs.Answers.{entered}
use Rattle.change_tables.specs.Chains.{extents_fit, loaded_size, loaded_good}
use Rattle.removing.proofs.Laws.{removed_slots, removed_anodes, removed_links, stands, done_leaves}
use Rattle.removing.proofs.commit_remove.Goals as goal

pub set_behind-requires : goal.set_behind-requires
unfolding anodes_from
set_behind-requires c = let l = c.requires.loaded.0 in extents_fit _ (loaded_size l) (loaded_good l)

pub store_slots-requires : goal.store_slots-requires
store_slots-requires c = let g = c in
    (loaded_size g.requires.loaded.0, removed_slots g.requires.loaded.0 (entered g.args.image.now g.args.e) g.requires.loaded.1 g.requires.by_index.1)

pub store_anodes-requires : goal.store_anodes-requires
store_anodes-requires c = let g = c in
    rw c.store_slots.ensures (removed_anodes g.requires.loaded.0 (entered g.args.image.now g.args.e) g.requires.loaded.1 g.requires.by_index.1)

pub take_out-requires : goal.take_out-requires
unfolding with_table
take_out-requires c = let g = c in
    rw (c.store_anodes.ensures, c.store_slots.ensures) (stands g.requires.loaded.0 (entered g.args.image.now g.args.e) g.requires.loaded.1 g.requires.by_index.1)

pub show_heads-requires : goal.show_heads-requires
unfolding anodes_from
show_heads-requires c = let g = c in
    (g.requires.in_bounds.0, g.requires.in_bounds.1, removed_links g.requires.loaded.0 (entered g.args.image.now g.args.e) g.requires.loaded.1 g.requires.by_index.1)

pub returns : goal.returns
unfolding removed_image with_table
returns c = let g = c in
    rw (c.take_out.ensures, c.store_anodes.ensures, c.store_slots.ensures, c.show_slots.ensures, c.set_behind.ensures, c.show_heads.ensures g.args.new_counts.now, g.requires.loaded.0.is_loaded)
    (done_leaves g.requires.loaded.0 (entered g.args.image.now g.args.e) g.requires.loaded.1 g.requires.by_index.1 _ _)
