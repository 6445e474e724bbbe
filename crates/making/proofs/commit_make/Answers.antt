use Rattle.rules.specs.Changes.{NewEntry, new_entry}
use Rattle.anodes.specs.Loaded.{anodes_from}
use Rattle.directory.specs.Entries.{is_dir}
use Rattle.change_tables.specs.Chains.{loaded_size}
use Rattle.making.proofs.Done.{new_slots, new_anodes, new_links, stored-image, done_leaves}
use Rattle.making.proofs.commit_make.Goals as goal
use Rattle.making.proofs.commit_make.Goals.{Start}

-- the entry
abbrev new : Start → NewEntry
new c = let a = c.args in new_entry (is_dir a.kind) a.name.now a.comment.now a.day a.minute a.tick a.protection

pub store_slots-requires : goal.store_slots-requires
store_slots-requires c =
    let p = c.requires.grows in
    (loaded_size c.requires.loaded.0, new_slots c.args.image.now _ _ (new (goal.at.store_slots-requires c).Start) _ _ p.2 p.1 c.requires.name_value.0 c.requires.name_value.1)

pub store_anodes-requires : goal.store_anodes-requires
store_anodes-requires c =
    let p = c.requires.grows in
    rw c.store_slots.ensures (new_anodes c.args.image.now _ _ (new (goal.at.store_anodes-requires c).Start) _ _ p.2 p.1 c.requires.name_value.0 c.requires.name_value.1 c.requires.loaded.0)

pub show_heads-requires : goal.show_heads-requires
unfolding anodes_from
show_heads-requires c =
    let p = c.requires.grows in
    (c.requires.loaded.1, c.requires.loaded.2, new_links c.args.image.now _ _ (new (goal.at.show_heads-requires c).Start) _ _ p.2 p.1 c.requires.name_value.0 c.requires.name_value.1)

pub returns : goal.returns
returns c =
    let e = new (goal.at.returns c).Start in
    let p = c.requires.grows in
    let named = c.requires.name_value.0 in
    let commented = c.requires.name_value.1 in
    done_leaves c.args.image.now _ _ e _ _ p.2 p.1 named commented _
    (stored-image c.args.image.now _ _ e _ _ p.2 p.1 named commented _ _ _ _ _ _ c.store_slots.ensures c.store_anodes.ensures c.header_new.ensures c.requires.head_value.1 c.header_new-2.ensures c.put_new_entry.ensures)
    _ _ _ _ _ _ c.note_owner.ensures c.note_owner-2.ensures c.show_slots.ensures (c.show_heads.ensures c.args.new_counts.now)
