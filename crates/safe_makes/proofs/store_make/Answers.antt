use native.Mathlib.Omega.{arith}
use mathlib.Core.Path.{◌∙◌}
use Rattle.directory.specs.Entries.{is_dir}
use Rattle.rules.specs.Changes.{NewEntry, new_entry}
use Rattle.change_laws.specs.Image.{ReachedDir}
use Rattle.change_tables.specs.Chains.{loaded_image}
use Rattle.safe_makes.proofs.Made.{moves_table, room_inside, to_inside, image-made}
use Rattle.safe_makes.proofs.store_make.Goals as goal
use Rattle.safe_makes.proofs.store_make.Goals.{Start}

-- the entry and the directory
abbrev new : Start → NewEntry
new c = let a = c.args in new_entry (is_dir a.kind) a.name.now a.comment.now a.day a.minute a.tick a.protection

home : (c : Start) → ReachedDir c.args.image.now c.args.head.0
home c = record { image = loaded_image c.requires.loaded; reached = c.requires.head_value.0 }

pub store_table-requires : goal.store_table-requires
store_table-requires c =
    let at = (goal.at.store_table-requires c).Start in
    (c.requires.loaded, moves_table (home at) (new at) _ _ _ c.requires.safely_made)

pub start_block-requires : goal.start_block-requires
start_block-requires c =
    let at = (goal.at.start_block-requires c).Start in
    let p = c.requires.safely_made in
    let long = c.header_new.auto.image ∙ c.store_table.auto.image in
    (λ z. let e = room_inside (home at) (new at) _ _ _ p z in (e.0, omega (arith, e.1, long)), omega (arith, to_inside (home at) (new at) _ _ _ p, long))

pub returns : goal.returns
returns c =
    let at = (goal.at.returns c).Start in
    image-made (home at) (new at) _ _ _ c.requires.safely_made _ c.requires.head_value.1 _ _ _ _ c.store_table.ensures c.header_new.ensures c.start_block.ensures c.put_new_entry.ensures
