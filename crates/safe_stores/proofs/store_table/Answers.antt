use Rattle.safe_stores.proofs.Stores.{loaded_size, anodes_kept, table-stored}
use Rattle.safe_stores.proofs.store_table.Goals as goal

pub move_slots-requires : goal.move_slots-requires
move_slots-requires c = let s = c in (loaded_size s.requires.0, s.requires.1.1)

pub store_anodes-requires : goal.store_anodes-requires
store_anodes-requires c = let s = c in anodes_kept s.requires.0 _ s.requires.1.0 _ c.move_slots.ensures

pub returns : goal.returns
returns c = table-stored _ _ _ _ _ c.move_slots.ensures c.store_anodes.ensures
