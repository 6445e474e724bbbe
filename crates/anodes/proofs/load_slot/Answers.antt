use mathlib.Core.Path.{sym, ◌∙◌}
use native.Mathlib.Omega.{arith}
use Rattle.anodes.proofs.Laws.{loaded_missing}
use Rattle.anodes.proofs.load_slot.Goals as goal

pub load_block-requires : goal.load_block-requires
load_block-requires c = let p = c.requires in record { s_value = (sym c.slot_of-slot.ensures, c.if-slot-ne0.true); s_bound = p.s_bound; loaded_below = p.loaded_below }

pub returns-then-slot-ne0 : goal.returns-then-slot-ne0
returns-then-slot-ne0 c = c.load_block.ensures

pub returns : goal.returns
returns c = loaded_missing _ _ _ _ _ _ _ _ _ (sym c.slot_of-slot.ensures ∙ c.if-slot-ne0.false) c.requires.loaded_below (omega arith) (omega arith) (omega arith) (omega arith) c.zero_first.ensures c.zero_first-2.ensures c.zero_first-3.ensures
