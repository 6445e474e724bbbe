use mathlib.Core.Path.{◌≡◌}
use Rattle.disk.specs.Root.{slot_of}
use Rattle.laws.specs.GotSlots.{slots_got}
use Rattle.laws.specs.OwnerTable.{set_all}
use Rattle.anodes.specs.Loaded.{slots_from}
use Rattle.anode_blocks.proofs.show_slots.Given as goal

abbrev pub invariant-loop-k : goal.invariant-loop-k
invariant-loop-k l = set_all l.blocks (slots_got (slot_of l.image) (slots_from l.slots) l.k) 65534 ≡ set_all l.initial.blocks (slots_got (slot_of l.image) (slots_from l.slots) 42) 65534
