use mathlib.Core.Path.{◌≡◌}
use Rattle.rules.specs.Table.{store_slots}
use Rattle.anodes.specs.Loaded.{slots_from}
use Rattle.anode_blocks.proofs.store_slots.Given as goal

abbrev pub invariant-loop-k : goal.invariant-loop-k
invariant-loop-k l = l.image ≡ store_slots l.initial.image (slots_from l.slots) l.k
