use mathlib.Core.Path.{◌≡◌}
use Prim.Native.Nat.{◌+◌, ◌*◌}
use lib.ListN.{length}
use Rattle.anodes.specs.Loaded.{slots_from}
use Rattle.safe_rules.specs.SafePlans.{slot_blocks}
use Rattle.write_lists.specs.Puts.{with_writes}
use Rattle.write_lists.proofs.put_slots.Given as goal

abbrev pub invariant-loop-k : goal.invariant-loop-k
invariant-loop-k l = (l.place ≡ l.at + length (slot_blocks (slots_from l.slots) l.k) * 514)
    × (l.out ≡ with_writes l.initial.out l.at l.image (slot_blocks (slots_from l.slots) l.k))
