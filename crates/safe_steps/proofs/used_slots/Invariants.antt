use mathlib.Core.Path.{◌≡◌}
use Prim.Native.Nat.{◌≤◌}
use lib.ListN.{length}
use Rattle.safe_rules.specs.SafePlans.{slot_blocks}
use Rattle.anodes.specs.Loaded.{slots_from}
use Rattle.safe_steps.proofs.used_slots.Given as goal

abbrev pub invariant-loop-k : goal.invariant-loop-k
invariant-loop-k l = (l.used ≤ l.k) × (l.used ≡ length (slot_blocks (slots_from l.slots) l.k))
