use mathlib.Core.Path.{◌≡◌}
use Prim.Native.Nat.{◌≤◌}
use lib.ListN.{length, drop}
use Rattle.rules.specs.Accepted.{disk_size}
use Rattle.owners.specs.Marks.{Marked}
use Rattle.owners.proofs.Owners.{system_below, system_entry_below}
use Rattle.owners.proofs.mark_system.Given as goal

abbrev pub invariant-loop-s : goal.invariant-loop-s
invariant-loop-s l = (l.s ≤ 42) × (length l.blocks ≡ length l.initial.blocks) × (drop (disk_size l.image) l.blocks ≡ drop (disk_size l.image) l.initial.blocks) × Marked (disk_size l.image) (system_below l.image l.s) (system_entry_below l.image l.s) l.blocks
