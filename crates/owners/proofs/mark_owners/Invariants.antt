use mathlib.Core.Path.{◌≡◌}
use Prim.Native.Nat.{◌≤◌}
use lib.ListN.{length, drop}
use Rattle.rules.specs.Accepted.{disk_size}
use Rattle.owners.specs.Marks.{Marked}
use Rattle.owners.proofs.Owners.{owners_below, entry_below}
use Rattle.owners.proofs.mark_owners.Given as goal

abbrev pub invariant-loop-a : goal.invariant-loop-a
invariant-loop-a l = (l.a ≤ 3444) × (length l.blocks ≡ length l.initial.blocks) × (drop (disk_size l.image) l.blocks ≡ drop (disk_size l.image) l.initial.blocks) × Marked (disk_size l.image) (owners_below l.image l.counts l.firsts l.a) (entry_below l.image l.counts l.firsts l.heads l.a) l.blocks
