use mathlib.Core.Path.{◌≡◌}
use Prim.Native.Nat.{◌-◌}
use lib.ListN.{length}
use Rattle.rules.specs.Chains.{run}
use Rattle.laws.specs.OwnerTable.{set_all}
use Rattle.edits.proofs.set_run.Given as goal

abbrev pub invariant-loop-i : goal.invariant-loop-i
invariant-loop-i l = (length l.blocks ≡ length l.initial.blocks) × (set_all l.blocks (run l.i (l.i-end - l.i)) l.owner.0 ≡ set_all l.initial.blocks (run l.initial.i (l.i-end - l.initial.i)) l.owner.0)
