use Rattle.rules.specs.Anodes.{store_changed}
use mathlib.Core.Path.{◌≡◌}
use Prim.Native.Nat.{◌≤◌, ◌*◌}
use lib.ListN.{length}
use Rattle.anodes.specs.Loaded.{anodes_from}
use Rattle.edits.proofs.store_anodes.Given as goal

abbrev pub invariant-loop-slot : goal.invariant-loop-slot
invariant-loop-slot l = (l.slot ≤ 42) × (length l.image ≡ length l.initial.image) × (l.image ≡ store_changed (anodes_from l.counts l.firsts l.nexts) (anodes_from l.new_counts l.new_firsts l.new_nexts) l.initial.image (l.slot * 82))
