use Rattle.rules.specs.Anodes.{store_changed}
use mathlib.Core.List.{List}
use mathlib.Core.Path.{◌≡◌}
use Prim.Native.Nat.{ℕ, ◌≤◌, ◌+◌}
use lib.ListN.{length}
use Rattle.anodes.specs.Loaded.{anodes_from}
use Rattle.edits.proofs.store_run.Given as goal

abbrev pub invariant-loop-a : goal.invariant-loop-a
invariant-loop-a l = (l.a ≤ l.initial.a + 82) × (length l.image ≡ length l.initial.image) × ((img : List ℕ) → l.initial.image ≡ store_changed (anodes_from l.counts l.firsts l.nexts) (anodes_from l.new_counts l.new_firsts l.new_nexts) img l.initial.a → l.image ≡ store_changed (anodes_from l.counts l.firsts l.nexts) (anodes_from l.new_counts l.new_firsts l.new_nexts) img l.a)
