use mathlib.Core.Path.{◌≡◌}
use Prim.Native.Nat.{◌+◌, ◌*◌, ◌-◌, ◌≤◌}
use Rattle.rules.specs.Changes.{end_from, entries_end}
use Rattle.edits.proofs.entries_end.Given as goal

abbrev pub invariant-loop : goal.invariant-loop
invariant-loop l = (l.at ≤ 16 + l.counter * 255) × (end_from (28 - l.counter) l.block l.at ≡ entries_end l.block)
