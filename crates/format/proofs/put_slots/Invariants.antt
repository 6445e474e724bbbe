use mathlib.Core.Path.{◌≡◌}
use Rattle.rules.specs.Format.{with_slots}
use Rattle.format.proofs.put_slots.Given as goal

abbrev pub invariant-loop-s : goal.invariant-loop-s
invariant-loop-s l = l.block ≡ with_slots l.initial.block l.s
