use Rattle.std.proofs.Common.{◌≡◌, false}
use Rattle.rules.specs.Counting.{any_below}
use Rattle.rules.specs.Accepted.{wrong_slot}
use Rattle.header.proofs.wrong_slots.Given as goal

abbrev pub invariant-loop-s : goal.invariant-loop-s
invariant-loop-s l = any_below (wrong_slot l.image) l.s ≡ false
