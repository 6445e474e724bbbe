use mathlib.Core.Path.{◌≡◌}
use Rattle.rules.specs.Format.{with_anode_blocks}
use Rattle.format.proofs.put_anode_blocks.Given as goal

abbrev pub invariant-loop-s : goal.invariant-loop-s
invariant-loop-s l = l.image ≡ with_anode_blocks l.initial.image l.n l.last l.slots l.s
