use mathlib.Core.Path.{◌≡◌}
use Rattle.rules.specs.Folding.{folded}
use Rattle.names.specs.Index.{last_below, is_same, bucket_of, Chain}
use Rattle.names.proofs.last_same.Given as goal

abbrev pub invariant-loop-x : goal.invariant-loop-x
invariant-loop-x l = Chain l.image l.index (bucket_of (folded l.name)) l.x × (last_below (is_same l.image l.index l.from (folded l.name)) l.x ≡ last_below (is_same l.image l.index l.from (folded l.name)) l.first)

abbrev pub decreases-loop-x : goal.decreases-loop-x
decreases-loop-x l = l.x
