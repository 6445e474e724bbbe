use mathlib.Core.Path.{◌≡◌}
use Prim.Native.Nat.{◌<◌}
use lib.ListN.{drop}
use Rattle.rules.specs.Folding.{folded}
use Rattle.names.specs.Index.{hash_from, hash_of}
use Rattle.names.proofs.hash.Given as goal

abbrev pub invariant-loop-b : goal.invariant-loop-b
invariant-loop-b l = (l.h < 268435456) × (hash_from l.h (folded (drop l.b-index l.name)) ≡ hash_of (folded l.name))
