use mathlib.Core.Path.{◌≡◌}
use lib.ListN.{length}
use Rattle.links.specs.Links.{anodes_left}
use Rattle.chains.specs.Storing.{stored_along}
use Rattle.chains.proofs.Storing.{stored_in}
use Rattle.chains.proofs.store_along.Given as goal

abbrev pub invariant-loop-a : goal.invariant-loop-a
invariant-loop-a l = (length l.table ≡ length l.initial.table) × (stored_in l.v (anodes_left l.a-iterator) l.table ≡ stored_along 3444 l.fn.links l.initial.table l.v l.fn.from.0)
