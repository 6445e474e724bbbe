use mathlib.Core.Path.{◌≡◌}
use lib.ListN.{get_or}
use Rattle.rules.specs.Chains.{chain_of}
use Rattle.rules.specs.Changes.{first_room}
use Rattle.links.specs.Links.{anodes_left}
use Rattle.edits.proofs.Along.{firsts_along}
use Rattle.edits.proofs.first_room.Given as goal

abbrev pub invariant-loop-a : goal.invariant-loop-a
invariant-loop-a l = first_room l.image l.len (firsts_along l.firsts (anodes_left l.a-iterator)) ≡ first_room l.image l.len (firsts_along l.firsts (chain_of (λ x. get_or l.fn.nexts x 0) 3444 l.fn.head.0))
