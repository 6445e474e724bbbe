use mathlib.Core.Path.{◌≡◌}
use lib.ListN.{get_or}
use Rattle.rules.specs.Chains.{chain_of}
use Rattle.links.specs.Links.{anodes_left}
use Rattle.safe_plans.specs.Planned.{anode_with}
use Rattle.safe_plans.proofs.anode_with.Given as goal

abbrev pub invariant-loop-a : goal.invariant-loop-a
invariant-loop-a l = anode_with (λ a. get_or l.firsts a 0) l.y.0 (anodes_left l.a-iterator) ≡ anode_with (λ a. get_or l.firsts a 0) l.y.0 (chain_of (λ a. get_or l.nexts a 0) 3444 l.fn.head.0)
