use Prim.Native.Nat.{◌+◌, ◌≤◌}
use mathlib.Core.Path.{◌≡◌}
use mathlib.Core.List.{◌++◌}
use lib.ListN.{length, get_or, take}
use Rattle.rules.specs.Chains.{chain_of}
use Rattle.links.specs.Links.{anodes_left}
use Rattle.giving.proofs.list_chain.Given as goal

abbrev pub invariant-loop-a : goal.invariant-loop-a
invariant-loop-a l = (l.n + length (anodes_left l.a-iterator) ≤ 3444) × (length l.chain ≡ 3444) × (take l.n l.chain ++ anodes_left l.a-iterator ≡ chain_of (λ a. get_or l.nexts a 0) 3444 l.fn.head.0)
