use mathlib.Core.Path.{◌≡◌}
use Prim.Native.Nat.{◌+◌, ◌*◌, ◌≤◌}
use lib.ListN.{length, get_or}
use Rattle.rules.specs.Counting.{sum_list}
use Rattle.walk_steps.specs.Steps.{sum_from}
use Rattle.links.specs.Links.{anodes_left}
use Rattle.walk_steps.proofs.chain_sum.Given as goal

abbrev pub invariant-loop-x : goal.invariant-loop-x
invariant-loop-x l = (l.sum + sum_list (λ a. get_or l.counts a 0) (anodes_left l.x-iterator) ≡ sum_from l.counts l.nexts 3444 l.fn.a.0)
    × (l.sum + length (anodes_left l.x-iterator) * 65535 ≤ 3444 * 65535)
