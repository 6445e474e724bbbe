use mathlib.Core.Path.{◌≡◌}
use Rattle.links.specs.Links.{anodes_left}
use Rattle.rules.specs.Counting.{any_in}
use Rattle.rules.specs.Chains.{chain_of}
use Rattle.rules.specs.Accepted.{not_up_to}
use Rattle.anodes.specs.Loaded.{anodes_from}
use Rattle.chains.proofs.wrong_from_two.Given as goal

abbrev pub invariant-loop-a : goal.invariant-loop-a
invariant-loop-a l = any_in (not_up_to (anodes_from l.counts l.firsts l.fn.nexts) l.last) (anodes_left l.a-iterator)
    ≡ any_in (not_up_to (anodes_from l.counts l.firsts l.fn.nexts) l.last) (chain_of (anodes_from l.counts l.firsts l.fn.nexts).next 3444 2)
