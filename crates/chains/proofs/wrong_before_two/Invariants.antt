use mathlib.Core.Path.{◌≡◌}
use Rattle.links.specs.Links.{anodes_left}
use Rattle.anodes.specs.Loaded.{anodes_from}
use Rattle.chains.specs.FreeList.{wrong_before}
use Rattle.chains.proofs.FreeList.{before_in}
use Rattle.chains.proofs.wrong_before_two.Given as goal

abbrev pub invariant-loop-a : goal.invariant-loop-a
invariant-loop-a l = before_in (anodes_from l.counts l.firsts l.fn.nexts) l.last (anodes_left l.a-iterator) ≡ wrong_before (anodes_from l.counts l.firsts l.fn.nexts) l.last 3444 1
