use mathlib.Core.Path.{◌≡◌}
use lib.ListN.{drop}
use Rattle.rules.specs.Counting.{gather}
use Rattle.rules.specs.Walk.{Entered}
use Rattle.rules.specs.Changes.{written}
use Rattle.anodes.specs.Loaded.{anodes_from}
use Rattle.laws.specs.Chains.{Inside}
use Rattle.laws.specs.ChainBlocks.{extent}
use Rattle.links.specs.Links.{anodes_left}
use Rattle.contents.specs.Written.{written_over}
use Rattle.contents.proofs.write_along.Given as goal

abbrev pub invariant-loop-a : goal.invariant-loop-a
invariant-loop-a l = let s = anodes_from l.counts l.firsts l.nexts in
    let ys = gather (extent s) (anodes_left l.a-iterator) in
    Inside l.initial.image ys
    × ((e : Entered) → e.anode ≡ l.fn.head.0 → written_over l.image ys l.cursor.skip (drop l.cursor.done l.bytes) ≡ written l.initial.image s e l.offset l.bytes)
