use mathlib.Core.Path.{◌≡◌}
use lib.ListN.{get_or}
use Rattle.rules.specs.Counting.{gather}
use Rattle.rules.specs.Chains.{blocks_of}
use Rattle.laws.specs.ChainBlocks.{extent}
use Rattle.links.specs.Links.{anodes_left}
use Rattle.anodes.specs.Loaded.{anodes_from}
use Rattle.edits.proofs.nth_block.Given as goal

abbrev pub invariant-loop-a : goal.invariant-loop-a
invariant-loop-a l = let s = anodes_from l.counts l.firsts l.nexts in
    get_or (gather (extent s) (anodes_left l.a-iterator)) l.left 0 ≡ get_or (blocks_of s l.fn.head.0) l.fn.i 0
