use mathlib.Core.Path.{◌≡◌}
use lib.ListN.{length, drop}
use Rattle.rules.specs.Counting.{gather}
use Rattle.rules.specs.Chains.{blocks_of}
use Rattle.laws.specs.OwnerTable.{set_all}
use Rattle.laws.specs.ChainBlocks.{extent}
use Rattle.links.specs.Links.{anodes_left}
use Rattle.anodes.specs.Loaded.{anodes_from}
use Rattle.edits.proofs.set_behind.Given as goal

abbrev pub invariant-loop-a : goal.invariant-loop-a
invariant-loop-a l = let s = anodes_from l.counts l.firsts l.nexts in
    (length l.blocks ≡ length l.initial.blocks)
    × (set_all l.blocks (drop l.before (gather (extent s) (anodes_left l.a-iterator))) l.owner.0 ≡ set_all l.initial.blocks (drop l.fn.have (blocks_of s l.fn.head.0)) l.owner.0)
