use mathlib.Core.Path.{◌≡◌}
use lib.ListN.{length, drop}
use Rattle.rules.specs.Counting.{gather}
use Rattle.rules.specs.Chains.{blocks_of}
use Rattle.rules.specs.Format.{zero_block}
use Rattle.rules.specs.Changes.{with_blocks}
use Rattle.laws.specs.ChainBlocks.{extent}
use Rattle.links.specs.Links.{anodes_left}
use Rattle.anodes.specs.Loaded.{anodes_from}
use Rattle.edits.proofs.zero_behind.Given as goal

abbrev pub invariant-loop-a : goal.invariant-loop-a
invariant-loop-a l = let s = anodes_from l.counts l.firsts l.nexts in
    (length l.image ≡ length l.initial.image)
    × (with_blocks l.image (drop l.before (gather (extent s) (anodes_left l.a-iterator))) zero_block ≡ with_blocks l.initial.image (drop l.fn.have (blocks_of s l.fn.head.0)) zero_block)
