use mathlib.Core.Path.{◌≡◌}
use lib.ListN.{length, take, drop}
use Rattle.disk.specs.Blocks.{block_of}
use Rattle.rules.specs.Counting.{gather}
use Rattle.rules.specs.Lookup.{bytes_of}
use Rattle.anodes.specs.Loaded.{anodes_from}
use Rattle.laws.specs.ChainBlocks.{extent}
use Rattle.links.specs.Links.{anodes_left}
use Rattle.contents.specs.Copied.{filled}
use Rattle.contents.proofs.copy_out.Given as goal

abbrev pub invariant-loop-a : goal.invariant-loop-a
invariant-loop-a l = let s = anodes_from l.counts l.firsts l.nexts in
    filled l.out l.cursor.done (drop l.cursor.skip (gather (block_of l.image) (gather (extent s) (anodes_left l.a-iterator)))) ≡ take (length l.initial.out) (drop l.offset (bytes_of l.image s l.fn.head.0))
