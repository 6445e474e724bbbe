use mathlib.Core.Path.{◌≡◌}
use Prim.Native.Nat.{◌+◌, ◌*◌}
use lib.ListN.{length}
use Rattle.rules.specs.Counting.{gather}
use Rattle.rules.specs.Chains.{blocks_of}
use Rattle.anodes.specs.Loaded.{anodes_from}
use Rattle.laws.specs.Chains.{Inside}
use Rattle.laws.specs.ChainBlocks.{extent}
use Rattle.links.specs.Links.{anodes_left}
use Rattle.write_lists.specs.Puts.{with_writes}
use Rattle.write_lists.proofs.put_chain.Given as goal

abbrev pub invariant-loop-a : goal.invariant-loop-a
invariant-loop-a l = let s = anodes_from l.counts l.firsts l.nexts in
    let ys = gather (extent s) (anodes_left l.a-iterator) in
    (l.place + length ys * 514 ≡ l.at + length (blocks_of s l.fn.head.0) * 514)
    × Inside l.image ys
    × (with_writes l.out l.place l.image ys ≡ with_writes l.initial.out l.at l.image (blocks_of s l.fn.head.0))
