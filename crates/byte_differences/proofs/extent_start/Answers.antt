use Rattle.std.proofs.Common.{◌≡◌, arith}
use Rattle.rules.specs.Chains.{run}
use Rattle.byte_differences.specs.BytesCompared.{extents_of}
use Rattle.byte_differences.proofs.Places.{entering_is}
use Rattle.byte_differences.proofs.extent_start.Goals as goal

pub returns : goal.returns
unfolding extents_of
returns c =
    let g = c.args in
    let own : extents_of g.counts.now g.firsts.now g.anode.0 ≡ run c.entry.result c.entry-2.result = rw (c.entry.ensures, c.entry-2.ensures) in
    entering_is _ _ _ _ _ _ own (omega arith) _ c.part-left.ensures
