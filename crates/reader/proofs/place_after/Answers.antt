use Rattle.std.proofs.Common.{refl, arith}
use lib.ListN.{get_or-eq_default}
use Rattle.reader.specs.Reads.{place_after}
use Rattle.reader.proofs.place_after.Goals as goal

pub returns-then-block-at : goal.returns-then-block-at
unfolding place_after
returns-then-block-at c = omega (arith, get_or-eq_default c.args.block.now 0 c.if-block-at.true)

pub returns : goal.returns
unfolding place_after
returns c = refl
