use Rattle.byte_differences.proofs.Comparing.{any_tested}
use mathlib.Core.Path.{◌≡◌, sym}
use native.Mathlib.Omega.{arith}
use lib.ListN.{length}
use Rattle.counting.specs.Laws.{any_below-none}
use Rattle.byte_differences.proofs.any_differs.Goals as goal

pub loop-i-init : goal.loop-i-init
loop-i-init c = sym (any_below-none _)

pub loop-i-preserved : goal.loop-i-preserved
loop-i-preserved c = (rw c.loop-i.invariant (any_tested _ _ _ c.loop-i-test.true (omega arith)))

pub returns : goal.returns
returns c = let e : c.loop-i.i ≡ length c.args.one.now = omega arith in rw e at c.loop-i.invariant
