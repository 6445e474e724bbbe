use mathlib.Core.Path.{◌≡◌, ◌∙◌}
use native.Mathlib.Omega.{arith}
use lib.ListN.{length}
use Rattle.counting.specs.Laws.{any_below-none, any_below_more}
use Rattle.laws.specs.Tests.{other, same}
use Rattle.byte_differences.proofs.Comparing.{differs_here, first_found, first-all}
use Rattle.byte_differences.proofs.first_byte_differing.Goals as goal

pub loop-i-init : goal.loop-i-init
loop-i-init c = any_below-none _

pub returns-then-one-i : goal.returns-then-one-i
returns-then-one-i c = first_found _ _ _ _ c.loop-i-test.true c.loop-i.invariant (differs_here _ _ _ c.loop-i-test.true (omega arith) ∙ other _ _ c.if-one-i.true)

pub loop-i-preserved : goal.loop-i-preserved
loop-i-preserved c = (any_below_more _ _ c.loop-i.invariant (differs_here _ _ _ c.loop-i-test.true (omega arith) ∙ same _ _ c.if-one-i.false))

pub returns : goal.returns
returns c = let e : c.loop-i.i ≡ length c.args.one.now = omega arith in
    first-all _ _ _ (rw e at c.loop-i.invariant)
