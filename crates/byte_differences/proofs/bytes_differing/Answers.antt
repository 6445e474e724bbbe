use mathlib.Core.Bool.{not}
use lib.Dec.{eqb}
use lib.ListN.{length, get_or}
use Rattle.byte_differences.proofs.Comparing.{many_counted, many_none, one-most}
use mathlib.Core.Path.{◌≡◌, sym}
use native.Mathlib.Omega.{arith}
use borrow.Author.Rules.{rules}
use Rattle.byte_differences.proofs.bytes_differing.Goals as goal

pub loop-i-init : goal.loop-i-init
loop-i-init c = (search rules, sym (many_none _ _))

pub overflow_add-many : goal.overflow_add-many
overflow_add-many c = omega (arith, one-most (not (eqb (get_or c.args.one.now c.loop-i.i 0) (get_or c.args.other.now c.loop-i.i 0))))

pub loop-i-preserved : goal.loop-i-preserved
loop-i-preserved c = let differs = not (eqb (get_or c.args.one.now c.loop-i.i 0) (get_or c.args.other.now c.loop-i.i 0)) in
    (omega (arith, one-most differs), rw c.loop-i.invariant.1 (many_counted _ _ _ c.loop-i-test.true (omega arith)))

pub returns : goal.returns
returns c = let e : c.loop-i.i ≡ length c.args.one.now = omega arith in rw e at c.loop-i.invariant.1
