use Prim.Native.Nat.{◌+◌}
use mathlib.Core.Path.{◌≡◌, sym}
use native.Mathlib.Omega.{arith}
use Rattle.settings.specs.Laws.{power_more, power_small, number_none, number_more}
use borrow.Author.Rules.{rules}
use Rattle.settings.proofs.number_at.Goals as goal

pub loop-i-init : goal.loop-i-init
loop-i-init c = (sym (number_none _ _), search rules)

pub overflow_mul-v : goal.overflow_mul-v
overflow_mul-v c = omega (arith, power_more c.loop-i.i, power_small (c.loop-i.i + 1) (omega arith))

pub overflow_add-v : goal.overflow_add-v
overflow_add-v c = omega (arith, power_more c.loop-i.i, power_small (c.loop-i.i + 1) (omega arith))

pub loop-i-preserved : goal.loop-i-preserved
loop-i-preserved c = let l = c.loop-i in
    (omega (arith, number_more l.i c.args.bytes.now c.args.at), omega (arith, power_more l.i))

pub returns : goal.returns
returns c = let e : c.loop-i.i ≡ c.args.width = omega arith in
    rw e at c.loop-i.invariant.0
