use borrow.Author.Rules.{rules}
use Rattle.owners.proofs.Laws.{summed_none, summed_more, summed_tested}
use native.Mathlib.Omega.{arith}
use Prim.Native.Nat.{◌+◌}
use mathlib.Core.Path.{◌≡◌}
use Rattle.owners.proofs.any_marked.Goals as goal

pub loop-i-init : goal.loop-i-init
loop-i-init c = (search rules, summed_none _ _)

pub offset_bounds-blocks-i : goal.offset_bounds-blocks-i
offset_bounds-blocks-i c = let h = c.requires (omega arith) in
    search rules

pub bounds-blocks-i : goal.bounds-blocks-i
bounds-blocks-i c = let h = c.requires (omega arith) in
    search rules

pub overflow_cast-sum : goal.overflow_cast-sum
overflow_cast-sum c = omega (arith, c.type_inv.blocks c.loop-i.i)

pub overflow_add-sum : goal.overflow_add-sum
overflow_add-sum c = omega (arith, c.type_inv.blocks c.loop-i.i)

pub loop-i-preserved : goal.loop-i-preserved
loop-i-preserved c = let l = c.loop-i in
    (omega (arith, c.type_inv.blocks l.i), summed_more _ _ _ l.i l.auto.i l.invariant.1)

pub returns : goal.returns
returns c = let l = c.loop-i in
    let e : l.i ≡ c.args.first.0 + c.args.count = omega arith in
    summed_tested _ _ _ _ (rw e at l.invariant.1)
