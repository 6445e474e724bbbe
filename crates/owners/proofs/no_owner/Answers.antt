use borrow.Author.Tests.{eq-eqb, ne_eqb}
use borrow.Author.Rules.{rules}
use Rattle.counting.specs.Laws.{any_below-none, any_below_hit}
use Rattle.owners.proofs.Laws.{any_kept}
use native.Mathlib.Omega.{arith}
use mathlib.Core.Path.{◌≡◌, sym}
use Rattle.owners.proofs.no_owner.Goals as goal
use Rattle.owners.proofs.no_owner.Goals.{then-blocks-x-eq0, else-blocks-x-eq0}

pub loop-x-init : goal.loop-x-init
loop-x-init c = (search rules, sym (any_below-none _))

pub loop-x-preserved : goal.loop-x-preserved
loop-x-preserved c = let l = c.loop-x in
    elim c.if-blocks-x-eq0.branch [
      | then-blocks-x-eq0 w ↦ (search rules, rw w.free-is (sym (any_below_hit _ l.x _ (omega arith) (eq-eqb _ _ w.if-blocks-x-eq0.true))))
      | else-blocks-x-eq0 w ↦ (search rules, rw w.free-is (any_kept _ _ l.x l.invariant.1 (ne_eqb _ _ w.if-blocks-x-eq0.false)))
    ]

pub returns : goal.returns
returns c = let e : c.loop-x.x ≡ c.args.n = omega arith in rw e at c.loop-x.invariant.1
