use mathlib.Core.Path.{◌≡◌, sym}
use native.Mathlib.Omega.{arith}
use borrow.Author.Rules.{rules}
use Rattle.chains.proofs.Endings.{unmarked-first, unmarked_more}
use Rattle.chains.proofs.any_unmarked.Goals as goal

pub loop-a-init : goal.loop-a-init
loop-a-init c = (search rules, search rules, sym (unmarked-first _ _))

pub loop-a-preserved : goal.loop-a-preserved
loop-a-preserved c = let l = c.loop-a in
    (search rules, search rules, rw l.invariant.2 (unmarked_more _ _ l.a l.invariant.0))

pub returns : goal.returns
returns c = let e : c.loop-a.a ≡ 3444 = omega arith in rw e at c.loop-a.invariant.2
