use mathlib.Core.Path.{refl, sym, ◌∙◌}
use native.Mathlib.Omega.{arith}
use Rattle.searches.proofs.Searches.{used_from, used_found, used_next, used_end}
use Rattle.searches.proofs.search_used.Goals as goal

pub loop-a-init : goal.loop-a-init
loop-a-init c = λ x n. used_from x _ n _ _ _ (omega arith) refl

pub returns-then-entry-eq0 : goal.returns-then-entry-eq0
returns-then-entry-eq0 c = λ x n.
    let l = c.loop-a in
    used_found x _ n _ _ _ (omega arith) c.loop-a-test.true (sym c.entry.ensures ∙ c.if-entry-eq0.true) ∙ l.invariant x n

pub loop-a-preserved : goal.loop-a-preserved
loop-a-preserved c = let l = c.loop-a in
    λ x n. used_next x _ n _ _ _ (omega arith) c.loop-a-test.true (rw c.entry.ensures at c.if-entry-eq0.false) ∙ l.invariant x n

pub returns : goal.returns
returns c = λ x n. let l = c.loop-a in used_end x _ n _ _ _ (omega arith) (omega arith) ∙ l.invariant x n
