use mathlib.Core.Path.{◌≡◌, sym, ◌∙◌}
use native.Mathlib.Omega.{arith}
use Rattle.counting.specs.Laws.{any_below-none, any_below_more, any_below_hit}
use borrow.Author.Rules.{rules}
use Rattle.tree.proofs.any_unnamed.Goals as goal

pub loop-x-init : goal.loop-x-init
loop-x-init c = (search rules, any_below-none _)

pub returns-then-is_unnamed : goal.returns-then-is_unnamed
returns-then-is_unnamed c = sym (any_below_hit _ _ _ c.loop-x-test.true (sym c.is_unnamed.ensures ∙ c.if-is_unnamed.true))

pub loop-x-preserved : goal.loop-x-preserved
loop-x-preserved c = (search rules, any_below_more _ _ c.loop-x.invariant.1 (sym c.is_unnamed.ensures ∙ c.if-is_unnamed.false))

pub returns : goal.returns
returns c = let e : c.loop-x.x ≡ 3444 = omega arith in sym (rw e at c.loop-x.invariant.1)
