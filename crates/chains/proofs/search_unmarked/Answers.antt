use mathlib.Core.Path.{◌≡◌, sym, ◌∙◌}
use native.Mathlib.Omega.{arith}
use borrow.Author.Rules.{rules}
use Rattle.counting.specs.Laws.{any_below-none, any_below_more, any_below_hit}
use Rattle.chains.proofs.search_unmarked.Goals as goal

pub loop-a-init : goal.loop-a-init
loop-a-init c = (search rules, any_below-none _)

pub returns-then-is_unmarked : goal.returns-then-is_unmarked
returns-then-is_unmarked c = sym (any_below_hit _ _ _ c.loop-a-test.true (sym c.is_unmarked.ensures ∙ c.if-is_unmarked.true))

pub loop-a-preserved : goal.loop-a-preserved
loop-a-preserved c = (search rules, any_below_more _ _ c.loop-a.invariant.1 (sym c.is_unmarked.ensures ∙ c.if-is_unmarked.false))

pub returns : goal.returns
returns c = let e : c.loop-a.a ≡ 3444 = omega arith in sym (rw e at c.loop-a.invariant.1)
