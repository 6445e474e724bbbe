use mathlib.Core.Path.{◌≡◌, sym, ◌∙◌}
use native.Mathlib.Omega.{arith}
use borrow.Author.Rules.{rules}
use Rattle.counting.specs.Laws.{any_below_more, any_below_hit}
use Rattle.chains.proofs.run_out_of_range.Goals as goal

pub loop-a-init : goal.loop-a-init
loop-a-init c = (search rules, c.requires.1)

pub returns-then-anode_out_of_range : goal.returns-then-anode_out_of_range
returns-then-anode_out_of_range c = sym (any_below_hit _ _ _ c.loop-a-test.true (sym c.anode_out_of_range.ensures ∙ c.if-anode_out_of_range.true))

pub loop-a-preserved : goal.loop-a-preserved
loop-a-preserved c = (search rules, any_below_more _ _ c.loop-a.invariant.1 (sym c.anode_out_of_range.ensures ∙ c.if-anode_out_of_range.false))

pub returns : goal.returns
returns c = let e : c.loop-a.a ≡ c.args.end = omega arith in sym (rw e at c.loop-a.invariant.1)
