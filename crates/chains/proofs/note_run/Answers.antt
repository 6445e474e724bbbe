use mathlib.Core.Path.{◌≡◌, ◌∙◌}
use native.Mathlib.Omega.{arith}
use borrow.Author.Rules.{rules}
use Rattle.chains.proofs.note_run.Goals as goal

pub loop-a-init : goal.loop-a-init
loop-a-init c = (search rules, search rules, c.requires.5)

pub note_pred-requires : goal.note_pred-requires
note_pred-requires c = let p = c.requires in let i = c.loop-a.invariant in (search rules, i.1 ∙ p.2, p.3, p.4, i.2)

pub returns-then-note_pred : goal.returns-then-note_pred
returns-then-note_pred c = rw c.if-note_pred.true at c.note_pred.ensures

pub loop-a-preserved : goal.loop-a-preserved
loop-a-preserved c = (search rules, search rules, rw c.if-note_pred.false at c.note_pred.ensures)

pub returns : goal.returns
returns c = let e : c.loop-a.a ≡ c.args.end = omega arith in rw e at c.loop-a.invariant.2
