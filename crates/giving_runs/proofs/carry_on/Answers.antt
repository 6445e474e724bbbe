use borrow.Author.Rules.{rules}
use Rattle.giving_runs.proofs.carry_on.Goals as goal

pub returns-then-above : goal.returns-then-above
returns-then-above c = (search rules, search rules, rw c.if-above.true c.end_after.ensures, rw c.if-above.true)

pub returns : goal.returns
returns c = (search rules, search rules, rw c.if-above.false, rw c.if-above.false c.end_after-2.ensures)
