use Rattle.giving_back.proofs.ends_after.Goals as goal

pub returns-then-above : goal.returns-then-above
returns-then-above c = (rw c.if-above.true c.end_after.ensures, rw c.if-above.true)

pub returns : goal.returns
returns c = (rw c.if-above.false, rw c.if-above.false c.end_after-2.ensures)
