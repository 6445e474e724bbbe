use Rattle.owners.proofs.Laws.{kept-none}
use Rattle.owners.proofs.mark_run.Goals as goal

pub returns-then-any_marked : goal.returns-then-any_marked
returns-then-any_marked c = record { run = rw c.if-any_marked.true at c.any_marked.ensures; kept = kept-none _ _ _ }

pub returns : goal.returns
returns c = record { run = (rw c.if-any_marked.false at c.any_marked.ensures, c.fill_run.ensures.run); kept = c.fill_run.ensures.kept }
