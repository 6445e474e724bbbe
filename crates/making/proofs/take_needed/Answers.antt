use Rattle.making.proofs.Steps.{step_none, step_taken}
use Rattle.making.proofs.take_needed.Goals as goal

pub returns-then-needed : goal.returns-then-needed
returns-then-needed c = let s = c in
    let w = c.take_block in
    rw c.if-needed.true (step_taken s.args.growing s.requires.by_index.1 w.result _ w.ensures)

pub returns : goal.returns
returns c = rw c.if-needed.false (step_none _ _ _)
