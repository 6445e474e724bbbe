use Rattle.compare_calls.proofs.Outcomes.{first_refused, first-accepted}
use Rattle.disk.proofs.Laws.{number_some}
use Rattle.call_laws.specs.Opened.{opened}
use Rattle.compare_calls.proofs.compare_into.Goals as goal

pub compare_second-requires : goal.compare_second-requires
compare_second-requires c = (_, _, opened _ _ _ _ _ _ c.open.ensures.outcome _ c.in-Ok.is _ _ _ _ _ c.open.ensures.opened)

pub returns-in-Ok : goal.returns-in-Ok
returns-in-Ok c = first-accepted _ _ _ _ _ _ _ _ _ _ (rw c.in-Ok.is at c.open.ensures.outcome) _ c.compare_second.ensures

pub returns-in-Err : goal.returns-in-Err
returns-in-Err c = first_refused _ _ _ _ _ _ _ _ _ _ _ (number_some c.in-Err.refusal) (rw c.in-Err.is at c.open.ensures.outcome)
