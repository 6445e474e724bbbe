use Rattle.compare_calls.proofs.Outcomes.{second_refused, second_given, few_given}
use mathlib.Core.Path.{refl}
use native.Mathlib.Omega.{arith}
use Rattle.disk.proofs.Laws.{number_some}
use Rattle.call_laws.specs.Opened.{opened}
use Rattle.compare_calls.proofs.compare_second.Goals as goal

pub hand_differences-handed-requires : goal.hand_differences-handed-requires
hand_differences-handed-requires c = record { open_walk = c.requires; open_walk_2 = (_, _, opened _ _ _ _ _ _ c.open.ensures.outcome _ c.in-Ok.is _ _ _ _ _ c.open.ensures.opened) }

pub overflow_cast-result : goal.overflow_cast-result
overflow_cast-result c = omega (arith, few_given _ _ _ _ _ _ _ c.hand_differences-handed.ensures)

pub returns-in-Ok : goal.returns-in-Ok
returns-in-Ok c = second_given _ _ _ _ _ _ _ _ (rw c.in-Ok.is at c.open.ensures.outcome) _ _ _ _ c.hand_differences-handed.ensures refl

pub returns-in-Err : goal.returns-in-Err
returns-in-Err c = second_refused _ _ _ _ _ _ _ _ _ (number_some c.in-Err.refusal) (rw c.in-Err.is at c.open.ensures.outcome)
