use native.Mathlib.Omega.{arith}
use mathlib.Core.Path.{refl}
use borrow.Author.Tests.{eq-eqb, ne_eqb}
use Rattle.safe_makes.specs.SafePlanned.{room_number}
use Rattle.safe_makes.proofs.room_block.Goals as goal

pub returns-then-plan-ne0 : goal.returns-then-plan-ne0
unfolding room_number
returns-then-plan-ne0 c = rw (ne_eqb c.args.plan.parents.0 0 c.if-plan-ne0.true) refl

pub overflow_cast-result : goal.overflow_cast-result
overflow_cast-result c = omega (arith, c.requires c.if-plan-ne0.false)

pub returns : goal.returns
unfolding room_number
returns c = rw (eq-eqb c.args.plan.parents.0 0 c.if-plan-ne0.false) refl
