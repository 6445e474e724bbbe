use native.Mathlib.Omega.{arith}
use borrow.Author.Tests.{eq-eqb, ne_eqb}
use Rattle.rules.specs.Changes.{with_blocks}
use Rattle.safe_makes.specs.SafePlanned.{start_bytes}
use Rattle.safe_makes.proofs.start_block.Goals as goal

pub returns-then-plan-ne0 : goal.returns-then-plan-ne0
unfolding start_bytes with_blocks
returns-then-plan-ne0 c = rw (ne_eqb c.args.plan.parents.0 0 c.if-plan-ne0.true) c.put_header.ensures

pub overflow_cast-plan : goal.overflow_cast-plan
overflow_cast-plan c = omega (arith, (c.requires.0 c.if-plan-ne0.false).0)

pub copy_block-requires : goal.copy_block-requires
copy_block-requires c = ((c.requires.0 c.if-plan-ne0.false).1, c.requires.1)

pub returns : goal.returns
unfolding start_bytes
returns c = rw (eq-eqb c.args.plan.parents.0 0 c.if-plan-ne0.false) c.copy_block.ensures
