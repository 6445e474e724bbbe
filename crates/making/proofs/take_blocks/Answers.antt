use mathlib.Core.Path.{sym, subst}
use mathlib.Core.Bool.{Bool}
use mathlib.Core.List.{List}
use Rattle.placing.proofs.Found.{passed_on}
use Prim.Native.Nat.{ℕ}
use Rattle.rules.specs.Anodes.{limit}
use Rattle.rules.specs.Accepted.{disk_size, last_reserved}
use Rattle.rules.specs.Plans.{Slotted}
use Rattle.laws.specs.Moves.{Grows}
use Rattle.placing.specs.States.{Ready}
use Rattle.growing.specs.Grown.{growth_if}
use Rattle.growing.proofs.States.{growth-if_grows}
use Rattle.making.proofs.Steps.{first_ready, next_ready, full_is, first_stopped, next_stopped, both_taken}
use Rattle.making.proofs.take_blocks.Goals as goal

grows : (growing : Bool) (img : List ℕ) → Grows limit (disk_size img) (last_reserved img) (growth_if growing)
grows growing img = growth-if_grows growing (disk_size img) (last_reserved img)

pub take_needed-requires-clause-by_index : goal.take_needed-requires-clause-by_index
take_needed-requires-clause-by_index c =
    let (img, begun) = c.requires.by_index in
    (last_reserved img, subst (λ (t : Slotted). Ready (last_reserved img) t c.args.fresh.0) (sym begun.state) (first_ready (grows c.args.growing img) begun.fresh))

pub returns-in_err-own : goal.returns-in_err-own
returns-in_err-own c = λ img len begun found.
    rw (passed_on c.from_residual.result _ c.from_residual.ensures.1)
    (first_stopped begun.fresh _ len _ found _ (rw (c.in_err-own.was, c.is_directory.ensures, begun.state) at c.take_needed.ensures))

pub take_needed-requires-2-clause-by_index : goal.take_needed-requires-2-clause-by_index
take_needed-requires-2-clause-by_index c =
    let (img, begun) = c.requires.by_index in
    (_, next_ready (grows c.args.growing img) begun.fresh _ _ _ (sym (rw (c.in_ok-own.was, begun.state) at c.take_needed.ensures)))

pub returns-in_err-parents : goal.returns-in_err-parents
returns-in_err-parents c = λ img len begun found.
    rw (passed_on c.from_residual-in_err-parents.result _ c.from_residual-in_err-parents.ensures.1)
    (next_stopped begun.fresh _ len _ found _ _ (rw (c.in_ok-own.was, c.is_directory.ensures, begun.state) at c.take_needed.ensures)
    _ (rw (c.in_err-parents.was, full_is c.args.room _ c.is_none-full.ensures) at c.take_needed-2.ensures))

pub returns : goal.returns
returns c = λ img len begun found.
    both_taken begun.fresh _ len _ found _ _ (rw (c.in_ok-own.was, c.is_directory.ensures, begun.state) at c.take_needed.ensures)
    _ _ (rw (c.in_ok-parents.was, full_is c.args.room _ c.is_none-full.ensures) at c.take_needed-2.ensures) _ c.start_for-start.ensures
