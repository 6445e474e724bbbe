use Rattle.placing.proofs.Found.{passed_on}
use Rattle.safe_stores.proofs.Leaves.{leaves_stopped}
use Rattle.safe_makes.proofs.make_on_copies.Goals as goal

pub plan_safely-requires : goal.plan_safely-requires
plan_safely-requires c = let s = c in record { loaded = (s.requires.loaded.1, s.requires.loaded.2, s.requires.head_value.0); slots_value = s.requires.slots_value; name_value = s.requires.name_value }

pub returns-in_err-made : goal.returns-in_err-made
returns-in_err-made c = let s = c in
    let a = s.args in
    rw (passed_on c.from_residual.result _ c.from_residual.ensures.1)
    (leaves_stopped a.image.now a.out.now _ s.requires.count_value.2 _ (rw c.in_err-made.was at (c.plan_safely.ensures a.day a.minute a.tick a.protection)))

pub finish_make-requires : goal.finish_make-requires
finish_make-requires c = let s = c in
    let a = s.args in
    record { loaded = s.requires.loaded.0; head_value = s.requires.head_value; name_value = s.requires.name_value; safely_made = rw c.in_ok-made.was at (c.plan_safely.ensures a.day a.minute a.tick a.protection); count_value = s.requires.count_value }
