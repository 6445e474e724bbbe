use mathlib.Core.Path.{refl}
use Rattle.std.proofs.lemmas.Result.{err_from_is_err_and}
use Rattle.bitmap_laws.specs.Outcomes.{table_shown, differs_answered, differs_refused}
use Rattle.bitmap_calls.proofs.bitmap_differs.Goals as goal

pub compare_bitmap-requires : goal.compare_bitmap-requires
compare_bitmap-requires c = record { shown = table_shown _ _ _ _ _ _ c.check_disk.ensures.outcome _ c.in_ok-check_disk.was; fields_value = refl }

pub returns : goal.returns
returns c = differs_answered _ _ _ _ _ _ c.check_disk.ensures.outcome _ c.in_ok-check_disk.was _ _ _ c.compare_bitmap.ensures.answer c.compare_bitmap.ensures.told

pub returns-in_err-check_disk : goal.returns-in_err-check_disk
returns-in_err-check_disk c = let p = err_from_is_err_and c.from_residual.result c.from_residual.ensures.1 in
    rw (p.1, p.2) (differs_refused _ _ _ _ _ _ c.check_disk.ensures.outcome _ c.in_err-check_disk.was _)
