use Rattle.std.proofs.lemmas.Result.{err_from_is_err_and}
use Rattle.bitmap_laws.specs.Outcomes.{table_shown, bitmap_answered, bitmap_refused}
use Rattle.bitmap_calls.proofs.bitmap.Goals as goal

pub make_bitmap-requires : goal.make_bitmap-requires
make_bitmap-requires c = table_shown _ _ _ _ _ _ c.check_disk.ensures.outcome _ c.in_ok-check_disk.was

pub returns : goal.returns
returns c = bitmap_answered _ _ _ _ _ _ c.check_disk.ensures.outcome _ c.in_ok-check_disk.was _ _ _ c.make_bitmap.ensures.answer c.make_bitmap.ensures.made

pub returns-in_err-check_disk : goal.returns-in_err-check_disk
returns-in_err-check_disk c = let p = err_from_is_err_and c.from_residual.result c.from_residual.ensures.1 in
    rw (p.1, p.2) (bitmap_refused _ _ _ _ _ _ c.check_disk.ensures.outcome _ c.in_err-check_disk.was _)
