use Rattle.std.proofs.lemmas.Result.{err_from_is_err_and}
use Rattle.look_calls.proofs.Laws.{label-accepted, label_refused}
use Rattle.look_calls.proofs.label.Goals as goal

pub returns-in_err-check_disk : goal.returns-in_err-check_disk
returns-in_err-check_disk c = let p = err_from_is_err_and c.from_residual.result c.from_residual.ensures.1 in
    rw (p.1, p.2) (label_refused _ _ _ _ _ _ c.check_disk.ensures.outcome _ c.in_err-check_disk.was)

pub returns : goal.returns
returns c = label-accepted _ _ _ _ _ _ c.check_disk.ensures.outcome _ c.in_ok-check_disk.was _ c.put_label.ensures
