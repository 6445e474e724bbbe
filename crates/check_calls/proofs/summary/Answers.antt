use native.Mathlib.Omega.{arith}
use Rattle.std.proofs.lemmas.Result.{err_from_is_err_and}
use Rattle.fsck.proofs.Laws.{outcome_size}
use Rattle.call_laws.specs.Opened.{summary_accepted, summary_refused}
use Rattle.check_calls.proofs.summary.Goals as goal

pub overflow_cast-fields : goal.overflow_cast-fields
overflow_cast-fields c = omega (arith, c.disk_size.ensures, outcome_size _ _ _ _ _ c.in_ok-t.was _ _ c.check_disk.ensures.outcome)

pub returns : goal.returns
returns c = summary_accepted _ _ _ _ _ _ c.check_disk.ensures.outcome _ c.in_ok-t.was c.check_disk.ensures.tally _ c.disk_size.ensures

pub returns-in_err-t : goal.returns-in_err-t
returns-in_err-t c = let p = err_from_is_err_and c.from_residual.result c.from_residual.ensures.1 in
    rw (p.1, p.2) (summary_refused _ _ _ _ _ _ c.check_disk.ensures.outcome _ c.in_err-t.was)
