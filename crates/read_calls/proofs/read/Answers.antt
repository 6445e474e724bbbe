use Rattle.std.proofs.lemmas.Result.{err_from_is_err_and}
use Rattle.call_laws.specs.Opened.{opened, read_answered, read_refused}
use Rattle.read_calls.proofs.read.Goals as goal

pub read_named-requires : goal.read_named-requires
read_named-requires c = (_, opened _ _ _ _ _ _ c.open.ensures.outcome _ c.in_ok-t.was _ _ _ _ _ c.open.ensures.opened)

pub returns-in_err-t : goal.returns-in_err-t
returns-in_err-t c = let p = err_from_is_err_and c.from_residual.result c.from_residual.ensures.1 in
    rw (p.1, p.2) (read_refused _ _ _ _ _ _ c.open.ensures.outcome _ c.in_err-t.was _ _ _ _)

pub returns : goal.returns
returns c = read_answered _ _ _ _ _ _ c.open.ensures.outcome _ c.in_ok-t.was _ _ _ _ _ _ c.read_named.ensures.answer c.read_named.ensures.output
