use Rattle.std.proofs.lemmas.Result.{err_from_is_err_and}
use Rattle.call_laws.specs.Opened.{opened}
use Rattle.call_laws.specs.Changed.{write_answered, write_refused}
use Rattle.change_calls.proofs.write.Goals as goal

pub write_named-requires : goal.write_named-requires
write_named-requires c = (_, opened _ _ _ _ _ _ c.open.ensures.outcome _ c.in_ok-t.was _ _ _ _ _ c.open.ensures.opened)

pub returns-in_err-t : goal.returns-in_err-t
returns-in_err-t c = let p = err_from_is_err_and c.from_residual.result c.from_residual.ensures.1 in
    rw (p.1, p.2) (write_refused _ _ _ _ _ _ c.open.ensures.outcome _ c.in_err-t.was _ _ _ _)

pub returns : goal.returns
returns c = write_answered _ _ _ _ _ _ c.open.ensures.outcome _ c.in_ok-t.was _ _ _ _ _ _ _ _ (c.write_named.ensures _ _)
