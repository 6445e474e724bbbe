use Rattle.std.proofs.lemmas.Result.{err_from_is_err_and}
use Rattle.call_laws.specs.Opened.{opened}
use Rattle.look_calls.proofs.Laws.{find_answered, find_refused}
use Rattle.look_calls.proofs.find.Goals as goal

pub find_entry-requires : goal.find_entry-requires
find_entry-requires c = (_, _, opened _ _ _ _ _ _ c.open.ensures.outcome _ c.in_ok-t.was _ _ _ _ _ c.open.ensures.opened)

pub returns-in_err-t : goal.returns-in_err-t
returns-in_err-t c = let p = err_from_is_err_and c.from_residual.result c.from_residual.ensures.1 in
    rw (p.1, p.2) (find_refused _ _ _ _ _ _ c.open.ensures.outcome _ c.in_err-t.was _ _)

pub returns : goal.returns
returns c = find_answered _ _ _ _ _ _ c.open.ensures.outcome _ c.in_ok-t.was _ _ _ _ c.find_entry.ensures.answer c.find_entry.ensures.fields
