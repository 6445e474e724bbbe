use Rattle.rules.specs.Anodes.{anodes_of}
use Rattle.rules.specs.Lookup.{entries_of, nth}
use Rattle.read_calls.proofs.Laws.{handed_is}
use Rattle.std.proofs.lemmas.Result.{err_from_is_err_and}
use Rattle.call_laws.specs.Opened.{opened, list_answered, list_refused}
use Rattle.read_calls.proofs.list.Goals as goal

pub list_nth-requires : goal.list_nth-requires
list_nth-requires c = (_, _, opened _ _ _ _ _ _ c.open.ensures.outcome _ c.in_ok-t.was _ _ _ _ _ c.open.ensures.opened)

pub returns-in_err-t : goal.returns-in_err-t
returns-in_err-t c = let p = err_from_is_err_and c.from_residual.result c.from_residual.ensures.1 in
    rw (p.1, p.2) (record { outcome = list_refused _ _ _ _ _ _ c.open.ensures.outcome _ c.in_err-t.was _ _; part = tt })

pub returns : goal.returns
returns c = let e = c.list_nth.ensures in let a = c.args in
    let o = nth (entries_of a.image.now (anodes_of a.image.now) a.directory) a.place in
    record { outcome = list_answered _ _ _ _ _ _ c.open.ensures.outcome _ c.in_ok-t.was _ _ _ _ _ e.answer e.fields (handed_is c.list_nth.result o e.name); part = e.part }
