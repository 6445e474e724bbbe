use Rattle.std.proofs.lemmas.Result.{err_from_is_err_and}
use Rattle.call_laws.specs.Opened.{opened, heads_long}
use Rattle.call_laws.specs.Changed.{remove_answered, remove_refused}
use borrow.Author.Rules.{rules}
use Rattle.change_calls.proofs.remove.Goals as goal

pub remove_named-requires : goal.remove_named-requires
remove_named-requires c = ((_, opened _ _ _ _ _ _ c.open.ensures.outcome _ c.in_ok-t.was _ _ _ _ _ c.open.ensures.opened), heads_long _ _ _ _ _ _ c.open.ensures.outcome _ c.in_ok-t.was (search rules))

pub returns-in_err-t : goal.returns-in_err-t
returns-in_err-t c = let p = err_from_is_err_and c.from_residual.result c.from_residual.ensures.1 in
    rw (p.1, p.2) (remove_refused _ _ _ _ _ _ c.open.ensures.outcome _ c.in_err-t.was _ _)

pub returns : goal.returns
returns c = remove_answered _ _ _ _ _ _ c.open.ensures.outcome _ c.in_ok-t.was _ _ _ _ _ _ c.remove_named.ensures
