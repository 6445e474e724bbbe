use Rattle.std.proofs.lemmas.Result.{err_from_is_err_and}
use Rattle.call_laws.specs.Opened.{opened, heads_long}
use Rattle.call_laws.specs.Changed.{make_answered, make_refused}
use borrow.Author.Rules.{rules}
use Rattle.change_calls.proofs.make.Goals as goal

pub make_named-requires : goal.make_named-requires
make_named-requires c = (opened _ _ _ _ _ _ c.open.ensures.outcome _ c.in_ok-t.was _ _ _ _ _ c.open.ensures.opened, heads_long _ _ _ _ _ _ c.open.ensures.outcome _ c.in_ok-t.was (search rules))

pub returns-in_err-t : goal.returns-in_err-t
returns-in_err-t c = let p = err_from_is_err_and c.from_residual.result c.from_residual.ensures.1 in
    rw (p.1, p.2) (make_refused _ _ _ _ _ _ c.open.ensures.outcome _ c.in_err-t.was _ _ _ _ _ _ _ _)

pub returns : goal.returns
returns c = make_answered _ _ _ _ _ _ c.open.ensures.outcome _ c.in_ok-t.was _ _ _ _ _ _ _ _ _ _ _ _ c.make_named.ensures
