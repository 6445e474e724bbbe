use Rattle.std.proofs.lemmas.Result.{err_from_is_err_and}
use Rattle.safe_calls.proofs.Outcomes.{refused_outcome, shows_blocks, listed_answered}
use Rattle.call_laws.specs.Opened.{opened}
use Rattle.safe_calls.proofs.change_checked.Goals as goal

pub change_shown-requires : goal.change_shown-requires
change_shown-requires c = (opened _ _ _ _ _ _ c.open.ensures.outcome _ c.in_ok-t.was _ _ _ _ _ c.open.ensures.opened, shows_blocks _ _ _ _ _ _ c.open.ensures.outcome _ c.in_ok-t.was)

pub returns-in_err-t : goal.returns-in_err-t
returns-in_err-t c = let p = err_from_is_err_and c.from_residual.result c.from_residual.ensures.1 in
    rw (p.1, p.2) (refused_outcome _ _ _ _ _ _ c.open.ensures.outcome _ c.in_err-t.was _ _)

pub returns : goal.returns
returns c = let s = c.change_shown in
    listed_answered _ _ _ _ _ _ c.open.ensures.outcome _ c.in_ok-t.was _ _ _ _ _ s.ensures.left s.auto.image c.open.auto.blocks c.open.auto.anodes _ _ s.ensures.shown
