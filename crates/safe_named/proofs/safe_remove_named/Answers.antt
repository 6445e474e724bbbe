use Rattle.std.proofs.lemmas.Result.{err_from_is_err_and}
use Rattle.safe_named.proofs.Laws.{call_refused, call_changes, found_change}
use Rattle.change_laws.specs.Answers.{removable_found}
use Rattle.change_laws.specs.Reached.{named-member}
use Rattle.safe_named.proofs.safe_remove_named.Goals as goal

pub find_removable-requires : goal.find_removable-requires
find_removable-requires c = let p = c.requires.0 in (_, p.0, p.1)

pub returns-in_err-e : goal.returns-in_err-e
returns-in_err-e c = let p = err_from_is_err_and c.from_residual.result c.from_residual.ensures.1 in
    rw (p.1, p.2) (call_refused _ _ _ _ c.in_err-e.ensures)

pub safe_remove_entry-requires : goal.safe_remove_entry-requires
safe_remove_entry-requires c = let f = c.in_ok-e.ensures in
    let p = c.requires in
    record { loaded = (p.0.1.loaded, p.1); home_value = ((removable_found _ _ _ _ _ f.1 f.0).0, named-member _ _ _ _ _ f.1) }

pub returns : goal.returns
returns c = let f = c.in_ok-e.ensures in
    call_changes _ _ _ f.0 _ (found_change _ _ _ f.1) _ _ _ c.safe_remove_entry.ensures
