use Rattle.std.proofs.lemmas.Result.{err_from_is_err_and}
use Rattle.named_changes.proofs.Laws.{leaves_unchanged, leaves_named}
use Rattle.change_laws.specs.Answers.{remove_late, removable_found}
use Rattle.change_laws.specs.Reached.{named-member}
use Rattle.named_changes.proofs.remove_named.Goals as goal

pub find_removable-requires : goal.find_removable-requires
find_removable-requires c = let p = c.requires.0 in (_, p.0, p.1)

pub returns-in_err-e : goal.returns-in_err-e
returns-in_err-e c = let p = err_from_is_err_and c.from_residual.result c.from_residual.ensures.1 in
    rw (p.1, p.2) (leaves_unchanged _ _ _ (remove_late _ _ _ _) _ c.in_err-e.ensures _ _)

pub remove_entry-requires : goal.remove_entry-requires
remove_entry-requires c = let f = c.in_ok-e.ensures in
    let p = c.requires in
    record { loaded = (p.0.1.loaded, (_, (removable_found _ _ _ _ _ f.1 f.0).0, named-member _ _ _ _ _ f.1)); in_bounds = p.1 }

pub returns : goal.returns
returns c = let f = c.in_ok-e.ensures in
    leaves_named _ _ _ _ _ f.0 f.1 _ _ _ _ _ _ c.remove_entry.ensures
