use Rattle.std.proofs.lemmas.Result.{err_from_is_err_and}
use Rattle.change_laws.specs.Answers.{not_empty-row}
use Rattle.find.proofs.Laws.{nonempty_by, refused_before, refused_now, passed-now}
use Rattle.rules.specs.Anodes.{anodes_of}
use Rattle.rules.specs.Lookup.{not_empty_dir}
use Rattle.lookup.specs.Answers.{entered}
use Rattle.find.proofs.find_removable.Goals as goal

pub returns-in_err-e : goal.returns-in_err-e
returns-in_err-e c = let p = err_from_is_err_and c.from_residual.result c.from_residual.ensures.1 in
    rw (p.1, p.2) (refused_before _ _ _ (not_empty-row _ _ _ _) _ c.in_err-e.ensures)

pub returns-then-is_nonempty_dir : goal.returns-then-is_nonempty_dir
returns-then-is_nonempty_dir c = let i = c.args.image.now in
    refused_now (not_empty_dir i (anodes_of i)) _ _ _ _ _ (not_empty-row _ _ _ _) c.in_ok-e.ensures _ (nonempty_by c.requires.2 (entered i c.in_ok-e.e) _ c.is_nonempty_dir.ensures) c.if-is_nonempty_dir.true

pub returns : goal.returns
returns c = let i = c.args.image.now in
    passed-now (not_empty_dir i (anodes_of i)) _ _ _ _ _ (not_empty-row _ _ _ _) c.in_ok-e.ensures _ (nonempty_by c.requires.2 (entered i c.in_ok-e.e) _ c.is_nonempty_dir.ensures) c.if-is_nonempty_dir.false
