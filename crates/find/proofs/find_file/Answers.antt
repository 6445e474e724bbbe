use Rattle.std.proofs.lemmas.Result.{err_from_is_err_and}
use Rattle.change_laws.specs.Answers.{file-row}
use Rattle.find.proofs.Laws.{refused_before, refused_now, passed-now}
use Rattle.rules.specs.Lookup.{names_dir}
use mathlib.Core.Path.{sym}
use Rattle.find.proofs.find_file.Goals as goal

pub returns-in_err-e : goal.returns-in_err-e
returns-in_err-e c = let p = err_from_is_err_and c.from_residual.result c.from_residual.ensures.1 in
    rw (p.1, p.2) (refused_before _ _ _ (file-row _ _ _ _) _ c.in_err-e.ensures)

pub returns-then-is_directory : goal.returns-then-is_directory
returns-then-is_directory c = refused_now names_dir _ _ _ _ _ (file-row _ _ _ _) c.in_ok-e.ensures _ (sym c.is_directory.ensures) c.if-is_directory.true

pub returns : goal.returns
returns c = passed-now names_dir _ _ _ _ _ (file-row _ _ _ _) c.in_ok-e.ensures _ (sym c.is_directory.ensures) c.if-is_directory.false
