use Rattle.std.proofs.lemmas.Result.{err_from_is_err_and}
use Rattle.named_changes.proofs.Laws.{leaves_unchanged, leaves_named}
use Rattle.change_laws.specs.Answers.{resize_late, file-found}
use Rattle.change_laws.specs.Reached.{named-member}
use Rattle.named_changes.proofs.resize_named.Goals as goal

pub find_file-requires : goal.find_file-requires
find_file-requires c = let p = c.requires.0 in (_, p.0, p.1)

pub returns-in_err-e : goal.returns-in_err-e
returns-in_err-e c = let p = err_from_is_err_and c.from_residual.result c.from_residual.ensures.1 in
    rw (p.1, p.2) (leaves_unchanged _ _ _ (resize_late _ _ _ _) _ c.in_err-e.ensures _ _)

pub resize_entry-requires : goal.resize_entry-requires
resize_entry-requires c = let f = c.in_ok-e.ensures in
    let p = c.requires in
    let d = file-found _ _ _ _ _ f.1 f.0 in
    record { loaded = (p.0.1.loaded, (_, d.0, named-member _ _ _ _ _ f.1)); kind_value = (d.1, p.1) }

pub returns : goal.returns
returns c = let f = c.in_ok-e.ensures in
    leaves_named _ _ _ _ _ f.0 f.1 _ _ _ _ _ _ c.resize_entry.ensures
