use Rattle.std.proofs.lemmas.Result.{err_from_is_err_and}
use Rattle.safe_named.proofs.Laws.{call_refused, call_changes, found_change}
use Rattle.change_laws.specs.Answers.{file-found}
use Rattle.change_laws.specs.Reached.{named-member}
use Rattle.change_tables.specs.Chains.{reached-entry}
use Rattle.safe_laws.specs.SameSize.{same_change}
use Rattle.lookup.specs.Answers.{entered}
use mathlib.Core.Path.{sym, ◌∙◌}
use Rattle.safe_named.proofs.safe_resize_named.Goals as goal

pub find_file-requires : goal.find_file-requires
find_file-requires c = let p = c.requires.0 in (_, p.0, p.1)

pub returns-in_err-e : goal.returns-in_err-e
returns-in_err-e c = let p = err_from_is_err_and c.from_residual.result c.from_residual.ensures.1 in
    rw (p.1, p.2) (call_refused _ _ _ _ c.in_err-e.ensures)

pub safe_write_entry-requires : goal.safe_write_entry-requires
safe_write_entry-requires c = let f = c.in_ok-e.ensures in
    let p = c.requires in
    let d = file-found _ _ _ _ _ f.1 f.0 in
    record { loaded = (p.0.1.loaded, p.1); reached_entry = ((_, d.0, named-member _ _ _ _ _ f.1), d.1) }

pub returns-then-e-size : goal.returns-then-e-size
returns-then-e-size c = let f = c.in_ok-e.ensures in
    let a = c.args in
    let d = file-found _ _ _ _ _ f.1 f.0 in
    let m = reached-entry c.requires.0.1.loaded (entered a.image.now c.in_ok-e.e) (_, d.0, named-member _ _ _ _ _ f.1) in
    call_changes _ _ _ f.0 _ (found_change _ _ _ f.1 ∙ sym (same_change m d.1 a.size c.if-e-size.true)) _ _ _ c.safe_write_entry.ensures

pub safe_resize_entry-requires : goal.safe_resize_entry-requires
safe_resize_entry-requires c = let f = c.in_ok-e.ensures in
    let p = c.requires in
    let d = file-found _ _ _ _ _ f.1 f.0 in
    record { loaded = (p.0.1.loaded, p.1); home_value = (d.0, named-member _ _ _ _ _ f.1); kind_value = (d.1, c.if-e-size.false) }

pub returns : goal.returns
returns c = let f = c.in_ok-e.ensures in
    call_changes _ _ _ f.0 _ (found_change _ _ _ f.1) _ _ _ c.safe_resize_entry.ensures
