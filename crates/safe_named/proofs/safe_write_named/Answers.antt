use Rattle.std.proofs.lemmas.Result.{err_from_is_err_and}
use Rattle.safe_named.proofs.Laws.{call_refused, call_changes, found_change}
use Rattle.change_laws.specs.Answers.{span_found}
use Rattle.change_laws.specs.Reached.{named-member}
use Rattle.safe_named.proofs.safe_write_named.Goals as goal

pub find_span-requires : goal.find_span-requires
find_span-requires c = let p = c.requires.0 in (_, p.0, p.1)

pub returns-in_err-e : goal.returns-in_err-e
returns-in_err-e c = let p = err_from_is_err_and c.from_residual.result c.from_residual.ensures.1 in
    rw (p.1, p.2) (call_refused _ _ _ _ c.in_err-e.ensures)

pub safe_write_entry-requires : goal.safe_write_entry-requires
safe_write_entry-requires c = let f = c.in_ok-e.ensures in
    let p = c.requires in
    let d = span_found _ _ _ _ _ f.1 _ _ f.0 in
    record { loaded = (p.0.1.loaded, p.1); reached_entry = ((_, d.0, named-member _ _ _ _ _ f.1), d.1) }

pub returns : goal.returns
returns c = let f = c.in_ok-e.ensures in
    call_changes _ _ _ f.0 _ (found_change _ _ _ f.1) _ _ _ c.safe_write_entry.ensures
