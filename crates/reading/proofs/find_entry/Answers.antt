use Rattle.std.proofs.lemmas.Result.{err_from_is_err_and}
use Rattle.looks.specs.Laws.{find_search}
use Rattle.rules.specs.Calls.{done_or}
use Rattle.find.proofs.Laws.{refused_some, not_done}
use mathlib.Core.Path.{refl, sym, ◌∙◌}
use Rattle.reading.proofs.Laws.{named_entry, start_low}
use Rattle.reading.proofs.find_entry.Goals as goal

pub returns-in_err-e : goal.returns-in_err-e
returns-in_err-e c = let p = err_from_is_err_and c.from_residual.result c.from_residual.ensures.1 in
    rw (p.1, p.2) (record { answer = sym (find_search _ _ _ _ ∙ c.in_err-e.ensures); fields = sym (not_done _ (refused_some c.in_err-e.field-0.0 _ refl) _ _) })

pub put_fields-requires : goal.put_fields-requires
put_fields-requires c = let f = c.in_ok-e.ensures in start_low (named_entry c.requires.2 _ _ _ f.0 f.1)

pub returns : goal.returns
unfolding done_or
returns c = let f = c.in_ok-e.ensures in
    record { answer = sym (find_search _ _ _ _ ∙ f.0); fields = rw f.1 c.put_fields.ensures }
