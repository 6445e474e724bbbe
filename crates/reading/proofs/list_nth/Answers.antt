use Rattle.std.proofs.lemmas.Result.{err_from_is_err_and}
use Rattle.rules.specs.Calls.{done_or, field_list, fields_at}
use Rattle.find.proofs.Laws.{refused_some, not_done}
use mathlib.Core.Path.{refl, sym}
use Rattle.reading.proofs.Laws.{listed-entry, start_low, name_standing}
use Rattle.reading.proofs.list_nth.Goals as goal

pub returns-in_err-e : goal.returns-in_err-e
returns-in_err-e c = let p = err_from_is_err_and c.from_residual.result c.from_residual.ensures.1 in
    rw (p.1, p.2) (record { answer = sym c.in_err-e.ensures; fields = sym (not_done _ (refused_some c.in_err-e.field-0.0 _ refl) _ _); name = tt; part = tt })

pub put_fields-requires : goal.put_fields-requires
put_fields-requires c = let f = c.in_ok-e.ensures in start_low (listed-entry c.requires.2 _ _ _ f.0 f.1)

pub name_part-requires : goal.name_part-requires
name_part-requires c = let f = c.in_ok-e.ensures in
    let e = listed-entry c.requires.2 _ _ _ f.0 f.1 in
    (start_low e, name_standing e)

pub returns : goal.returns
unfolding done_or fields_at field_list
returns c = let f = c.in_ok-e.ensures in
    record { answer = sym f.0; fields = rw f.1 c.put_fields.ensures; name = rw f.1 c.name_part.ensures.name; part = rw c.put_fields.ensures c.name_part.ensures.part }
