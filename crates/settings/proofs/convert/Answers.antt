use mathlib.Core.Path.{sym, ◌∙◌}
use native.Mathlib.Omega.{arith}
use Rattle.settings.specs.Laws.{few_records, convert_50, convert_51, convert_52, convert_done}
use borrow.Author.Rules.{rules}
use Rattle.settings.proofs.convert.Goals as goal

pub returns-then-not_of_form : goal.returns-then-not_of_form
returns-then-not_of_form c = convert_50 _ _ _ _ (sym c.not_of_form.ensures ∙ c.if-not_of_form.true)

pub first_too_long-long-requires : goal.first_too_long-long-requires
first_too_long-long-requires c = (search rules, search rules, omega (arith, c.record_count-n.ensures, few_records _ _ (sym c.not_of_form.ensures ∙ c.if-not_of_form.false)))

pub key_at-requires : goal.key_at-requires
key_at-requires c = (search rules, omega (arith, c.record_count-n.ensures, few_records _ _ (sym c.not_of_form.ensures ∙ c.if-not_of_form.false)))

pub returns-then-long-n : goal.returns-then-long-n
returns-then-long-n c = convert_51 _ _ _ _ (sym c.not_of_form.ensures ∙ c.if-not_of_form.false) _ _ c.record_count-n.ensures c.first_too_long-long.ensures _ c.if-long-n.true c.key_at.ensures

pub record_place-len-requires : goal.record_place-len-requires
record_place-len-requires c = (search rules, omega (arith, c.record_count-n.ensures, few_records _ _ (sym c.not_of_form.ensures ∙ c.if-not_of_form.false)))

pub returns-then-out-len : goal.returns-then-out-len
returns-then-out-len c = convert_52 _ _ _ _ (sym c.not_of_form.ensures ∙ c.if-not_of_form.false) _ _ c.record_count-n.ensures c.first_too_long-long.ensures c.if-long-n.false _ c.record_place-len.ensures.0 c.if-out-len.true

pub put_records-requires : goal.put_records-requires
put_records-requires c = (search rules, search rules, omega (arith, c.record_count-n.ensures, few_records _ _ (sym c.not_of_form.ensures ∙ c.if-not_of_form.false)))

pub returns : goal.returns
returns c = convert_done _ _ _ _ (sym c.not_of_form.ensures ∙ c.if-not_of_form.false) _ _ c.record_count-n.ensures c.first_too_long-long.ensures c.if-long-n.false _ c.record_place-len.ensures.0 _ c.if-out-len.false c.put_records.ensures
