use mathlib.Core.Path.{◌≡◌, sym, ◌∙◌}
use native.Mathlib.Omega.{arith}
use Rattle.counting.specs.Laws.{any_below-none, any_below_more, any_below_hit}
use Rattle.settings.specs.Files.{record_length}
use Rattle.settings.specs.Laws.{form_part, form_many, form_records}
use Rattle.settings.proofs.not_of_form.Goals as goal

pub returns-then-file-form-ne0 : goal.returns-then-file-form-ne0
unfolding record_length
returns-then-file-form-ne0 c = sym (form_part _ _ c.if-file-form-ne0.true)

pub returns-then-n-gt512 : goal.returns-then-n-gt512
unfolding record_length
returns-then-n-gt512 c = sym (form_many _ _ c.if-file-form-ne0.false (rw c.record_count-n.ensures at c.if-n-gt512.true))

pub loop-i-init : goal.loop-i-init
loop-i-init c = any_below-none _

pub returns-then-wrong_record : goal.returns-then-wrong_record
unfolding record_length
returns-then-wrong_record c = let n = c.record_count-n.ensures in
    sym (form_records _ _ c.if-file-form-ne0.false (rw n at c.if-n-gt512.false) ∙ any_below_hit _ _ _ (rw n at c.loop-i-test.true) (sym c.wrong_record.ensures ∙ c.if-wrong_record.true))

pub loop-i-preserved : goal.loop-i-preserved
loop-i-preserved c = any_below_more _ _ c.loop-i.invariant (sym c.wrong_record.ensures ∙ c.if-wrong_record.false)

pub returns : goal.returns
unfolding record_length
returns c = let n = c.record_count-n.ensures in
    let e : c.loop-i.i ≡ c.record_count-n.result = omega arith in
    sym (form_records _ _ c.if-file-form-ne0.false (rw n at c.if-n-gt512.false) ∙ rw (e ∙ n) at c.loop-i.invariant)
