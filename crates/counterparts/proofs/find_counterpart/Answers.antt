use mathlib.Core.Path.{sym, ◌∙◌}
use Rattle.counterparts.proofs.Found.{named_missing, number_found}
use Rattle.counterparts.proofs.find_counterpart.Goals as goal

pub returns-then-last-eq0 : goal.returns-then-last-eq0
returns-then-last-eq0 c = λ h t d. sym (named_missing t d c.args.name.now (sym c.find_name-last.ensures.0 ∙ c.if-last-eq0.true))

pub returns : goal.returns
returns c = λ h t d.
    let f = number_found t d c.args.name.now c.find_name-last.result c.find_name-last.ensures.0 c.if-last-eq0.false in
    c.indexed_entry.ensures f.entry f.within f.start f.stands ∙ sym f.named
