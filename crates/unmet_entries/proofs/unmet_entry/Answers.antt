use mathlib.Core.Path.{sym, ◌∙◌}
use Rattle.unmet_entries.proofs.Laws.{hand_met, hand_not_met}
use Rattle.unmet_entries.proofs.unmet_entry.Goals as goal

pub returns-then-entry-ne0 : goal.returns-then-entry-ne0
returns-then-entry-ne0 c = λ f a s. sym (hand_met _ f _ (rw a (rw c.entry.ensures at c.if-entry-ne0.true)))

pub returns : goal.returns
returns c = λ f a s. c.hand_out.ensures ∙ sym (hand_not_met _ f _ (rw a (sym c.entry.ensures ∙ c.if-entry-ne0.false)) ∙ rw s)
