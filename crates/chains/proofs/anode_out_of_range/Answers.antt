use mathlib.Core.Path.{sym, ap, ◌∙◌}
use mathlib.Core.Bool.{not}
use Rattle.anodes.specs.Loaded.{anodes_from}
use Rattle.chains.proofs.Laws.{cleared_range, used_range}
use Rattle.chains.proofs.anode_out_of_range.Goals as goal

pub returns-then-entry-eq0 : goal.returns-then-entry-eq0
unfolding anodes_from
returns-then-entry-eq0 c = ap not c.is_cleared.ensures ∙ sym (cleared_range _ _ _ (sym c.entry.ensures ∙ c.if-entry-eq0.true))

pub returns : goal.returns
unfolding anodes_from
returns c = c.wrong_extent.ensures ∙ sym (used_range _ _ _ (λ e. c.if-entry-eq0.false (c.entry.ensures ∙ e)))
