use mathlib.Core.Path.{refl, sym, ◌∙◌}
use Rattle.anodes.specs.Loaded.{anodes_from, slots_from}
use Rattle.searches.proofs.Searches.{start-below, empty_alone, used_alone}
use Rattle.searches.proofs.search_slot.Goals as goal

pub returns-then-entry-eq0 : goal.returns-then-entry-eq0
unfolding slots_from
returns-then-entry-eq0 c = λ x n. empty_alone _ (anodes_from x _ n) _ (sym c.entry.ensures ∙ c.if-entry-eq0.true)

pub search_used-requires : goal.search_used-requires
search_used-requires c = start-below _ _ c.slot_start.ensures

pub returns : goal.returns
unfolding slots_from
returns c = λ x n. c.search_used.ensures x n ∙ used_alone _ (anodes_from x _ n) _ _ _ c.slot_start.ensures refl (rw c.entry.ensures at c.if-entry-eq0.false)
