use mathlib.Core.Path.{sym, ◌∙◌}
use Rattle.searches.proofs.Searches.{near-found, near_empty}
use Rattle.searches.proofs.free_extent.Goals as goal

pub returns-then-is_some : goal.returns-then-is_some
returns-then-is_some c = λ f. near-found _ _ f _ _ c.near_side.ensures _ (sym c.is_some.ensures ∙ c.if-is_some.true) c.first_extent-near.ensures

pub returns : goal.returns
returns c = λ f. c.first_extent.ensures ∙ near_empty _ _ f _ _ c.near_side.ensures _ (sym c.is_some.ensures ∙ c.if-is_some.false) _ c.near_side-2.ensures c.first_extent-near.ensures
