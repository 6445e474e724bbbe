use mathlib.Core.Path.{refl, sym, ◌∙◌}
use Rattle.lookup.proofs.Laws.{along_whole, along_end, unbroken_along, first_found, later_found, named_along, named_none, named_whole}
use Rattle.lookup.proofs.entry_named.Goals as goal

pub loop-a-init : goal.loop-a-init
loop-a-init c = rw (c.into_iter-a-iterator.ensures.into_iter_gives, c.along-a-items.ensures) (rw (along_whole _ _ _ _ _) at c.requires, refl)

pub named_in-found-requires : goal.named_in-found-requires
named_in-found-requires c = rw c.entry.ensures (unbroken_along _ _ _ _ _ c.in-Some.ensures.steps c.loop-a.invariant.0).0

pub returns-then-is_some : goal.returns-then-is_some
returns-then-is_some c = let found = c.named_in-found in
    λ counts. sym (first_found _ found.result _ (sym c.is_some.ensures ∙ c.if-is_some.true)) ∙ named_along _ _ _ _ _ c.in-Some.ensures.steps _ _ (rw c.entry.ensures at found.ensures) ∙ c.loop-a.invariant.1 ∙ sym (named_whole _ _ _ counts _ _)

pub loop-a-preserved : goal.loop-a-preserved
loop-a-preserved c = let found = c.named_in-found in (
  (unbroken_along _ _ _ _ _ c.in-Some.ensures.steps c.loop-a.invariant.0).1,
  sym (later_found _ found.result _ (sym c.is_some.ensures ∙ c.if-is_some.false)) ∙ named_along _ _ _ _ _ c.in-Some.ensures.steps _ _ (rw c.entry.ensures at found.ensures) ∙ c.loop-a.invariant.1,
)

pub returns : goal.returns
returns c = λ counts. sym (named_none _ _ (along_end _ _ _ c.in-None.ensures.steps.0)) ∙ c.loop-a.invariant.1 ∙ sym (named_whole _ _ _ counts _ _)
