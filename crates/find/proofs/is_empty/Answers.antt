use mathlib.Core.Path.{sym, ap, ◌∙◌}
use Rattle.rules.specs.Lookup.{is_there}
use Rattle.lookup.proofs.Laws.{along_whole, along_end, nth_empty}
use Rattle.find.proofs.FirstEntry.{there_along, none_along}
use Rattle.find.proofs.is_empty.Goals as goal

pub returns-then-has_entry : goal.returns-then-has_entry
returns-then-has_entry c = let b = c.entry in
    λ counts. rw (along_whole _ _ _ counts _)
    (sym (there_along _ _ _ _ _ c.in-Some.ensures.steps _ (rw b.ensures at c.block_part.ensures) (rw b.ensures at (sym (c.has_entry.ensures b.result) ∙ c.if-has_entry.true)))
    ∙ ap is_there c.loop-a.invariant)

pub loop-a-preserved : goal.loop-a-preserved
loop-a-preserved c = let b = c.entry in
    none_along _ _ _ _ _ c.in-Some.ensures.steps _ (rw b.ensures at c.block_part.ensures) (rw b.ensures at (sym (c.has_entry.ensures b.result) ∙ c.if-has_entry.false))
    ∙ c.loop-a.invariant

pub returns : goal.returns
returns c = λ counts. rw (along_whole _ _ _ counts _) (ap is_there (sym (nth_empty _ 0 (along_end _ _ _ c.in-None.ensures.steps.0)) ∙ c.loop-a.invariant))
