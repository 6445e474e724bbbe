use mathlib.Core.Path.{sym, ◌∙◌}
use Rattle.lookup.proofs.Laws.{along_whole, along_end, unbroken_along}
use Rattle.unmet_entries.specs.Along.{hand_no_entries, hand_along}
use Rattle.unmet_entries.proofs.unmet_directory.Goals as goal

pub loop-a-init : goal.loop-a-init
loop-a-init c = rw (c.into_iter-a-iterator.ensures.into_iter_gives, c.along-a-items.ensures) (rw (along_whole _ _ _ _ _) at c.requires, rw (along_whole _ _ _ _ _))

pub unmet_block-so_far-requires : goal.unmet_block-so_far-requires
unmet_block-so_far-requires c = rw c.entry.ensures (unbroken_along _ _ _ _ _ c.in-Some.ensures.steps c.loop-a.invariant.0).0

pub loop-a-preserved : goal.loop-a-preserved
loop-a-preserved c = let l = c.loop-a in
    let is = c.in-Some.ensures.steps in (
      (unbroken_along _ _ _ _ _ is l.invariant.0).1,
      hand_along _ _ _ _ _ _ _ is _ (rw c.entry.ensures at c.unmet_block-so_far.ensures) ∙ l.invariant.1,
    )

pub returns : goal.returns
returns c = sym (hand_no_entries _ _ _ (along_end _ _ _ c.in-None.ensures.steps.0)) ∙ c.loop-a.invariant.1
