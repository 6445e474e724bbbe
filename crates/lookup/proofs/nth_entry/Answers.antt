use mathlib.Core.Path.{refl, sym, ◌∙◌}
use Rattle.links.specs.Links.{anodes_left}
use Rattle.lookup.proofs.Laws.{entries_along, along_whole, along_end, unbroken_along, nth_along, nth_empty}
use Rattle.lookup.proofs.nth_entry.Goals as goal

pub loop-a-init : goal.loop-a-init
loop-a-init c = rw (c.into_iter-a-iterator.ensures.into_iter_gives, c.along-a-items.ensures) (rw (along_whole _ _ _ _ _) at c.requires, refl)

pub nth_in-requires : goal.nth_in-requires
nth_in-requires c = rw c.entry.ensures (unbroken_along _ _ _ _ _ c.in-Some.ensures.steps c.loop-a.invariant.0).0

pub returns-in-Ok : goal.returns-in-Ok
returns-in-Ok c = let rest = entries_along c.args.image.now c.args.firsts.now (anodes_left c.next.new.self) in
    λ counts. rw (along_whole _ _ _ counts _) (nth_along _ _ _ _ _ c.in-Some.ensures.steps _ _ (rw c.entry.ensures at (c.in-Ok.ensures rest)) ∙ c.loop-a.invariant.1)

pub loop-a-preserved : goal.loop-a-preserved
loop-a-preserved c = let rest = entries_along c.args.image.now c.args.firsts.now (anodes_left c.next.new.self) in (
  (unbroken_along _ _ _ _ _ c.in-Some.ensures.steps c.loop-a.invariant.0).1,
  nth_along _ _ _ _ _ c.in-Some.ensures.steps _ _ (rw c.entry.ensures at (c.in-Err.ensures rest)) ∙ c.loop-a.invariant.1,
)

pub returns : goal.returns
returns c = λ counts. rw (along_whole _ _ _ counts _) (sym (nth_empty _ _ (along_end _ _ _ c.in-None.ensures.steps.0)) ∙ c.loop-a.invariant.1)
