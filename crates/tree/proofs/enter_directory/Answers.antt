use mathlib.Core.Path.{refl, sym, ◌∙◌}
use native.Mathlib.Omega.{arith}
use Rattle.std.proofs.lemmas.Result.{err_from_is_err_and}
use Rattle.anodes.specs.Loaded.{anodes_from}
use Rattle.rules.specs.Counting.{gather}
use Rattle.walk_steps.specs.Steps.{items_with}
use Rattle.walk_steps.proofs.Tallies.{number_room, seen_start}
use Rattle.walk_steps.proofs.Laws.{enter_none, along_stop, along_step, twins-none}
use borrow.Author.Rules.{rules}
use Rattle.tree.proofs.enter_directory.Goals as goal

pub loop-a-init : goal.loop-a-init
unfolding items_with anodes_from
loop-a-init c = let g = c.args in
    (c.requires.0, c.requires.1, rw (c.into_iter-a-iterator.ensures.into_iter_gives, c.along-a-items.ensures, seen_start g.image.now g.index.now g.t))

pub enter_anode-requires : goal.enter_anode-requires
enter_anode-requires c = let g = c.args in
    let p = c.requires in
    record { walk_room = (c.loop-a.invariant.0, c.loop-a.invariant.1); le_last = (p.1.1, (number_room _ _ g.marks.now _ g.t p.1 p.0.3 p.0.0).1) }

pub returns-in_err-tally : goal.returns-in_err-tally
returns-in_err-tally c = let p = err_from_is_err_and c.from_residual.result c.from_residual.ensures.1 in
    let left = rw c.in-Some.ensures.steps at c.loop-a.invariant.2 in
    let stop = rw c.in_err-tally.was at (sym c.enter_anode.ensures.entered.0) in
    rw (p.1, p.2) (record { entered = (sym (along_stop _ _ _ _ _ _ _ _ _ _ _ _ stop) ∙ left, tt); numbered = tt })

pub loop-a-preserved : goal.loop-a-preserved
loop-a-preserved c = let left = rw c.in-Some.ensures.steps at c.loop-a.invariant.2 in
    let step = rw c.in_ok-tally.was at c.enter_anode.ensures.entered in
    let seen = rw c.in_ok-tally.was at c.enter_anode.ensures.seen in (
      (search rules, search rules, search rules, step.1),
      seen.0,
      sym (along_step _ _ _ _ _ _ _ _ _ _ _ _ _ _ _ seen.1 (sym step.0)) ∙ left,
    )

pub returns : goal.returns
unfolding gather
returns c = let l = c.loop-a in
    let left = rw c.in-None.ensures.steps.0 at l.invariant.2 in
    record { entered = (sym (enter_none _ _ _ _ _ (twins-none _ _ refl)) ∙ left, l.invariant.0.3); numbered = (l.invariant.1.0, l.invariant.1.1, omega arith) }
