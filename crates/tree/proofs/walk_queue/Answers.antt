use mathlib.Core.Path.{◌≡◌, sym, ◌∙◌}
use Prim.Native.Nat.{◌+◌, ◌-◌}
use native.Mathlib.Omega.{arith}
use lib.ListN.{get_or}
use Rattle.std.proofs.lemmas.Result.{err_from_is_err_and}
use Rattle.anodes.specs.Loaded.{anodes_from}
use Rattle.rules.specs.Walk.{dir_made}
use Rattle.walk_steps.specs.Steps.{item_in, items_with, entering, progress}
use Rattle.walk_steps.proofs.Laws.{marked-most, run_end, run_stop, run_step}
use borrow.Author.Rules.{rules}
use Rattle.tree.proofs.walk_queue.Goals as goal

pub loop-first-init : goal.loop-first-init
loop-first-init c = (c.requires.0, (c.requires.1, omega arith, omega arith), search rules, search rules)

pub enter_directory-requires : goal.enter_directory-requires
enter_directory-requires c = (c.loop-first.invariant.0, c.loop-first.invariant.1)

pub returns-in_err-tally : goal.returns-in_err-tally
returns-in_err-tally c = let entered : let g = c.args in let l = c.loop-first in let r = c.enter_directory in let head = get_or l.queue l.first 0 in entering l.tally l.marks l.queue l.parents head (items_with (item_in g.counts.now g.nexts.now g.heads.now) g.image.now (anodes_from g.counts.now g.firsts.now g.nexts.now) (dir_made head (get_or l.parents l.first 0))) ≡ progress r.result r.new.marks r.new.queue r.new.parents = rw (c.entry.ensures, c.entry-in-loop-first.ensures) at (sym c.enter_directory.ensures.entered.0) in
    let l = c.loop-first in
    let room = marked-most l.marks in
    let e = rw c.in_err-tally.was at entered in
    let p = err_from_is_err_and c.from_residual.result c.from_residual.ensures.1 in
    rw (p.1, p.2) (sym (run_stop _ _ _ _ _ _ _ _ (3444 - (l.first + 1)) (omega arith) c.loop-first-test.true _ e) ∙ l.invariant.3)

pub loop-first-smaller : goal.loop-first-smaller
loop-first-smaller c = let room = marked-most c.loop-first.marks in
    omega arith

pub loop-first-preserved : goal.loop-first-preserved
loop-first-preserved c = let entered : let g = c.args in let l = c.loop-first in let r = c.enter_directory in let head = get_or l.queue l.first 0 in entering l.tally l.marks l.queue l.parents head (items_with (item_in g.counts.now g.nexts.now g.heads.now) g.image.now (anodes_from g.counts.now g.firsts.now g.nexts.now) (dir_made head (get_or l.parents l.first 0))) ≡ progress r.result r.new.marks r.new.queue r.new.parents = rw (c.entry.ensures, c.entry-in-loop-first.ensures) at (sym c.enter_directory.ensures.entered.0) in
    let l = c.loop-first in
    let room = marked-most l.marks in
    let e = rw c.in_ok-tally.was at entered in (
      (search rules, search rules, search rules, rw c.in_ok-tally.was at c.enter_directory.ensures.entered.1),
      rw c.in_ok-tally.was at c.enter_directory.ensures.numbered,
      omega arith,
      sym (run_step _ _ _ _ _ _ _ _ (3444 - (l.first + 1)) (omega arith) c.loop-first-test.true _ _ _ e) ∙ l.invariant.3,
    )

pub returns : goal.returns
returns c = sym (run_end _ _ _ _ _ _ _ _ c.loop-first-test.false) ∙ c.loop-first.invariant.3
