use Rattle.rules.specs.Anodes.{Anodes, store_changed, with_anodes}
use Rattle.edits.proofs.Blocks.{store_changed-none, run-kept}
use mathlib.Core.Path.{◌≡◌, sym, ap, ◌∙◌}
use Prim.Native.Nat.{◌+◌, ◌*◌}
use native.Mathlib.Omega.{arith}
use Rattle.anodes.specs.Loaded.{anodes_from}
use borrow.Author.Rules.{rules}
use Rattle.edits.proofs.store_anodes.Goals as goal
use Rattle.edits.proofs.store_anodes.Goals.{then-not-same_run, else-not-same_run}

pub loop-slot-init : goal.loop-slot-init
loop-slot-init c = (search rules, search rules, sym (store_changed-none _ _ _))

pub returns : goal.returns
unfolding with_anodes
returns c = let g = c.args in
    let e : c.loop-slot.slot ≡ 42 = omega arith in
    rw e at c.loop-slot.invariant.2 ∙ ap (λ (s : Anodes). store_changed s (anodes_from g.new_counts.now g.new_firsts.now g.new_nexts.now) g.image.now 3444) c.requires

pub loop-slot-preserved : goal.loop-slot-preserved
loop-slot-preserved c = let g = c.args in
    let l = c.loop-slot in
    let s = anodes_from g.counts.now g.firsts.now g.nexts.now in
    let t = anodes_from g.new_counts.now g.new_firsts.now g.new_nexts.now in
    let e : l.slot * 82 + 82 ≡ (l.slot + 1) * 82 = omega arith in
    let up = ap (store_changed s t g.image.now) e in (
      search rules,
      search rules,
      elim c.if-not-same_run.branch [
        | then-not-same_run w ↦ w.image-is ∙ w.store_run.ensures g.image.now l.invariant.2 ∙ up
        | else-not-same_run w ↦ w.image-is ∙ l.invariant.2 ∙ run-kept s t g.image.now (l.slot * 82) 82 (c.same_run.ensures w.if-not-same_run.false) ∙ up
      ],
    )
