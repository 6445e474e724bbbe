use Rattle.edits.proofs.Blocks.{anode_kept, anode_stored}
use mathlib.Core.Path.{◌≡◌, ◌∙◌}
use Prim.Native.Nat.{◌+◌}
use native.Mathlib.Omega.{arith}
use borrow.Author.Rules.{rules}
use Rattle.edits.proofs.store_run.Goals as goal
use Rattle.edits.proofs.store_run.Goals.{then-not-same_anode, else-not-same_anode}

pub loop-a-init : goal.loop-a-init
loop-a-init c = (search rules, search rules, λ img e. e)

pub returns : goal.returns
returns c = let e : c.loop-a.a ≡ c.args.from.0 + 82 = omega arith in λ img is. rw e at (c.loop-a.invariant.2 img is)

pub loop-a-preserved : goal.loop-a-preserved
loop-a-preserved c = let l = c.loop-a in (
  search rules,
  search rules,
  λ img is. elim c.if-not-same_anode.branch [
    | then-not-same_anode w ↦ w.image-is ∙ anode_stored _ _ _ _ _ _ _ l.a _ _ c.anode_from-old.ensures c.anode_from-new.ensures _ c.same_anode.ensures _ (l.invariant.2 img is) (rw w.if-not-same_anode.true) _ w.set_anode.ensures
    | else-not-same_anode w ↦ w.image-is ∙ anode_kept _ _ _ _ _ _ _ l.a _ _ c.anode_from-old.ensures c.anode_from-new.ensures _ c.same_anode.ensures _ (l.invariant.2 img is) (rw w.if-not-same_anode.false)
  ],
)
