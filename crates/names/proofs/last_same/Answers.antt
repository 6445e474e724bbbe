use mathlib.Core.Path.{sym, ◌∙◌}
use Prim.Native.Nat.{◌-◌}
use native.Mathlib.Omega.{arith}
use Rattle.names.proofs.Laws.{same_early, same_hit, same_next, chain_next}
use Rattle.names.proofs.last_same.Goals as goal

pub same_at-requires : goal.same_at-requires
same_at-requires c = let l = c.loop-x in
    let few = l.invariant.0.few in
    (l.invariant.0.linked.prints (l.x - 1) (omega arith), c.requires.1, omega arith)

pub overflow_cast-result : goal.overflow_cast-result
overflow_cast-result c = let few = c.loop-x.invariant.0.few in omega arith

pub returns-then-same_at : goal.returns-then-same_at
returns-then-same_at c = let l = c.loop-x in
    sym (same_hit _ _ _ _ l.x (l.x - 1) (omega arith) c.loop-x-test.true (sym c.same_at.ensures ∙ c.if-same_at.true)) ∙ l.invariant.1

pub overflow_add-j : goal.overflow_add-j
overflow_add-j c = let few = c.loop-x.invariant.0.few in omega arith

pub loop-x-smaller : goal.loop-x-smaller
loop-x-smaller c = let l = c.loop-x in
    let b = (chain_next _ _ _ l.x (l.x - 1) (omega arith) l.invariant.0).0 in
    let e = c.entry-x.ensures in omega arith

pub loop-x-preserved : goal.loop-x-preserved
loop-x-preserved c = let l = c.loop-x in
    rw c.entry-x.ensures ((chain_next _ _ _ l.x (l.x - 1) (omega arith) l.invariant.0).1, same_next _ _ _ _ l.x (l.x - 1) (omega arith) l.invariant.0 (sym c.same_at.ensures ∙ c.if-same_at.false) ∙ l.invariant.1)

pub returns : goal.returns
returns c = sym (same_early _ _ _ _ _ (omega arith)) ∙ c.loop-x.invariant.1
