use Prim.Native.Nat.{◌-◌}
use mathlib.Core.Path.{◌≡◌, sym, ◌∙◌}
use native.Mathlib.Omega.{arith}
use Rattle.giving_runs.proofs.Picking.{full-none, full-here, full-before}
use Rattle.giving_runs.proofs.last_full.Goals as goal

pub returns-then-entry-ne0 : goal.returns-then-entry-ne0
returns-then-entry-ne0 c = let l = c.loop-i in sym (full-here _ _ l.i (l.i - 1) (omega arith) (rw (c.entry-in-loop-i.ensures, c.entry.ensures) at c.if-entry-ne0.true)) ∙ l.invariant

pub loop-i-preserved : goal.loop-i-preserved
loop-i-preserved c = let l = c.loop-i in sym (full-before _ _ l.i (l.i - 1) (omega arith) (rw (c.entry-in-loop-i.ensures, c.entry.ensures) at c.if-entry-ne0.false)) ∙ l.invariant

pub returns : goal.returns
returns c = let e : c.loop-i.i ≡ 0 = omega arith in sym (full-none _ _) ∙ rw e at c.loop-i.invariant
