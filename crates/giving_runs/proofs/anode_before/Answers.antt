use Prim.Native.Nat.{◌-◌}
use mathlib.Core.Path.{sym, ◌∙◌}
use native.Mathlib.Omega.{arith}
use Rattle.giving_runs.proofs.Picking.{before-first, before-later}
use Rattle.giving_runs.proofs.anode_before.Goals as goal

pub returns-then-i-eq0 : goal.returns-then-i-eq0
returns-then-i-eq0 c = rw c.if-i-eq0.true (sym (before-first _))

pub returns : goal.returns
returns c = c.entry.ensures ∙ sym (before-later _ c.args.i (c.args.i - 1) (omega (arith, c.if-i-eq0.false)))
