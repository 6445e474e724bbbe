use borrow.Author.Rules.{rules}
use native.Mathlib.Omega.{arith}
use mathlib.Core.Path.{◌≡◌, refl, ◌∙◌}
use Prim.Native.Nat.{◌+◌, ◌-◌}
use Rattle.laws.specs.Chains.{run_none}
use Rattle.edits.proofs.Blocks.{owners-set, set_next}
use Rattle.edits.proofs.set_run.Goals as goal

pub loop-i-init : goal.loop-i-init
loop-i-init c = (search rules, refl)

pub loop-i-preserved : goal.loop-i-preserved
loop-i-preserved c = (search rules, rw c.set_entry.ensures (set_next _ _ _ _ _ (omega arith)) ∙ c.loop-i.invariant.1)

pub returns : goal.returns
returns c = let a = c.args in
    let n : a.first.0 + a.count - a.first.0 ≡ a.count = omega arith in
    owners-set _ _ a.owner.0 (run_none _ _ (omega arith)) ∙ rw n at c.loop-i.invariant.1
