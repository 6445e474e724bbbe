use mathlib.Core.Path.{◌≡◌, ap, ◌∙◌}
use Prim.Native.Nat.{ℕ, ◌+◌}
use mathlib.Core.Bool.{cond}
use native.Mathlib.Omega.{arith}
use lib.Dec.{eqb}
use lib.ListN.{length}
use Rattle.safe_rules.specs.SafePlans.{slot_blocks}
use Rattle.anodes.specs.Loaded.{slots_from}
use Rattle.safe_steps.proofs.Steps.{none_used, more_used, slot_few}
use Rattle.safe_steps.proofs.used_slots.Goals as goal

pub loop-k-init : goal.loop-k-init
loop-k-init c = (omega arith, none_used _)

pub overflow_add-used : goal.overflow_add-used
overflow_add-used c = record { fits = omega (arith, slot_few _ c.entry.result c.slot_count-used.ensures) }

pub loop-k-preserved : goal.loop-k-preserved
unfolding slots_from
loop-k-preserved c = let l = c.loop-k in
    (omega (arith, slot_few _ c.entry.result c.slot_count-used.ensures), ap (λ (n : ℕ). l.used + n) (c.slot_count-used.ensures ∙ ap (λ (y : ℕ). cond (eqb y 0) 0 1) c.entry.ensures) ∙ more_used (slots_from c.args.slots.now) l.k l.used l.invariant.1)

pub returns : goal.returns
unfolding slots_from
returns c = let l = c.loop-k in let e : l.k ≡ 42 = omega arith in (l.invariant.1 ∙ ap (λ (k : ℕ). length (slot_blocks (slots_from c.args.slots.now) k)) e, omega arith)
