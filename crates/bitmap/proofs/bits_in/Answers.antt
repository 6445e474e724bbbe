use mathlib.Core.Path.{◌≡◌, ◌∙◌, ap}
use Prim.Native.Nat.{ℕ, ◌+◌, ◌-◌}
use native.Mathlib.Omega.{arith}
use Rattle.bitmap.specs.Bits.{with_bit}
use Rattle.bitmap.specs.Table.{free_at}
use Rattle.bitmap.proofs.Laws.{bits_none, bit_clear, bit_set, bits_rest, free-set, free_clear, free_past}
use borrow.Author.Rules.{rules}
use Rattle.bitmap.proofs.bits_in.Goals as goal
use Rattle.bitmap.proofs.bits_in.Goals.{then-owner-eq1, else-owner-eq1}

pub loop-i-init : goal.loop-i-init
loop-i-init c = rw (bits_none (free_at _) 0) (omega arith)

pub returns : goal.returns
returns c = let i = c.loop-i.i in
    c.loop-i.invariant ∙ bits_rest _ 0 (32 - i) i (search rules) (λ j l. free_past _ (0 + j) (search rules))

pub loop-i-preserved : goal.loop-i-preserved
loop-i-preserved c = let f = free_at c.args.part.now in
    let i = c.loop-i.i in
    let z : 0 + i ≡ i = omega arith in
    let was = c.loop-i.invariant in
    elim c.if-owner-eq1.branch [
      | then-owner-eq1 w ↦ (w.w-is ∙ w.set_bit-w.ensures ∙ ap (λ (v : ℕ). with_bit v i) was ∙ bit_set f 0 i (search rules) (ap f z ∙ free-set _ i w.if-owner-eq1.true))
      | else-owner-eq1 w ↦ (w.w-is ∙ was ∙ bit_clear f 0 i (search rules) (ap f z ∙ free_clear _ i w.if-owner-eq1.false))
    ]
