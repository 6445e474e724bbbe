use Prim.Native.Nat.{◌+◌, ◌-◌}
use mathlib.Core.Bool.{Bool, true, false, ◌&&◌, false≢true, true≢false}
use mathlib.Core.Path.{◌≡◌, refl, sym}
use native.Mathlib.Omega.{arith}
use borrow.Author.Tests.{eqb-true}
use Rattle.tables.proofs.Laws.{held_next}
use Rattle.edits.proofs.Blocks.{part_same}
use Rattle.edits.proofs.same_numbers.Goals as goal

both : (x y : Bool) → x && y ≡ true → (x ≡ true) × (y ≡ true)
both true true e = (refl, refl)
both false y e = absurd (false≢true e)
both true false e = absurd (false≢true e)

pub returns-then-old-end : goal.returns-then-old-end
returns-then-old-end c = λ e. absurd (true≢false (sym e))

pub returns-then-new-end : goal.returns-then-new-end
returns-then-new-end c = λ e. absurd (true≢false (sym e))

pub loop-i-preserved : goal.loop-i-preserved
loop-i-preserved c = λ r. let b = both _ _ r in held_next _ _ _ (c.loop-i.invariant b.0) (eqb-true _ _ b.1)

pub returns : goal.returns
returns c = λ r a low high.
    let g = c.args in
    part_same g.old.now g.new.now g.from (g.from + 82 - g.from) (λ j h. c.loop-i.invariant r j (omega arith)) a low (omega arith)
