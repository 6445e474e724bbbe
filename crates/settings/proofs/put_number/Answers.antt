use mathlib.Core.Path.{◌≡◌, sym, ◌∙◌}
use Prim.Native.Nat.{◌-◌}
use native.Mathlib.Omega.{arith}
use Rattle.endian.proofs.Laws.{stored-none}
use Rattle.settings.specs.Laws.{bytes-none, number_step}
use Rattle.settings.proofs.put_number.Goals as goal

pub loop-i-preserved : goal.loop-i-preserved
loop-i-preserved c = let l = c.loop-i in
    rw c.write8.ensures (sym (number_step l.bytes c.args.at (l.i - 1) l.i l.rest (omega arith)) ∙ l.invariant)

pub returns : goal.returns
returns c = let l = c.loop-i in
    let e : l.i ≡ 0 = omega arith in
    sym (stored-none _ _) ∙ rw (e, bytes-none l.rest) at l.invariant
