use mathlib.Core.Path.{◌≡◌, sym}
use native.Mathlib.Omega.{arith}
use Rattle.format.proofs.Parts.{with_slots-none, with_slots_more}
use Rattle.format.proofs.put_slots.Goals as goal

pub loop-s-init : goal.loop-s-init
loop-s-init c = sym (with_slots-none _)

pub loop-s-preserved : goal.loop-s-preserved
loop-s-preserved c = rw (c.put_slot.ensures, c.loop-s.invariant) (sym (with_slots_more _ _))

pub returns : goal.returns
returns c = let e : c.loop-s.s ≡ c.args.slots = omega arith in rw e at c.loop-s.invariant
