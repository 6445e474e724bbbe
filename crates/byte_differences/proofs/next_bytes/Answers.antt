use Rattle.std.proofs.Common.{refl, ap, ◌∙◌, length, arith}
use Rattle.byte_differences.proofs.Places.{come_end, come_next}
use Rattle.byte_differences.proofs.next_bytes.Goals as goal

pub loop-place-init : goal.loop-place-init
loop-place-init c = (c.requires, refl)

pub returns-in-None : goal.returns-in-None
returns-in-None c = record { within = c.loop-place.invariant.0; same = c.loop-place.invariant.1; none = λ e. come_end _ _ _ e c.in-None.ensures.steps.0 }

pub loop-place-smaller : goal.loop-place-smaller
loop-place-smaller c = omega (arith, ap length c.in-Some.ensures.steps, ap length c.extent_start-place.ensures.behind_is)

pub loop-place-preserved : goal.loop-place-preserved
loop-place-preserved c = let e = c.extent_start-place.ensures in
    (e.within, come_next _ _ _ c.loop-place-test.true _ _ _ c.in-Some.ensures.steps e ∙ c.loop-place.invariant.1)

pub returns : goal.returns
returns c = record { within = c.loop-place.invariant.0; same = c.loop-place.invariant.1; none = λ e. absurd (c.loop-place-test.false e) }
