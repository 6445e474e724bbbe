use Rattle.settings.specs.Laws.{long_found, long_none, none_long}
use mathlib.Core.Path.{◌≡◌}
use native.Mathlib.Omega.{arith}
use Rattle.settings.specs.Conversions.{too_long}
use Rattle.settings.proofs.first_too_long.Goals as goal

pub loop-i-init : goal.loop-i-init
loop-i-init c = λ j l. absurd (omega arith)

pub returns-then-past-seconds_at : goal.returns-then-past-seconds_at
returns-then-past-seconds_at c = long_found _ c.args.to _ _ c.past_width-past.ensures _ _ _ c.loop-i-test.true c.loop-i.invariant c.seconds_at.ensures c.if-past-seconds_at.true

pub loop-i-preserved : goal.loop-i-preserved
unfolding too_long
loop-i-preserved c = none_long _ c.args.to _ _ c.past_width-past.ensures _ _ c.loop-i.invariant c.seconds_at.ensures c.if-past-seconds_at.false

pub returns : goal.returns
returns c = let e : c.loop-i.i ≡ c.args.n = omega arith in
    long_none _ c.args.to _ _ c.past_width-past.ensures _ _ e c.loop-i.invariant
