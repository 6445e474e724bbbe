use native.Mathlib.Omega.{arith}
use Rattle.settings.specs.Laws.{power_small}
use Rattle.settings.proofs.past_width.Goals as goal

pub pow-requires : goal.pow-requires
pow-requires c = omega (arith, power_small c.args.width c.requires)
