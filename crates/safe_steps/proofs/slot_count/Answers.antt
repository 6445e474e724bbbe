use mathlib.Core.Path.{◌≡◌, refl, ◌∙◌}
use mathlib.Core.Bool.{Bool, true, false, cond, not}
use lib.Dec.{eqb}
use mir.Val.{bool_byte}
use Rattle.safe_steps.proofs.slot_count.Goals as goal

one_for : (b : Bool) → bool_byte (not b) ≡ cond b 0 1
one_for true = refl
one_for false = refl

pub returns : goal.returns
returns c = c.from.ensures ∙ one_for (eqb c.args.y 0)
