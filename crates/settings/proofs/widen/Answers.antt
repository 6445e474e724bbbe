use native.Mathlib.Omega.{arith}
use Rattle.settings.proofs.widen.Goals as goal

pub convert-requires : goal.convert-requires
convert-requires c = (rw c.old_form.ensures (omega arith), rw c.new_form.ensures (omega arith))

pub returns : goal.returns
returns c = rw (c.old_form.ensures, c.new_form.ensures) at c.convert.ensures
