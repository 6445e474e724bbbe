use native.Mathlib.Omega.{arith}
use Rattle.settings.proofs.narrow.Goals as goal

pub convert-requires : goal.convert-requires
convert-requires c = (rw c.new_form.ensures (omega arith), rw c.old_form.ensures (omega arith))

pub returns : goal.returns
returns c = rw (c.new_form.ensures, c.old_form.ensures) at c.convert.ensures
