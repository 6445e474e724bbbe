use mathlib.Core.Bool.{false}
use mathlib.Core.Path.{◌≡◌}
use Rattle.rules.specs.Counting.{any_below}
use Rattle.settings.specs.Files.{wrong_record}
use Rattle.settings.proofs.not_of_form.Given as goal

abbrev pub invariant-loop-i : goal.invariant-loop-i
invariant-loop-i l = any_below (wrong_record l.form l.file) l.i ≡ false
