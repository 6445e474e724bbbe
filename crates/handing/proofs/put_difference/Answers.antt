use mathlib.Core.Path.{◌∙◌}
use Rattle.handing.proofs.put_difference.Goals as goal

pub returns-in-OnlyFirst : goal.returns-in-OnlyFirst
returns-in-OnlyFirst c = c.put_numbers.ensures ∙ rw (c.only.ensures, c.in-OnlyFirst.is)

pub returns-in-OnlySecond : goal.returns-in-OnlySecond
returns-in-OnlySecond c = c.put_numbers-in-OnlySecond.ensures ∙ rw (c.only-in-OnlySecond.ensures, c.in-OnlySecond.is)

pub returns-in-Differing : goal.returns-in-Differing
returns-in-Differing c = c.put_numbers-in-Differing.ensures ∙ rw c.in-Differing.is
