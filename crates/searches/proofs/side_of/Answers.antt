use mathlib.Core.Path.{sym}
use Rattle.laws.specs.Give.{side_above, side-up_to}
use Rattle.searches.proofs.side_of.Goals as goal

pub returns-then-last-y : goal.returns-then-last-y
returns-then-last-y c = sym (side_above _ _ c.if-last-y.true)

pub returns : goal.returns
returns c = sym (side-up_to _ _ c.if-last-y.false)
