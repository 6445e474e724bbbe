use mathlib.Core.Path.{refl, sym}
use Rattle.report.specs.Report.{one_more_at}
use Rattle.report.proofs.Passes.{one_more_out}
use Rattle.report.proofs.count_at.Goals as goal

pub returns-then-i-starts : goal.returns-then-i-starts
unfolding one_more_at
returns-then-i-starts c = refl

pub returns-else-i-starts : goal.returns-else-i-starts
returns-else-i-starts c = sym (one_more_out _ _ c.if-i-starts.false)
