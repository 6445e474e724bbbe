use Rattle.report.specs.Table.{Surveyed}
use Rattle.report.proofs.count_runs.Given as goal

abbrev pub invariant-loop-x : goal.invariant-loop-x
invariant-loop-x l = Surveyed l.table l.x l.s l.starts
