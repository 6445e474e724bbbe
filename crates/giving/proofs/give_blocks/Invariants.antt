use mathlib.Core.Path.{◌≡◌}
use lib.ListN.{length}
use Rattle.rules.specs.Space.{give_blocks}
use Rattle.anodes.specs.Loaded.{table_from, AnodeTables}
use Rattle.growing.specs.Grown.{growth_if}
use Rattle.giving.proofs.Runs.{RunsGo}
use Rattle.giving.proofs.give_blocks.Given as goal

abbrev pub invariant-loop-g : goal.invariant-loop-g
invariant-loop-g l = (AnodeTables l.counts l.firsts l.nexts × (length l.slots ≡ 42)) × RunsGo (growth_if l.growing) l.last.0 l.head.0 l.chain (give_blocks 3444 (growth_if l.growing) l.last.0 l.k l.head.0 (table_from l.initial.counts l.initial.firsts l.initial.nexts l.initial.slots)) l.g (table_from l.counts l.firsts l.nexts l.slots)

abbrev pub decreases-loop-g : goal.decreases-loop-g
decreases-loop-g l = l.g.left
