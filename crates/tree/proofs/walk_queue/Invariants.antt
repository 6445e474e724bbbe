use mathlib.Core.Path.{◌≡◌}
use Prim.Native.Nat.{◌-◌, ◌≤◌}
use mathlib.Core.List.{[]}
use lib.ListN.{take, drop}
use Rattle.anodes.specs.Loaded.{anodes_from}
use Rattle.walk_steps.specs.Steps.{item_in, items_with, run_from, queue_of, WalkRoom, number_in, Numbered}
use Rattle.tree.proofs.walk_queue.Given as goal

abbrev pub invariant-loop-first : goal.invariant-loop-first
invariant-loop-first l = WalkRoom l.tally l.marks l.queue l.parents
    × Numbered l.image l.index (number_in l.tally) l.tally
    × (l.first ≤ 3444)
    × (run_from (items_with (item_in l.counts l.nexts l.heads) l.image (anodes_from l.counts l.firsts l.nexts)) (3444 - l.first) (drop l.first (queue_of l.queue l.parents l.tally.last)) l.marks l.tally.files (take l.first (queue_of l.queue l.parents l.tally.last)) ≡ run_from (items_with (item_in l.counts l.nexts l.heads) l.image (anodes_from l.counts l.firsts l.nexts)) 3444 (queue_of l.initial.queue l.initial.parents 1) l.initial.marks 0 [])

abbrev pub decreases-loop-first : goal.decreases-loop-first
decreases-loop-first l = 3444 - l.first
