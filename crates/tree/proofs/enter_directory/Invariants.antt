use mathlib.Core.Path.{◌≡◌}
use Rattle.anodes.specs.Loaded.{anodes_from}
use Rattle.links.specs.Links.{anodes_left}
use Rattle.rules.specs.Counting.{gather}
use Rattle.rules.specs.Walk.{dir_made, twins}
use Rattle.walk_steps.specs.Steps.{item_in, items_from, items_with, entering, WalkRoom, number_in, seen_by, Numbered}
use Rattle.tree.proofs.enter_directory.Given as goal

abbrev pub invariant-loop-a : goal.invariant-loop-a
invariant-loop-a l = let f = l.fn in let item = item_in l.counts f.nexts l.heads in let s = anodes_from l.counts l.firsts f.nexts in let d = dir_made f.head.0 l.parent.0 in
    WalkRoom l.tally l.marks l.queue l.parents
    × Numbered l.image l.index (number_in l.t) l.tally
    × (entering l.tally l.marks l.queue l.parents f.head.0 (twins (seen_by l.image l.index (number_in l.t) l.tally) (gather (items_from item l.image s d) (anodes_left l.a-iterator))) ≡ entering l.t l.initial.marks l.initial.queue l.initial.parents f.head.0 (items_with item l.image s d))
