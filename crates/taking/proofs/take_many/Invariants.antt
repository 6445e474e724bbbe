use Prim.Native.Nat.{◌-◌}
use mathlib.Core.Bool.{false}
use Rattle.rules.specs.Space.{take_many}
use Rattle.anodes.specs.Loaded.{table_from}
use Rattle.growing.specs.Grown.{growth_if}
use Rattle.taking.proofs.ManyTakes.{TakeRun}
use Rattle.taking.proofs.take_many.Given as goal

abbrev pub invariant-loop : goal.invariant-loop
invariant-loop l = TakeRun (growth_if l.growing) l.fn.head.0 (take_many 3444 (growth_if l.growing) false l.k l.fn.head.0 (table_from l.fn.counts l.fn.firsts l.fn.nexts l.fn.slots)) (l.k - l.counter) l.t (table_from l.counts l.firsts l.nexts l.slots)
