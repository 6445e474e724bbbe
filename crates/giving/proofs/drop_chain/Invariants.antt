use Prim.Native.Nat.{◌-◌}
use mathlib.Core.Path.{◌≡◌}
use Rattle.rules.specs.Space.{dropped}
use Rattle.anodes.specs.Loaded.{anodes_from}
use Rattle.giving.proofs.Dropping.{zeroed_from}
use Rattle.giving.proofs.drop_chain.Given as goal

abbrev pub invariant-loop : goal.invariant-loop
invariant-loop l = zeroed_from (3444 - l.counter) (anodes_from l.counts l.firsts l.nexts) l.at ≡ dropped 3444 (anodes_from l.initial.counts l.initial.firsts l.initial.nexts) l.initial.at
