use Prim.Native.Nat.{◌*◌}
use Rattle.rules.specs.Anodes.{anodes_of}
use Rattle.anodes.specs.Loaded.{LoadedBelow}
use Rattle.anodes.proofs.load.Given as goal

abbrev pub invariant-loop-s : goal.invariant-loop-s
invariant-loop-s l = LoadedBelow (anodes_of l.image) l.counts l.firsts l.nexts (l.s * 82)
