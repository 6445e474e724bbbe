use Prim.Native.Nat.{◌+◌, ◌*◌}
use Rattle.rules.specs.Anodes.{anodes_of}
use Rattle.anodes.specs.Loaded.{LoadedBelow}
use Rattle.anodes.proofs.load_block.Given as goal

abbrev pub invariant-loop-p : goal.invariant-loop-p
invariant-loop-p l = LoadedBelow (anodes_of l.image) l.counts l.firsts l.nexts (l.s * 82 + l.p)
