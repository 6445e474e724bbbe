use mathlib.Core.Path.{◌≡◌}
use Rattle.disk.specs.Blocks.{block_of}
use Rattle.rules.specs.Walk.{entries_in}
use Rattle.laws.specs.Entries.{entries_left}
use Rattle.counterparts.proofs.Laws.{Filling}
use Rattle.counterparts.proofs.index_block.Given as goal

abbrev pub invariant-loop-at : goal.invariant-loop-at
invariant-loop-at l = (l.at-iterator.reader.block.now ≡ block_of l.image l.b.0) × Filling l.image l.initial.index l.index l.fn.i l.n (entries_left l.b.0 l.at-iterator.reader) (entries_in l.image l.b.0)
