use Prim.Native.Nat.{ℕ, ◌/◌, ◌%◌}
use mathlib.Core.Path.{ap}
use Rattle.names.specs.Index.{joined}
use Rattle.names.proofs.join.Goals as goal

pub returns : goal.returns
unfolding joined
returns c = let g = c.args in
    rw (c.set_entry-5.ensures, c.set_entry-4.ensures, c.set_entry-3.ensures, c.set_entry-2.ensures, c.set_entry.ensures)
    (ap (λ (first : ℕ). joined g.index.now (g.h % 4096) g.i first (g.h / 4096) g.b g.at) c.entry-first.ensures)
