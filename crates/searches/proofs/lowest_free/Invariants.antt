use Prim.Native.Nat.{ℕ, ◌*◌, ◌-◌, ◌≤◌}
use mathlib.Core.Path.{◌≡◌}
use mathlib.Core.List.{List}
use Rattle.rules.specs.Anodes.{exists_by}
use Rattle.rules.specs.Searched.{searched, after_read, through_slots}
use Rattle.anodes.specs.Loaded.{anodes_from, slots_from}
use Rattle.searches.proofs.lowest_free.Given as goal

abbrev pub invariant-loop-k : goal.invariant-loop-k
invariant-loop-k l = (l.read ≤ 82 * l.k)
    × ((c n : List ℕ) → after_read l.read (through_slots (slots_from l.slots) (anodes_from c l.firsts n) (42 - l.k) l.k) ≡ searched 3444 (exists_by (slots_from l.slots)) (anodes_from c l.firsts n))
