use Prim.Native.Nat.{ℕ, ◌-◌}
use mathlib.Core.Path.{◌≡◌}
use mathlib.Core.List.{List}
use Rattle.rules.specs.Searched.{searched_to, after_read, through_used}
use Rattle.anodes.specs.Loaded.{anodes_from}
use Rattle.searches.proofs.search_used.Given as goal

abbrev pub invariant-loop-a : goal.invariant-loop-a
invariant-loop-a l = (c n : List ℕ) → after_read (l.a - l.from) (through_used (anodes_from c l.firsts n) (l.end - l.a) l.a (searched_to l.end 0)) ≡ through_used (anodes_from c l.firsts n) (l.end - l.from) l.from (searched_to l.end 0)
