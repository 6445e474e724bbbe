-- The walk's answer by the rules. Assumes nothing.
use Prim.Native.Nat.{ℕ}
use mathlib.Core.Path.{◌≡◌, sym, ◌∙◌}
use mathlib.Core.Bool.{Bool}
use mathlib.Core.List.{List}
use Rattle.std.specs.Prelude.{Result, Ok, Err}
use Rattle.disk.specs.declared.Refusal.{Refusal}
use Rattle.disk.specs.Refusals.{number_of}
use Rattle.rules.specs.Counting.{◌if◌else◌, any_below}
use Rattle.rules.specs.Anodes.{Anodes, limit}
use Rattle.rules.specs.Walk.{reached_dirs}
use Rattle.rules.specs.Accepted.{tree_fault}
use Rattle.rules.specs.Calls.{file_count, dir_count}
use Rattle.walk_steps.proofs.Laws.{length_queue}
use Rattle.walk_steps.proofs.Rules.{Said}
use Rattle.tree.specs.declared.Counted.{Counted}
use Rattle.walk_steps.specs.Steps.{queue_of, unnamed_at}
use Rattle.tree.specs.Steps.{conclusion}

-- what the walk's answer, with the marks and the queue that it leaves, says by the rules
abbrev pub Says : List ℕ → Anodes → List ℕ → Result Counted Refusal → List ℕ → List ℕ → List ℕ → Type 0
Says img s t (Ok found) marks queue parents =
    ((b : Bool) → any_below (unnamed_at t marks) limit ≡ b → tree_fault img s ≡ 16 if b else 0)
    × (found.files ≡ file_count img s)
    × (found.dirs ≡ dir_count img s)
    × (queue_of queue parents found.dirs ≡ reached_dirs img s)
Says img s t (Err r) marks queue parents = number_of r ≡ tree_fault img s

-- as the walk's end says it
pub says : (img : List ℕ) (s : Anodes) (t : List ℕ) (r : Result Counted Refusal) (m queue parents : List ℕ) → Said img s t (conclusion r m queue parents) → Says img s t r m queue parents
says img s t (Ok found) m queue parents h = (h.0, h.1, sym (length_queue queue parents found.dirs) ∙ h.2, h.3)
says img s t (Err r) m queue parents h = h
