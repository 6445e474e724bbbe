-- The answer of the walk: the values that it counts, and the directories that it leaves in two tables.
use Rattle.std.specs.Prelude.{ℕ, ◌≡◌, List, Result, Ok, Err}
use Rattle.disk.specs.declared.Refusal.{Refusal}
use Rattle.rules.specs.Anodes.{Anodes}
use Rattle.rules.specs.Walk.{reached_dirs}
use Rattle.rules.specs.Calls.{file_count, dir_count}
use Rattle.tree.specs.declared.Counted.{Counted}
use Rattle.walk_steps.specs.Steps.{queue_of}

-- the files, and the directories with the root
abbrev pub Counts : Result Counted Refusal → List ℕ → Anodes → Type 0
Counts (Ok t) img s = (t.files ≡ file_count img s) × (t.dirs ≡ dir_count img s)
Counts (Err r) img s = Unit {0}

-- the reached directories, in the order of the walk
abbrev pub Queued : Result Counted Refusal → List ℕ → Anodes → List ℕ → List ℕ → Type 0
Queued (Ok t) img s queue parents = queue_of queue parents t.dirs ≡ reached_dirs img s
Queued (Err r) img s queue parents = Unit {0}
