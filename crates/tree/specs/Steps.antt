-- The end of the walk by tables, as the walk answers it.
use Rattle.std.specs.Prelude.{List, ℕ, Result, Ok, Err}
use Rattle.disk.specs.declared.Refusal.{Refusal}
use Rattle.disk.specs.Refusals.{number_of}
use Rattle.walk_steps.specs.Steps.{Run, halted, ended, queue_of}
use Rattle.tree.specs.declared.Counted.{Counted}

-- the walk's answer, and the marks and the queue that it leaves
abbrev pub conclusion : Result Counted Refusal → List ℕ → List ℕ → List ℕ → Run
conclusion (Ok t) marks queue parents = ended marks t.files (queue_of queue parents t.dirs)
conclusion (Err r) marks queue parents = halted (number_of r)
