-- The answer of a search: the entry, or the number of its refusal.
use Rattle.std.specs.Prelude.{ℕ, ◌≡◌, List, Result, Ok, Err}
use Rattle.std.proofs.Math.Option.{Option, some}
use Rattle.disk.specs.declared.Refusal.{Refusal}
use Rattle.disk.specs.Refusals.{number_of}
use Rattle.rules.specs.Walk.{Entered}
use Rattle.lookup.specs.declared.EntryAt.{EntryAt}
use Rattle.lookup.specs.Answers.{entered}

-- r is what a search in an image answers: the entry where its table of refusals gives 0, else the refusal of the number that the table gives
abbrev pub Finds : List ℕ → Result EntryAt Refusal → ℕ → Option Entered → Type 0
Finds img (Ok e) n o = (n ≡ 0) × (o ≡ some (entered img e))
Finds img (Err r) n o = n ≡ number_of r
