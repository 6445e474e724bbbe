-- What a comparison goes over: entries that can be read, and the directories of an accepted image.
use Rattle.std.specs.Prelude.{ℕ, List}
use Rattle.rules.specs.Walk.{Entered}
use Rattle.laws.specs.Entries.{Unbroken}
use Rattle.laws.specs.Members.{Member}
use Rattle.find.specs.Open.{Open}
use Rattle.entry_pairs.specs.Readable.{Readable}

-- entries that keep the rules, each of which can be read
pub record ReadableEntries (img : List ℕ) (l : List Entered) : Type 0 where
  pub unbroken : Unbroken l
  pub each : (e : Entered) → Member e l → Readable img e

-- an accepted image with its anodes in three tables and its reached directories in a fourth, where parents and heads are not lent on
abbrev pub OpenWalk : List ℕ → List ℕ → List ℕ → List ℕ → List ℕ → ℕ → Type 0
OpenWalk img counts firsts nexts queue dirs = (parents : List ℕ) × (heads : List ℕ) × Open img counts firsts nexts queue parents heads dirs
