-- A change in lent memory, held to what the rules say that it leaves.
use Rattle.std.specs.Prelude.{ℕ, ◌≡◌, false, List, []}
use Rattle.rules.specs.Anodes.{anodes_of}
use Rattle.rules.specs.Walk.{Entered}
use Rattle.rules.specs.Tables.{blocks_left, anodes_left}
use Rattle.rules.specs.Lookup.{no_directory, entries_of}
use Rattle.rules.specs.Changes.{Left}
use Rattle.rules.specs.Calls.{outcome_of, settled}
use Rattle.laws.specs.Each.{Member}

-- a change answers r and leaves img', b' and a' of an image and its two tables as l settles them, where the tables showed the image
abbrev pub Leaves : ℕ → List ℕ → List ℕ → List ℕ → List ℕ → List ℕ → List ℕ → Left → Type 0
Leaves r img b a img' b' a' l =
    (b₀ a₀ : List ℕ) → b ≡ blocks_left 0 img b₀ → a ≡ anodes_left 0 img a₀ → outcome_of r img' b' a' [] [] ≡ settled l b₀ a₀ [] []

-- e is an entry of a reached directory
abbrev pub ReachedEntry : List ℕ → Entered → Type 0
ReachedEntry img e = (h : ℕ) × (no_directory img (anodes_of img) h ≡ false) × Member e (entries_of img (anodes_of img) h)
