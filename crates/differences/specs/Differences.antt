-- 02, No. 7: the differences of two accepted images, in the paper's order.
use Rattle.std.specs.Prelude.{ℕ, cond, ◌&&◌, List, [], ◌∷◌, ◌++◌, eqb}
use Rattle.rules.specs.Counting.{gather}
use Rattle.rules.specs.Walk.{Entered}
use Rattle.rules.specs.Lookup.{of_entry}
use Rattle.paths.specs.Paths.{Path, entry_at}
use Rattle.paths.specs.Facts.{Facts, facts_of}
use Rattle.differences.specs.Listed.{paths}
use Rattle.differences.specs.Fields.{fields_differing, bytes_differing, first_byte_differing, compared_bytes}

-- a difference, with the byte place of its entry in each image that has it
pub data Difference : Type 0 where
  only_first : (first : ℕ) → Difference
  only_second : (second : ℕ) → Difference
  -- the fields that differ, the first differing byte, and how many differ
  differing : (first second fields byte many : ℕ) → Difference

-- the kind (1 only in the first, 2 only in the second, 3 in both), the places (0 where it has none), fields, first byte, number of bytes
abbrev pub numbers_of : Difference → List ℕ
numbers_of (only_first first) = 1 ∷ first ∷ 0 ∷ 0 ∷ 0 ∷ 0 ∷ []
numbers_of (only_second second) = 2 ∷ 0 ∷ second ∷ 0 ∷ 0 ∷ 0 ∷ []
numbers_of (differing first second fields byte many) = 3 ∷ first ∷ second ∷ fields ∷ byte ∷ many ∷ []

-- an entry in both, at these places: a difference unless all fields and bytes are the same
unfoldable pub differing_in : ℕ → ℕ → Facts → Facts → List Difference
differing_in first second f g =
    cond (eqb (fields_differing f g) 0 && eqb (bytes_differing (compared_bytes f g) (compared_bytes g f)) 0) []
    (differing first second (fields_differing f g)
    (first_byte_differing (compared_bytes f g) (compared_bytes g f)) (bytes_differing (compared_bytes f g) (compared_bytes g f)) ∷ [])

-- an entry of the first, with the entry of the second at its path: one that is in both, with other facts
unfoldable pub in_both : List ℕ → List ℕ → Entered → Entered → List Difference
in_both img j e f = differing_in e.start f.start (facts_of img e) (facts_of j f)

-- at a path that the first has: only there, or in both
unfoldable pub difference_at : List ℕ → List ℕ → Path → List Difference
difference_at img j path = of_entry (entry_at img path) (λ e. of_entry (entry_at j path) (in_both img j e) (only_first e.start ∷ [])) []

-- at a path that the second has: only there
unfoldable pub only_second_at : List ℕ → List ℕ → Path → List Difference
only_second_at img j path = of_entry (entry_at img path) (λ e. []) (of_entry (entry_at j path) (λ f. only_second f.start ∷ []) [])

-- the first disk's walk order, then those only in the second in its own
unfoldable pub differences : List ℕ → List ℕ → List Difference
differences img j = gather (difference_at img j) (paths img) ++ gather (only_second_at img j) (paths j)
