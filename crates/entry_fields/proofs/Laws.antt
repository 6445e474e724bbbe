-- The fields that differ by the blocks they stand in. Assumes nothing.
use mathlib.Core.Path.{◌≡◌, refl}
use mathlib.Core.Bool.{cond}
use Prim.Native.Nat.{ℕ, ◌+◌}
use mathlib.Core.List.{List, []}
use lib.Dec.{eqb}
use lib.ListN.{get_or}
use Rattle.rules.specs.Counting.{same_bytes}
use Rattle.directory.specs.Entries.{name_in}
use Rattle.paths.specs.Facts.{comment_in, facts_in}
use Rattle.differences.specs.Fields.{unless_same, same_stamps, fields_differing}

-- ---- fields

module _ (b : List ℕ) (at size : ℕ) (c : List ℕ) (there held : ℕ) where
  -- each field as it is read from the blocks
  pub fields_read :
      unless_same (eqb (get_or b (at + 1) 0) (get_or c (there + 1) 0)) 1
      + unless_same (same_bytes (name_in b at) (name_in c there)) 2
      + unless_same (same_bytes (comment_in b at) (comment_in c there)) 4
      + unless_same (same_stamps (facts_in b at 0 []) (facts_in c there 0 [])) 8
      + unless_same (eqb (get_or b (at + 14) 0) (get_or c (there + 14) 0)) 16
      + cond (eqb (get_or b (at + 1) 0) (get_or c (there + 1) 0)) (unless_same (eqb size held) 32) 0
      ≡ fields_differing (facts_in b at size []) (facts_in c there held [])
  unfolding fields_differing same_stamps facts_in
  fields_read = refl

  -- the bytes of the files are none of them
  pub fields_apart : (bytes others : List ℕ) → fields_differing (facts_in b at size []) (facts_in c there held []) ≡ fields_differing (facts_in b at size bytes) (facts_in c there held others)
  unfolding fields_differing same_stamps facts_in
  fields_apart bytes others = refl
