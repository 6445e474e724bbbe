-- A buffer with block writes in it.
use Rattle.std.specs.Prelude.{ℕ, cond, List, [], ◌∷◌, eqb}
use Rattle.endian.specs.Bytes.{stored}
use Rattle.safe_rules.specs.SafeWrites.{writes_of, list_bytes}

-- the buffer with the writes of some blocks, as an image has them, from `at` on
unfoldable pub with_writes : List ℕ → ℕ → List ℕ → List ℕ → List ℕ
with_writes out at img ys = stored out at (list_bytes (writes_of img ys))

-- the block that slot k holds, if it is in use
abbrev pub held_by : (ℕ → ℕ) → ℕ → List ℕ
held_by slots k = cond (eqb (slots k) 0) [] (slots k ∷ [])
