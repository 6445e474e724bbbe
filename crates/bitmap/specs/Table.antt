-- The bits as the code reads them: from the block table that the check has filled.
use Rattle.std.specs.Prelude.{ℕ, ◌+◌, ◌/◌, ◌%◌, ◌≡◌, ◌≢◌, cond, List, eqb, ltb, get_or}
use Rattle.bitmap.specs.Bitmap.{bitmap_word}

-- 1 where the owner of block x in the table is 1
unfoldable pub free_at : List ℕ → ℕ → ℕ
free_at table x = cond (eqb (get_or table x 0) 1) 1 0

-- bit k: block first + k is one of the n, and its owner in the table is 1
unfoldable pub free_bit : List ℕ → ℕ → ℕ → ℕ → ℕ
free_bit table n first k = cond (ltb (first + k) n) (free_at table (first + k)) 0

-- w is the longword of byte p, unless p begins one
abbrev pub Carried : (ℕ → ℕ) → ℕ → ℕ → Type 0
Carried bit w p = p % 4 ≢ 0 → w ≡ bitmap_word bit (p / 4)
