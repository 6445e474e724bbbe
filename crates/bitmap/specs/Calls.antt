-- 02, No. 11: what the two calls answer, leave and hand out, for every image and every buffer.
use Rattle.std.specs.Prelude.{ℕ, cond, not, List, [], ◌∷◌, eqb, ltb, length, replicate}
use Rattle.rules.specs.Counting.{◌if◌else◌}
use Rattle.rules.specs.Changes.{left}
use Rattle.rules.specs.Calls.{Outcome, settled, done_or, checked_first}
use Rattle.bitmap.specs.Bitmap.{block_bit, bitmap_length, bitmap_of, first_differing}

-- 40: the buffer is not exactly the blocks needed
unfoldable pub bitmap_refusal : List ℕ → ℕ → ℕ
bitmap_refusal img len = 40 if not (eqb len (bitmap_length img)) else 0

-- the check first, then 40
unfoldable pub bitmap_answer : List ℕ → List ℕ → List ℕ → ℕ → ℕ
bitmap_answer img blocks anodes len = checked_first img blocks anodes (bitmap_refusal img len)

-- Bitmap: the image stays, the buffer is the output; a refusal leaves it unchanged
unfoldable pub bitmap_outcome : List ℕ → List ℕ → List ℕ → List ℕ → Outcome
bitmap_outcome img blocks anodes out =
    settled (left (bitmap_answer img blocks anodes (length out)) img) blocks anodes
    (done_or (bitmap_answer img blocks anodes (length out)) (bitmap_of img) out) []

-- the two fields: 1 and the place of the first byte that differs, or zeros where none does
unfoldable pub differs_fields : ℕ → ℕ → List ℕ
differs_fields place len = cond (ltb place len) (1 ∷ place ∷ []) (replicate 2 0)

-- Bitmap differs: the image stays, the fields are the output, zeros after a refusal
unfoldable pub bitmap_differs_outcome : List ℕ → List ℕ → List ℕ → List ℕ → Outcome
bitmap_differs_outcome img blocks anodes bytes =
    settled (left (bitmap_answer img blocks anodes (length bytes)) img) blocks anodes
    (done_or (bitmap_answer img blocks anodes (length bytes)) (differs_fields (first_differing (block_bit img) bytes) (length bytes)) (replicate 2 0)) []
