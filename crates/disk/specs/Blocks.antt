-- 01, "What the box handles": an image is a run of bytes in 512-byte blocks.
use Rattle.std.specs.Prelude.{ℕ, ◌+◌, ◌*◌, List, ◌++◌, length, take, drop}

-- the bytes of block `b`, none where the image ends before it
unfoldable pub block_of : List ℕ → ℕ → List ℕ
block_of img b = take 512 (drop (b * 512) img)

-- the image with other bytes in block `b`; what lies past the image's end is not stored
unfoldable pub with_block : List ℕ → ℕ → List ℕ → List ℕ
with_block img b new = take (b * 512) img ++ (take (length (block_of img b)) new ++ drop (b * 512 + 512) img)
