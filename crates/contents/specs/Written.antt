-- Bytes written over some blocks, and how far a write along a chain is.
use Rattle.std.specs.Prelude.{ℕ, ◌-◌, ◌≤◌, ◌≡◌, List, [], ◌∷◌, ◌++◌, drop}
use Rattle.endian.specs.Bytes.{stored}
use Rattle.disk.specs.Blocks.{block_of, with_block}
use Rattle.rules.specs.Counting.{occurrences}
use Rattle.laws.specs.Chains.{Inside}
use Rattle.contents.specs.declared.Cursor.{Cursor}

-- block by block: each stores what falls into it, and the next goes on with the rest of the offset and of the bytes
unfoldable pub written_over : List ℕ → List ℕ → ℕ → List ℕ → List ℕ
written_over img [] offset bytes = img
written_over img (y ∷ ys) offset bytes = written_over (with_block img y (stored (block_of img y) offset bytes)) ys (offset - 512) (drop (512 - offset) bytes)

-- from cursor c on, the blocks ys were passed or written: whatever blocks follow them come to the same
abbrev pub WrittenPast : Cursor → List ℕ → List ℕ → List ℕ → Cursor → List ℕ → Type 0
WrittenPast c bytes img ys c' img' = (rest : List ℕ) → written_over img' rest c'.skip (drop c'.done bytes) ≡ written_over img (ys ++ rest) c.skip (drop c.done bytes)

-- the image has each of these blocks whole, and none of them stands twice
abbrev pub InsideOnce : List ℕ → List ℕ → Type 0
InsideOnce img ys = Inside img ys × ((y : ℕ) → occurrences y ys ≤ 1)
