-- The bytes of an entry, whatever its place.
use Rattle.std.specs.Prelude.{ℕ, ◌+◌, ◌*◌, ◌/◌, ◌%◌, ◌<◌, ◌≡◌, List, get_or, take, drop}
use Rattle.std.proofs.Common.{arith, add-zero}
use Rattle.endian.proofs.Laws.{part_byte}
use Rattle.disk.specs.Blocks.{block_of}

-- the bytes of the entry at a place of the image
unfoldable pub entry_bytes : List ℕ → ℕ → List ℕ
entry_bytes img start = take (get_or (block_of img (start / 512)) (start % 512) 0) (drop (start % 512) (block_of img (start / 512)))

-- by block and place in it
pub bytes-at : (img : List ℕ) (start y k : ℕ) → start ≡ y * 512 + k → k < 512 → entry_bytes img start ≡ take (get_or (block_of img y) k 0) (drop k (block_of img y))
unfolding entry_bytes
bytes-at img start y k p l =
    let q : start / 512 ≡ y = omega arith in
    let r : start % 512 ≡ k = omega arith in
    rw (q, r)

-- the length byte is one of them
pub with-length : (l m : List ℕ) (k j : ℕ) → 0 < get_or m j 0 → take (get_or m j 0) (drop k l) ≡ take (get_or m j 0) (drop j m) → take (get_or l k 0) (drop k l) ≡ take (get_or m j 0) (drop j m)
with-length l m k j some e =
    let first : get_or l k 0 ≡ get_or m j 0 = rw (add-zero k, add-zero j) at (part_byte l m k j (get_or m j 0) e 0 some) in
    rw first e
