-- 02, No. 11: free space as the bitmap of source document 004.
use Rattle.std.specs.Prelude.{ℕ, zero, suc, ◌+◌, ◌*◌, ◌-◌, ◌/◌, ◌%◌, Bool, cond, not, List, [], ◌∷◌, ◌++◌, eqb, leb, ltb, length, get_or}
use Rattle.rules.specs.Counting.{occurrences, least}
use Rattle.rules.specs.Anodes.{Anodes, anodes_of}
use Rattle.rules.specs.Chains.{blocks_of}
use Rattle.rules.specs.Accepted.{disk_size, last_reserved}
use Rattle.bitmap.specs.Bits.{bits_from, byte_of}

-- the first data block follows the reserved area
unfoldable pub first_data : List ℕ → ℕ
first_data img = last_reserved img + 1

-- how many blocks have a bit: those above last reserved
unfoldable pub data_blocks : List ℕ → ℕ
data_blocks img = disk_size img - first_data img

-- a block is available where it stands on 1's chain
unfoldable pub available : Anodes → ℕ → Bool
available s x = leb 1 (occurrences x (blocks_of s 1))

-- bit k speaks of the k-th data block, from 0, and is set where it is available; bits past the last block are 0
unfoldable pub block_bit : List ℕ → ℕ → ℕ
block_bit img k = cond (ltb k (data_blocks img)) (cond (available (anodes_of img) (first_data img + k)) 1 0) 0

-- longword j of the whole bitmap, 256 to a block: the mark `BM` and bytes 2 and 3, bytes 4 to 7, the sequence number from 0, then 253 longwords of 32 bits
unfoldable pub bitmap_word : (ℕ → ℕ) → ℕ → ℕ
bitmap_word bit j =
    cond (eqb (j % 256) 0) 0x424D0000
    (cond (eqb (j % 256) 1) 0
    (cond (eqb (j % 256) 2) (j / 256)
    (bits_from bit ((j / 256 * 253 + (j % 256 - 3)) * 32) 32)))

-- byte p of the bitmap is a byte of its longword
unfoldable pub bitmap_byte : (ℕ → ℕ) → ℕ → ℕ
bitmap_byte bit p = byte_of (bitmap_word bit (p / 4)) (p % 4)

-- exactly the blocks needed: 1,024 bytes for each 8,096 bits begun
unfoldable pub bitmap_length : List ℕ → ℕ
bitmap_length img = (data_blocks img + 8095) / 8096 * 1024

-- the values of f below n
unfoldable pub tabulate : (ℕ → ℕ) → ℕ → List ℕ
tabulate f zero = []
tabulate f (suc n) = tabulate f n ++ (f n ∷ [])

-- the bitmap of an image
unfoldable pub bitmap_of : List ℕ → List ℕ
bitmap_of img = tabulate (bitmap_byte (block_bit img)) (bitmap_length img)

-- byte p of a list is not the one of a rule
unfoldable pub differs_from : List ℕ → (ℕ → ℕ) → ℕ → Bool
differs_from l f p = not (eqb (get_or l p 0) (f p))

-- the first byte that differs from the bitmap, or the length where none does
unfoldable pub first_differing : (ℕ → ℕ) → List ℕ → ℕ
first_differing bit bytes = least (differs_from bytes (bitmap_byte bit)) (length bytes)
