-- The disks on which the checker computes, and tables to lend.
use Rattle.std.specs.Prelude.{ℕ, ◌+◌, ◌*◌, ◌/◌, ◌%◌, List, [], ◌∷◌, replicate}
use Rattle.endian.specs.Bytes.{stored}
use Rattle.rules.specs.Format.{formatted}

-- the six bytes of an anode: count, block and next
abbrev pub anode_bytes : ℕ → ℕ → ℕ → List ℕ
anode_bytes c b n = c / 256 ∷ c % 256 ∷ b / 256 ∷ b % 256 ∷ n / 256 ∷ n % 256 ∷ []

-- the image with other bytes in anode a of block 3, the anode block
abbrev pub with_anode : List ℕ → ℕ → ℕ → ℕ → ℕ → List ℕ
with_anode img a c b n = stored img (1552 + 6 * a) (anode_bytes c b n)

-- the 18 bytes of an entry with a name of one byte and no comment
abbrev pub short_entry : ℕ → ℕ → ℕ → ℕ → List ℕ
short_entry type anode size name = 18 ∷ type ∷ 0 ∷ anode ∷ 0 ∷ 0 ∷ size / 256 ∷ size % 256 ∷ 0 ∷ 0 ∷ 0 ∷ 0 ∷ 0 ∷ 0 ∷ 0 ∷ 1 ∷ name ∷ 0 ∷ []

-- the name `bench`
abbrev pub label : List ℕ
label = 98 ∷ 101 ∷ 110 ∷ 99 ∷ 104 ∷ []

-- 5 blocks, last reserved 4: no free block
unfoldable pub disk5 : List ℕ
disk5 = formatted (replicate 2560 255) 4 1 label 1 2 3 4

-- the file `a` with the comment `x` in its root directory: anode 6 is its head, (0, 65535, 0), and the entry has 20 bytes with its pad byte
unfoldable pub with_file : List ℕ
with_file =
    stored
    (with_anode disk5 6 0 65535 0)
    2064 (20 ∷ 253 ∷ 0 ∷ 6 ∷ 0 ∷ 0 ∷ 0 ∷ 0 ∷ 0 ∷ 7 ∷ 0 ∷ 8 ∷ 0 ∷ 9 ∷ 10 ∷ 1 ∷ 97 ∷ 1 ∷ 120 ∷ 0 ∷ [])

-- tables with two entries past the ranges of that disk
abbrev pub blocks7 : List ℕ
blocks7 = replicate 7 9

abbrev pub anodes3446 : List ℕ
anodes3446 = replicate 3446 9

-- 8 blocks, last reserved 5: one free block up to it, 5, two above, 6 and 7
unfoldable pub disk8 : List ℕ
disk8 = formatted (replicate 4096 255) 5 1 label 1 2 3 4

-- tables as long as 2 asks
abbrev pub blocks8 : List ℕ
blocks8 = replicate 8 0

abbrev pub anodes3444 : List ℕ
anodes3444 = replicate 3444 0
