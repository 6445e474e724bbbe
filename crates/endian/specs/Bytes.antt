-- Numbers and runs of bytes in a list of bytes. `get_or l i 0` reads 0 past the end, and `set l i v` changes nothing there.
use Rattle.std.specs.Prelude.{ℕ, ◌+◌, ◌*◌, ◌/◌, ◌%◌, List, get_or, set, replicate}
use Rattle.std.proofs.lemmas.List.Edits.{sets}

-- 01, "What the box handles": numbers are big-endian and unsigned. The two bytes at `at`.
unfoldable pub be16 : List ℕ → ℕ → ℕ
be16 bytes at = get_or bytes at 0 * 256 + get_or bytes (at + 1) 0

-- the four bytes at `at`
unfoldable pub be32 : List ℕ → ℕ → ℕ
be32 bytes at = be16 bytes at * 65536 + be16 bytes (at + 2)

-- the bytes with the number `v` in the two at `at`
unfoldable pub put16 : List ℕ → ℕ → ℕ → List ℕ
put16 bytes at v = set (set bytes at (v / 256)) (at + 1) (v % 256)

-- the bytes with the number `v` in the four at `at`
unfoldable pub put32 : List ℕ → ℕ → ℕ → List ℕ
put32 bytes at v = put16 (put16 bytes at (v / 65536)) (at + 2) (v % 65536)

-- the bytes with those of `source` from `at` on
unfoldable pub stored : List ℕ → ℕ → List ℕ → List ℕ
stored bytes at source = sets bytes at source

-- the bytes with `n` zeros from `at` on
unfoldable pub cleared : List ℕ → ℕ → ℕ → List ℕ
cleared bytes at n = sets bytes at (replicate n 0)
