-- 02, No. 5: names are compared with A to Z folded onto a to z; no other byte folds.
use Rattle.std.specs.Prelude.{ℕ, ◌+◌, cond, ◌&&◌, List, map, leb}

-- a byte, folded: 65 to 90 become 97 to 122
unfoldable pub fold : ℕ → ℕ
fold byte = cond (leb 65 byte && leb byte 90) (byte + 32) byte

-- a name, folded byte by byte
unfoldable pub folded : List ℕ → List ℕ
folded name = map fold name
