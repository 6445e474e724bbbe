-- 02, No. 7: the fields and bytes in which two entries differ.
use Rattle.std.specs.Prelude.{ℕ, ◌+◌, Bool, cond, not, ◌&&◌, List, [], length, take, drop, eqb, leb}
use Rattle.rules.specs.Counting.{least, sum_below, same_bytes}
use Rattle.paths.specs.Facts.{Facts}

-- the number of a field, 0 where it is the same
unfoldable pub unless_same : Bool → ℕ → ℕ
unless_same same n = cond same 0 n

-- day, minute and tick are the same
unfoldable pub same_stamps : Facts → Facts → Bool
same_stamps f g = eqb f.day g.day && (eqb f.minute g.minute && eqb f.tick g.tick)

-- the fields that differ: 1 type, 2 name bytes, 4 comment, 8 stamps, 16 protection and, if both are of one type, 32 size (a directory's is 0 here)
unfoldable pub fields_differing : Facts → Facts → ℕ
fields_differing f g =
    unless_same (eqb f.type g.type) 1
    + unless_same (same_bytes f.name g.name) 2
    + unless_same (same_bytes f.comment g.comment) 4
    + unless_same (same_stamps f g) 8
    + unless_same (eqb f.protection g.protection) 16
    + cond (eqb f.type g.type) (unless_same (eqb f.size g.size) 32) 0

-- the longer_length length
unfoldable pub longer_length : List ℕ → List ℕ → ℕ
longer_length l m = cond (leb (length l) (length m)) (length m) (length l)

-- byte i differs; past the shorter one's end every byte does
unfoldable pub byte_differs : List ℕ → List ℕ → ℕ → Bool
byte_differs l m i = not (same_bytes (take 1 (drop i l)) (take 1 (drop i m)))

-- how many bytes differ
unfoldable pub bytes_differing : List ℕ → List ℕ → ℕ
bytes_differing l m = sum_below (λ i. cond (byte_differs l m i) 1 0) (longer_length l m)

-- the first that does, or 0 where none does
unfoldable pub first_byte_differing : List ℕ → List ℕ → ℕ
first_byte_differing l m = cond (eqb (bytes_differing l m) 0) 0 (least (byte_differs l m) (longer_length l m))

-- the bytes to be compared with those of another entry: none where the types differ
unfoldable pub compared_bytes : Facts → Facts → List ℕ
compared_bytes f g = cond (eqb f.type g.type) f.bytes []
