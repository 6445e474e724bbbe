-- The bytes of a file whose anodes three tables hold, and what is with-past of the bytes of two.
use Rattle.std.specs.Prelude.{ℕ, List, take}
use Rattle.rules.specs.Lookup.{bytes_of}
use Rattle.anodes.specs.Loaded.{anodes_from}
use Rattle.byte_differences.specs.declared.Differing.{Differing}

-- the first `size` bytes of the chain that h heads
abbrev pub first_bytes : List ℕ → List ℕ → List ℕ → List ℕ → ℕ → ℕ → List ℕ
first_bytes img counts firsts nexts h size = take size (bytes_of img (anodes_from counts firsts nexts) h)

-- the answer, in one line
abbrev pub differing_made : ℕ → ℕ → Differing
differing_made first many = record { first = first; many = many }
