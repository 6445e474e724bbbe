-- Where a directory has room for an entry, where an entry stands, and a block on the way to one entry less; what is asked of the counts in the tables.
use Rattle.std.specs.Prelude.{ℕ, ◌+◌, ◌*◌, ◌/◌, ◌%◌, ◌<◌, ◌≤◌, ◌≡◌, List, Option, Some, None, length, get_or}
use Rattle.std.proofs.Math.Option as ghost
use Rattle.std.proofs.Math.Option.{none, some}
use Rattle.disk.specs.Blocks.{block_of}
use Rattle.rules.specs.Counting.{occurrences}
use Rattle.rules.specs.Chains.{chain_of}
use Rattle.rules.specs.Changes.{entries_end}

-- the room that was found, or what the blocks behind have
abbrev pub or_rest : Option ℕ → ghost.Option ℕ → ghost.Option ℕ
or_rest (Some start) rest = some start
or_rest None rest = rest

-- the place that a search for room answers, if any
abbrev pub room_of : Option ℕ → ghost.Option ℕ
room_of r = or_rest r none

-- an entry stands whole at a place of the image, before the end mark of its block
abbrev pub EntryStands : List ℕ → ℕ → Type 0
EntryStands img start =
    (start / 512 * 512 + 512 ≤ length img)
    × (start % 512 + get_or (block_of img (start / 512)) (start % 512) 0 ≤ entries_end (block_of img (start / 512)))
    × (entries_end (block_of img (start / 512)) ≤ 512)

-- the end of every extent fits into two bytes
abbrev pub ExtentsFit : List ℕ → List ℕ → Type 0
ExtentsFit counts firsts = (a : ℕ) → 0 < get_or counts a 0 → get_or firsts a 0 + get_or counts a 0 ≤ 65535

-- each anode of the chain of h has one block, as in a directory
abbrev pub OneBlockEach : List ℕ → List ℕ → ℕ → Type 0
OneBlockEach counts nexts h = (a : ℕ) → 0 < occurrences a (chain_of (λ x. get_or nexts x 0) 3444 h) → get_or counts a 0 ≡ 1
