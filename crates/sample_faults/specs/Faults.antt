-- The formatted disk of 5 blocks with one fault in it, and one of 8: each is refused with its number.
use Rattle.std.specs.Prelude.{◌≡◌, refl, ℕ, List, [], ◌∷◌, ◌++◌, map, set, take, replicate}
use Rattle.endian.specs.Bytes.{put16, put32, stored}
use Rattle.disk.specs.Blocks.{with_block}
use Rattle.rules.specs.Format.{new_directory_block}
use Rattle.rules.specs.Accepted.{check_answer}
use Rattle.rules.specs.Calls.{check_outcome}
use Rattle.rules.specs.Everything.{everything}
use Rattle.samples.specs.Disks.{with_anode, short_entry, disk5, with_file, blocks7, anodes3446, disk8}

-- the check's answer with tables that are long enough
unfoldable answer : List ℕ → ℕ
answer img = check_answer img 5 3444

-- no byte; a byte short of 5 blocks; 4 blocks
size_refused : map answer ([] ∷ take 2559 disk5 ∷ take 2048 disk5 ∷ []) ≡ 1 ∷ 1 ∷ 1 ∷ []
unfolding everything disk5 answer
size_refused = refl

-- a block table of 4 entries, and of 6
tables_refused : map (λ k. check_answer disk5 k 3444) (4 ∷ 6 ∷ []) ≡ 2 ∷ 0 ∷ []
unfolding everything disk5
tables_refused = refl

-- an anode table of 3,443
anodes_refused : check_answer disk5 5 3443 ≡ 2
unfolding everything disk5
anodes_refused = refl

-- the disk type
type_refused : answer (set disk5 1027 1) ≡ 3
unfolding everything disk5 answer
type_refused = refl

-- first reserved 1; last reserved 1 and 5; name length 0 and 32
root_refused : map answer (put16 disk5 1076 1 ∷ put16 disk5 1078 1 ∷ put16 disk5 1078 5 ∷ set disk5 1044 0 ∷ set disk5 1044 32 ∷ []) ≡ 4 ∷ 4 ∷ 4 ∷ 4 ∷ 4 ∷ []
unfolding everything disk5 answer
root_refused = refl

-- slot 0 empty, under 3, not under 5; the mark; the sequence number; a slot of 40,000
slots_refused : map answer (put16 disk5 1120 0 ∷ put16 disk5 1120 2 ∷ put16 disk5 1120 5 ∷ set disk5 1536 0 ∷ put16 disk5 1546 1 ∷ put16 disk5 1122 40000 ∷ []) ≡ 5 ∷ 5 ∷ 5 ∷ 5 ∷ 5 ∷ 5 ∷ []
unfolding everything disk5 answer
slots_refused = refl

-- anode 0's count; anode 1's block; anode 2 free; anode 5 free
fixed_refused : map answer (with_anode disk5 0 1 65535 0 ∷ with_anode disk5 1 0 4 2 ∷ with_anode disk5 2 0 0 0 ∷ with_anode disk5 5 0 0 0 ∷ []) ≡ 6 ∷ 6 ∷ 6 ∷ 6 ∷ []
unfolding everything disk5 answer
fixed_refused = refl

-- W4's fault: the end is 65,540 and not 4; an end of 6; a next that is missing, and one that is free
range_refused : map answer (with_anode disk5 6 10 65530 0 ∷ with_anode disk5 5 2 4 0 ∷ with_anode disk5 5 1 4 82 ∷ with_anode disk5 5 1 4 7 ∷ []) ≡ 7 ∷ 7 ∷ 7 ∷ 7 ∷ []
unfolding everything disk5 answer
range_refused = refl

-- half-cleared: a next alone, a count alone in 2, a count alone in 2 where 5 is free
half_refused : map answer (with_anode disk5 6 0 0 17 ∷ with_anode disk5 2 5 0 0 ∷ with_anode (with_anode disk5 5 0 0 0) 2 5 0 0 ∷ []) ≡ 7 ∷ 7 ∷ 6 ∷ []
unfolding everything disk5 answer
half_refused = refl

-- a ring; two predecessors of 2; a predecessor of 5
links_refused : map answer (with_anode disk5 6 0 65535 6 ∷ with_anode disk5 6 0 65535 2 ∷ with_anode disk5 6 0 65535 5 ∷ []) ≡ 8 ∷ 8 ∷ 8 ∷ []
unfolding everything disk5 answer
links_refused = refl

-- 2 not on 1's chain; a low block in an anode before 2
free_refused : map answer (with_anode disk5 1 0 65535 0 ∷ with_anode (with_anode disk5 1 0 65535 6) 6 1 4 2 ∷ []) ≡ 9 ∷ 9 ∷ []
unfolding everything disk5 answer
free_refused = refl

-- block 4 is 2's and 5's; block 3 is 2's and an anode block; block 4 is nobody's
owners_refused : map answer (with_anode disk5 2 1 4 0 ∷ with_anode disk5 2 1 3 0 ∷ with_anode disk5 5 0 4 0 ∷ []) ≡ 10 ∷ 10 ∷ 11 ∷ []
unfolding everything disk5 answer
owners_refused = refl

-- the mark, the owner, an anode with no block in the root's chain, a length byte, a type, a name with a slash
directory_refused : map answer (set disk5 2048 0 ∷ put16 disk5 2060 6 ∷ with_anode (with_anode disk5 5 1 4 6) 6 0 65535 0 ∷ set with_file 2064 22 ∷ set with_file 2065 1 ∷ set with_file 2080 47 ∷ [])
    ≡ 12 ∷ 12 ∷ 12 ∷ 12 ∷ 12 ∷ 12 ∷ []
unfolding everything disk5 with_file answer
directory_refused = refl

-- an entry's anode under 6, free, missing
named_refused : map answer (put16 with_file 2066 5 ∷ put16 with_file 2066 7 ∷ put16 with_file 2066 82 ∷ []) ≡ 13 ∷ 13 ∷ 13 ∷ []
unfolding everything disk5 with_file answer
named_refused = refl

-- a second entry that names the same anode
named_twice_refused : answer (stored with_file 2084 (short_entry 253 6 0 98)) ≡ 14
unfolding everything disk5 with_file answer
named_twice_refused = refl

-- a second entry called A beside a, or a beside a: 17, before 14 for the same anode and 13 for a free one, but after 12 for a type that is none
alike_refused : map (λ e. answer (stored with_file 2084 e)) (short_entry 253 6 0 65 ∷ short_entry 253 7 0 65 ∷ short_entry 253 6 0 97 ∷ short_entry 1 6 0 65 ∷ []) ≡ 17 ∷ 17 ∷ 17 ∷ 12 ∷ []
unfolding everything disk5 with_file answer
alike_refused = refl

-- a size of 1 and no block
size_of_file_refused : answer (put32 with_file 2068 1) ≡ 15
unfolding everything disk5 with_file answer
size_of_file_refused = refl

-- anode 6 heads a chain, and there is no entry
unnamed_refused : answer (with_anode disk5 6 0 65535 0) ≡ 16
unfolding everything disk5 answer
unnamed_refused = refl

-- directories headed by 7 and 8, in blocks 5 and 6, each naming the other, and the root naming neither
unfoldable naming_each_other : List ℕ
naming_each_other =
    with_block
    (with_block
    (with_anode
    (with_anode
    (with_anode
    (with_anode disk8
    2 0 65535 0)
    6 1 7 2)
    7 1 5 0)
    8 1 6 0)
    5 (stored (new_directory_block 7 8) 16 (short_entry 2 8 0 101)))
    6 (stored (new_directory_block 8 7) 16 (short_entry 2 7 0 100))

-- no entry that the walk reaches names them
unreached_refused : check_answer naming_each_other 8 3444 ≡ 16
unfolding everything disk8 naming_each_other
unreached_refused = refl

-- 5 to 17 leave the block table zeroed in its range
blocks-zeroed : (check_outcome (with_anode disk5 6 0 65535 0) blocks7 anodes3446).blocks ≡ 0 ∷ 0 ∷ 0 ∷ 0 ∷ 0 ∷ 9 ∷ 9 ∷ []
unfolding everything disk5
blocks-zeroed = refl

-- and the anode table in its own
anodes_zeroed : (check_outcome (with_anode disk5 6 0 65535 0) blocks7 anodes3446).anodes ≡ replicate 3444 0 ++ (9 ∷ 9 ∷ [])
unfolding everything disk5
anodes_zeroed = refl

-- 1 to 4 leave the block table untouched
blocks_untouched : (check_outcome (set disk5 1027 1) blocks7 anodes3446).blocks ≡ blocks7
unfolding everything disk5
blocks_untouched = refl

-- and the anode table
anodes_untouched : (check_outcome (set disk5 1027 1) blocks7 anodes3446).anodes ≡ anodes3446
unfolding everything disk5
anodes_untouched = refl
