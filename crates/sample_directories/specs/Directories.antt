-- Calls on the directories of the disk of 8 blocks: one made, one with its block full, the root with its block full.
use Rattle.std.specs.Prelude.{◌≡◌, refl, ℕ, List, [], ◌∷◌, ◌++◌, true, replicate}
use Rattle.endian.specs.Bytes.{stored}
use Rattle.disk.specs.Blocks.{with_block}
use Rattle.rules.specs.Counting.{same_bytes}
use Rattle.rules.specs.Format.{new_directory_block}
use Rattle.rules.specs.Totals.{total}
use Rattle.rules.specs.Calls.{summary_outcome, list_outcome, make_outcome, resize_outcome, remove_outcome}
use Rattle.rules.specs.Everything.{everything}
use Rattle.samples.specs.Disks.{with_anode, short_entry, disk8, blocks8, anodes3444}

-- the names `d` and `f`
abbrev d : List ℕ
d = 100 ∷ []

abbrev f : List ℕ
f = 102 ∷ []

-- the directory `d`, headed by anode 7, has the block up to last reserved, 5, and in it the file `f`, headed by anode 8
unfoldable nested : List ℕ
nested =
    with_block
    (stored
    (with_anode
    (with_anode
    (with_anode disk8
    2 0 65535 0)
    7 1 5 0)
    8 0 65535 0)
    2064 (short_entry 2 7 0 100))
    5 (stored (new_directory_block 7 5) 16 (short_entry 253 8 0 102))

-- the directory made, then the file in it
made-nested : same_bytes (make_outcome (make_outcome disk8 blocks8 anodes3444 5 2 d [] 0 0 0 0).image blocks8 anodes3444 7 253 f [] 0 0 0 0).image nested ≡ true
unfolding everything disk8 nested
made-nested = refl

-- 8 blocks, two free, a file, two directories
nested_summary : (summary_outcome nested blocks8 anodes3444).output ≡ 8 ∷ 2 ∷ 1 ∷ 2 ∷ []
unfolding everything disk8 nested
nested_summary = refl

-- a directory that is not empty, and a directory where a file is needed
nested_refusals : (remove_outcome nested blocks8 anodes3444 5 d).answer ∷ (resize_outcome nested blocks8 anodes3444 5 d 1).answer ∷ [] ≡ 25 ∷ 24 ∷ []
unfolding everything disk8 nested
nested_refusals = refl

-- the kinds of blocks add up
nested-total : total nested ≡ 8
unfolding everything disk8 nested
nested-total = refl

-- a half-cleared anode, 9, is damage to every call
half_cleared_refused : (remove_outcome (with_anode nested 9 258 0 772) blocks8 anodes3444 7 f).answer ≡ 7
unfolding everything disk8 nested
half_cleared_refused = refl

-- the name and the comment of the longest entries
abbrev long_name : ℕ → List ℕ
long_name byte = replicate 107 byte

abbrev long_comment : List ℕ
long_comment = replicate 79 120

-- such a file, its name made of its anode's number: 204 bytes, two of which leave no room for a third in a block
abbrev long_entry : ℕ → List ℕ
long_entry anode =
    204 ∷ 253 ∷ 0 ∷ anode ∷ 0 ∷ 0 ∷ 0 ∷ 0 ∷ 0 ∷ 0 ∷ 0 ∷ 0 ∷ 0 ∷ 0 ∷ 0 ∷ 107 ∷ (long_name anode ++ (79 ∷ (long_comment ++ (0 ∷ []))))

-- two of them, headed by anodes 7 and 8, in the root directory
unfoldable root_full : List ℕ
root_full =
    with_block
    (with_anode
    (with_anode disk8
    7 0 65535 0)
    8 0 65535 0)
    4 (stored (new_directory_block 5 0) 16 (long_entry 7 ++ long_entry 8))

-- with a third, headed by anode 9, the root directory has block 5 too, in anode 10: owner 5, parent 0
unfoldable root_grown : List ℕ
root_grown =
    with_block
    (with_anode
    (with_anode
    (with_anode
    (with_anode root_full
    2 0 65535 0)
    5 1 4 10)
    9 0 65535 0)
    10 1 5 0)
    5 (stored (new_directory_block 5 0) 16 (long_entry 9))

-- the root directory grows by a block, and the entry goes there
root-grown : same_bytes (make_outcome root_full blocks8 anodes3444 5 253 (long_name 9) long_comment 0 0 0 0).image root_grown ≡ true
unfolding everything disk8 root_full root_grown
root-grown = refl

-- it is listed as the third: its name is at 2,592, its comment at 2,700
root-listed : (list_outcome root_grown blocks8 anodes3444 5 2).output ≡ 253 ∷ 9 ∷ 0 ∷ 0 ∷ 0 ∷ 0 ∷ 0 ∷ 2592 ∷ 107 ∷ 2700 ∷ 79 ∷ []
unfolding everything disk8 root_full root_grown
root-listed = refl

-- two of them, headed by anodes 8 and 9, in the directory `d`
unfoldable directory_full : List ℕ
directory_full =
    with_block
    (with_anode nested
    9 0 65535 0)
    5 (stored (new_directory_block 7 5) 16 (long_entry 8 ++ long_entry 9))

-- with a third, headed by anode 10, the directory has block 6 too, in anode 11: owner 7, parent 5
unfoldable directory_grown : List ℕ
directory_grown =
    with_block
    (with_anode
    (with_anode
    (with_anode
    (with_anode directory_full
    6 1 7 2)
    7 1 5 11)
    10 0 65535 0)
    11 1 6 0)
    6 (stored (new_directory_block 7 5) 16 (long_entry 10))

-- a directory below the root grows by a block that is taken from the far side: none is free up to last reserved
directory_grown_lem : same_bytes (make_outcome directory_full blocks8 anodes3444 7 253 (long_name 10) long_comment 0 0 0 0).image directory_grown ≡ true
unfolding everything disk8 nested directory_full directory_grown
directory_grown_lem = refl
