-- Calls on a file of the disk of 8 blocks: made, grown, written, shrunk and removed.
use Rattle.std.specs.Prelude.{◌≡◌, refl, ℕ, List, [], ◌∷◌, true, replicate}
use Rattle.endian.specs.Bytes.{stored}
use Rattle.rules.specs.Counting.{same_bytes}
use Rattle.rules.specs.Calls.{check_outcome, read_outcome, list_outcome, make_outcome, resize_outcome, write_outcome, remove_outcome}
use Rattle.rules.specs.Everything.{everything}
use Rattle.samples.specs.Disks.{with_anode, short_entry, disk8, blocks8, anodes3444}

-- the names `a` and `d`
abbrev a : List ℕ
a = 97 ∷ []

abbrev d : List ℕ
d = 100 ∷ []

-- the file `a` of 600 bytes: anode 7 heads it and has the two blocks above last reserved, 6 and 7; anode 6 is emptied and zeroed
unfoldable pub grown : List ℕ
grown =
    stored
    (with_anode
    (with_anode
    (with_anode disk8
    1 0 65535 2)
    6 0 0 0)
    7 2 6 0)
    2064 (short_entry 253 7 600 97)

-- made with no block, then resized
made-and-grown : same_bytes (resize_outcome (make_outcome disk8 blocks8 anodes3444 5 253 a [] 0 0 0 0).image blocks8 anodes3444 5 a 600).image grown ≡ true
unfolding everything disk8 grown
made-and-grown = refl

-- the owners: the system, the anode block, the root directory, the free list, the file
owners-grown : (check_outcome grown blocks8 anodes3444).blocks ≡ 65535 ∷ 65535 ∷ 65535 ∷ 65534 ∷ 5 ∷ 1 ∷ 7 ∷ 7 ∷ []
unfolding everything disk8 grown
owners-grown = refl

-- what is refused: a made entry again, a read past the end, no free block, an unknown name, an unknown directory, a bad name
refusals :
    (make_outcome grown blocks8 anodes3444 5 253 a [] 0 0 0 0).answer
    ∷ (read_outcome grown blocks8 anodes3444 5 a 600 (9 ∷ [])).answer
    ∷ (resize_outcome grown blocks8 anodes3444 5 a 1537).answer
    ∷ (remove_outcome grown blocks8 anodes3444 5 d).answer
    ∷ (list_outcome grown blocks8 anodes3444 7 0).answer
    ∷ (make_outcome grown blocks8 anodes3444 5 253 [] [] 0 0 0 0).answer
    ∷ []
    ≡ 23 ∷ 26 ∷ 27 ∷ 22 ∷ 21 ∷ 20 ∷ []
unfolding everything disk8 grown
refusals = refl

-- a third block is taken from the far side: nothing is free above last reserved, so block 5 comes, in anode 6
taken_from_far : same_bytes (resize_outcome grown blocks8 anodes3444 5 a 1536).image
    (stored
    (with_anode
    (with_anode
    (with_anode grown
    2 0 65535 0)
    6 1 5 0)
    7 2 6 6)
    2064 (short_entry 253 7 1536 97)) ≡ true
unfolding everything disk8 grown
taken_from_far = refl

-- removed, the disk is as format left it but for the anode above last reserved: the head itself, 7, goes back with the run
grown-removed : same_bytes (remove_outcome grown blocks8 anodes3444 5 a).image
    (with_anode
    (with_anode
    (with_anode disk8
    1 0 65535 7)
    6 0 0 0)
    7 2 6 2) ≡ true
unfolding everything disk8 grown
grown-removed = refl

-- four bytes written across two blocks, then shrunk to 511: block 7 goes back, in anode 6 again, and keeps its bytes
unfoldable short : List ℕ
short =
    stored
    (stored
    (with_anode
    (with_anode
    (with_anode grown
    1 0 65535 6)
    6 1 7 2)
    7 1 6 0)
    2064 (short_entry 253 7 511 97))
    3582 (1 ∷ 2 ∷ 3 ∷ 4 ∷ [])

written-and_shrunk : same_bytes (resize_outcome (write_outcome grown blocks8 anodes3444 5 a 510 (1 ∷ 2 ∷ 3 ∷ 4 ∷ [])).image blocks8 anodes3444 5 a 511).image short ≡ true
unfolding everything disk8 grown short
written-and_shrunk = refl

-- removed, block 6 joins anode 6 before its start and the head is zeroed: the disk is as format left it, but for the bytes of the free blocks
short-removed : same_bytes (remove_outcome short blocks8 anodes3444 5 a).image (stored disk8 3582 (1 ∷ 2 ∷ 3 ∷ 4 ∷ [])) ≡ true
unfolding everything disk8 grown short
short-removed = refl

-- grown again, the old last block's tail and the block taken are zero
tail-zeroed : (read_outcome (resize_outcome short blocks8 anodes3444 5 a 600).image blocks8 anodes3444 5 a 508 (replicate 8 9)).output ≡ 0 ∷ 0 ∷ 1 ∷ 0 ∷ 0 ∷ 0 ∷ 0 ∷ 0 ∷ []
unfolding everything disk8 grown short
tail-zeroed = refl
