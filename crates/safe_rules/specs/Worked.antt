-- A safe make on a disk of 8 blocks, last reserved 5, computed: the anode block is 3, the root directory 4; free are 5, and above last reserved 6 and 7.
use Rattle.std.specs.Prelude.{ℕ, ◌*◌, ◌≡◌, refl, true, List, [], ◌∷◌, map, replicate, drop}
use Rattle.endian.specs.Bytes.{be16, stored}
use Rattle.disk.specs.Blocks.{block_of}
use Rattle.rules.specs.Counting.{same_bytes}
use Rattle.rules.specs.Format.{formatted}
use Rattle.rules.specs.Everything.{everything}
use Rattle.safe_rules.specs.SafePlans.{owner_of, block_from, relocated, all_relocated, reslotted, reslotted_from, rising, given_back, slot_blocks, make_steps, make_in, make_change, new_blocks, old_blocks, taking_steps, with_taken, safe_steps, safe_plan}
use Rattle.safe_rules.specs.SafeWrites.{applied, new_image, writes_of, list_of, write_bytes, list_bytes, buffer_after}
use Rattle.safe_rules.specs.SafeCalls.{SafeOutcome, safe_make, safe_settled, list_or32, safe_outcome}

-- the formatted disk, named `b`
unfoldable disk8 : List ℕ
disk8 = formatted (replicate 4096 255) 5 1 (98 ∷ []) 1 2 3 4

-- the file `a` is made in the root, with a buffer of so many bytes
abbrev making : ℕ → SafeOutcome
making n = safe_outcome disk8 (replicate 8 0) (replicate 3444 0) (replicate n 9) (safe_make 5 253 (97 ∷ []) [] 0 0 0 0)

-- the directory block has gone to 5 and the anode block to 6, which slot 0 names; 3 and 4 are anode 2's; anode 5 has block 5, 6 has block 7, 7 heads the file
unfoldable made8 : List ℕ
made8 =
    stored
    (stored
    (stored
    (stored
    (stored
    (stored disk8 1120 (0 ∷ 6 ∷ []))
    2560 (block_of disk8 4))
    2576 (18 ∷ 253 ∷ 0 ∷ 7 ∷ 0 ∷ 0 ∷ 0 ∷ 0 ∷ 0 ∷ 0 ∷ 0 ∷ 0 ∷ 0 ∷ 0 ∷ 0 ∷ 1 ∷ 97 ∷ 0 ∷ []))
    3072 (block_of disk8 3))
    3100 (0 ∷ 2 ∷ 0 ∷ 3 ∷ 0 ∷ 0 ∷ []))
    3118 (0 ∷ 1 ∷ 0 ∷ 5 ∷ 0 ∷ 0 ∷ 0 ∷ 1 ∷ 0 ∷ 7 ∷ 0 ∷ 2 ∷ 0 ∷ 0 ∷ 255 ∷ 255 ∷ 0 ∷ 0 ∷ [])

-- the image left, byte for byte
safe_made : same_bytes (making 1542).image made8 ≡ true
unfolding everything disk8 made8 owner_of block_from relocated all_relocated reslotted reslotted_from rising given_back slot_blocks make_steps make_in make_change new_blocks old_blocks taking_steps with_taken safe_steps safe_plan applied new_image writes_of list_of write_bytes list_bytes buffer_after safe_settled list_or32 safe_outcome
safe_made = refl

-- the list: the directory block, the anode block, the root
blocks-written : map (λ k. be16 (drop (k * 514) (making 1542).buffer) 0) (0 ∷ 1 ∷ 2 ∷ []) ≡ 5 ∷ 6 ∷ 2 ∷ []
unfolding everything disk8 owner_of block_from relocated all_relocated reslotted reslotted_from rising given_back slot_blocks make_steps make_in make_change new_blocks old_blocks taking_steps with_taken safe_steps safe_plan applied new_image writes_of list_of write_bytes list_bytes buffer_after safe_settled list_or32 safe_outcome
blocks-written = refl

-- a byte less, and the buffer is too short
too_short : (making 1541).answer ≡ 32
unfolding everything disk8 owner_of block_from relocated all_relocated reslotted reslotted_from rising given_back slot_blocks make_steps make_in make_change new_blocks old_blocks taking_steps with_taken safe_steps safe_plan applied new_image writes_of list_of write_bytes list_bytes buffer_after safe_settled list_or32 safe_outcome
too_short = refl
