-- Shares on a disk of 8 blocks, last reserved 7, computed: the anode block is 3, the root directory 4, two top directories `a` and `b` have block 5 and block 6 and the heads 6 and 7; block 7 is free.
use Rattle.std.specs.Prelude.{ℕ, ◌≡◌, refl, List, [], ◌∷◌, replicate}
use Rattle.endian.specs.Bytes.{stored}
use Rattle.rules.specs.Format.{new_directory_block, formatted}
use Rattle.rules.specs.Everything.{everything}
use Rattle.share_rules.specs.Shares.{shares, way_up, lies_in, blocks_at, used_in, used_else, used_by, share_of, over_share, is_top, wrong_tops, unfit, wrong_shares, party_of, not_own}
use Rattle.share_rules.specs.SharedCalls.{shared_make, make_needs, shared_refusal}

-- the 18 bytes of a directory's entry with a name of one byte
abbrev dir_entry : ℕ → ℕ → List ℕ
dir_entry anode name = 18 ∷ 2 ∷ 0 ∷ anode ∷ 0 ∷ 0 ∷ 0 ∷ 0 ∷ 0 ∷ 0 ∷ 0 ∷ 0 ∷ 0 ∷ 0 ∷ 0 ∷ 1 ∷ name ∷ 0 ∷ []

-- the disk
unfoldable disk : List ℕ
disk =
    stored
    (stored
    (stored
    (stored
    (stored
    (stored (formatted (replicate 4096 255) 7 1 (98 ∷ []) 1 2 3 4) 1564 (0 ∷ 1 ∷ 0 ∷ 7 ∷ 0 ∷ 0 ∷ []))
    1588 (0 ∷ 1 ∷ 0 ∷ 5 ∷ 0 ∷ 0 ∷ 0 ∷ 1 ∷ 0 ∷ 6 ∷ 0 ∷ 0 ∷ []))
    2064 (dir_entry 6 97))
    2082 (dir_entry 7 98))
    2560 (new_directory_block 6 5))
    3072 (new_directory_block 7 5)

-- party 1 makes the directory `c` in its own, which needs a block: one used and one needed are over a share of 1, and within one of 2
share_worked : shared_refusal disk 1 (shares 6 1 7 1) (shared_make 6 2 (99 ∷ []) [] 0 0 0 0) ∷ shared_refusal disk 1 (shares 6 2 7 1) (shared_make 6 2 (99 ∷ []) [] 0 0 0 0) ∷ [] ≡ 29 ∷ 0 ∷ []
unfolding everything disk way_up lies_in blocks_at used_in used_else used_by share_of over_share is_top wrong_tops unfit wrong_shares party_of not_own make_needs shared_refusal
share_worked = refl
