-- Changes on a disk of 8 blocks whose anodes from 6 up are all in use, without the check before them.
use Rattle.std.specs.Prelude.{◌≡◌, refl, ℕ, false, List, [], ◌∷◌, ◌++◌}
use Rattle.endian.specs.Bytes.{stored}
use Rattle.disk.specs.AnodeBlocks.{listed}
use Rattle.rules.specs.Counting.{gather}
use Rattle.rules.specs.Walk.{Entered}
use Rattle.rules.specs.Plans.{table_of, Growth, no_growth}
use Rattle.rules.specs.Table.{in_block}
use Rattle.rules.specs.Changes.{new_entry, made, resized, removed, usual_growth}
use Rattle.rules.specs.Everything.{everything}
use Rattle.samples.specs.Disks.{anode_bytes, with_anode, disk8}
use Rattle.sample_files.specs.Files.{grown}

-- an anode with no block, linked to n
abbrev linked : ℕ → List ℕ
linked n = anode_bytes 0 65535 n

-- the disk with the file of two blocks, 6 and 7, where 4 heads a chain of all other anodes: 6, and 8 to 81
unfoldable full : List ℕ
full =
    in_block
    (with_anode
    (with_anode grown
    4 0 65535 6)
    6 0 65535 8)
    3 (λ b. stored b 64 (gather linked (listed (λ n. n) 9 73) ++ linked 0))

-- the same with anode 81 free
unfoldable one_free : List ℕ
one_free = with_anode (with_anode full 80 0 65535 0) 81 0 0 0

-- the file's entry
abbrev file : Entered
file = record { broken = false; dir = false; anode = 7; size = 600; name = 97 ∷ []; start = 2064 }

-- what four changes answer, by how slots grow: a file made, the file grown by a block that is not its end, the file shrunk by a block, the file removed
unfoldable answers : Growth → List ℕ → List ℕ
answers growth img =
    (made growth img (table_of img) 5 (new_entry false (100 ∷ []) [] 0 0 0 0)).answer
    ∷ (resized growth img (table_of img) file 1536).answer
    ∷ (resized growth img (table_of img) file 512).answer
    ∷ (removed growth img (table_of img) file).answer
    ∷ []

-- all but the removal want a free anode, and there is none; a removed file's run goes back with its head
no_anode : answers no_growth full ≡ 28 ∷ 28 ∷ 28 ∷ 0 ∷ []
unfolding everything disk8 grown full answers
no_anode = refl

-- where slot 1 gets block 5, the one free block, all is done but the file grown by it
grown-table : answers usual_growth full ≡ 0 ∷ 28 ∷ 0 ∷ 0 ∷ []
unfolding everything disk8 grown full answers
grown-table = refl

-- each is done with one
one_anode : answers no_growth one_free ≡ 0 ∷ 0 ∷ 0 ∷ 0 ∷ []
unfolding everything disk8 grown full one_free answers
one_anode = refl
