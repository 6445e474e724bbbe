-- The disk of 5 blocks, last reserved 4, one anode block, as format leaves it: accepted, its tables, its summary, its total; an entry made and removed again; what the check does not examine.
use Rattle.std.specs.Prelude.{◌≡◌, refl, [], ◌∷◌, ◌++◌, map, true, set, replicate}
use Rattle.endian.specs.Bytes.{put16}
use Rattle.rules.specs.Counting.{same_bytes}
use Rattle.rules.specs.Format.{format_answer}
use Rattle.rules.specs.Accepted.{check_answer}
use Rattle.rules.specs.Totals.{total}
use Rattle.rules.specs.Calls.{check_outcome, summary_outcome, make_outcome, remove_outcome, list_outcome}
use Rattle.rules.specs.Everything.{everything}
use Rattle.samples.specs.Disks.{label, disk5, with_file, blocks7, anodes3446}

-- format is done
format_done : format_answer (replicate 2560 255) 4 1 label ≡ 0
unfolding everything
format_done = refl

-- the disk that it leaves is accepted
accepted : check_answer disk5 5 3444 ≡ 0
unfolding everything disk5
accepted = refl

-- the owners: the system, the anode block, the root directory; entries past the range stay
block_table : (check_outcome disk5 blocks7 anodes3446).blocks ≡ 65535 ∷ 65535 ∷ 65535 ∷ 65534 ∷ 5 ∷ 9 ∷ 9 ∷ []
unfolding everything disk5
block_table = refl

-- the heads: 1 of the free list, 5 of the root directory; entries past the range stay
anode_table : (check_outcome disk5 blocks7 anodes3446).anodes ≡ 0 ∷ 1 ∷ 1 ∷ 0 ∷ 0 ∷ 5 ∷ (replicate 3438 0 ++ (9 ∷ 9 ∷ []))
unfolding everything disk5
anode_table = refl

-- 5 blocks, none free, no file, the root
summary : (summary_outcome disk5 blocks7 anodes3446).output ≡ 5 ∷ 0 ∷ 0 ∷ 1 ∷ []
unfolding everything disk5
summary = refl

-- the kinds of blocks add up
adds_up : total disk5 ≡ 5
unfolding everything disk5
adds_up = refl

-- make stores the head and the entry
made-image : same_bytes (make_outcome disk5 blocks7 anodes3446 5 253 (97 ∷ []) (120 ∷ []) 7 8 9 10).image with_file ≡ true
unfolding everything disk5 with_file
made-image = refl

-- that disk is accepted
made-accepted : check_answer with_file 5 3444 ≡ 0
unfolding everything disk5 with_file
made-accepted = refl

-- its first entry: the eleven fields
made-listed : (list_outcome with_file blocks7 anodes3446 5 0).output ≡ 253 ∷ 6 ∷ 0 ∷ 7 ∷ 8 ∷ 9 ∷ 10 ∷ 2080 ∷ 1 ∷ 2082 ∷ 1 ∷ []
unfolding everything disk5 with_file
made-listed = refl

-- and its name
made-named : (list_outcome with_file blocks7 anodes3446 5 0).name ≡ 97 ∷ []
unfolding everything disk5 with_file
made-named = refl

-- remove leaves the formatted disk
removed_again : same_bytes (remove_outcome with_file blocks7 anodes3446 5 (97 ∷ [])).image disk5 ≡ true
unfolding everything disk5 with_file
removed_again = refl

-- the root's parent field, comment, pad and what follows the end mark are not examined
unexamined : map (λ img. check_answer img 5 3444) (put16 disk5 2062 77 ∷ set with_file 2082 0 ∷ set with_file 2083 1 ∷ set with_file 2085 1 ∷ set disk5 2558 18 ∷ []) ≡ 0 ∷ 0 ∷ 0 ∷ 0 ∷ 0 ∷ []
unfolding everything disk5 with_file
unexamined = refl
