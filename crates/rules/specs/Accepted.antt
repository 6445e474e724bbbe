-- 01, "Refusal numbers, in the order they are tried", 1 to 16, and 02's 17: the test of each row, and the table.
use Rattle.std.specs.Prelude.{ℕ, ◌+◌, ◌/◌, ◌%◌, ◌≤◌, Bool, not, ◌&&◌, ◌||◌, List, length, eqb, leb, ltb}
use Rattle.disk.specs.Blocks.{block_of}
use Rattle.disk.specs.Root.{pfs0, root_in, slot_of}
use Rattle.disk.specs.AnodeBlocks.{anode_mark, anode_header_in}
use Rattle.rules.specs.Counting.{◌if◌else◌, first_of, any_below, any_in, occurrences}
use Rattle.rules.specs.Anodes.{Anodes, limit, anodes_of, is_free}
use Rattle.rules.specs.Chains.{chain_of, followed, preds, one_if_head, owners, system_owns, side}
use Rattle.rules.specs.Walk.{walk_of, fault_in, naming}

-- N, the disk's size in blocks
unfoldable pub disk_size : List ℕ → ℕ
disk_size img = length img / 512

-- 1: image not a multiple of 512, or N blocks with N under 5 or over 65,535
unfoldable pub wrong_size : List ℕ → Bool
wrong_size img = not (eqb (length img % 512) 0) || (ltb (disk_size img) 5 || ltb 65535 (disk_size img))

-- 2: block table under N entries, or anode table under 3,444
unfoldable pub short_tables : List ℕ → ℕ → ℕ → Bool
short_tables img blocks anodes = ltb blocks (disk_size img) || ltb anodes limit

-- 3: disk type differs
unfoldable pub wrong_type : List ℕ → Bool
wrong_type img = not (eqb (root_in (block_of img 2)).signature pfs0)

-- last reserved
unfoldable pub last_reserved : List ℕ → ℕ
last_reserved img = (root_in (block_of img 2)).last.0

-- 4: first reserved not 0; last reserved under 2 or not under N; name length 0 or over 31
unfoldable pub wrong_root : List ℕ → Bool
wrong_root img =
    not (eqb (root_in (block_of img 2)).first.0 0)
    || (ltb (last_reserved img) 2
    || (leb (disk_size img) (last_reserved img)
    || (eqb (root_in (block_of img 2)).name 0
    || ltb 31 (root_in (block_of img 2)).name)))

-- 5: a used slot's block is under 3 or not under N, its mark is not `AB`, or its sequence number is not the slot's
unfoldable pub wrong_slot : List ℕ → ℕ → Bool
wrong_slot img s =
    not (eqb (slot_of img s) 0)
    && (ltb (slot_of img s) 3
    || (leb (disk_size img) (slot_of img s)
    || (not (eqb (anode_header_in (block_of img (slot_of img s))).mark anode_mark)
    || not (eqb (anode_header_in (block_of img (slot_of img s))).sequence s))))

-- 5: slot 0 empty, or a slot is wrong
unfoldable pub wrong_slots : List ℕ → Bool
wrong_slots img = eqb (slot_of img 0) 0 || any_below (wrong_slot img) 42

-- 6: anode 0 not (0, 65535, 0); anode 1's count not 0 or block not 65535; anode 2 or 5 free
unfoldable pub wrong_fixed : Anodes → Bool
wrong_fixed s =
    not (eqb (s.count 0) 0 && (eqb (s.block 0) 65535 && eqb (s.next 0) 0))
    || (not (eqb (s.count 1) 0 && eqb (s.block 1) 65535)
    || (is_free s 2
    || is_free s 5))

-- the end of anode a's extent: the whole-number sum, never wrapped
abbrev pub end_of : Anodes → ℕ → ℕ
end_of s a = s.block a + s.count a

-- 7 (02, No. 2): a block field of 0 with anything else set
unfoldable pub half_cleared : Anodes → ℕ → Bool
half_cleared s a = eqb (s.block a) 0 && not (is_free s a)

-- 7: an anode in use, not 0, has count above 0 and end above N, or a next that is neither 0 nor an existing anode in use
unfoldable pub wrong_extent : Anodes → ℕ → ℕ → Bool
wrong_extent s n a =
    not (eqb a 0)
    && ((ltb 0 (s.count a) && ltb n (end_of s a))
    || (not (eqb (s.next a) 0) && eqb (s.block (s.next a)) 0))

-- 7: either, in anode a; 0 to 5 are included (6 came first); once it has passed, a block field of 0 means free
unfoldable pub out_of_range : Anodes → ℕ → ℕ → Bool
out_of_range s n a = half_cleared s a || wrong_extent s n a

-- 8: an anode in use has two predecessors or a chain that never ends (0 is nobody's next)
unfoldable pub wrong_link : Anodes → ℕ → Bool
wrong_link s a = ltb 1 (preds limit s.next a) || not (eqb (followed s.next limit a) 0)

-- 8: for anode a, where it is in use and not 0
unfoldable pub wrong_at : Anodes → ℕ → Bool
wrong_at s a = not (eqb a 0) && (not (eqb (s.block a) 0) && wrong_link s a)

-- 8: a has a predecessor
unfoldable pub has_pred : Anodes → ℕ → Bool
has_pred s a = ltb 0 (preds limit s.next a)

-- 8: some anode in use is linked wrongly, or 1, 3, 4 or 5 is somebody's next
unfoldable pub wrong_links : Anodes → Bool
wrong_links s = any_below (wrong_at s) limit || (has_pred s 1 || (has_pred s 3 || (has_pred s 4 || has_pred s 5)))

-- 9: an extent that does not lie above last reserved, as those after 1 and before 2 must
unfoldable pub not_above : Anodes → ℕ → ℕ → Bool
not_above s last a = ltb 0 (s.count a) && leb (s.block a) last

-- 9: an extent that reaches above last reserved, as none from 2 on may
unfoldable pub not_up_to : Anodes → ℕ → ℕ → Bool
not_up_to s last a = ltb 0 (s.count a) && ltb (last + 1) (end_of s a)

-- 9: 2 not on 1's chain, or a free extent on the wrong side
unfoldable pub wrong_free_list : Anodes → ℕ → Bool
wrong_free_list s last =
    eqb (occurrences 2 (chain_of s.next limit 1)) 0
    || (any_in (not_above s last) (side limit s 1)
    || any_in (not_up_to s last) (chain_of s.next limit 2))

-- 10, 11: how many owners a block has in an image
unfoldable pub owners_of : List ℕ → Anodes → ℕ → ℕ
owners_of img s = owners limit s.count s.block (system_owns img)

-- 10: a block has two owners
unfoldable pub two_owners : List ℕ → Anodes → Bool
two_owners img s = any_below (λ x. ltb 1 (owners_of img s x)) (disk_size img)

-- 11: a block has no owner
unfoldable pub no_owner : List ℕ → Anodes → Bool
no_owner img s = any_below (λ x. eqb (owners_of img s x) 0) (disk_size img)

-- 16: no reached entry names x
unfoldable pub unnamed : List ℕ → Anodes → ℕ → Bool
unnamed img s x = eqb (naming img s x) 0

-- 16: a chain from 6 up that no reached entry names
unfoldable pub unnamed_chain : List ℕ → Anodes → ℕ → Bool
unnamed_chain img s x = leb 6 x && (eqb (one_if_head limit s.next s.block x) 1 && unnamed img s x)

-- the walk's own fault, 12 to 15 or 17, then 16
unfoldable pub tree_fault : List ℕ → Anodes → ℕ
tree_fault img s = first_of (fault_in (walk_of img s)) (16 if any_below (unnamed_chain img s) limit else 0)

-- 6 to 9 of the anodes alone, on a disk of n blocks; then the rest of the table
abbrev pub anode_fault : Anodes → ℕ → ℕ → ℕ → ℕ
anode_fault s n last rest =
    6 if wrong_fixed s
    else 7 if any_below (out_of_range s n) limit
    else 8 if wrong_links s
    else 9 if wrong_free_list s last
    else rest

-- the damage that the anodes and directories show: 6 to 9, 10 and 11, then 12 to 17
unfoldable pub damage_in : List ℕ → Anodes → ℕ
damage_in img s =
    anode_fault s (disk_size img) (last_reserved img) (
    10 if two_owners img s
    else 11 if no_owner img s
    else tree_fault img s)

-- the whole table: the check's answer for an image and tables of these lengths
unfoldable pub check_answer : List ℕ → ℕ → ℕ → ℕ
check_answer img blocks anodes =
    1 if wrong_size img
    else 2 if short_tables img blocks anodes
    else 3 if wrong_type img
    else 4 if wrong_root img
    else 5 if wrong_slots img
    else damage_in img (anodes_of img)

-- 3 to 17 are damage: to report damage in the image is to answer one of them
abbrev pub Damage : ℕ → Type 0
Damage n = (3 ≤ n) × (n ≤ 17)

-- a number past those of damage, as a call's own refusals are
abbrev pub PastDamage : ℕ → Type 0
PastDamage n = 18 ≤ n
