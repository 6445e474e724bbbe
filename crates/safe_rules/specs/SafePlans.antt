-- 02, No. 8, Pull the plug: what each of the four safe changes does to the anodes and slots, and in which blocks it lands. No step grows the anode table.
-- A moved anode block is a slot with another block, as where the table grows: the laws of stored slots hold for it as they are, and the bytes are those that the stores leave.
use Rattle.std.specs.Prelude.{ℕ, zero, suc, ◌+◌, ◌-◌, ◌*◌, ◌/◌, ◌%◌, Bool, true, false, cond, List, [], ◌∷◌, ◌++◌, length, take, replicate, eqb, leb, ltb}
use Rattle.std.proofs.Math.Option.{Option, none, some}
use Rattle.endian.specs.Bytes.{put32, stored, cleared}
use Rattle.disk.specs.Blocks.{block_of}
use Rattle.disk.specs.Root.{slot_of}
use Rattle.directory.specs.Entries.{put_entry}
use Rattle.rules.specs.Counting.{least, occurrences}
use Rattle.rules.specs.Anodes.{Anodes, limit, exists_by}
use Rattle.rules.specs.Chains.{one_if_covers, blocks_of, block_count}
use Rattle.rules.specs.Walk.{Entered, blocks_for, reached_dirs}
use Rattle.rules.specs.Accepted.{disk_size, last_reserved}
use Rattle.rules.specs.Lookup.{bytes_of}
use Rattle.rules.specs.Totals.{free_blocks, anode_blocks}
use Rattle.rules.specs.Plans.{Slotted, slotted, Plan, refused, planned, ◌and_then◌, no_growth}
use Rattle.rules.specs.Space.{nowhere, found, free_extent, without_first, rewritten, dropped, lowest_free, with_spare, take_many, release}
use Rattle.rules.specs.Growth.{slot_from}
use Rattle.rules.specs.Format.{new_directory_block}
use Rattle.rules.specs.Changes.{NewEntry, entry_of, no_room, room_for, needed_block, parent_of, head_made, entry_closed}

-- ---- an old block takes a new place: the first free block, looking where directories look; 27 if none is left

-- the anode that owns block y
unfoldable pub owner_of : Anodes → ℕ → ℕ
owner_of s y = least (λ a. leb 1 (one_if_covers (s.count a) (s.block a) y)) limit

-- the state with the first block of x, a free extent after p, as the one block of anode a
unfoldable pub block_from : Slotted → ℕ → ℕ → ℕ → Slotted
block_from s a p x = slotted (rewritten (without_first s.anodes p x) a 1 (s.anodes.block x)) s.slots

-- an old directory block y takes a new place: its anode stays, with another block
unfoldable pub relocated : ℕ → Slotted → Plan Slotted
relocated y s = elim (free_extent limit true s.anodes) [
  | nowhere ↦ refused 27
  | found p x ↦ planned (block_from s (owner_of s.anodes y) p x) (s.anodes.block x ∷ [])
]

-- each of some directory blocks, in order
unfoldable pub all_relocated : List ℕ → Slotted → Plan Slotted
all_relocated [] s = planned s []
all_relocated (y ∷ ys) s = relocated y s and_then all_relocated ys

-- the anode block of slot k takes a new place: the slot holds another block
unfoldable pub reslotted : ℕ → Slotted → Plan Slotted
reslotted k s = elim (free_extent limit true s.anodes) [ nowhere ↦ refused 27 | found p x ↦ planned (slot_from s k p x) (s.anodes.block x ∷ []) ]

-- every anode block, by slot: n slots from k on; an empty slot has none
unfoldable pub reslotted_from : ℕ → ℕ → Slotted → Plan Slotted
reslotted_from zero k s = planned s []
reslotted_from (suc n) k s = cond (eqb (s.slots k) 0) (planned s []) (reslotted k s) and_then reslotted_from n (suc k)

-- ---- the old blocks

-- the n numbers from y upward that stand in a list, in rising order
unfoldable pub rising : List ℕ → ℕ → ℕ → List ℕ
rising l zero y = []
rising l (suc n) y = cond (leb 1 (occurrences y l)) (y ∷ []) [] ++ rising l n (suc y)

-- given back one by one, by 01's rule for one block: join, fill, or the lowest free anode (28)
unfoldable pub given_back : ℕ → List ℕ → Slotted → Plan Slotted
given_back last [] s = planned s []
given_back last (y ∷ ys) s = release limit no_growth last 1 y s and_then given_back last ys

-- the anode blocks: what the slots below k hold that are in use
unfoldable pub slot_blocks : (ℕ → ℕ) → ℕ → List ℕ
slot_blocks slots zero = []
slot_blocks slots (suc k) = slot_blocks slots k ++ cond (eqb (slots k) 0) [] (slots k ∷ [])

-- ---- the four changes

-- a safe change, before its directory block and the anode blocks move
pub record SafeChange : Type 0 where
  -- its own steps: the state behind them, and the blocks taken
  pub steps : Plan Slotted
  -- how many they take
  pub takes : ℕ
  -- the old directory block that changes, or none
  pub changing : List ℕ
  -- what the blocks taken and then the moved directory block hold, 512 bytes each
  pub bytes : List ℕ
  -- the blocks of the chain that was zeroed or emptied
  pub old : List ℕ

-- the chain of h zeroed
abbrev pub chain_zeroed : Slotted → ℕ → Slotted
chain_zeroed s h = slotted (dropped limit s.anodes h) s.slots

-- a file keeps its head anode, emptied, (0, 65535, 0), the rest of its chain is zeroed, and it takes all its blocks anew
unfoldable pub taken_anew : ℕ → ℕ → Slotted → Plan Slotted
taken_anew h blocks s = take_many limit no_growth false blocks h (head_made (chain_zeroed s h) h)

-- what 01's resize leaves in a file's blocks: those of a grown one are 0 from the old size on
unfoldable pub resized_bytes : List ℕ → ℕ → ℕ → List ℕ
resized_bytes bytes old new =
    take (blocks_for new * 512) (cond (ltb old new) (cleared bytes old (length bytes - old)) bytes ++ replicate (blocks_for new * 512) 0)

-- Resize: the directory block changes if the size does
unfoldable pub resize_change : List ℕ → Slotted → Entered → ℕ → SafeChange
resize_change img s e new = record {
  steps = taken_anew e.anode (blocks_for new) s;
  takes = blocks_for new;
  changing = cond (eqb e.size new) [] (e.start / 512 ∷ []);
  bytes = resized_bytes (bytes_of img s.anodes e.anode) e.size new
      ++ cond (eqb e.size new) [] (put32 (block_of img (e.start / 512)) (e.start % 512 + 4) new);
  old = blocks_of s.anodes e.anode;
}

-- Write: no directory block changes
unfoldable pub write_change : List ℕ → Slotted → Entered → ℕ → List ℕ → SafeChange
write_change img s e offset new = record {
  steps = taken_anew e.anode (block_count s.anodes e.anode) s;
  takes = block_count s.anodes e.anode;
  changing = [];
  bytes = stored (bytes_of img s.anodes e.anode) offset new;
  old = blocks_of s.anodes e.anode;
}

-- Remove zeroes its chain first, the head too, and closes the gap
unfoldable pub remove_change : List ℕ → Slotted → Entered → SafeChange
remove_change img s e = record {
  steps = planned (chain_zeroed s e.anode) [];
  takes = 0;
  changing = e.start / 512 ∷ [];
  bytes = entry_closed (block_of img (e.start / 512)) (e.start % 512);
  old = blocks_of s.anodes e.anode;
}

-- Make's own steps, with head f (28 if no anode is free): the new directory's block, then the parent's where it has no room
unfoldable pub make_steps : Slotted → ℕ → Bool → ℕ → Option ℕ → Plan Slotted
make_steps s h dir f room =
    with_spare limit no_growth s and_then (λ r.
    needed_block no_growth dir f (head_made r f) and_then needed_block no_growth (no_room room) h)

-- the directory block b with the new entry at a place of it
abbrev pub with_new_entry : List ℕ → ℕ → NewEntry → ℕ → List ℕ
with_new_entry b at new f = put_entry b at (entry_of new f) new.name new.comment

-- the block that has the entry: that of the room that was found, else the parent's new one
abbrev pub entry_block : List ℕ → Anodes → ℕ → NewEntry → ℕ → Option ℕ → List ℕ
entry_block img s h new f none = with_new_entry (new_directory_block h (parent_of (reached_dirs img s) h)) 16 new f
entry_block img s h new f (some start) = with_new_entry (block_of img (start / 512)) (start % 512) new f

-- the block of the room that was found, if any
abbrev pub room_block : Option ℕ → List ℕ
room_block none = []
room_block (some start) = start / 512 ∷ []

-- Make, with head f and the room that was found in the parent
unfoldable pub make_in : List ℕ → Slotted → ℕ → NewEntry → ℕ → Option ℕ → SafeChange
make_in img s h new f room = record {
  steps = make_steps s h new.dir f room;
  takes = cond new.dir 1 0 + cond (no_room room) 1 0;
  changing = room_block room;
  bytes = cond new.dir (new_directory_block f h) [] ++ entry_block img s.anodes h new f room;
  old = [];
}

-- Make: the lowest free anode as head, the entry in the first block with room
unfoldable pub make_change : List ℕ → Slotted → ℕ → NewEntry → SafeChange
make_change img s h new = make_in img s h new (lowest_free limit (exists_by s.slots) s.anodes) (room_for img s.anodes h new)

-- ---- all steps

-- all new blocks: the change's own, the moved directory block's, the anode blocks'
unfoldable pub new_blocks : List ℕ → SafeChange → ℕ
new_blocks img c = c.takes + length c.changing + anode_blocks img

-- all old blocks: the chain's, the moved directory block, every anode block, in one rising order
unfoldable pub old_blocks : List ℕ → SafeChange → List ℕ
old_blocks img c = rising (c.old ++ (c.changing ++ slot_blocks (slot_of img) 42)) (disk_size img) 0

-- the steps that take: the change's own, then the directory block, then every anode block
unfoldable pub taking_steps : SafeChange → Plan Slotted
taking_steps c = c.steps and_then all_relocated c.changing and_then reslotted_from 42 0

-- a plan's state, and these blocks instead of its own
unfoldable pub with_taken : List ℕ → Plan Slotted → Plan Slotted
with_taken ys (refused n) = refused n
with_taken ys (planned t zs) = planned t ys

-- all steps: the old blocks go back after all takes; the blocks of the plan are the new ones, in the order taken
unfoldable pub safe_steps : List ℕ → SafeChange → Plan Slotted
safe_steps img c = elim (taking_steps c) [ refused n ↦ refused n | planned s ys ↦ with_taken ys (given_back (last_reserved img) (old_blocks img c) s) ]

-- 27, before any 28, exactly if the old image's free blocks are fewer than the new blocks
unfoldable pub safe_plan : List ℕ → Anodes → SafeChange → Plan Slotted
safe_plan img s c = cond (ltb (free_blocks s) (new_blocks img c)) (refused 27) (safe_steps img c)
