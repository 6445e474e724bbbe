-- 01, "The changes", Resize, Make, Write and Remove: the steps that are planned on the anodes and slots, and the image that they leave. A refused plan leaves the image that came.
use Rattle.std.specs.Prelude.{ℕ, zero, suc, ◌+◌, ◌-◌, ◌*◌, ◌/◌, ◌%◌, Bool, true, false, cond, not, ◌&&◌, List, [], ◌∷◌, ◌++◌, length, get_or, take, drop, replicate, eqb, leb, ltb}
use Rattle.std.proofs.Math.Option.{Option, none, some}
use Rattle.endian.specs.Bytes.{put32, stored, cleared}
use Rattle.disk.specs.Blocks.{block_of, with_block}
use Rattle.directory.specs.declared.Entry.{Entry}
use Rattle.directory.specs.declared.Kind.TheVariants.{File, Directory}
use Rattle.directory.specs.Entries.{entry_length, put_entry}
use Rattle.rules.specs.Anodes.{Anodes, limit, exists_by}
use Rattle.rules.specs.Chains.{blocks_of, block_count}
use Rattle.rules.specs.Walk.{Dir, Entered, blocks_for, reached_dirs}
use Rattle.rules.specs.Accepted.{last_reserved}
use Rattle.rules.specs.Lookup.{bytes_of}
use Rattle.rules.specs.Plans.{Slotted, slotted, Plan, refused, planned, Growth}
use Rattle.rules.specs.Space.{rewritten, lowest_free, with_spare, take_block, take_many, give_blocks, give_all}
use Rattle.rules.specs.Format.{zero_block, new_directory_block}
use Rattle.rules.specs.Table.{in_block, with_table}
use Rattle.rules.specs.Growth.{grown}

-- what a change answers, and the image that it leaves
pub record Left : Type 0 where
  pub answer : ℕ
  pub image : List ℕ

-- both in one line
abbrev pub left : ℕ → List ℕ → Left
left answer image = record { answer = answer; image = image }

-- refused if any step is, and then the image stays; a done plan leaves what f makes of its state and blocks
abbrev pub left_by : Plan Slotted → List ℕ → (Slotted → List ℕ → Left) → Left
left_by (refused n) img f = left n img
left_by (planned t ys) img f = f t ys

-- the image with the same bytes in each of some blocks
unfoldable pub with_blocks : List ℕ → List ℕ → List ℕ → List ℕ
with_blocks img [] new = img
with_blocks img (y ∷ ys) new = with_blocks (with_block img y new) ys new

-- ---- Resize

-- when the size grows, the old last block is zeroed from the old size to its end
unfoldable pub zero_tail : List ℕ → Anodes → Entered → ℕ → List ℕ
zero_tail img s e new =
    cond (ltb e.size new && not (eqb (e.size % 512) 0))
    (in_block img (get_or (blocks_of s e.anode) (e.size / 512) 0) (λ b. cleared b (e.size % 512) (512 - e.size % 512)))
    img

-- of the entry only the size changes
unfoldable pub with_size : List ℕ → ℕ → ℕ → List ℕ
with_size img start new = in_block img (start / 512) (λ b. put32 b (start % 512 + 4) new)

-- each block taken is zeroed; blocks given back keep their bytes
unfoldable pub zero_taken : List ℕ → Entered → ℕ → List ℕ → List ℕ
zero_taken img e new ys = cond (ltb e.size new) (with_blocks img ys zero_block) img

-- the image after a resize whose steps left the state t and moved the blocks ys
unfoldable pub resized_image : List ℕ → Anodes → Entered → ℕ → Slotted → List ℕ → List ℕ
resized_image img s e new t ys = with_size (zero_tail (zero_taken (with_table img t) e new ys) s e new) e.start new

module _ (growth : Growth) where
  -- takes one block at a time, or gives back run by run, until the count fits (last: last reserved)
  unfoldable pub resize_plan : ℕ → Slotted → ℕ → ℕ → Plan Slotted
  resize_plan last s h blocks =
      cond (leb (block_count s.anodes h) blocks)
      (take_many limit growth false (blocks - block_count s.anodes h) h s)
      (give_blocks limit growth last (block_count s.anodes h - blocks) h s)

  -- Resize: refused by its first step that fails, else that image
  unfoldable pub resized : List ℕ → Slotted → Entered → ℕ → Left
  resized img s e new = left_by (resize_plan (last_reserved img) s e.anode (blocks_for new)) img (λ t ys. left 0 (resized_image img s.anodes e new t ys))

-- ---- Make

-- the end mark's place in a directory block
unfoldable pub end_from : ℕ → List ℕ → ℕ → ℕ
end_from zero b at = at
end_from (suc k) b at = cond (eqb (get_or b at 0) 0) at (end_from k b (at + get_or b at 0))

-- the end mark's place, from byte 16 on
unfoldable pub entries_end : List ℕ → ℕ
entries_end b = end_from 28 b 16

-- the end of the first block with room for the entry and the end mark, as a place in the image
unfoldable pub first_room : List ℕ → ℕ → List ℕ → Option ℕ
first_room img len [] = none
first_room img len (y ∷ ys) =
    elim (leb (entries_end (block_of img y) + len) 510) [ true ↦ some (y * 512 + entries_end (block_of img y)) | false ↦ first_room img len ys ]

-- whether no block of the parent has room
abbrev pub no_room : Option ℕ → Bool
no_room none = true
no_room (some start) = false

-- the head of a reached directory's parent; the root's is 0
unfoldable pub parent_of : List Dir → ℕ → ℕ
parent_of [] h = 0
parent_of (d ∷ ds) h = cond (eqb d.head h) d.parent (parent_of ds h)

-- where the entry goes: the room that was found, else the new block's first place
abbrev pub entry_start : Option ℕ → List ℕ → ℕ
entry_start (some start) ys = start
entry_start none [] = 0
entry_start none (y ∷ ys) = y * 512 + 16

-- size is 0; the other fields are the caller's
pub record NewEntry : Type 0 where
  pub dir : Bool
  pub name : List ℕ
  pub comment : List ℕ
  pub day : ℕ
  pub minute : ℕ
  pub tick : ℕ
  pub protection : ℕ

-- the same in one line
abbrev pub new_entry : Bool → List ℕ → List ℕ → ℕ → ℕ → ℕ → ℕ → NewEntry
new_entry dir name comment day minute tick protection =
    record { dir = dir; name = name; comment = comment; day = day; minute = minute; tick = tick; protection = protection }

-- the new entry's fields, with head anode f
unfoldable pub entry_of : NewEntry → ℕ → Entry
entry_of new f = record {
  kind = cond new.dir Directory File;
  anode = record { 0 = f };
  size = 0;
  day = new.day;
  minute = new.minute;
  tick = new.tick;
  protection = new.protection;
  name = length new.name;
  comment = length new.comment;
}

-- the image with the entry, after its blocks, f's own (ys) and the parent's (zs), are zeroed, then headed
unfoldable pub made_image : List ℕ → Anodes → ℕ → NewEntry → ℕ → Option ℕ → List ℕ → Slotted → List ℕ → List ℕ
made_image img s h new f room ys t zs =
    in_block
    (with_blocks
    (with_blocks (with_table img t)
    ys (new_directory_block f h))
    zs (new_directory_block h (parent_of (reached_dirs img s) h)))
    (entry_start room zs / 512)
    (λ b. put_entry b (entry_start room zs % 512) (entry_of new f) new.name new.comment)

-- the room for the entry in the directory of h: the first block that has it
unfoldable pub room_for : List ℕ → Anodes → ℕ → NewEntry → Option ℕ
room_for img s h new = first_room img (entry_length (length new.name) (length new.comment)) (blocks_of s h)

-- the state with the head f, (0, 65535, 0)
abbrev pub head_made : Slotted → ℕ → Slotted
head_made s f = slotted (rewritten s.anodes f 0 65535) s.slots

module _ (growth : Growth) where
  -- a new directory takes one block into its head, and the parent takes one where it has no room
  unfoldable pub needed_block : Bool → ℕ → Slotted → Plan Slotted
  needed_block true h s = take_block limit growth true h s
  needed_block false h s = planned s []

  -- the steps from the state r, with head f and the room that was found: the new directory's block, then the parent's
  abbrev pub made_in : List ℕ → Anodes → ℕ → NewEntry → Option ℕ → Slotted → ℕ → Left
  made_in img s h new room r f =
      left_by (needed_block new.dir f (head_made r f)) img (λ q ys.
      left_by (needed_block (no_room room) h q) img (λ t zs. left 0 (made_image img s h new f room ys t zs)))

  -- Make: 28 if there is no free anode, else its steps with the lowest one as head
  unfoldable pub made : List ℕ → Slotted → ℕ → NewEntry → Left
  made img s h new =
      left_by (with_spare limit growth s) img (λ r ys.
      made_in img s.anodes h new (room_for img s.anodes h new) r (lowest_free limit (exists_by r.slots) r.anodes))

-- ---- Write

-- the image with these bytes in some blocks, 512 in each
unfoldable pub spread : List ℕ → List ℕ → List ℕ → List ℕ
spread img [] bytes = img
spread img (y ∷ ys) bytes = spread (with_block img y (take 512 bytes)) ys (drop 512 bytes)

-- replaces bytes within the size
unfoldable pub written : List ℕ → Anodes → Entered → ℕ → List ℕ → List ℕ
written img s e offset bytes = spread img (blocks_of s e.anode) (stored (bytes_of img s e.anode) offset bytes)

-- ---- Remove

-- closes the gap in the directory block, and zeroes, behind the last entry, as many bytes as the removed entry had
unfoldable pub gap_closed : List ℕ → ℕ → ℕ → ℕ → List ℕ
gap_closed b at len end = take at b ++ (take (end - (at + len)) (drop (at + len) b) ++ (replicate len 0 ++ drop end b))

-- the block with the gap of the entry at a place closed
abbrev pub entry_closed : List ℕ → ℕ → List ℕ
entry_closed b at = gap_closed b at (get_or b at 0) (entries_end b)

-- the image without the entry at a place
unfoldable pub without_entry : List ℕ → ℕ → List ℕ
without_entry img start = in_block img (start / 512) (λ b. entry_closed b (start % 512))

-- the image after a removal whose steps left the state t: its slots and anodes are stored, and the entry goes
unfoldable pub removed_image : List ℕ → Entered → Slotted → List ℕ
removed_image img e t = without_entry (with_table img t) e.start

module _ (growth : Growth) where
  -- gives back the whole chain (last: last reserved)
  abbrev pub remove_plan : ℕ → Slotted → ℕ → Plan Slotted
  remove_plan last s h = give_all limit growth last h s

  -- Remove: refused by its first step that fails, else that image
  unfoldable pub removed : List ℕ → Slotted → Entered → Left
  removed img s e = left_by (remove_plan (last_reserved img) s e.anode) img (λ t ys. left 0 (removed_image img e t))

-- ---- how slots grow in these changes: as No. 6 says
abbrev pub usual_growth : Growth
usual_growth = grown limit
