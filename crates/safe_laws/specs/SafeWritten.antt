-- The image that a safe write leaves: the file's blocks are new, with its bytes; every other chain is as it was. It is sound.
use Rattle.std.specs.Prelude.{ℕ, ◌+◌, ◌*◌, ◌≤◌, ◌<◌, ◌≡◌, ◌≢◌, false, take}
use Rattle.std.proofs.Math.Path.{refl, sym, ap}
use Rattle.std.proofs.Common.{◌∙◌, inl, arith}
use mathlib.Core.List.{List}
use Rattle.std.proofs.Math.ListN.{length, length-take}
use Rattle.std.proofs.Math.Seq.{take-append-le, take_all}
use Rattle.disk.specs.Blocks.{block_of}
use Rattle.endian.specs.Bytes.{stored}
use Rattle.endian.proofs.Laws.{length-stored}
use Rattle.rules.specs.Counting.{occurrences, gather}
use Rattle.rules.specs.Anodes.{Anodes, limit, anodes_of}
use Rattle.rules.specs.Chains.{chain_of, system_owns, blocks_of, block_count}
use Rattle.rules.specs.Walk.{Dir, Entered, entries_in, is_block_of, items_for, items_at, items_by, reached_dirs}
use Rattle.rules.specs.Accepted.{disk_size, last_reserved}
use Rattle.rules.specs.Lookup.{bytes_of}
use Rattle.rules.specs.Plans.{Slotted, table_of, planned, ◌and_then◌}
use Rattle.rules.specs.Table.{with_table}
use Rattle.rules.specs.Changes.{spread}
use Rattle.rules.specs.Totals.{Sound}
use Rattle.laws.specs.Heads.{Head}
use Rattle.laws.specs.Moves.{Shift, shift_trans, shift_into}
use Rattle.laws.specs.Members.{Member, gather_congr, member-occurrences}
use Rattle.laws.specs.Frame.{shift_alike, shift_chain}
use Rattle.laws.specs.ChainBlocks.{length-blocks_of, shift_blocks}
use Rattle.laws.specs.Whole.{renew_file}
use Rattle.frames.specs.Kept.{Kept}
use Rattle.frames.specs.DisjointBlocks.{chain_block, chain_once}
use Rattle.frames.specs.StoredBlocks.{spread-kept}
use Rattle.frames.specs.StoredBytes.{length-gather, gather-spread, BlocksKept}
use Rattle.change_laws.specs.Image.{AcceptedWhole, AcceptedImage, accepted_whole, head_in, WholeWith, DiskWith, disk_at, disk_right, disk_long, disk-good, disk_whole, stored-kept, disk-stored, disk_then, not_among, whole_accepted}
use Rattle.change_laws.specs.SameItems.{whole_same}
use Rattle.change_laws.specs.KeptChains.{SameChain, same-chain_alike, block_same}
use Rattle.change_laws.specs.Reached.{EntryIn, EntryFacts, entry-facts, entry_data, entry-not-1, member-reached, reached_head, reached-not-1, not-file}
use Rattle.safe_rules.specs.SafePlans.{SafeChange, all_relocated, taken_anew, write_change, safe_steps}
use Rattle.safe_rules.specs.SafeWrites.{new_image}
use Rattle.safe_laws.specs.CutOff.{accepted_sound}
use Rattle.safe_laws.specs.OwnChanges.{write_own}
use Rattle.safe_laws.specs.KeptBlocks.{chain-kept}
use Rattle.safe_laws.specs.Limbo.{OwnLeft, LeavesGood}
use Rattle.safe_laws.specs.LeftTable.{DoneSteps, LeftTable, done_steps, left-table}
use Rattle.safe_laws.specs.Relocated.{none-relocated}
use Rattle.safe_laws.specs.Anew.{AnewTaken}
use Rattle.safe_laws.specs.AnewLeft.{file-anew, anew-left, anew_shift}

module _ {img : List ℕ} {k : ℕ} {e : Entered} (m : EntryIn img k e) (offset : ℕ) (bytes : List ℕ) where
  -- the own steps take the file's blocks anew
  write_anew : (r : Slotted) (xs : List ℕ) → (write_change img (table_of img) e offset bytes).steps and_then all_relocated (write_change img (table_of img) e offset bytes).changing ≡ planned r xs →
      AnewTaken (disk_size img) (last_reserved img) (table_of img) (system_owns img) (head_in img) e.anode (block_count (anodes_of img) e.anode) r xs
  unfolding write_change
  write_anew r xs first = file-anew m (block_count (anodes_of img) e.anode) r xs (none-relocated (taken_anew e.anode (block_count (anodes_of img) e.anode) (table_of img)) r xs first)

  -- WHAT THEY LEAVE
  pub write_leaves : LeavesGood img (write_change img (table_of img) e offset bytes)
  unfolding write_change
  write_leaves r xs first = anew-left m (block_count (anodes_of img) e.anode) r xs (write_change img (table_of img) e offset bytes) refl refl (write_anew r xs first)

  -- from the image to it only the free list and the file's chain are touched
  write_shift : (r : Slotted) (xs : List ℕ) (first : (write_change img (table_of img) e offset bytes).steps and_then all_relocated (write_change img (table_of img) e offset bytes).changing ≡ planned r xs) →
      Shift (anodes_of img) (head_in img) r.anodes (write_leaves r xs first).hd' 1 e.anode
  unfolding write_change write_leaves
  write_shift r xs first = anew_shift m (block_count (anodes_of img) e.anode) r xs (write_change img (table_of img) e offset bytes) refl refl (write_anew r xs first)

module _ {img : List ℕ} {k : ℕ} {e : Entered} (m : EntryIn img k e) (file : e.dir ≡ false) (offset : ℕ) (bytes : List ℕ) (t : Slotted) (ys : List ℕ) (plan : safe_steps img (write_change img (table_of img) e offset bytes) ≡ planned t ys) where
  abbrev s : Anodes
  s = anodes_of img

  abbrev c : SafeChange
  c = write_change img (table_of img) e offset bytes

  abbrev image : AcceptedImage img
  image = m.directory.image

  w : AcceptedWhole img
  w = accepted_whole image

  facts : EntryFacts img k e
  facts = entry-facts m

  -- ---- the steps

  pub d : DoneSteps img (write_change img (table_of img) e offset bytes) t ys
  d = done_steps image (write_own m offset bytes) t ys plan

  -- the first of them take the file's blocks anew
  pub anew : AnewTaken (disk_size img) (last_reserved img) (table_of img) (system_owns img) (head_in img) e.anode (block_count (anodes_of img) e.anode) d.r d.xs
  anew = write_anew m offset bytes d.r d.xs d.first

  -- and leave a good state
  abbrev pub own_left : OwnLeft img (write_change img (table_of img) e offset bytes) d.r
  own_left = write_leaves m offset bytes d.r d.xs d.first

  pub left : LeftTable img d.r own_left.hd' t
  left = left-table image (write_own m offset bytes) t ys plan d own_left

  -- from the old anodes to the new ones only the free list and the file's chain are touched
  moved : Shift s (head_in img) t.anodes left.hd' 1 e.anode
  moved = shift_trans (write_shift m offset bytes d.r d.xs d.first) (shift_into left.shift 1 e.anode (inl refl) (inl refl))

  -- ---- the image

  abbrev j : List ℕ
  j = new_image img c t ys

  not-1 : e.anode ≢ 1
  not-1 = entry-not-1 facts

  pub head_now : Head t.anodes.next t.anodes.block e.anode
  head_now = moved.stays e.anode facts.head

  -- the file's blocks are those taken
  pub new-chain : blocks_of t.anodes e.anode ≡ d.xs
  new-chain = shift_blocks own_left.good left.table.good left.shift e.anode (anew.shift.stays e.anode facts.head) not-1 not-1 ∙ anew.chain

  pub taken-first : take ((write_change img (table_of img) e offset bytes).takes + length (write_change img (table_of img) e offset bytes).changing) ys ≡ blocks_of t.anodes e.anode
  unfolding write_change
  taken-first =
      let n = block_count s e.anode + 0 in
      ap (take n) d.are ∙ take-append-le n d.xs d.us (omega (arith, anew.many)) ∙ take_all n d.xs (omega (arith, anew.many)) ∙ sym new-chain

  -- its bytes land there alone
  stores_kept : Kept (λ y. occurrences y (blocks_of t.anodes e.anode) ≡ 0) (with_table img t) (new_image img c t ys)
  unfolding new_image
  stores_kept = rw (← taken-first) (spread-kept (with_table img t) (take (c.takes + length c.changing) ys) c.bytes
      (omega (arith, (write_own m offset bytes).bytes_long, length-take (c.takes + length c.changing) ys)))

  pub written-disk : DiskWith (disk_at img t) t.anodes (new_image img (write_change img (table_of img) e offset bytes) t ys)
  written-disk = disk_then (disk-stored image left.table) stores_kept (not_among (blocks_of t.anodes e.anode) (chain_block (disk_at img t) (disk-good image left.table) e.anode head_now))

  -- the file has the new bytes in its blocks
  pub written-bytes : bytes_of (new_image img (write_change img (table_of img) e offset bytes) t ys) t.anodes e.anode ≡ stored (bytes_of img (anodes_of img) e.anode) offset bytes
  unfolding bytes_of new_image write_change
  written-bytes =
      let new = stored (gather (block_of img) (blocks_of s e.anode)) offset bytes in
      let long : length new ≡ length (blocks_of t.anodes e.anode) * 512 = length-stored (gather (block_of img) (blocks_of s e.anode)) offset bytes
      ∙ length-gather img (blocks_of s e.anode) (λ y p. (entry_data m y p).inside)
      ∙ ap (λ (n : ℕ). n * 512) (length-blocks_of s e.anode ∙ sym (ap length new-chain ∙ anew.many)) in
      ap (λ (l : List ℕ). gather (block_of (spread (with_table img t) l new)) (blocks_of t.anodes e.anode)) taken-first
      ∙ gather-spread (with_table img t) (blocks_of t.anodes e.anode) new long inside (chain_once (disk-good image left.table) e.anode head_now)
    where
      inside : (y : ℕ) → 0 < occurrences y (blocks_of t.anodes e.anode) → y * 512 + 512 ≤ length (with_table img t)
      inside y p = omega (arith, (chain_block (disk_at img t) (disk-good image left.table) e.anode head_now y p).inside, disk_long image left.table, (stored-kept image left.table).length-kept)

  -- every block of a chain but 1's is as it was
  pub written-kept : (h : ℕ) → Head s.next s.block h → h ≢ 1 → BlocksKept img (new_image img (write_change img (table_of img) e offset bytes) t ys) (anodes_of img) h
  written-kept = chain-kept image (write_own m offset bytes) t ys plan

  -- and every chain but 1's and the file's
  pub written-chain : (h : ℕ) → Head s.next s.block h → h ≢ 1 → h ≢ e.anode → SameChain (anodes_of img) t.anodes h
  written-chain h head h1 o = same-chain_alike (shift_chain w.good left.table.good moved h head h1 o) (shift_alike w.good left.table.good moved h head h1 o)

  -- ---- accepted

  abbrev dirs : List Dir
  dirs = reached_dirs img s

  steps_whole : WholeWith (disk_at img t) t.anodes left.hd' left.sd' (entries_in img) (is_block_of img) dirs
  steps_whole = disk_whole image left.table (renew_file w e.anode (facts.file file) left.table.good moved
      (sym (length-blocks_of t.anodes e.anode) ∙ ap length new-chain ∙ anew.many))

  same-items : (q : Dir) → Member q dirs → items_by (entries_in j) (is_block_of j) t.anodes q ≡ items_by (entries_in img) (is_block_of img) t.anodes q
  unfolding items_by items_for entries_in is_block_of
  same-items q in_tree =
      let r = member-reached image q in_tree in
      let same = written-chain q.head (reached_head r) (reached-not-1 r) (not-file r facts file) in
      gather_congr (items_at (entries_in j) (is_block_of j) t.anodes q) (items_at (entries_in img) (is_block_of img) t.anodes q) (chain_of t.anodes.next limit q.head) (λ a on.
      let on' : Member a (chain_of s.next limit q.head) = rw same.same_anodes at on in
      rw ((same.same_extents a (member-occurrences a (chain_of s.next limit q.head) on')).1, block_same r j (written-kept q.head (reached_head r) (reached-not-1 r)) a on'))

  -- THE IMAGE THAT A SAFE WRITE LEAVES IS SOUND
  pub written_sound : Sound (new_image img (write_change img (table_of img) e offset bytes) t ys)
  written_sound = accepted_sound (record { blocks = image.blocks; anodes = image.anodes; accepted = whole_accepted written-disk (whole_same steps_whole (entries_in j) (is_block_of j) same-items) (disk_right image left.table) })
