-- The stores of a removal, and what they leave of an accepted image.
use Rattle.std.specs.Prelude.{ℕ, ◌+◌, ◌<◌, ◌/◌, ◌%◌, ◌≡◌, ◌≢◌, length, get_or}
use Rattle.std.proofs.Common.{sym, ◌∙◌, inl, inr, arith}
use Rattle.std.proofs.Math.Path.{ap}
use mathlib.Core.List.{List, ◌++◌, map}
use Rattle.disk.specs.Blocks.{block_of}
use Rattle.disk.specs.Root.{slot_of}
use Rattle.rules.specs.Anodes.{Anodes, limit, anodes_of}
use Rattle.rules.specs.Counting.{occurrences}
use Rattle.rules.specs.Chains.{chain_of, blocks_of, block_count, system_owns}
use Rattle.rules.specs.Walk.{Dir, Entered, entries_in, is_block_of}
use Rattle.rules.specs.Accepted.{disk_size, last_reserved}
use Rattle.rules.specs.Plans.{Slotted, table_of, planned, Growth}
use Rattle.rules.specs.Table.{with_table}
use Rattle.rules.specs.Totals.{free_blocks, anode_blocks}
use Rattle.rules.specs.Changes.{without_entry, removed_image, remove_plan, entry_closed}
use Rattle.laws.specs.Tests.{less?, not_above}
use Rattle.laws.specs.Held.{held}
use Rattle.laws.specs.OwnerTable.{held_data}
use Rattle.laws.specs.Heads.{Head}
use Rattle.laws.specs.Members.{Member}
use Rattle.laws.specs.Moves.{Grows}
use Rattle.laws.specs.FixedSlots.{start_owned}
use Rattle.laws.specs.ChainGone.{gone_alike, gone-chain, ChainGone, gone-blocks, gone-sum, all-gone}
use Rattle.laws.specs.Whole.{blocks-count}
use Rattle.frames.specs.Kept.{Kept, kept_both}
use Rattle.frames.specs.StoredBlocks.{in_block-kept, block_of-in_block}
use Rattle.frames.specs.DisjointBlocks.{DataBlock, occurrences-held, chain_block}
use Rattle.change_laws.specs.Image.{GoodOn, head_in, DiskWith, disk_at, TableFor, table-grown, disk-good, stored-kept, disk-stored, not-one, disk_then}
use Rattle.change_laws.specs.Totals.{free-count, anode_blocks-grown}
use Rattle.change_laws.specs.FoundEntries.{BlockEntry}
use Rattle.change_laws.specs.KeptChains.{SameChain, same-chain_alike, same_blocks}
use Rattle.change_laws.specs.Reached.{block_entry, block_on, reached-not-1, reached_head, dir_block, not_itself}
use Rattle.change_laws.specs.PlannedChange.{PlannedChange, image, w, facts, not-1}
use Rattle.change_laws.specs.Gap.{lowered, length-closed, head_closed, entries_closed}

-- a removal's steps that were planned; growth: how slots grow in them
pub record EntryPlan (img : List ℕ) (e : Entered) (t : Slotted) (ys : List ℕ) : Type 0 where
  pub growth : Growth
  pub grows : Grows limit (disk_size img) (last_reserved img) growth
  pub steps : remove_plan growth (last_reserved img) (table_of img) e.anode ≡ planned t ys

-- a removal of an entry of an accepted image, and its steps
abbrev pub PlannedRemove : List ℕ → Entered → Slotted → List ℕ → Type 0
PlannedRemove img e t ys = PlannedChange img e (EntryPlan img e t ys)

module _ {img : List ℕ} {e : Entered} {u : Slotted} {ys : List ℕ} (p : PlannedRemove img e u ys) where
  abbrev s : Anodes
  s = anodes_of img

  -- ---- the block that the entry stands in, and where

  abbrev pub y : ℕ
  y = e.start / 512

  abbrev pub b : List ℕ
  b = block_of img y

  abbrev at : ℕ
  at = e.start % 512

  abbrev pub len : ℕ
  len = get_or b at 0

  abbrev pub closed : List ℕ
  closed = entry_closed b at

  abbrev pub here : BlockEntry b y at e
  here = block_entry (facts p)

  -- ---- the steps

  -- the anodes that are left
  abbrev pub end : Anodes
  end = u.anodes

  -- its chain is gone, and the blocks of it are free, or the system's where slots have grown by them
  pub gave : (gs : List ℕ) × ChainGone limit (disk_size img) (last_reserved img) (table_of img) (system_owns img) (head_in img) e.anode ys gs u
  gave = all-gone p.plan.grows (start_owned (slot_of img)) (w p).good e.anode (facts p).from_6 (facts p).head u ys p.plan.steps

  abbrev pub goes : ChainGone limit (disk_size img) (last_reserved img) (table_of img) (system_owns img) (head_in img) e.anode ys gave.0 u
  goes = gave.1

  -- they are those of ys, in some order
  pub given-all : (x : ℕ) → occurrences x (blocks_of s e.anode) ≡ occurrences x ys
  given-all x =
      let same = gone-blocks goes (not-1 p) x in
      elim (less? x (disk_size img)) [
        | inl l ↦ occurrences-held (w p).good e.anode (facts p).head x l ∙ sym same
        | inr l ↦ not_above (occurrences x (blocks_of s e.anode)) (λ q. omega (arith, l, (chain_block img (w p).good e.anode (facts p).head x q).below))
            ∙ sym (same ∙ not_above (held limit (head_in img) s.count s.block e.anode x) (λ q. omega (arith, l, (held_data (w p).good e.anode x q).0)))
      ]

  -- the heads of the chains that are left, and of the sides of the free list
  abbrev pub hd_left : ℕ → ℕ
  hd_left = goes.hd'

  abbrev pub sd_left : ℕ → ℕ
  sd_left = goes.sd'

  -- the table that they left may be stored
  pub table : TableFor img u hd_left sd_left
  table = table-grown (image p) gave.0 goes.good goes.system_got goes.slots_grew

  -- the disk with its slots
  abbrev disk : List ℕ
  disk = disk_at img u

  pub end-good : GoodOn (disk_at img u) end hd_left sd_left
  end-good = disk-good (image p) table

  -- ---- every other chain but 1's

  module _ (m : ℕ) (head : Head s.next s.block m) (m1 : m ≢ 1) (other : m ≢ e.anode) where
    -- it has its anodes
    pub others_same : SameChain s end m
    others_same = same-chain_alike (gone-chain (w p).good table.good e.anode goes.gone m m1 other head) (gone_alike (w p).good table.good e.anode goes.gone m m1 other head)

    -- and its blocks are data blocks of that disk
    pub other_data : (z : ℕ) → 0 < occurrences z (blocks_of s m) → DataBlock (disk_at img u) z
    other_data z q = chain_block disk end-good m (goes.gone.stays m other head) z (rw (same_blocks others_same) q)

  -- so are those of the entry's own directory
  pub home_data : (a : ℕ) → Member a (chain_of s.next limit p.home) → DataBlock (disk_at img u) (s.block a)
  home_data a on =
      let r = p.entry.directory in
      other_data p.home (reached_head r) (reached-not-1 r) (not_itself r (facts p)) (s.block a) (block_on s p.home a on (dir_block r a on).one)

  entry_data : DataBlock disk y
  entry_data = rw (facts p).in_block_lem (home_data (facts p).a₀ (facts p).member-chain)

  -- ---- the stores, one after the other

  abbrev stored : List ℕ
  stored = with_table img u

  -- the image that a removal leaves
  abbrev j : List ℕ
  j = removed_image img e u

  same_block : block_of stored y ≡ b
  same_block = (stored-kept (image p) table).block_kept y entry_data

  long : (i : List ℕ) → block_of i y ≡ b → length (entry_closed (block_of i y) at) ≡ length (block_of i y)
  long i q = rw q (length-closed here ∙ sym here.whole)

  -- an image with that block, without the entry
  pub without-kept : (i : List ℕ) → block_of i y ≡ b → Kept (λ d. d ≢ y) i (without_entry i e.start)
  unfolding without_entry
  without-kept i q = in_block-kept i y (λ c. entry_closed c at) (long i q)

  pub without_block : (i : List ℕ) → block_of i y ≡ b → block_of (without_entry i e.start) y ≡ closed
  unfolding without_entry
  without_block i q = block_of-in_block i y (λ c. entry_closed c at) (long i q) ∙ ap (λ (c : List ℕ). entry_closed c at) q

  kept-last : Kept (λ d. d ≢ y) stored j
  unfolding removed_image
  kept-last = without-kept stored same_block

  pub block_left : block_of j y ≡ closed
  unfolding removed_image
  block_left = without_block stored same_block

  pub removed-disk : DiskWith (disk_at img u) end j
  removed-disk = disk_then (disk-stored (image p) table) kept-last (not-one entry_data)

  -- the free blocks and the anode blocks afterwards are the free blocks, the anode blocks and the removed chain's before
  pub removed-sum : free_blocks (anodes_of (removed_image img e u)) + anode_blocks (removed_image img e u) ≡ free_blocks (anodes_of img) + anode_blocks img + block_count (anodes_of img) e.anode
  removed-sum = omega (
    arith,
    gone-sum goes (not-1 p),
    blocks-count (w p).good e.anode (facts p).head,
    free-count (w p).good,
    free-count table.good,
    ap free_blocks removed-disk.anodes,
    anode_blocks-grown (image p) table gave.0 goes.system_got removed-disk,
  )

  -- ---- the entries and marks of the blocks

  pub kept_data : Kept (λ d. DataBlock (disk_at img u) d × (d ≢ y)) img j
  kept_data = kept_both (λ d o. o.0) (λ d o. o.1) (stored-kept (image p) table) kept-last

  -- those of the block that had the entry
  module _ (i : List ℕ) (q : block_of i y ≡ closed) where
    pub entries_left : entries_in i y ≡ here.parted.0 ++ map (lowered len) here.parted.1
    unfolding entries_in
    entries_left = rw q (entries_closed here)

    pub marks_left : (d : Dir) → is_block_of i d y ≡ is_block_of img d y
    unfolding is_block_of
    marks_left d = rw (q, head_closed here)
