-- The stores of a resize, one after the other, and what they leave of an accepted image.
use Rattle.std.specs.Prelude.{ℕ, ◌+◌, ◌-◌, ◌/◌, ◌%◌, ◌<◌, ◌≡◌, ◌≢◌, Bool, cond, ◌&&◌, List, ◌++◌, eqb, length, get_or}
use Rattle.std.proofs.Math.Path.{refl, ap}
use Rattle.std.proofs.Common.{sym, ◌∙◌, arith, le_of_eq}
use Rattle.std.proofs.Math.Bool.{true, false, not, and-eq-true_iff}
use Rattle.std.proofs.Math.Dec.{ltb}
use Rattle.std.proofs.lemmas.List.{length-replicate}
use borrow.Author.Tests.{ltb-true, eqb-false, not-true}
use Rattle.endian.specs.Bytes.{put32, cleared}
use Rattle.endian.proofs.Laws.{length-put32, length-cleared}
use Rattle.disk.specs.Blocks.{block_of}
use Rattle.rules.specs.Counting.{occurrences}
use Rattle.rules.specs.Anodes.{Anodes, limit, anodes_of}
use Rattle.rules.specs.Chains.{chain_of, blocks_of, block_count}
use Rattle.rules.specs.Walk.{Entered, blocks_for}
use Rattle.rules.specs.Plans.{Slotted, table_of, planned, Growth}
use Rattle.rules.specs.Accepted.{disk_size, last_reserved}
use Rattle.rules.specs.Format.{zero_block}
use Rattle.rules.specs.Table.{in_block, with_table}
use Rattle.rules.specs.Totals.{free_blocks, anode_blocks}
use Rattle.rules.specs.Changes.{with_blocks, resize_plan, zero_tail, with_size, zero_taken, resized_image}
use Rattle.laws.specs.Bags.{occurrences-append}
use Rattle.laws.specs.Heads.{Head}
use Rattle.laws.specs.Moves.{Grows}
use Rattle.laws.specs.Frame.{shift_alike, shift_chain}
use Rattle.laws.specs.ChainBlocks.{length-blocks_of}
use Rattle.laws.specs.Members.{Member, member-occurrences, nth_in}
use Rattle.frames.specs.Kept.{Kept, kept-all, kept_both}
use Rattle.frames.specs.StoredBlocks.{in_block-kept, block_of-in_block, with_blocks-kept}
use Rattle.frames.specs.DisjointBlocks.{DataBlock, chains_apart, chain_block}
use Rattle.frames.specs.StoredBytes.{BlocksKept}
use Rattle.change_laws.specs.Image.{GoodOn, head_in, DiskWith, disk_at, TableFor, table-grown, disk-good, stored-kept, disk-stored, not-one, not_among, disk_then, ReachedDir}
use Rattle.change_laws.specs.Totals.{free-count, anode_blocks-grown}
use Rattle.change_laws.specs.Reached.{block_on, reached-not-1, reached_head, dir_block, not-file}
use Rattle.change_laws.specs.KeptChains.{SameChain, same-chain_alike, same_blocks, OthersLeft}
use Rattle.change_laws.specs.PlannedChange.{PlannedChange, image, w, facts, not-1, off_chain, off_anode}
use Rattle.change_laws.specs.ResizePlan.{Resizing, plan_runs, plan-longer}

-- a resize of a file of an accepted image, and the steps that were planned; growth: how slots grow in them
pub record FilePlan (img : List ℕ) (e : Entered) (new : ℕ) (t : Slotted) (ys : List ℕ) : Type 0 where
  pub file : e.dir ≡ false
  pub growth : Growth
  pub grows : Grows limit (disk_size img) (last_reserved img) growth
  pub steps : resize_plan growth (last_reserved img) (table_of img) e.anode (blocks_for new) ≡ planned t ys

abbrev pub PlannedResize : List ℕ → Entered → ℕ → Slotted → List ℕ → Type 0
PlannedResize img e new t ys = PlannedChange img e (FilePlan img e new t ys)

-- ---- the image that is left

module _ {img : List ℕ} {e : Entered} {new : ℕ} {u : Slotted} {ys : List ℕ} (p : PlannedResize img e new u ys) where
  abbrev s : Anodes
  s = anodes_of img

  abbrev t : Anodes
  t = u.anodes

  abbrev chain : List ℕ
  chain = blocks_of s e.anode

  pub steps : Resizing img s (head_in img) e.anode (blocks_for new) u ys
  steps = plan_runs img p.plan.grows (w p).good e.anode (facts p).head (not-1 p) (blocks_for new) u ys p.plan.steps

  -- the table that they left may be stored
  pub table : TableFor img u steps.moves.hd' steps.moves.sd'
  table = table-grown (image p) steps.gs steps.moves.good steps.moves.system_got steps.moves.slots_grew

  -- the disk with its slots
  abbrev disk : List ℕ
  disk = disk_at img u

  pub steps_good : GoodOn (disk_at img u) u.anodes steps.moves.hd' steps.moves.sd'
  steps_good = disk-good (image p) table

  -- ---- the blocks of chains are data blocks of that disk

  -- what heads a chain still does
  now_head : (m : ℕ) → Head s.next s.block m → Head t.next t.block m
  now_head m d = steps.moves.shift.stays m d

  pub file_data : (y : ℕ) → 0 < occurrences y (blocks_of t e.anode) → DataBlock (disk_at img u) y
  file_data y q = chain_block disk steps_good e.anode (now_head e.anode (facts p).head) y q

  -- a file that gets longer has its blocks, and then those that it took
  pub longer : e.size < new → (blocks_of u.anodes e.anode ≡ blocks_of (anodes_of img) e.anode ++ ys) × (length ys ≡ blocks_for new - block_count (anodes_of img) e.anode)
  unfolding blocks_for
  longer more = plan-longer img p.plan.grows (w p).good e.anode (facts p).head (not-1 p) (blocks_for new) u ys p.plan.steps (omega (arith, (facts p).sized p.plan.file))

  -- so what is none of its blocks then is none of either
  pub longer-none : e.size < new → (y : ℕ) → occurrences y (blocks_of u.anodes e.anode) ≡ 0 → (occurrences y (blocks_of (anodes_of img) e.anode) ≡ 0) × (occurrences y ys ≡ 0)
  longer-none more y z =
      let all : occurrences y chain + occurrences y ys ≡ 0 = sym (occurrences-append y chain ys) ∙ ap (occurrences y) (sym (longer more).0) ∙ z in
      (omega arith, omega arith)

  module _ (m : ℕ) (head : Head s.next s.block m) (m1 : m ≢ 1) (other : m ≢ e.anode) where
    -- every other chain but 1's has its anodes
    others_same : SameChain s t m
    others_same = same-chain_alike (shift_chain (w p).good table.good steps.moves.shift m head m1 other) (shift_alike (w p).good table.good steps.moves.shift m head m1 other)

    -- so its blocks
    still_there : (y : ℕ) → 0 < occurrences y (blocks_of s m) → 0 < occurrences y (blocks_of t m)
    still_there y q = rw (same_blocks others_same) q

    other_data : (y : ℕ) → 0 < occurrences y (blocks_of s m) → DataBlock disk y
    other_data y q = chain_block disk steps_good m (now_head m head) y (still_there y q)

    -- which are none of the file's
    other_apart : (y : ℕ) → 0 < occurrences y (blocks_of s m) → occurrences y (blocks_of t e.anode) ≡ 0
    other_apart y q = chains_apart steps_good m e.anode (now_head m head) (now_head e.anode (facts p).head) other y (still_there y q)

  module _ {k : ℕ} (r : ReachedDir img k) where
    pub head_not-file : k ≢ e.anode
    head_not-file = not-file r (facts p) p.plan.file

    -- the chain of a directory stays
    pub dir_same : SameChain s t k
    dir_same = others_same k (reached_head r) (reached-not-1 r) head_not-file

    module _ (a : ℕ) (on : Member a (chain_of s.next limit k)) where
      dir_on : 0 < occurrences (s.block a) (blocks_of s k)
      dir_on = block_on s k a on (dir_block r a on).one

      dir_data : DataBlock disk (s.block a)
      dir_data = other_data k (reached_head r) (reached-not-1 r) head_not-file (s.block a) dir_on

      dir_apart : occurrences (s.block a) (blocks_of t e.anode) ≡ 0
      dir_apart = other_apart k (reached_head r) (reached-not-1 r) head_not-file (s.block a) dir_on

  -- the block that has the entry
  home_data : DataBlock disk (e.start / 512)
  home_data = rw (facts p).in_block_lem (dir_data p.entry.directory (facts p).a₀ (facts p).member-chain)

  -- it is none of the file's
  pub home_apart : occurrences (e.start / 512) (blocks_of u.anodes e.anode) ≡ 0
  home_apart = rw (facts p).in_block_lem (dir_apart p.entry.directory (facts p).a₀ (facts p).member-chain)

  -- ---- the stores, one after the other

  abbrev table_in : List ℕ
  table_in = with_table img u

  abbrev pub zeroed : List ℕ
  zeroed = zero_taken table_in e new ys

  abbrev tailed : List ℕ
  tailed = zero_tail zeroed s e new

  -- the image that a resize leaves
  abbrev j : List ℕ
  j = with_size tailed e.start new

  pub stored : Kept (DataBlock (disk_at img u)) img table_in
  stored = stored-kept (image p) table

  -- what a file that gets longer takes is zeroed, and nothing else
  pub taken-kept : Kept (λ y. e.size < new → occurrences y ys ≡ 0) table_in zeroed
  unfolding zero_taken
  taken-kept = go (ltb e.size new) refl
    where
      go : (c : Bool) → ltb e.size new ≡ c → Kept (λ y. e.size < new → occurrences y ys ≡ 0) table_in (cond c (with_blocks table_in ys zero_block) table_in)
      go true q = kept_both (λ y o. o) (λ y o. o (ltb-true e.size new q)) (kept-all table_in) (with_blocks-kept table_in ys zero_block (le_of_eq (sym (length-replicate {A = ℕ} 512 0))))
      go false q = kept-all table_in

  -- the old last block, and a block cleared from the old size to its end
  abbrev pub old_last : ℕ
  old_last = get_or chain (e.size / 512) 0

  abbrev pub tail_cleared : List ℕ → List ℕ
  tail_cleared b = cleared b (e.size % 512) (512 - e.size % 512)

  -- the old last block is one of the file's
  pub tail_in : e.size % 512 ≢ 0 → Member old_last chain
  unfolding blocks_for
  tail_in n = nth_in chain (e.size / 512) (omega (arith, length-blocks_of s e.anode, (facts p).sized p.plan.file))

  pub tail_long : length (tail_cleared (block_of zeroed old_last)) ≡ length (block_of zeroed old_last)
  tail_long = length-cleared (block_of zeroed old_last) (e.size % 512) (512 - e.size % 512)

  -- the old last block of a file that gets longer is cleared behind the old size, and nothing else
  pub tail-kept : Kept (λ y. e.size < new → occurrences y chain ≡ 0) zeroed tailed
  unfolding zero_tail
  tail-kept = go (ltb e.size new && not (eqb (e.size % 512) 0)) refl
    where
      go : (c : Bool) → (ltb e.size new && not (eqb (e.size % 512) 0)) ≡ c → Kept (λ y. e.size < new → occurrences y chain ≡ 0) zeroed (cond c (in_block zeroed old_last tail_cleared) zeroed)
      go true q =
          let both = (and-eq-true_iff (ltb e.size new) (not (eqb (e.size % 512) 0))).0 q in
          let n = eqb-false (e.size % 512) 0 (not-true (eqb (e.size % 512) 0) both.1) in
          let k = in_block-kept zeroed old_last tail_cleared tail_long in
          record { length-kept = k.length-kept; block_kept = λ y z. k.block_kept y (λ i. omega (arith, rw i at (z (ltb-true e.size new both.0)), member-occurrences old_last chain (tail_in n))) }
      go false q = kept-all zeroed

  abbrev set_size : List ℕ → List ℕ
  set_size b = put32 b (e.start % 512 + 4) new

  pub size_kept : Kept (λ y. y ≢ e.start / 512) tailed j
  unfolding with_size
  size_kept = in_block-kept tailed (e.start / 512) set_size (length-put32 (block_of tailed (e.start / 512)) (e.start % 512 + 4) new)

  -- a block that is not the file's, where it gets longer
  abbrev LeftAlone : ℕ → Type 0
  LeftAlone y = e.size < new → occurrences y (blocks_of t e.anode) ≡ 0

  zeros_kept : Kept LeftAlone table_in tailed
  zeros_kept = kept_both (λ y o more. (longer-none more y (o more)).1) (λ y o more. (longer-none more y (o more)).0) taken-kept tail-kept

  stores_kept : Kept (λ y. LeftAlone y × (y ≢ e.start / 512)) table_in j
  stores_kept = kept_both (λ y o. o.0) (λ y o. o.1) zeros_kept size_kept

  -- from the image on: a data block that none of the stores names is kept
  left-kept : Kept (λ y. DataBlock disk y × (LeftAlone y × (y ≢ e.start / 512))) img (resized_image img s e new u ys)
  unfolding resized_image
  left-kept = kept_both (λ y o. o.0) (λ y o. o.1) stored stores_kept

  only_data : (y : ℕ) → (DataBlock disk y → ⊥) → LeftAlone y × (y ≢ e.start / 512)
  only_data y n = (λ more. not_among (blocks_of t e.anode) file_data y n, not-one home_data y n)

  pub resized-disk : DiskWith (disk_at img u) t (resized_image img s e new u ys)
  unfolding resized_image
  resized-disk = disk_then (disk-stored (image p) table) stores_kept only_data

  -- the free blocks, the anode blocks and the file's afterwards are the free blocks, the anode blocks and the file's before
  pub resized-sum : free_blocks (anodes_of (resized_image img (anodes_of img) e new u ys)) + anode_blocks (resized_image img (anodes_of img) e new u ys) + blocks_for new ≡ free_blocks (anodes_of img) + anode_blocks img + block_count (anodes_of img) e.anode
  resized-sum = omega (
    arith,
    steps.sum,
    free-count (w p).good,
    free-count table.good,
    ap free_blocks resized-disk.anodes,
    anode_blocks-grown (image p) table steps.gs steps.moves.system_got resized-disk,
  )

  -- ---- other chains

  -- the blocks of each but its own directory's are kept
  others_kept : (m : ℕ) → Head s.next s.block m → m ≢ 1 → m ≢ e.anode → m ≢ p.home → BlocksKept img (resized_image img s e new u ys) s m
  others_kept m head m1 other o y q = left-kept.block_kept y (other_data m head m1 other y q, (λ more. other_apart m head m1 other y q, off_chain p m head o y q))

  pub others_left : OthersLeft img (resized_image img s e new u ys) t e.anode p.home
  others_left = record { same_chains = others_same; blocks-kept = others_kept }

  -- ---- the blocks of the directories

  module _ {k : ℕ} (r : ReachedDir img k) (a : ℕ) (on : Member a (chain_of s.next limit k)) where
    -- up to the entry's new size it has the bytes that it had
    before_size : block_of tailed (s.block a) ≡ block_of img (s.block a)
    before_size = zeros_kept.block_kept (s.block a) (λ more. dir_apart r a on) ∙ stored.block_kept (s.block a) (dir_data r a on)

    pub other_block : a ≢ (facts p).a₀ → block_of (resized_image img s e new u ys) (s.block a) ≡ block_of img (s.block a)
    unfolding resized_image
    other_block n =
        size_kept.block_kept (s.block a) (off_anode p a (dir_block r a on).one n) ∙ before_size

    pub this_block : a ≡ (facts p).a₀ → block_of (resized_image img s e new u ys) (s.block a) ≡ put32 (block_of img (s.block a)) (e.start % 512 + 4) new
    unfolding resized_image with_size
    this_block i =
        let here : e.start / 512 ≡ s.block a = (facts p).in_block_lem ∙ ap s.block (sym i) in
        rw (← before_size, ← here) (block_of-in_block tailed (e.start / 512) set_size (length-put32 (block_of tailed (e.start / 512)) (e.start % 512 + 4) new))
