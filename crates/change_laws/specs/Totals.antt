-- In every accepted image the blocks of all kinds make the disk's size.
use Prim.Native.Nat.{ℕ, ◌+◌, ◌*◌, ◌≤◌, ◌<◌}
use Rattle.std.specs.Prelude.{◌≡◌, ◌≢◌, Bool, false, List, eqb, length}
use Rattle.std.proofs.Math.Path.{refl, sym, ap, fun_ext}
use Rattle.std.proofs.Common.{◌∙◌, lt-ltb, le-ltb, eq-eqb, ne_eqb}
use Rattle.std.proofs.Math.Logic.{inl, inr}
use Rattle.std.proofs.Math.Bool.{cond}
use native.Mathlib.Omega.{arith}
use Rattle.disk.specs.Root.{slot_of}
use Rattle.rules.specs.Counting.{one_at, sum_below, sum_list, occurrences}
use Rattle.rules.specs.Anodes.{Anodes, limit, anodes_of}
use Rattle.rules.specs.Chains.{one_if_covers, one_if_holds, system_by, system_owns, block_count}
use Rattle.rules.specs.Walk.{Dir, Item, entries_in, is_block_of, items_by, reached_dirs}
use Rattle.rules.specs.Accepted.{disk_size, wrong_slots}
use Rattle.rules.specs.Plans.{Slotted}
use Rattle.rules.specs.Totals.{free_blocks, file_blocks, directory_blocks, chain_blocks, anode_blocks, total_in, total}
use Rattle.laws.specs.Tests.{same?, less?}
use Rattle.laws.specs.Sums.{one_at-same, one_at_other, sum_congr, sum-zero, sum-add, sum_swap, sum-one_at}
use Rattle.laws.specs.Bags.{gather-sum, list_length, sum_by_occurrences}
use Rattle.laws.specs.Acceptance.{size_bounds}
use Rattle.laws.specs.Blocks.{blocks}
use Rattle.laws.specs.Owners.{blocks-none}
use Rattle.laws.specs.Ownership.{covers_in, covers_over, covers_sum}
use Rattle.laws.specs.Space.{Good, head_1, head_5}
use Rattle.laws.specs.Items.{giving, below, named_in, names-sum, below-items}
use Rattle.laws.specs.Totals.{file_size, files_of, dirs_of}
use Rattle.laws.specs.Whole.{blocks-count, named_heads, whole_total}
use Rattle.laws.specs.TestsPassed.{right_slot}
use Rattle.laws.specs.Members.{Member, member-sum, member_congr}
use Rattle.frames.specs.Kept.{slot_of-kept}
use Rattle.change_laws.specs.Image.{AcceptedWhole, head_in, AcceptedImage, image-passed, accepted_slots, accepted-reached, accepted_whole, DiskWith, disk_at, TableFor, disk_right, disk_size_lem, disk_slots}

-- ---- the system's blocks

module _ (img : List ℕ) (right : wrong_slots img ≡ false) where
  -- blocks 0 to 2, and those that slots hold
  start : (x : ℕ) → system_owns img x ≡ one_if_covers 3 0 x + sum_below (one_if_holds (slot_of img) x) 42
  unfolding system_by
  start x = elim (less? x 3) [
    | inl l ↦ rw (lt-ltb x 3 l) (omega (arith, covers_in 3 0 x (omega arith) (omega arith), sum-zero (one_if_holds (slot_of img) x) 42 (λ s q. unheld s l)))
    | inr l ↦ rw (le-ltb x 3 l) (omega (arith, covers_over 3 0 x (omega arith)))
  ]
    where
      unheld : (s : ℕ) → x < 3 → one_if_holds (slot_of img) x s ≡ 0
      unheld s l = unfold one_if_holds in elim (same? (slot_of img s) 0) [
        | inl z ↦ rw z
        | inr u ↦ rw (ne_eqb (slot_of img s) 0 u) (one_at_other (slot_of img s) x (λ e. omega (arith, e, l, (right_slot img right s u).above)))
      ]

  slot_once : (s : ℕ) → sum_below (λ x. one_if_holds (slot_of img) x s) (disk_size img) ≡ cond (eqb (slot_of img s) 0) 0 1
  unfolding one_if_holds
  slot_once s = elim (same? (slot_of img s) 0) [
    | inl z ↦ rw z (sum-zero (λ x. 0) (disk_size img) (λ x l. refl))
    | inr u ↦ rw (ne_eqb (slot_of img s) 0 u) (sum-one_at (slot_of img s) (disk_size img) (right_slot img right s u).below)
  ]

  system_blocks : 3 ≤ disk_size img → sum_below (system_owns img) (disk_size img) ≡ anode_blocks img + 3
  unfolding anode_blocks
  system_blocks l =
      sum_congr (system_owns img) (λ x. one_if_covers 3 0 x + sum_below (one_if_holds (slot_of img) x) 42) (disk_size img) (λ x q. start x)
      ∙ omega (
        arith,
        sum-add (one_if_covers 3 0) (λ x. sum_below (one_if_holds (slot_of img) x) 42) (disk_size img),
        covers_sum 3 0 (disk_size img) l,
        sum_swap (λ x s. one_if_holds (slot_of img) x s) (disk_size img) 42,
        sum_congr (λ s. sum_below (λ x. one_if_holds (slot_of img) x s) (disk_size img)) (λ s. cond (eqb (slot_of img s) 0) 0 1) 42 (λ s q. slot_once s),
      )

-- the free blocks of a good state, as the table of heads has them
pub free-count : {ex : ℕ → Bool} {n last : ℕ} {s : Anodes} {system hd sd : ℕ → ℕ} → Good limit ex n last s system hd sd → blocks limit hd s.count 1 ≡ free_blocks s
unfolding free_blocks
free-count g = blocks-count g 1 (head_1 g)

-- ---- the anode blocks where slots have grown

module _ {img : List ℕ} (a : AcceptedImage img) {t : Slotted} {hd sd : ℕ → ℕ} (p : TableFor img t hd sd) (gs : List ℕ) (got : (x : ℕ) → system_by t.slots x ≡ system_owns img x + occurrences x gs) where
  -- the system has no block past the disk
  got_below : (x : ℕ) → disk_size img ≤ x → occurrences x gs ≡ 0
  unfolding system_by one_if_holds
  got_below x l =
      let none = sum-zero (one_if_holds t.slots x) 42 (λ k q. elim (same? (t.slots k) 0) [
        | inl z ↦ rw z
        | inr u ↦ rw (ne_eqb (t.slots k) 0 u) (one_at_other (t.slots k) x (λ e. omega (arith, e, l, (p.slots_for.placed k u).1)))
      ]) in
      omega (arith, rw (le-ltb x 3 (omega (arith, l, (size_bounds img (image-passed a).size_right).0))) at (got x), none)

  -- they are those that were, and those that slots got
  pub anode_blocks-grown : {j : List ℕ} → DiskWith (disk_at img t) t.anodes j → anode_blocks j ≡ anode_blocks img + length gs
  anode_blocks-grown {j} d =
      let n = disk_size img in
      let five = (size_bounds img (image-passed a).size_right).0 in
      let now : sum_below (system_by t.slots) n ≡ anode_blocks (disk_at img t) + 3 = rw (disk_slots a p, disk_size_lem a p) at (system_blocks (disk_at img t) (disk_right a p).slots_right (rw (disk_size_lem a p) (omega (arith, five)))) in
      let same : anode_blocks j ≡ anode_blocks (disk_at img t) = unfold anode_blocks in ap (λ (f : ℕ → ℕ). sum_below f 42) (fun_ext (λ k. rw (slot_of-kept d.same.kept refl k))) in
      omega (
        arith,
        same,
        now,
        sum_congr (system_by t.slots) (λ x. system_owns img x + occurrences x gs * 1) n (λ x l. got x ∙ omega arith),
        sum-add (system_owns img) (λ x. occurrences x gs * 1) n,
        system_blocks img (accepted_slots a) (omega (arith, five)),
        sum_by_occurrences (λ x. 1) gs n got_below,
        list_length gs,
      )

-- ---- the chains

module _ {img : List ℕ} (image : AcceptedImage img) where
  abbrev s : Anodes
  s = anodes_of img

  abbrev dirs : List Dir
  dirs = reached_dirs img s

  abbrev items : Dir → List Item
  items = items_by (entries_in img) (is_block_of img) s

  -- as the table of heads has them
  abbrev has : ℕ → ℕ
  has = blocks limit (head_in img) s.count

  w : AcceptedWhole img
  w = accepted_whole image

  -- what an item of a reached directory names is a head
  item_blocks : (d : Dir) → Member d dirs → (i : Item) → Member i (items d) → has i.anode ≡ block_count s i.anode
  item_blocks d m i n = blocks-count w.good i.anode (named_heads w i.anode (omega (
    arith,
    member-sum (named_in items i.anode) d dirs m,
    names-sum i.anode (items d),
    member-sum (λ j. one_at j.anode i.anode) i (items d) n,
    one_at-same i.anode i.anode refl,
  ))).2

  files : files_of items has dirs ≡ file_blocks img s
  unfolding file_blocks
  files =
      member_congr (λ d. sum_list (file_size has) (items d)) (λ d. sum_list (file_size (block_count s)) (items d)) dirs
      (λ d m. member_congr (file_size has) (file_size (block_count s)) (items d) (λ i n. ap (λ (k : ℕ). cond i.dir 0 k) (item_blocks d m i n)))
      ∙ sym (gather-sum items (file_size (block_count s)) dirs) ∙ sym (ap (sum_list (file_size (block_count s))) (accepted-reached image))

  directories : dirs_of has dirs ≡ directory_blocks img s
  unfolding directory_blocks
  directories = omega (
    arith,
    w.tree.exact (λ d. has d.head),
    blocks-count w.good 5 (head_5 w.good),
    member_congr (below items (λ d. has d.head)) (λ d. sum_list (λ i. cond i.dir (block_count s i.anode) 0) (items d)) dirs
        (λ d m. below-items items (λ e. has e.head) d
        ∙ member_congr (giving (λ e. has e.head) d.head) (λ i. cond i.dir (block_count s i.anode) 0) (items d) (λ i n. ap (λ (k : ℕ). cond i.dir k 0) (item_blocks d m i n))),
    gather-sum items (λ i. cond i.dir (block_count s i.anode) 0) dirs,
    ap (sum_list (λ i. cond i.dir (block_count s i.anode) 0)) (accepted-reached image),
  )

  -- a chain of the system's that may be free
  maybe : (h : ℕ) → h ≢ 0 → ((p : ℕ) → s.next p ≢ h) → has h ≡ chain_blocks s h
  unfolding chain_blocks
  maybe h h0 first = elim (same? (s.block h) 0) [
    | inl z ↦ rw (eq-eqb (s.block h) 0 z) (blocks-none w.good h (λ d. d.in_use z))
    | inr u ↦ rw (ne_eqb (s.block h) 0 u) (blocks-count w.good h (record { pos = h0; in_use = u; no_pred = first }))
  ]

  -- the kinds of blocks add up to the disk's size
  pub accepted-total : total img ≡ disk_size img
  unfolding total total_in
  accepted-total = omega (
    arith,
    whole_total w,
    system_blocks img (accepted_slots image) (omega (arith, (size_bounds img (image-passed image).size_right).0)),
    free-count w.good,
    files,
    directories,
    maybe 3 (omega arith) (w.good.first 3 (inr (inl refl))),
    maybe 4 (omega arith) (w.good.first 4 (inr (inr (inl refl)))),
  )
