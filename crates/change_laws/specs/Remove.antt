-- Remove: an accepted image stays accepted, and its answers.
use Rattle.std.specs.Prelude.{ℕ, ◌+◌, ◌/◌, ◌%◌, ◌≡◌, ◌≢◌, ◌⊎◌, ◌↔◌, Bool, true, get_or}
use Rattle.std.proofs.Math.Path.{refl, ap}
use Rattle.std.proofs.Common.{sym, ◌∙◌, true≢false}
use Rattle.std.proofs.Math.Logic.{inl, inr}
use Rattle.std.proofs.Math.Bool.{false}
use mathlib.Core.List.{List, [], ◌∷◌, map}
use native.Mathlib.Omega.{arith}
use Rattle.disk.specs.Blocks.{block_of}
use Rattle.disk.specs.Root.{slot_of}
use Rattle.rules.specs.Counting.{sum_list}
use Rattle.rules.specs.Anodes.{Anodes, limit, anodes_of}
use Rattle.rules.specs.Chains.{chain_of, system_owns}
use Rattle.rules.specs.Walk.{Dir, Entered, entries_in, is_block_of, items_for, items_at, items_by, reached_dirs}
use Rattle.rules.specs.Lookup.{entries_of, nth, is_there, not_empty}
use Rattle.rules.specs.Accepted.{disk_size, last_reserved}
use Rattle.rules.specs.Plans.{Slotted, table_of, refused, Growth}
use Rattle.rules.specs.Space.{before_head}
use Rattle.rules.specs.Changes.{without_entry, removed_image, removed, remove_plan}
use Rattle.laws.specs.Tests.{same?}
use Rattle.laws.specs.Sums.{one_at-same, one_at_other}
use Rattle.laws.specs.Bags.{list_cons, list_append, map-sum}
use Rattle.laws.specs.Entries.{weigh_entry}
use Rattle.laws.specs.Moves.{Grows}
use Rattle.laws.specs.Plans.{refused_same, planned≢refused}
use Rattle.laws.specs.FixedSlots.{start_owned}
use Rattle.laws.specs.GiveRuns.{Meets}
use Rattle.laws.specs.RefusedRuns.{GiveStuck, all_refused, AlwaysSpares, give_all-28_exactly, NoneCrosses, uncrossed_done}
use Rattle.laws.specs.Make.{SameMarks, EntryMore}
use Rattle.laws.specs.Remove as Laws
use Rattle.laws.specs.Items.{headed}
use Rattle.laws.specs.Members.{gather_congr}
use Rattle.frames.specs.Kept.{Kept, entries_in-kept, is_block_of-kept}
use Rattle.frames.specs.DisjointBlocks.{DataBlock}
use Rattle.change_laws.specs.Image.{WholeOn, StillAccepted, head_in, side_in, accepted_whole, disk_at, disk_right, disk_whole, whole_accepted, reached-headed}
use Rattle.change_laws.specs.Reached.{its-items, EntryIn, entry-not-1, entry-facts}
use Rattle.change_laws.specs.SingleBlocks.{single_data}
use Rattle.change_laws.specs.SameItems.{whole_same}
use Rattle.change_laws.specs.Gap.{lowered}
use Rattle.change_laws.specs.PlannedChange.{left_cases, image, w, facts, off_anode}
use Rattle.change_laws.specs.RemoveStores.{PlannedRemove, here, without-kept, without_block, block_left, kept_data, entries_left, marks_left}
use Rattle.change_laws.specs.RemoveStores as Stores

module _ {img : List ℕ} {e : Entered} {u : Slotted} {ys : List ℕ} (p : PlannedRemove img e u ys) where
  abbrev s : Anodes
  s = anodes_of img

  abbrev y : ℕ
  y = e.start / 512

  -- the image that a removal leaves
  abbrev j : List ℕ
  j = removed_image img e u

  -- the anode whose block has it
  in_y : (a : ℕ) → a ≡ (facts p).a₀ → s.block a ≡ y
  in_y a q = ap s.block q ∙ sym (facts p).in_block_lem

  -- the image without the entry, and nothing else changed
  abbrev near : List ℕ
  near = without_entry img e.start

  near-kept : Kept (λ d. d ≢ y) img near
  near-kept = without-kept p img refl

  -- its block has one entry less
  one_less : (v : Bool → Bool → ℕ → ℕ → List ℕ → ℕ) → sum_list (weigh_entry v) (entries_in img y) ≡ sum_list (weigh_entry v) (entries_in near y) + weigh_entry v e
  unfolding entries_in
  one_less v =
      let low = lowered (get_or (block_of img y) (e.start % 512) 0) in
      omega (
        arith,
        ap (sum_list (weigh_entry v)) (here p).parted.2,
        list_append (weigh_entry v) (here p).parted.0 (e ∷ (here p).parted.1),
        list_cons (weigh_entry v) e (here p).parted.1,
        ap (sum_list (weigh_entry v)) (entries_left p near (without_block p img refl)),
        list_append (weigh_entry v) (here p).parted.0 (map low (here p).parted.1),
        map-sum low (weigh_entry v) (here p).parted.1,
      )

  -- the block of one anode has lost the entry
  lost : EntryMore s (head_in img) e (facts p).a₀ (entries_in near) (entries_in img)
  lost a one q v = elim (same? a (facts p).a₀) [
    | inl i ↦ rw (in_y a i, one_at-same a (facts p).a₀ i) (one_less v ∙ omega arith)
    | inr i ↦ rw (entries_in-kept near-kept (s.block a) (off_anode p a one i), one_at_other a (facts p).a₀ i) (omega arith)
  ]

  -- and all have the marks that they had
  same_marks : SameMarks s (head_in img) (is_block_of img) (is_block_of near)
  same_marks a one q d = elim (same? a (facts p).a₀) [
    | inl i ↦ rw (in_y a i) (marks_left p near (without_block p img refl) d)
    | inr i ↦ is_block_of-kept near-kept d (s.block a) (off_anode p a one i)
  ]

  -- a data block of the disk with the new slots is the same where the table is stored too
  same_data : (z : ℕ) → DataBlock (disk_at img u) z → block_of j z ≡ block_of near z
  same_data z d = elim (same? z y) [
    | inl i ↦ rw i (block_left p ∙ sym (without_block p img refl))
    | inr i ↦ (kept_data p).block_kept z (d, i) ∙ sym (near-kept.block_kept z i)
  ]

  module _ (empty : e.dir ≡ true → not_empty img s e ≡ false) where
    -- a directory that goes has no entry
    pub no_entry : e.dir ≡ true → entries_of img s e.anode ≡ []
    unfolding not_empty nth
    no_entry i = go (entries_of img s e.anode) (empty i)
      where
        go : (l : List Entered) → is_there (nth l 0) ≡ false → l ≡ []
        go [] q = refl
        go (x ∷ l) q = absurd (true≢false q)

    -- the state that is left is whole, and every other directory is still in it
    pub left_whole : (dirs : List Dir) × WholeOn (disk_at img u) j (Stores.end p) (Stores.hd_left p) (Stores.sd_left p) dirs
        × ((x : ℕ) → x ≢ e.anode → headed x dirs ≡ headed x (reached_dirs img s))
    unfolding entries_of items_by items_for entries_in is_block_of
    left_whole =
        let end = Stores.end p in
        let (dirs, whole, rest) = Laws.removed (w p) e e.anode refl (facts p).a₀ p.home (reached-headed p.entry.directory) (facts p).block_facts.on_chain_lem (entries_in near) lost no_entry (Stores.goes p) (is_block_of near) same_marks in
        let there = disk_whole (image p) (Stores.table p) whole in (
          dirs,
          whole_same there (entries_in j) (is_block_of j) (λ d m. gather_congr (items_at (entries_in j) (is_block_of j) end d) (items_at (entries_in near) (is_block_of near) end d) (chain_of end.next limit d.head)
              (λ a on. rw (same_data (end.block a) (single_data (disk_at img u) there.good a (its-items there d m a on).0)))),
          rest,
        )

    pub planned_accepted : StillAccepted (image p) j
    planned_accepted = whole_accepted (Stores.removed-disk p) left_whole.1 (disk_right (image p) (Stores.table p))

-- growth: how slots grow
module _ {img : List ℕ} {growth : Growth} (grows : Grows limit (disk_size img) (last_reserved img) growth) {h : ℕ} {e : Entered} (m : EntryIn img h e) where
  -- ---- the answers

  -- a removal is refused with 28 alone
  pub remove_refused : (k : ℕ) → remove_plan growth (last_reserved img) (table_of img) e.anode ≡ refused k → k ≡ 28
  remove_refused k q = all_refused limit growth (last_reserved img) e.anode k (table_of img) q

  -- what a removal leaves of an accepted image is accepted, where a directory that goes is empty
  pub remove_accepted : (e.dir ≡ true → not_empty img (anodes_of img) e ≡ false) → StillAccepted m.directory.image (removed growth img (table_of img) e).image
  unfolding removed
  remove_accepted empty =
      let a = m.directory.image in
      left_cases (λ l. StillAccepted a l.image) img (λ t ys. removed_image img e t) (remove_plan growth (last_reserved img) (table_of img) e.anode) (λ k q. a.accepted)
      (λ t ys q. planned_accepted (record { home = h; entry = m; plan = record { growth = growth; grows = grows; steps = q } }) empty)

  -- it answers 0 or 28
  pub remove_answers : ((removed growth img (table_of img) e).answer ≡ 0) ⊎ ((removed growth img (table_of img) e).answer ≡ 28)
  unfolding removed
  remove_answers = left_cases (λ l. (l.answer ≡ 0) ⊎ (l.answer ≡ 28)) img (λ t ys. removed_image img e t) (remove_plan growth (last_reserved img) (table_of img) e.anode) (λ k q. inr (remove_refused k q)) (λ t ys q. inl refl)

  -- 28 exactly if a run that it comes to needs an anode and none can be had
  pub remove_28_exactly : AlwaysSpares limit (disk_size img) (last_reserved img) growth → ((removed growth img (table_of img) e).answer ≡ 28)
      ↔ ((j : ℕ) × (r : Slotted) × (zs : List ℕ) × Meets limit growth (last_reserved img) e.anode (before_head limit (last_reserved img) (anodes_of img) e.anode) (table_of img) j r zs × GiveStuck limit growth (last_reserved img) e.anode j r)
  unfolding removed
  remove_28_exactly always =
      let last = last_reserved img in
      let plan = remove_plan growth last (table_of img) e.anode in
      let f = entry-facts m in
      let exactly = give_all-28_exactly grows always e.anode (entry-not-1 f) (table_of img) (system_owns img) (head_in img) (side_in img) (start_owned (slot_of img)) (accepted_whole m.directory.image).good f.head 28 in
      let same : ((removed growth img (table_of img) e).answer ≡ 28) ↔ (plan ≡ refused 28) = left_cases (λ l. (l.answer ≡ 28) ↔ (plan ≡ refused 28)) img (λ t ys. removed_image img e t) plan
      (λ k q. (λ i. q ∙ ap refused i, λ i. refused_same k 28 (sym q ∙ i))) (λ t ys q. (λ i. absurd (omega arith), λ i. absurd (planned≢refused t ys 28 (sym q ∙ i)))) in
      (λ i. (exactly.0 (same.0 i)).1, λ n. same.1 (exactly.1 (refl, n)))

  -- a removal of a chain of which no extent crosses last reserved is never refused
  pub remove_uncrossed : NoneCrosses limit (last_reserved img) e.anode (anodes_of img) → (removed growth img (table_of img) e).answer ≡ 0
  unfolding removed
  remove_uncrossed none =
      let last = last_reserved img in
      let f = entry-facts m in
      left_cases (λ l. l.answer ≡ 0) img (λ t ys. removed_image img e t) (remove_plan growth last (table_of img) e.anode)
      (λ k q. absurd (uncrossed_done grows e.anode (entry-not-1 f) (table_of img) (system_owns img) (head_in img) (side_in img) (start_owned (slot_of img)) (accepted_whole m.directory.image).good f.head none k q))
      (λ t ys q. refl)
