-- The image that a safe remove leaves is sound: the entry goes with its chain while the block is in its old place, then the block takes its new one.
use Rattle.std.specs.Prelude.{ℕ, ◌+◌, ◌/◌, ◌%◌, ◌<◌, ◌≡◌, ◌≢◌, Bool, true, cond, eqb, get_or}
use Rattle.std.proofs.Math.Path.{refl, sym, ap}
use Rattle.std.proofs.Common.{◌∙◌, inl, inr, eq-eqb, ne_eqb}
use mathlib.Core.List.{List, [], ◌∷◌, ◌++◌, map}
use native.Mathlib.Omega.{arith}
use Rattle.disk.specs.Blocks.{block_of}
use Rattle.rules.specs.Counting.{sum_list, occurrences}
use Rattle.rules.specs.Anodes.{Anodes, limit, anodes_of, exists}
use Rattle.rules.specs.Chains.{chain_of}
use Rattle.rules.specs.Walk.{Dir, Entered, entries_in, is_block_of, reached_dirs}
use Rattle.rules.specs.Accepted.{disk_size, last_reserved}
use Rattle.rules.specs.Lookup.{entries_of}
use Rattle.rules.specs.Plans.{Slotted, table_of, planned}
use Rattle.rules.specs.Changes.{entry_closed}
use Rattle.rules.specs.Totals.{Sound}
use Rattle.laws.specs.Tests.{same?}
use Rattle.laws.specs.Sums.{one_at-same, one_at_other}
use Rattle.laws.specs.Bags.{list_cons, list_append, map-sum}
use Rattle.laws.specs.Items.{headed}
use Rattle.laws.specs.Members.{Member, member_each, occurrences-member}
use Rattle.laws.specs.ChainGone.{gone_alike, gone-chain}
use Rattle.laws.specs.Entries.{weigh_entry}
use Rattle.laws.specs.Make.{EntryMore}
use Rattle.laws.specs.Whole.{DirHead, Whole, dir_heads}
use Rattle.laws.specs.Remove.{removed-chain}
use Rattle.change_laws.specs.Image.{AcceptedWhole, AcceptedImage, accepted_whole, head_in, disk_at, WholeOn, disk_right, disk_whole, whole_accepted, reached-headed}
use Rattle.change_laws.specs.Reached.{EntryIn, EntryFacts, entry-facts, block_entry, block_on}
use Rattle.change_laws.specs.SingleBlocks.{single_apart}
use Rattle.change_laws.specs.Gap.{lowered, head_closed, entries_closed}
use Rattle.safe_rules.specs.SafePlans.{remove_change, safe_steps}
use Rattle.safe_rules.specs.SafeWrites.{new_image}
use Rattle.safe_laws.specs.CutOff.{accepted_sound}
use Rattle.safe_laws.specs.MovedEntries.{placed_at}
use Rattle.safe_laws.specs.RelocatedEntries.{entries_relocated, relocated_whole}
use Rattle.safe_laws.specs.SafeRemoved.{zeroed, hd_zeroed, sd_zeroed, limbo, zeroed-good, zeroed-gone, home_away, home_block, home-one, moved, removed-table, removed_shift}
use Rattle.safe_laws.specs.RemovedImage.{new_place, table, removed-disk, removed_block, removed-kept}

module _ {img : List ℕ} {k : ℕ} {e : Entered} (m : EntryIn img k e) (t : Slotted) (ys : List ℕ) (plan : safe_steps img (remove_change img (table_of img) e) ≡ planned t ys) where
  abbrev s : Anodes
  s = anodes_of img

  abbrev image : AcceptedImage img
  image = m.directory.image

  w : AcceptedWhole img
  w = accepted_whole image

  abbrev facts : EntryFacts img k e
  facts = entry-facts m

  abbrev y : ℕ
  y = e.start / 512

  abbrev z : ℕ
  z = new_place m t ys plan

  abbrev j : List ℕ
  j = new_image img (remove_change img (table_of img) e) t ys

  -- ---- the entry goes

  -- the entries by block, where the entry's block has those of its new place
  unfoldable entries_now : ℕ → List Entered
  entries_now x = cond (eqb x y) (entries_in j z) (entries_in img x)

  -- those of the entry's block
  now-home : (x : ℕ) → x ≡ y → entries_now x ≡ entries_in j z
  unfolding entries_now
  now-home x i = rw (eq-eqb x y i) refl

  -- those of any other block
  now_other : (x : ℕ) → x ≢ y → entries_now x ≡ entries_in img x
  unfolding entries_now
  now_other x o = rw (ne_eqb x y o) refl

  -- those of the new place are those of the old one but the entry
  new_entries : entries_in j z ≡ map (placed_at y z) ((block_entry facts).parted.0 ++ map (lowered (get_or (block_of img y) (e.start % 512) 0)) (block_entry facts).parted.1)
  new_entries = entries_relocated j (entry_closed (block_of img y) (e.start % 512)) y z (removed_block m t ys plan) ∙ ap (map (placed_at y z)) (entries_closed (block_entry facts))

  -- so it weighs one entry less
  one_less : (v : Bool → Bool → ℕ → ℕ → List ℕ → ℕ) → sum_list (weigh_entry v) (entries_in img y) ≡ sum_list (weigh_entry v) (entries_in j z) + weigh_entry v e
  unfolding entries_in placed_at
  one_less v =
      let low = lowered (get_or (block_of img y) (e.start % 512) 0) in
      let (before, behind, parted) = (block_entry facts).parted in
      omega (
        arith,
        ap (sum_list (weigh_entry v)) parted,
        list_append (weigh_entry v) before (e ∷ behind),
        list_cons (weigh_entry v) e behind,
        ap (sum_list (weigh_entry v)) new_entries,
        map-sum (placed_at y z) (weigh_entry v) (before ++ map low behind),
        list_append (weigh_entry v) before (map low behind),
        map-sum low (weigh_entry v) behind,
      )

  -- the block of one anode has lost the entry
  lost : EntryMore s (head_in img) e facts.a₀ entries_now (entries_in img)
  lost a one q v = elim (same? a facts.a₀) [
    | inl i ↦ (let at_y : s.block a ≡ y = ap s.block i ∙ sym facts.in_block_lem in rw (now-home (s.block a) at_y, at_y, one_at-same a facts.a₀ i) (one_less v ∙ omega arith))
    | inr i ↦ rw (now_other (s.block a) (λ at_y. single_apart w.good a one facts.a₀ facts.block_facts.one i (at_y ∙ facts.in_block_lem)), one_at_other a facts.a₀ i) (omega arith)
  ]

  module _ (empty : e.dir ≡ true → entries_of img (anodes_of img) e.anode ≡ []) where
    -- the directories that are left, and the whole state of them while the block is in its old place
    without : (dirs : List Dir) × Whole (exists img) (disk_size img) (last_reserved img) (zeroed m) (limbo m) (hd_zeroed m) (sd_zeroed m) entries_now (is_block_of img) dirs × ((x : ℕ) → x ≢ e.anode → headed x dirs ≡ headed x (reached_dirs img s))
    unfolding entries_of
    without = removed-chain w e e.anode refl facts.a₀ k (reached-headed m.directory) facts.block_facts.on_chain_lem entries_now lost empty (zeroed-good m) (zeroed-gone m) (is_block_of img) (λ a one q d. refl)

    -- ---- the block takes its new place

    -- the new place is marked as the old one
    home_marks : (d : Dir) → is_block_of j d z ≡ is_block_of img d ((zeroed m).block facts.a₀)
    unfolding is_block_of
    home_marks d = rw (home_block m, removed_block m t ys plan, head_closed (block_entry facts)) refl

    -- every other block of a directory has the entries and marks that it had
    rest : (d : Dir) → Member d without.0 → (b : ℕ) → 0 < occurrences b (chain_of (zeroed m).next limit d.head) → (zeroed m).count b ≡ 1 → b ≢ facts.a₀ →
        (entries_in j ((zeroed m).block b) ≡ entries_now ((zeroed m).block b)) × (is_block_of j d ((zeroed m).block b) ≡ is_block_of img d ((zeroed m).block b))
    unfolding entries_in is_block_of
    rest d in_tree b p one o =
        let (head, not-1) = member_each (DirHead (zeroed m)) d without.0 in_tree (dir_heads without.1) in
        let (other, was) = (zeroed-gone m).was d.head head in
        let on = rw (gone-chain w.good (zeroed-good m) e.anode (zeroed-gone m) d.head not-1 other was) at p in
        let like = gone_alike w.good (zeroed-good m) e.anode (zeroed-gone m) d.head not-1 other was b on in
        let kept = removed-kept m t ys plan d.head was not-1 (s.block b) (block_on s d.head b (occurrences-member b (chain_of s.next limit d.head) on) (sym like.same_count ∙ one)) in
        let off : s.block b ≢ y = λ i. single_apart (zeroed-good m) b one facts.a₀ (home-one m) o (like.same_block ∙ i ∙ sym (home_block m)) in
        rw (like.same_block, now_other (s.block b) off, kept) (refl, refl)

    -- the whole state of the image left
    whole_now : (dirs : List Dir) × WholeOn (disk_at img t) j t.anodes (removed-table m t ys plan).hd' (removed-table m t ys plan).sd' dirs
    whole_now = (
      without.0,
      disk_whole image (table m t ys plan) (relocated_whole (zeroed-good m) (moved m t ys plan) (table m t ys plan).good (removed_shift m t ys plan) without.1 (home-one m) (home_away m) (entries_in j) (is_block_of j)
          (sym (now-home ((zeroed m).block facts.a₀) (home_block m))) home_marks rest),
    )

    -- THE IMAGE THAT A SAFE REMOVE LEAVES IS SOUND
    pub removed_sound : Sound (new_image img (remove_change img (table_of img) e) t ys)
    removed_sound = accepted_sound (record { blocks = image.blocks; anodes = image.anodes; accepted = whole_accepted (removed-disk m t ys plan) whole_now.1 (disk_right image (table m t ys plan)) })
