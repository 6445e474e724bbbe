-- The figures of an accepted disk are modest, so that no sum over 100,000 disks comes above the limit.
use Prim.Native.Nat.{ℕ, zero, suc, ◌*◌, ◌≤◌}
use Rattle.std.specs.Prelude.{◌≡◌, List, [], ◌∷◌, ltb}
use Rattle.std.proofs.Math.Path.{refl, sym, ap}
use Rattle.std.proofs.Common.{◌∙◌, inl, inr}
use Rattle.std.proofs.Math.Bool.{Bool, true, false, cond}
use native.Mathlib.Omega.{arith}
use Rattle.rules.specs.Counting.{one_at, sum_list, occurrences, gather}
use Rattle.rules.specs.Anodes.{Anodes, limit, anodes_of}
use Rattle.rules.specs.Chains.{chain_of, block_count}
use Rattle.rules.specs.Walk.{Dir, Entered, Item, entries_in, is_block_of, item_of, items_at, items_by, blocks_for, reached, reached_dirs}
use Rattle.rules.specs.Accepted.{disk_size}
use Rattle.rules.specs.Lookup.{entries_of}
use Rattle.rules.specs.Totals.{free_blocks, file_blocks, total_in, total}
use Rattle.rules.specs.Calls.{file_count, dir_count}
use Rattle.laws.specs.Tests.{less?}
use Rattle.laws.specs.Acceptance.{size_bounds}
use Rattle.laws.specs.Bags.{list_mono, list_congr, list_scale, list_length, gather-sum, map-sum, pigeonhole}
use Rattle.laws.specs.Items.{names, names-sum, named_in, giving, below, below-items}
use Rattle.laws.specs.Entries.{items-sum}
use Rattle.laws.specs.Whole.{named_heads}
use Rattle.laws.specs.Members.{Member, member-first, member-later, member_congr, member-gather}
use Rattle.change_laws.specs.Image.{AcceptedWhole, AcceptedImage, image-passed, accepted-reached, accepted_whole}
use Rattle.change_laws.specs.Reached.{its-items, EntryIn, member-reached, entry-facts}
use Rattle.change_laws.specs.Totals.{accepted-total}
use Rattle.report.specs.Runs.{one_if_many, longest_run, in_chain, file_runs, longest_free}
use Rattle.report.specs.Figures.{reached_entries, one_if_split, split_files, file_size, file_bytes, figures_of}
use Rattle.report.specs.Room.{Modest}
use Rattle.report_laws.specs.RunsMean.{longest_there}

-- no run is longer than the disk
longest_short : (test : ℕ → Bool) (n : ℕ) → longest_run test n ≤ n
longest_short test n = omega (arith, (longest_there test n).inside)

-- a sum by members
member_mono {ℓ} : {X : Type ℓ} (w u : X → ℕ) (l : List X) → ((x : X) → Member x l → w x ≤ u x) → sum_list w l ≤ sum_list u l
unfolding sum_list
member_mono w u [] h = omega arith
member_mono w u (x ∷ l) h = omega (arith, h x (member-first x l), member_mono w u l (λ y m. h y (member-later y x l m)))

-- a size is at most its blocks
size_blocks : (size : ℕ) → size ≤ blocks_for size * 512
unfolding blocks_for
size_blocks size = omega arith

module _ {img : List ℕ} (image : AcceptedImage img) where
  abbrev s : Anodes
  s = anodes_of img

  abbrev dirs : List Dir
  dirs = reached_dirs img s

  abbrev items : Dir → List Item
  items = items_by (entries_in img) (is_block_of img) s

  w : AcceptedWhole img
  w = accepted_whole image

  pub small_disk : disk_size img ≤ 65535
  small_disk = (size_bounds img (image-passed image).size_right).1

  -- ---- the reached entries are what the walk named

  module _ (v : Bool → ℕ → ℕ) where
    abbrev of_entry : Entered → ℕ
    of_entry e = v e.dir e.anode

    abbrev of_item : Item → ℕ
    of_item i = v i.dir i.anode

    at-weight : (d : Dir) → Member d dirs → (a : ℕ) → Member a (chain_of s.next limit d.head) →
        sum_list of_item (items_at (entries_in img) (is_block_of img) s d a) ≡ sum_list of_entry (entries_in img (s.block a))
    unfolding item_of
    at-weight d m a on = ap (sum_list of_item) (its-items w d m a on).2 ∙ map-sum (item_of s) of_item (entries_in img (s.block a))

    dir_weight : (d : Dir) → Member d dirs → sum_list of_item (items d) ≡ sum_list of_entry (entries_of img s d.head)
    unfolding entries_of
    dir_weight d m =
        items-sum (entries_in img) (is_block_of img) s d of_item
        ∙ member_congr (λ a. sum_list of_item (items_at (entries_in img) (is_block_of img) s d a)) (λ a. sum_list of_entry (entries_in img (s.block a))) (chain_of s.next limit d.head) (at-weight d m)
        ∙ sym (gather-sum (λ a. entries_in img (s.block a)) of_entry (chain_of s.next limit d.head))

    -- a weight by type and anode has the same sum over both
    pub reached-weight : sum_list of_item (reached img s) ≡ sum_list of_entry (reached_entries img s)
    unfolding reached_entries
    reached-weight =
        ap (sum_list of_item) (accepted-reached image) ∙ gather-sum items of_item dirs
        ∙ member_congr (λ d. sum_list of_item (items d)) (λ d. sum_list of_entry (entries_of img s d.head)) dirs dir_weight
        ∙ sym (gather-sum (λ d. entries_of img s d.head) of_entry dirs)

  -- ---- entries and directories

  -- the entries are named once each, and below 3,444
  names-all : (x : ℕ) → occurrences x (names (reached img s)) ≡ sum_list (named_in items x) dirs
  names-all x =
      ap (λ (l : List Item). occurrences x (names l)) (accepted-reached image) ∙ names-sum x (gather items dirs) ∙ gather-sum items (λ i. one_at i.anode x) dirs
      ∙ list_congr (λ d. sum_list (λ i. one_at i.anode x) (items d)) (named_in items x) dirs (λ d. sym (names-sum x (items d)))

  reached_few : sum_list (λ i. 1) (reached img s) ≤ 3444
  reached_few = omega (
    arith,
    map-sum (λ (i : Item). i.anode) (λ x. 1) (reached img s),
    list_length (names (reached img s)),
    pigeonhole (names (reached img s)) limit high (λ x. omega (arith, names-all x, w.tree.once x)),
  )
    where
      high : (x : ℕ) → limit ≤ x → occurrences x (names (reached img s)) ≡ 0
      high x l = elim (less? 0 (occurrences x (names (reached img s)))) [
        | inl p ↦ absurd (omega (arith, l, (named_heads w x (omega (arith, p, names-all x))).1))
        | inr z ↦ omega arith
      ]

  -- so is whatever counts each at most once
  weight_few : (v : Bool → ℕ → ℕ) → ((d : Bool) (a : ℕ) → v d a ≤ 1) → sum_list (λ i. v i.dir i.anode) (reached img s) ≤ 3444
  weight_few v few = omega (arith, reached_few, list_mono (λ i. v i.dir i.anode) (λ i. 1) (reached img s) (λ i. few i.dir i.anode))

  files_few : file_count img s ≤ 3444
  unfolding file_count
  files_few = weight_few (λ d a. cond d 0 1) (λ d a. go d)
    where
      go : (t : Bool) → cond t 0 1 ≤ 1
      go true = omega arith
      go false = omega arith

  split_few : split_files img s ≤ 3444
  unfolding split_files one_if_split one_if_many
  split_few = omega (arith, reached-weight v, weight_few v (λ d a. go d (ltb 1 (file_runs img s a))))
    where
      v : Bool → ℕ → ℕ
      v d a = cond d 0 (one_if_many (file_runs img s a))

      go : (t u : Bool) → cond t 0 (cond u 1 0) ≤ 1
      go true u = omega arith
      go false true = omega arith
      go false false = omega arith

  pub dirs_few : dir_count img s ≤ 3445
  unfolding dir_count
  dirs_few = omega (
    arith,
    list_length dirs,
    w.tree.exact (λ d. 1),
    list_mono (below items (λ d. 1)) (λ d. sum_list (λ i. 1) (items d)) dirs (λ d. omega (
      arith,
      below-items items (λ d. 1) d,
      list_mono (giving (λ d. 1) d.head) (λ i. 1) (items d) (λ i. go i.dir),
    )),
    gather-sum items (λ i. 1) dirs,
    ap (sum_list (λ (i : Item). 1)) (accepted-reached image),
    reached_few,
  )
    where
      go : (t : Bool) → cond t 1 0 ≤ 1
      go true = omega arith
      go false = omega arith

  -- ---- bytes

  -- the blocks of a file that an entry names
  abbrev entry_blocks : Entered → ℕ
  entry_blocks e = cond e.dir 0 (block_count s e.anode)

  all_blocks : file_blocks img s ≡ sum_list entry_blocks (reached_entries img s)
  unfolding file_blocks
  all_blocks = reached-weight (λ d a. cond d 0 (block_count s a))

  entry_small : (e : Entered) → Member e (reached_entries img s) → file_size e ≤ entry_blocks e * 512
  unfolding reached_entries file_size
  entry_small e m =
      let p = member-gather (λ d. entries_of img s d.head) dirs e m in
      let in_dir : EntryIn img p.0.head e = record { directory = member-reached image p.0 p.1; member = p.2 } in
      go e.dir refl (entry-facts in_dir).sized
    where
      go : (t : Bool) → e.dir ≡ t → (e.dir ≡ false → block_count s e.anode ≡ blocks_for e.size) → cond t 0 e.size ≤ cond t 0 (block_count s e.anode) * 512
      go true i h = omega arith
      go false i h = omega (arith, h i, size_blocks e.size)

  bytes_few : file_bytes img s ≤ file_blocks img s * 512
  unfolding file_bytes
  bytes_few = omega (
    arith,
    member_mono file_size (λ e. entry_blocks e * 512) (reached_entries img s) entry_small,
    list_scale entry_blocks 512 (reached_entries img s),
    all_blocks,
  )

  -- ---- all six

  kinds_few : (free_blocks s ≤ 65535) × (file_blocks img s ≤ 65535)
  unfolding total total_in
  kinds_few = let t : total img ≡ disk_size img = accepted-total image in (omega (arith, t, small_disk), omega (arith, t, small_disk))

  pub modest_figures : Modest (figures_of img s)
  unfolding figures_of longest_free
  modest_figures zero = omega (arith, kinds_few.0)
  modest_figures (suc zero) = omega (arith, files_few)
  modest_figures (suc (suc zero)) = omega (arith, dirs_few)
  modest_figures (suc (suc (suc zero))) = omega (arith, longest_short (in_chain s 1) (disk_size img), small_disk)
  modest_figures (suc (suc (suc (suc zero)))) = omega (arith, split_few)
  modest_figures (suc (suc (suc (suc (suc zero))))) = omega (arith, bytes_few, kinds_few.1)
  modest_figures (suc (suc (suc (suc (suc (suc i)))))) = omega arith
