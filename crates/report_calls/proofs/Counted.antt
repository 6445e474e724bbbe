-- The figures that the code counts are those of the rules.
use Prim.Native.Nat.{ℕ, ◌<◌, ◌≤◌}
use mathlib.Core.Path.{◌≡◌, refl, ap, ◌∙◌}
use mathlib.Core.Bool.{cond}
use mathlib.Core.List.{List, [], ◌∷◌}
use native.Mathlib.Omega.{arith}
use lib.ListN.{length, get_or, take}
use Rattle.rules.specs.Counting.{gather}
use Rattle.rules.specs.Anodes.{Anodes, limit, anodes_of}
use Rattle.rules.specs.Walk.{Entered, reached_dirs}
use Rattle.rules.specs.Accepted.{disk_size, check_answer}
use Rattle.rules.specs.Lookup.{entries_of}
use Rattle.rules.specs.Totals.{free_blocks}
use Rattle.laws.specs.Acceptance.{size_bounds}
use Rattle.laws.specs.Heads.{Head}
use Rattle.laws.specs.Space.{head_1}
use Rattle.laws.specs.Entries.{Unbroken}
use Rattle.laws.specs.Members.{Member, member_congr, member-gather}
use Rattle.table_laws.specs.ShownOwners.{shown_on, table_long}
use Rattle.change_laws.specs.Image.{AcceptedImage, accepted_own, accepted_whole, image-passed}
use Rattle.change_laws.specs.Reached.{EntryIn, member-reached, entry-facts}
use Rattle.anodes.specs.Loaded.{anodes_from}
use Rattle.walk_steps.specs.Steps.{queue_of}
use Rattle.find.proofs.Laws.{queued-reached, open_unbroken}
use Rattle.fsck.specs.declared.Tally.{Tally}
use Rattle.report.specs.Runs.{one_if_many, longest_run, in_chain, file_runs, longest_free}
use Rattle.report.specs.Figures.{reached_entries, one_if_split, split_files, file_bytes, figures_of}
use Rattle.report.specs.Room.{Modest}
use Rattle.report.specs.Table.{owned_by, RunsCounted}
use Rattle.report_laws.specs.RunsMean.{runs_alike, longest_alike}
use Rattle.report_laws.specs.ModestFigures.{dirs_few, modest_figures}
use Rattle.file_sums.specs.declared.FileSums.{FileSums}
use Rattle.file_sums.specs.Sums.{one_if_apart, sums_made, sums_with}
use Rattle.report_calls.specs.Reportable.{Reportable}

module _ {img table firsts nexts queue : List ℕ} {t : Tally} (r : Reportable img table firsts nexts queue t) where
  abbrev s : Anodes
  s = anodes_of img

  ok : check_answer img (disk_size img) limit ≡ 0
  ok = r.is_open.loaded.accepted

  image : AcceptedImage img
  image = accepted_own img ok

  -- ---- the block table

  -- the pass has a block to start from, and the table an entry for each
  pub pass_room : (n : ℕ) → n ≡ disk_size img → (0 < n) × (n ≤ length table) × (n ≤ 65535)
  pass_room n e =
      let b = size_bounds img (image-passed image).size_right in
      (omega (arith, e, b.0), omega (arith, e, table_long img (disk_size img) limit ok table r.rest r.shown), omega (arith, e, b.1))

  -- a head owns in the table what its chain has
  owned_on : (h : ℕ) → Head s.next s.block h → (x : ℕ) → x < disk_size img → owned_by table h x ≡ in_chain s h x
  unfolding owned_by in_chain
  owned_on h d x l = shown_on img (disk_size img) limit ok h d table r.rest r.shown x l

  pub longest_is : (n k : ℕ) → n ≡ disk_size img → k ≡ longest_run (owned_by table 1) n → k ≡ longest_free img s
  unfolding longest_free
  longest_is n k e is = is ∙ rw e (longest_alike (owned_by table 1) (in_chain s 1) (disk_size img) (owned_on 1 (head_1 (accepted_whole image).good)))

  module _ (starts : List ℕ) (n : ℕ) (size : n ≡ disk_size img) (len : length starts ≡ 3444) (counted : RunsCounted table n starts) where
    runs_are : (h : ℕ) → Head s.next s.block h → h < 3444 → get_or starts h 0 ≡ file_runs img s h
    unfolding file_runs
    runs_are h d l =
        counted h (omega (arith, l, len)) ∙ rw size (runs_alike (owned_by table h) (in_chain s h) (disk_size img) (owned_on h d))

    -- ---- the entries

    entry_split : (e : Entered) → Member e (reached_entries img s) → one_if_apart starts e ≡ one_if_split img s e
    unfolding reached_entries one_if_apart one_if_split
    entry_split e m =
        let p = member-gather (λ d. entries_of img s d.head) (reached_dirs img s) e m in
        let in_dir : EntryIn img p.0.head e = record { directory = member-reached image p.0 p.1; member = p.2 } in
        let f = entry-facts in_dir in
        ap (λ (k : ℕ). cond e.dir 0 (one_if_many k)) (runs_are e.anode f.head f.below)

    -- entries do not depend on counts
    any_counts : (c : List ℕ) → entries_of img (anodes_from [] firsts nexts) ≡ entries_of img (anodes_from c firsts nexts)
    unfolding entries_of anodes_from
    any_counts c = refl

    queued_entries : gather (λ d. entries_of img (anodes_from [] firsts nexts) d.head) (queue_of queue r.parents t.dirs) ≡ reached_entries img s
    unfolding reached_entries
    queued_entries = rw r.is_open.queued (ap (λ (f : ℕ → List Entered). gather (λ d. f d.head) (reached_dirs img s)) same)
      where
        same : entries_of img (anodes_from [] firsts nexts) ≡ entries_of img s
        same = any_counts r.counts ∙ ap (entries_of img) r.is_open.loaded.is_loaded

    module _ (u : FileSums) (is : (parents : List ℕ) → u ≡ sums_with starts (sums_made 0 0) (gather (λ d. entries_of img (anodes_from [] firsts nexts) d.head) (queue_of queue parents t.dirs))) where
      sums_of : u ≡ sums_with starts (sums_made 0 0) (reached_entries img s)
      sums_of = is r.parents ∙ ap (sums_with starts (sums_made 0 0)) queued_entries

      pub bytes_are : u.bytes ≡ file_bytes img s
      unfolding sums_with file_bytes
      bytes_are = ap (λ (v : FileSums). v.bytes) sums_of ∙ omega arith

      pub split_are : u.split ≡ split_files img s
      unfolding sums_with split_files
      split_are = ap (λ (v : FileSums). v.split) sums_of ∙ omega (arith, member_congr (one_if_apart starts) (one_if_split img s) (reached_entries img s) entry_split)

  -- the directories of the queue are unbroken, and not too many
  pub queue_room : ((i : ℕ) → i < t.dirs → Unbroken (entries_of img (anodes_from [] firsts nexts) (get_or queue i 0))) × (t.dirs ≤ 3445)
  queue_room = (λ i l. open_unbroken r.is_open (get_or queue i 0) (queued-reached r.is_open i l), omega (arith, r.dirs, dirs_few image))

  -- ---- all six

  pub figures_are : (longest split bytes : ℕ) → longest ≡ longest_free img s → split ≡ split_files img s → bytes ≡ file_bytes img s →
      t.free ∷ t.files ∷ t.dirs ∷ longest ∷ split ∷ bytes ∷ [] ≡ figures_of img s
  unfolding figures_of free_blocks
  figures_are longest split bytes a b c = rw (r.free, r.files, r.dirs, a, b, c)

  pub figures_modest : Modest (figures_of img s)
  figures_modest = modest_figures image

-- the five numbers are the first of them
pub first_five : (img : List ℕ) (s : Anodes) (l : List ℕ) → l ≡ figures_of img s → get_or l 0 0 ∷ get_or l 1 0 ∷ get_or l 2 0 ∷ get_or l 3 0 ∷ get_or l 4 0 ∷ [] ≡ take 5 (figures_of img s)
unfolding figures_of
first_five img s l e = rw e
