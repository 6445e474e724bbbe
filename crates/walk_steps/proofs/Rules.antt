-- The walk by tables comes to what the rules' walk comes to. Assumes nothing.
use Prim.Native.Nat.{ℕ, ◌+◌, ◌<◌, ◌≤◌}
use mathlib.Core.Path.{◌≡◌, refl, sym, ap, ◌∙◌, subst, fun_ext}
use mathlib.Core.Bool.{Bool, true, false, cond, and-false}
use mathlib.Core.Logic.{⊎_elim, inl, inr}
use mathlib.Core.List.{List, [], ◌∷◌}
use native.Mathlib.Omega.{arith}
use lib.Dec.{eqb}
use lib.ListN.{length, get_or, set, replicate, length-set, length-replicate, get_or-eq_default}
use lib.Seq.{get_or-set_same, get_or-set_other}
use borrow.Author.Tests.{eq-eqb, ne_eqb, le-leb, lt-leb, le-ltb, lt-ltb}
use Rattle.endian.proofs.Laws.{less?, same?, get_or_zeros}
use Rattle.rules.specs.Counting.{◌if◌else◌, first_of, any_below, any_in, sum_list, occurrences, gather, same_bytes}
use Rattle.rules.specs.Anodes.{Anodes, limit}
use Rattle.rules.specs.Chains.{chain_of, one_if_head, block_count}
use Rattle.rules.specs.Walk.{Dir, root, Entered, entries_in, is_block_of, Item, wrong_anode, wrong_file_size, item_of, items_by, as_twin, twins, items_of, Walk, fault, done, walk, walk_of, fault_in, reached_dirs, reached, naming}
use Rattle.rules.specs.Accepted.{unnamed, unnamed_chain, tree_fault}
use Rattle.rules.specs.Calls.{file_count, dir_count}
use Rattle.counting.specs.Laws.{any_below-same}
use Rattle.laws.specs.Bags.{occurrences-nil}
use Rattle.laws.specs.Chains.{HeadTable}
use Rattle.laws.specs.Each.{Each, each_gather}
use Rattle.laws.specs.Items.{each_item, names-sum}
use Rattle.laws.specs.Tests.{eqb_cases, first_of_some}
use Rattle.anodes.specs.Loaded.{anodes_from}
use Rattle.walk_steps.specs.Steps.{sum_from, head_at, item_in, items_from, items_with, Run, halted, ended, run_from, dirs_from, queue_of, unnamed_at, marked}
use Rattle.walk_steps.proofs.Laws.{head_range, marked_more}
use Rattle.walk_steps.proofs.Matching.{namings, files_in, Agree, agree_same, InRange, WalkMatch, walk_match}

-- ---- the items by tables are those of the rules

-- an entry that passes 12 and 13 names an anode from 6 up
early_range : (heads : List ℕ) (b : Bool) (a : ℕ) → ◌≡◌ {A = ℕ} (cond b 12 (cond (head_at heads a) 0 13)) 0 → (6 ≤ a) × (a < limit)
early_range heads true a e = absurd (omega arith)
early_range heads false a e = go (head_at heads a) refl e where
  go : (h : Bool) → head_at heads a ≡ h → ◌≡◌ {A = ℕ} (cond h 0 13) 0 → (6 ≤ a) × (a < limit)
  go true h e = head_range heads a h
  go false h e = absurd (omega arith)

-- a twin has a fault
range_twin : (i : Item) (t : Bool) → InRange i → InRange (cond t (as_twin i) i)
unfolding as_twin
range_twin i true r e = absurd (elim (eqb_cases {A = ℕ} i.early 12 12 17) [ inl c ↦ omega (arith, e, c.1) | inr c ↦ omega (arith, e, c.1) ])
range_twin i false r e = r e

range_twins : (seen : List (List ℕ)) (is : List Item) → Each InRange is → Each InRange (twins seen is)
unfolding twins
range_twins seen [] r = tt
range_twins seen (i ∷ is) r = (range_twin i (any_in (same_bytes i.name) seen) r.0, range_twins (i.name ∷ seen) is r.1)

module _ (counts nexts heads : List ℕ) where
  range_item : (e : Entered) → InRange (item_in counts nexts heads e)
  unfolding item_in
  range_item e = early_range heads e.broken e.anode

  module _ (img : List ℕ) (s : Anodes) where
    range_items : (d : Dir) → Each InRange (items_with (item_in counts nexts heads) img s d)
    unfolding items_with
    range_items d =
        range_twins [] (gather (items_from (item_in counts nexts heads) img s d) (chain_of s.next limit d.head))
        (each_gather InRange (items_from (item_in counts nexts heads) img s d)
        (each_item InRange (item_in counts nexts heads) range_item (λ e. absurd (omega arith)) (entries_in img) (is_block_of img) s d) (chain_of s.next limit d.head))

-- an anode without a block heads no chain
heads_none : (next block : ℕ → ℕ) (a : ℕ) → block a ≡ 0 → one_if_head limit next block a ≡ 0
unfolding one_if_head
heads_none next block a e = rw (eq-eqb (block a) 0 e, and-false)

eqb_both : (a b c d : ℕ) → (a ≡ b → c ≡ d) → (c ≡ d → a ≡ b) → eqb a b ≡ eqb c d
eqb_both a b c d f g = ⊎_elim (λ e. eq-eqb a b e ∙ sym (eq-eqb c d (f e))) (λ n. ne_eqb a b n ∙ sym (ne_eqb c d (λ e. n (g e)))) (same? a b)

module _ (t : List ℕ) (s : Anodes) (table : HeadTable t s) where
  -- in the table's range, the heads are those of the rules
  head_test : (a : ℕ) → 6 ≤ a → a < limit → eqb (one_if_head limit s.next s.block a) 1 ≡ eqb (get_or t a 0) a
  head_test a lo hi = eqb_both (one_if_head limit s.next s.block a) 1 (get_or t a 0) a (table a lo hi).1 (table a lo hi).0

  module _ (past : (a : ℕ) → limit ≤ a → s.block a ≡ 0) where
    head_same : (a : ℕ) → wrong_anode s a ≡ cond (head_at t a) 0 13
    unfolding wrong_anode head_at
    head_same a =
        ⊎_elim
        (λ lo. rw (lt-leb 6 a lo))
        (λ lo. ⊎_elim
        (λ hi. rw (le-leb 6 a lo, lt-ltb a limit hi, head_test a lo hi))
        (λ hi. rw (le-leb 6 a lo, le-ltb a limit hi, heads_none s.next s.block a (past a hi)))
        (less? a limit))
        (less? a 6)

-- what the walk's end says by the rules
abbrev pub Said : List ℕ → Anodes → List ℕ → Run → Type 0
Said img s t (halted r) = r ≡ tree_fault img s
Said img s t (ended marks files dirs) =
    ((b : Bool) → any_below (unnamed_at t marks) limit ≡ b → tree_fault img s ≡ 16 if b else 0)
    × (files ≡ file_count img s)
    × (length dirs ≡ dir_count img s)
    × (dirs ≡ reached_dirs img s)

-- the sum along a chain in the tables is the number of its blocks
pub sum_from-count : (counts firsts nexts : List ℕ) (a : ℕ) → sum_from counts nexts limit a ≡ block_count (anodes_from counts firsts nexts) a
unfolding sum_from block_count anodes_from
sum_from-count counts firsts nexts a = refl

module _ (counts nexts t : List ℕ) (s : Anodes) (table : HeadTable t s) (past : (a : ℕ) → limit ≤ a → s.block a ≡ 0)
    (sums : (a : ℕ) → sum_from counts nexts limit a ≡ block_count s a) where
  item_same : (e : Entered) → item_in counts nexts t e ≡ item_of s e
  unfolding item_in item_of wrong_file_size
  item_same e = rw (head_same t s table past e.anode, sums e.anode)

  items-same : (img : List ℕ) → items_with (item_in counts nexts t) img s ≡ items_of img s
  unfolding items_with items_of items_by
  items-same img = ap (λ (item : Entered → Item). items_with item img s) (fun_ext item_same)

  -- ---- what the walk answers

  -- the walk from the root, with no mark from 6 up
  module _ (img marks : List ℕ) (whole : length marks ≡ limit) (clean : (x : ℕ) → 6 ≤ x → get_or marks x 0 ≡ 0) where
    run_match : WalkMatch (items_of img s) 0 [] [] (run_from (items_with (item_in counts nexts t) img s) limit (root ∷ []) marks 0 []) (walk_of img s)
    unfolding walk_of occurrences sum_list
    run_match =
        subst
        (λ (f : Dir → List Item). WalkMatch f 0 [] [] (run_from (items_with (item_in counts nexts t) img s) limit (root ∷ []) marks 0 []) (walk f limit (root ∷ []) []))
        (items-same img)
        (walk_match (items_with (item_in counts nexts t) img s) (range_items counts nexts t img s) limit (root ∷ []) marks 0 [] [] whole
        (λ x lo hi. (λ z. refl, λ n. absurd (n (clean x lo)))))

    tree_halted : (r : ℕ) → run_from (items_with (item_in counts nexts t) img s) limit (root ∷ []) marks 0 [] ≡ halted r → tree_fault img s ≡ r
    unfolding tree_fault
    tree_halted r e = go (walk_of img s) refl (rw e at run_match) where
      go : (w : Walk) → walk_of img s ≡ w → WalkMatch (items_of img s) 0 [] [] (halted r) w
          → first_of (fault_in (walk_of img s)) (16 if any_below (unnamed_chain img s) limit else 0) ≡ r
      go (fault m) w h = rw (w, ← h.0) (first_of_some r _ r refl h.1)
      go (done ds) w h = absurd h

    module _ (m : List ℕ) (f : ℕ) (all : List Dir) (e : run_from (items_with (item_in counts nexts t) img s) limit (root ∷ []) marks 0 [] ≡ ended m f all) where
      -- the directories that the rules' walk reached, with the counts and marks for them
      reached-all : (ds : List Dir) × (walk_of img s ≡ done ds) × WalkMatch (items_of img s) 0 [] [] (ended m f all) (done ds)
      reached-all = go (walk_of img s) refl (rw e at run_match) where
        go : (w : Walk) → walk_of img s ≡ w → WalkMatch (items_of img s) 0 [] [] (ended m f all) w
            → (ds : List Dir) × (walk_of img s ≡ done ds) × WalkMatch (items_of img s) 0 [] [] (ended m f all) (done ds)
        go (fault r) w h = absurd h
        go (done ds) w h = (ds, w, h)

      tree_files : f ≡ file_count img s
      unfolding file_count reached reached_dirs files_in
      tree_files = rw reached-all.1 (omega (arith, reached-all.2.1))

      tree_dirs : all ≡ reached_dirs img s
      unfolding reached_dirs
      tree_dirs = rw reached-all.1 reached-all.2.2

      naming-reached : (x : ℕ) → namings x (gather (items_of img s) reached-all.0) + occurrences x [] ≡ naming img s x
      unfolding naming namings reached reached_dirs
      naming-reached x = rw reached-all.1 (omega (arith, occurrences-nil x, names-sum x (gather (items_of img s) reached-all.0)))

      naming_agrees : Agree m (naming img s)
      naming_agrees = agree_same m (λ x. namings x (gather (items_of img s) reached-all.0) + occurrences x []) (naming img s) naming-reached reached-all.2.0

      unnamed-same : (x : ℕ) → x < limit → unnamed_chain img s x ≡ unnamed_at t m x
      unfolding unnamed_chain unnamed unnamed_at
      unnamed-same x hi =
          ⊎_elim
          (λ lo. rw (lt-leb 6 x lo))
          (λ lo. rw (
            le-leb 6 x lo,
            head_test t s table x lo hi,
            eqb_both (naming img s x) 0 (get_or m x 0) 0
                (λ z. ⊎_elim (λ e. e) (λ n. absurd (omega (arith, (naming_agrees x lo hi).1 n))) (same? (get_or m x 0) 0))
                (naming_agrees x lo hi).0,
          ))
          (less? x 6)

      tree_ended : (b : Bool) → any_below (unnamed_at t m) limit ≡ b → tree_fault img s ≡ 16 if b else 0
      unfolding tree_fault first_of
      tree_ended b h = rw (reached-all.1, any_below-same (unnamed_chain img s) (unnamed_at t m) limit unnamed-same, h)

    said : (r : Run) → r ≡ run_from (items_with (item_in counts nexts t) img s) limit (root ∷ []) marks 0 [] → Said img s t r
    unfolding dir_count
    said (halted r) e = sym (tree_halted r (sym e))
    said (ended m files dirs) e =
        let d = tree_dirs m files dirs (sym e) in
        (tree_ended m files dirs (sym e), tree_files m files dirs (sym e), ap length d, d)

-- ---- the tables at the start: a mark for the root, and the root in the queue

-- a mark for the root alone
abbrev pub start_marks : List ℕ
start_marks = set (replicate limit 0) 5 1

start_whole : length start_marks ≡ limit
start_whole = length-set (replicate {A = ℕ} limit 0) 5 1 ∙ length-replicate {A = ℕ} limit 0

start_clean : (x : ℕ) → 6 ≤ x → get_or start_marks x 0 ≡ 0
start_clean x h = get_or-set_other (replicate limit 0) 5 x 1 0 (omega arith) ∙ get_or_zeros limit x

pub start_fits : 1 ≤ marked start_marks
start_fits =
    let l = length-replicate {A = ℕ} limit 0 in
    omega (arith, marked_more (replicate limit 0) 5 (omega arith) (get_or_zeros limit 5))

start_queue : (queue parents : List ℕ) → length queue ≡ limit → length parents ≡ limit → queue_of (set queue 0 5) (set parents 0 0) 1 ≡ root ∷ []
unfolding queue_of dirs_from
start_queue queue parents p q = rw (get_or-set_same queue 0 5 0 (omega arith), get_or-set_same parents 0 0 0 (omega arith))

module _ (img counts firsts nexts t : List ℕ) (whole : length firsts ≡ limit) (table : HeadTable t (anodes_from counts firsts nexts)) where
  past : (a : ℕ) → limit ≤ a → (anodes_from counts firsts nexts).block a ≡ 0
  unfolding anodes_from
  past a h = get_or-eq_default firsts 0 (rw whole h)

  -- the walk from the root, by the tables at the start
  pub answered : (q p : List ℕ) → length q ≡ limit → length p ≡ limit → (r : Run)
      → r ≡ run_from (items_with (item_in counts nexts t) img (anodes_from counts firsts nexts)) limit (queue_of (set q 0 5) (set p 0 0) 1) start_marks 0 []
      → Said img (anodes_from counts firsts nexts) t r
  answered q p e f r c =
      said counts nexts t (anodes_from counts firsts nexts) table past (sum_from-count counts firsts nexts) img start_marks start_whole start_clean r (rw (start_queue q p e f) at c)
