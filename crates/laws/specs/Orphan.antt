-- An accepted state but for one chain that no entry names: what stands between the steps of a make, or of a remove.
use Rattle.std.specs.Prelude.{ℕ, ◌+◌, ◌≤◌, ◌≡◌, refl, ◌≢◌, Bool, true, false, cond, List}
use Rattle.std.proofs.Common.{sym, ap, ◌∙◌, inl, inr, map-id, arith}
use Rattle.rules.specs.Counting.{one_at, sum_list}
use Rattle.rules.specs.Anodes.{limit, Anodes}
use Rattle.rules.specs.Walk.{Dir, root, Entered, Item, item_of, broken_item, items_by}
use Rattle.laws.specs.Tests.{same?}
use Rattle.laws.specs.Sums.{one_at_cases, one_at-same}
use Rattle.laws.specs.Bags.{list_add, list_mono, list_congr}
use Rattle.laws.specs.Heads.{Head}
use Rattle.laws.specs.Space.{Good}
use Rattle.laws.specs.Moves.{Shift}
use Rattle.laws.specs.Frame.{shift_alike, shift_chain}
use Rattle.laws.specs.ChainBlocks.{shift_count}
use Rattle.laws.specs.Each.{Each, each_map, each_both, each_pair, each_zero}
use Rattle.laws.specs.Items.{wrong, named_in, faults, headed}
use Rattle.laws.specs.Trees.{Tree}
use Rattle.laws.specs.Apart.{SameNames, names_still}
use Rattle.laws.specs.TreeChanges.{tree_unnamed, AlikeItems, alike_named, alike_names, alike_tree}
use Rattle.laws.specs.Totals.{file_size, named_by_files, named_by_kind}
use Rattle.laws.specs.Entries.{broken_wrong, Sized, sized_still, item_anode, item_dir, items_alike}
use Rattle.laws.specs.Whole.{named-le, DirHead, fine_still, tree_heads}

-- what is wrong with an item, and 1 for a file's that names h
abbrev pub amiss : ℕ → Item → ℕ
amiss h i = wrong i + file_size (λ x. one_at x h) i

module _ (ex : ℕ → Bool) (n last : ℕ) where
  -- f heads a chain that nothing names; the directories have the names that they had with the items `old`
  pub record Orphaned (f : ℕ) (old : Dir → List Item) (s : Anodes) (system hd sd : ℕ → ℕ) (entries : ℕ → List Entered) (marked : Dir → ℕ → Bool) (dirs : List Dir) : Type 0 where
    pub good : Good limit ex n last s system hd sd
    pub tree : Tree (items_by entries marked s) root dirs
    pub head : Head s.next s.block f
    pub not_named : sum_list (named_in (items_by entries marked s) f) dirs ≡ 0
    pub all_named : (x : ℕ) → 6 ≤ x → x ≢ f → Head s.next s.block x → 1 ≤ sum_list (named_in (items_by entries marked s) x) dirs
    pub same_names : SameNames old (items_by entries marked s) dirs

-- the same with another account of the anodes that exist and of the system's blocks
pub orphan_good : {ex ex' : ℕ → Bool} {n last f : ℕ} {old : Dir → List Item} {s : Anodes} {system system' hd sd hd' sd' : ℕ → ℕ} {entries : ℕ → List Entered} {marked : Dir → ℕ → Bool} {dirs : List Dir} → Good limit ex' n last s system' hd' sd' →
    Orphaned ex n last f old s system hd sd entries marked dirs → Orphaned ex' n last f old s system' hd' sd' entries marked dirs
orphan_good g o = record { good = g; tree = o.tree; head = o.head; not_named = o.not_named; all_named = o.all_named; same_names = o.same_names }

-- the steps on the chain of a head h that no file's entry names
module _ {ex : ℕ → Bool} {n last f : ℕ} {old : Dir → List Item} {s : Anodes} {system hd sd : ℕ → ℕ} {entries : ℕ → List Entered} {marked : Dir → ℕ → Bool} {dirs : List Dir}
    (o : Orphaned ex n last f old s system hd sd entries marked dirs)
    (h : ℕ) (no_file : named_by_files (items_by entries marked s) h dirs ≡ 0)
    {t : Anodes} {ex' : ℕ → Bool} {system' hd' sd' : ℕ → ℕ} (g' : Good limit ex' n last t system' hd' sd') (sh : Shift s hd t hd' 1 h) where
  abbrev items : Dir → List Item
  items = items_by entries marked s

  -- an entry with nothing wrong stays so
  pub still_fine : (e : Entered) → amiss h (item_of s e) ≡ 0 → wrong (item_of t e) ≡ 0
  still_fine e z = fine_still o.good g' e e refl refl (omega arith) (λ l d q. (sh.stays e.anode d, size l d q e.dir refl))
    where
      size : 6 ≤ e.anode → Head s.next s.block e.anode → Sized s e → (b : Bool) → e.dir ≡ b → Sized t e
      size l d q true i = inl i
      size l d q false i = sized_still s t e (shift_count o.good g' sh e.anode d (omega arith) not_h) q
        where
          not_h : e.anode ≢ h
          not_h j = omega (arith, z, ap (λ (c : Bool). cond c 0 (one_at (item_of s e).anode h)) (item_dir s e ∙ i), one_at-same (item_of s e).anode h (item_anode s e ∙ j))

  pub none-amiss : Each (λ d. sum_list (amiss h) (items_by entries marked s d) ≡ 0) dirs
  none-amiss = each_zero (λ d. sum_list (amiss h) (items d)) dirs
      (list_congr (λ d. sum_list (amiss h) (items d)) (λ d. faults items d + sum_list (file_size (λ x. one_at x h)) (items d)) dirs (λ d. list_add wrong (file_size (λ x. one_at x h)) (items d))
      ∙ list_add (faults items) (λ d. sum_list (file_size (λ x. one_at x h)) (items d)) dirs ∙ omega (arith, o.tree.faultless, no_file))

  abbrev items' : Dir → List Item
  items' = items_by entries marked t

  module _ (own : Each (λ d. d.head ≡ h → AlikeItems (items_by entries marked s) (items_by entries marked t) d) dirs) where
    one : (d : Dir) → DirHead s d → (d.head ≡ h → AlikeItems items items' d) × (sum_list (amiss h) (items d) ≡ 0) → AlikeItems items items' d
    one d p q = elim (same? d.head h) [
      | inl e ↦ q.0 e
      | inr e ↦ items_alike s t (λ j. j) (amiss h) amiss_broken (λ j z. (refl, refl, refl, still_fine j z)) entries entries marked marked d
          (shift_chain o.good g' sh d.head p.0 p.1 e) (shift_alike o.good g' sh d.head p.0 p.1 e)
          (λ a k i. (sym (map-id (entries (s.block a))), refl)) q.1
    ]
      where
        amiss_broken : amiss h broken_item ≢ 0
        amiss_broken z = omega (arith, z, broken_wrong)

    alikes : Each (AlikeItems items items') dirs
    alikes = each_both (DirHead s) (λ d. (d.head ≡ h → AlikeItems items items' d) × (sum_list (amiss h) (items d) ≡ 0)) (AlikeItems items items') dirs one (tree_heads o.good entries marked o.tree)
        (each_pair (λ d. d.head ≡ h → AlikeItems items items' d) (λ d. sum_list (amiss h) (items d) ≡ 0) dirs own none-amiss)

    pub orphan_shift : Orphaned ex' n last f old t system' hd' sd' entries marked dirs
    orphan_shift = record {
      good = g';
      tree = alike_tree items items' root dirs alikes o.tree;
      head = sh.stays f o.head;
      not_named = alike_named items items' dirs alikes f ∙ o.not_named;
      all_named = λ x l q d. omega (arith, alike_named items items' dirs alikes x, o.all_named x l q (sh.no_new x d));
      same_names = names_still old items items' dirs o.same_names (alike_names items items' dirs alikes);
    }

module _ {ex : ℕ → Bool} {n last f : ℕ} {old : Dir → List Item} {s : Anodes} {system hd sd : ℕ → ℕ} {entries : ℕ → List Entered} {marked : Dir → ℕ → Bool} {dirs : List Dir}
    (o : Orphaned ex n last f old s system hd sd entries marked dirs) where
  abbrev given : Dir → List Item
  given = items_by entries marked s

  -- the chain that nothing names is no directory's of the tree
  pub not_dir : 6 ≤ f → Each (λ d. d.head ≢ f) dirs
  not_dir f6 = tree_unnamed given root dirs o.tree f (omega arith) o.not_named

  -- the chain that nothing names takes or gives
  pub orphan_changed : 6 ≤ f → {t : Anodes} {ex' : ℕ → Bool} {system' hd' sd' : ℕ → ℕ} → Good limit ex' n last t system' hd' sd' → Shift s hd t hd' 1 f → Orphaned ex' n last f old t system' hd' sd' entries marked dirs
  orphan_changed f6 {t} g' sh = orphan_shift o f (omega (arith, named_by_kind given f dirs, o.not_named)) g' sh
      (each_map (λ d. d.head ≢ f) (λ d. d.head ≡ f → AlikeItems given (items_by entries marked t) d) dirs (λ d q e. absurd (q e)) (not_dir f6))

  -- no file's entry names a directory of the tree
  pub dir_no_file : (h : ℕ) → headed h dirs ≡ 1 → named_by_files given h dirs ≡ 0
  dir_no_file h once = elim (one_at_cases 5 h) [
    | inr c ↦ omega (arith, once, o.tree.exact (λ d. one_at d.head h), c.1, named_by_kind given h dirs, o.tree.once h)
    | inl c ↦ omega (
      arith,
      named_by_kind given h dirs,
      o.tree.faultless,
      list_mono (named_in given h) (faults given) dirs (named-le entries marked s h (λ l e. omega (arith, l, c.0))),
    )
  ]
