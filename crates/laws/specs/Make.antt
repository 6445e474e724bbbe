-- A file or a directory made: a fresh head that nothing names, and an entry for it in a block of a reached directory.
use Rattle.std.specs.Prelude.{ℕ, ◌+◌, ◌*◌, ◌≤◌, ◌<◌, ◌≡◌, ◌≢◌, Bool, true, false, List, [], ◌∷◌, T}
use Rattle.std.proofs.Math.Path.{refl, sym, ap}
use Rattle.std.proofs.Common.{◌∙◌, inl, inr, map-id, arith}
use Rattle.rules.specs.Counting.{one_at, sum_list, occurrences, changed}
use Rattle.rules.specs.Folding.{folded}
use Rattle.rules.specs.Anodes.{limit, Anodes}
use Rattle.rules.specs.Chains.{chain_of}
use Rattle.rules.specs.Walk.{Dir, dir_made, root, Entered, Item, item_of, items_at, items_by}
use Rattle.rules.specs.Space.{rewritten}
use Rattle.laws.specs.Tests.{same?, not_above}
use Rattle.laws.specs.Sums.{one_at-same, changed-same, changed_other}
use Rattle.laws.specs.Bags.{list_nil, list_cons, list_gain, each_in}
use Rattle.laws.specs.Links.{chain_the}
use Rattle.laws.specs.Heads.{Head, head_while}
use Rattle.laws.specs.LinkChanges.{used_not-free, fresh_no_next}
use Rattle.laws.specs.Space.{Alike, FreeAnode, free-pos, Good, head_good, on_chain_lem}
use Rattle.laws.specs.Frame.{kept-count}
use Rattle.laws.specs.Each.{Each, each_both, each_zero}
use Rattle.laws.specs.Items.{wrong, weigh_item, named_in, faults, headed}
use Rattle.laws.specs.Apart.{one_same, name_count, Apart, apart_same}
use Rattle.laws.specs.TreeChanges.{Gain, more_apart, sum-named, add-file, add_dir, AlikeItems, alike_named, alike_names, alike_tree}
use Rattle.laws.specs.Entries.{weigh_entry, broken_wrong, Sized, sized_still, fine_item, item_anode, as_entry, weigh_item_lem, entries_sum, items-sum, anodes_fine, items_at_whole, items_alike}
use Rattle.laws.specs.Whole.{DirHead, AllNamed, Whole, head_counts, fine_still, on_dir, tree_heads, dir_heads, named_heads}
use Rattle.laws.specs.Orphan.{Orphaned}

-- other marks that agree with the old in the blocks of directories
abbrev pub SameMarks : Anodes → (ℕ → ℕ) → (Dir → ℕ → Bool) → (Dir → ℕ → Bool) → Type 0
SameMarks s hd marked marked' = (a : ℕ) → s.count a ≡ 1 → hd a ≢ 1 → (d : Dir) → marked' d (s.block a) ≡ marked d (s.block a)

-- other entries and marks that do
pub record SameContents (s : Anodes) (hd : ℕ → ℕ) (entries : ℕ → List Entered) (marked : Dir → ℕ → Bool) (entries' : ℕ → List Entered) (marked' : Dir → ℕ → Bool) : Type 0 where
  pub same_entries : (a : ℕ) → s.count a ≡ 1 → hd a ≢ 1 → entries' (s.block a) ≡ entries (s.block a)
  pub same_marks : SameMarks s hd marked marked'

pub contents_unchanged : (s : Anodes) (hd : ℕ → ℕ) (entries : ℕ → List Entered) (marked : Dir → ℕ → Bool) → SameContents s hd entries marked entries marked
contents_unchanged s hd entries marked = record { same_entries = λ a i q. refl; same_marks = λ a i q d. refl }

-- of two tables of entries, `more` has e more in the block of the anode a₀, and the same in the blocks of the other anodes of chains but 1's
abbrev pub EntryMore : Anodes → (ℕ → ℕ) → Entered → ℕ → (ℕ → List Entered) → (ℕ → List Entered) → Type 0
EntryMore s hd e a₀ less more = (a : ℕ) → s.count a ≡ 1 → hd a ≢ 1 → (v : Bool → Bool → ℕ → ℕ → List ℕ → ℕ) →
    sum_list (weigh_entry v) (more (s.block a)) ≡ sum_list (weigh_entry v) (less (s.block a)) + one_at a a₀ * weigh_entry v e

-- the directory h₀ of that anode gains the item of e
module _ {ex : ℕ → Bool} {n last : ℕ} {s : Anodes} {system hd sd : ℕ → ℕ} (g : Good limit ex n last s system hd sd) (e : Entered) (a₀ h₀ : ℕ) (at₀ : hd a₀ ≡ h₀)
    (less more : ℕ → List Entered) (marked marked' : Dir → ℕ → Bool)
    (cont : EntryMore s hd e a₀ less more) where
  pub entry_gain : (d : Dir) → DirHead s d →
      ((a : ℕ) → 0 < occurrences a (chain_of s.next limit d.head) → hd a ≢ 1 → (s.count a ≡ 1) × T (marked d (s.block a)) × T (marked' d (s.block a))) →
      Gain (items_by less marked s) (items_by more marked' s) h₀ (item_of s e) d
  unfolding occurrences
  entry_gain d p whole u =
      items-sum more marked' s d (weigh_item u)
      ∙ list_gain (λ a. sum_list (weigh_item u) (items_at less marked s d a)) (λ a. sum_list (weigh_item u) (items_at more marked' s d a)) (λ a. one_at a a₀) (weigh_item u (item_of s e)) (chain_of s.next limit d.head)
      (each_in (λ a. sum_list (weigh_item u) (items_at more marked' s d a) ≡ sum_list (weigh_item u) (items_at less marked s d a) + one_at a a₀ * weigh_item u (item_of s e)) (chain_of s.next limit d.head) at_a)
      ∙ omega (arith, items-sum less marked s d (weigh_item u), ap (λ (k : ℕ). k * weigh_item u (item_of s e)) (on_dir g a₀ h₀ at₀ d.head p.0))
    where
      -- one anode of the directory
      at_a : (a : ℕ) → 0 < occurrences a (chain_of s.next limit d.head) →
          sum_list (weigh_item u) (items_at more marked' s d a) ≡ sum_list (weigh_item u) (items_at less marked s d a) + one_at a a₀ * weigh_item u (item_of s e)
      at_a a k =
          let q : hd a ≢ 1 = λ i. p.1 (sym (on_chain_lem g d.head p.0 a k).0 ∙ i) in
          let w = whole a k q in
          rw (items_at_whole less marked s d a w.0 w.1, items_at_whole more marked' s d a w.0 w.2) (entries_sum s u (more (s.block a)) ∙ cont a w.0 q (as_entry s u)
          ∙ omega (arith, entries_sum s u (less (s.block a)), ap (λ (i : ℕ). one_at a a₀ * i) (weigh_item_lem s u e)))

-- ---- a fresh head, which nothing names

module _ {ex : ℕ → Bool} {n last : ℕ} {s : Anodes} {system hd sd : ℕ → ℕ} {entries : ℕ → List Entered} {marked : Dir → ℕ → Bool} {dirs : List Dir}
    (w : Whole ex n last s system hd sd entries marked dirs) (f : ℕ) (f_a : f < limit) (is_free : FreeAnode ex s f) where
  abbrev made : Anodes
  made = rewritten s f 0 65535

  good : Good limit ex n last made system (changed hd f f) (changed sd f f)
  good = head_good w.good f 65535 f_a is_free (omega arith)

  -- an anode in use is untouched
  like_a : (a : ℕ) → s.block a ≢ 0 → Alike s made a
  unfolding rewritten
  like_a a u =
      let not_f = used_not-free s.block a f u is_free.unused in
      record { same_count = changed_other s.count f 0 a not_f; same_block = changed_other s.block f 65535 a not_f; same_next = refl }

  pub fresh_stays : (m : ℕ) → Head s.next s.block m → Head made.next made.block m
  unfolding rewritten
  fresh_stays m d = head_while d (rw (like_a m d.in_use).same_block d.in_use)

  was : (m : ℕ) → m ≢ f → Head made.next made.block m → Head s.next s.block m
  unfolding rewritten
  was m q d = head_while d (rw (changed_other s.block f 65535 m q) at d.in_use)

  head_f : Head made.next made.block f
  unfolding rewritten
  head_f = record { pos = free-pos is_free; in_use = rw (changed-same s.block f 65535) (λ z. omega arith); no_pred = fresh_no_next w.good.linked f (free-pos is_free) is_free.unused }

  -- an entry with nothing wrong stays so
  still_fine : (e : Entered) → wrong (item_of s e) ≡ 0 → wrong (item_of made e) ≡ 0
  unfolding rewritten
  still_fine e z = fine_still w.good good e e refl refl z
      (λ l d q. (fresh_stays e.anode d, sized_still s made e (kept-count s made e.anode refl (λ a k. (like_a a (on_chain_lem w.good e.anode d a k).1).same_count)) q))

  -- the new chain is its head alone, with no block
  pub fresh_chain : chain_of (rewritten s f 0 65535).next limit f ≡ f ∷ []
  unfolding rewritten
  fresh_chain = chain_the good.linked f (f ∷ []) (λ q. head_f.in_use) (refl, free-pos is_free, w.good.linked.view.free-end f is_free.unused)

  module _ (entries' : ℕ → List Entered) (marked' : Dir → ℕ → Bool)
      (cont : SameContents s hd entries marked entries' marked') where
    abbrev items : Dir → List Item
    items = items_by entries marked s

    abbrev items' : Dir → List Item
    items' = items_by entries' marked' made

    one : (d : Dir) → DirHead s d → faults items d ≡ 0 → AlikeItems items items' d
    unfolding rewritten
    one d p z = items_alike s made (λ j. j) wrong (λ q. omega (arith, q, broken_wrong)) (λ j q. (refl, refl, refl, still_fine j q)) entries entries' marked marked' d refl
        (λ a k. like_a a (on_chain_lem w.good d.head p.0 a k).1)
        (λ a k i. let not-1 : hd a ≢ 1 = λ q. p.1 (sym (on_chain_lem w.good d.head p.0 a k).0 ∙ q) in (cont.same_entries a i not-1 ∙ sym (map-id (entries (s.block a))), cont.same_marks a i not-1 d)) z

    alikes : Each (AlikeItems items items') dirs
    alikes = each_both (DirHead s) (λ d. faults items d ≡ 0) (AlikeItems items items') dirs one (dir_heads w) (each_zero (faults items) dirs w.tree.faultless)

    unnamed : sum_list (named_in items f) dirs ≡ 0
    unnamed = not_above (sum_list (named_in items f) dirs) (λ p. (named_heads w f p).2.in_use is_free.unused)

    pub fresh_orphan : Orphaned ex n last f (items_by entries marked s) (rewritten s f 0 65535) system (changed hd f f) (changed sd f f) entries' marked' dirs
    fresh_orphan = record {
      good = good;
      tree = alike_tree items items' root dirs alikes w.tree;
      head = head_f;
      not_named = alike_named items items' dirs alikes f ∙ unnamed;
      all_named = λ x l q d. omega (arith, alike_named items items' dirs alikes x, w.all_named x l (was x q d));
      same_names = alike_names items items' dirs alikes;
    }

-- ---- its entry e, in the block of the anode a₀ of the directory h₀

module _ {ex : ℕ → Bool} {n last : ℕ} {s : Anodes} {system hd sd : ℕ → ℕ} {entries : ℕ → List Entered} {marked : Dir → ℕ → Bool} {dirs : List Dir}
    (e : Entered) {old : Dir → List Item} (o : Orphaned ex n last e.anode old s system hd sd entries marked dirs) (from_6 : 6 ≤ e.anode) (in_rules : e.broken ≡ false)
    (sized : Sized s e)
    (a₀ h₀ : ℕ) (reached : headed h₀ dirs ≡ 1) (at₀ : hd a₀ ≡ h₀) (entries' : ℕ → List Entered) (marked' : Dir → ℕ → Bool)
    (cont : EntryMore s hd e a₀ entries entries')
    (same_marks : SameMarks s hd marked marked')
    (were_apart : Apart old dirs) (unused : Each (λ d. d.head ≡ h₀ → name_count (folded e.name) (old d) ≡ 0) dirs) where
  abbrev before : Dir → List Item
  before = items_by entries marked s

  abbrev after : Dir → List Item
  after = items_by entries' marked' s

  new_fine : wrong (item_of s e) ≡ 0
  new_fine = fine_item s e in_rules from_6 (head_counts o.good e.anode o.head) sized

  gain : (d : Dir) → DirHead s d → faults before d ≡ 0 → Gain before after h₀ (item_of s e) d
  gain d p z = entry_gain o.good e a₀ h₀ at₀ entries entries' marked marked' cont d p
      (λ a k q. let c = anodes_fine entries marked s d z a k in (c.0, c.1, rw (same_marks a c.0 q d) c.1))

  gains : Each (Gain before after h₀ (item_of s e)) dirs
  gains = each_both (DirHead s) (λ d. faults before d ≡ 0) (Gain before after h₀ (item_of s e)) dirs
      gain (tree_heads o.good entries marked o.tree) (each_zero (faults before) dirs o.tree.faultless)

  -- each head is named then
  named : AllNamed s entries' marked' dirs
  named x l d = elim (same? x e.anode) [
    | inl i ↦ omega (arith, sum-named before after h₀ (item_of s e) dirs reached gains x, one_at-same (item_of s e).anode x (item_anode s e ∙ sym i))
    | inr i ↦ omega (arith, sum-named before after h₀ (item_of s e) dirs reached gains x, o.all_named x l i d)
  ]

  -- its name is no other's of its directory
  names_apart : Apart after dirs
  unfolding item_of
  names_apart = more_apart before after h₀ (item_of s e) dirs gains
      (each_both (λ d. name_count (folded e.name) (before d) ≡ name_count (folded e.name) (old d)) (λ d. d.head ≡ h₀ → name_count (folded e.name) (old d) ≡ 0) (λ d. d.head ≡ h₀ → name_count (folded e.name) (before d) ≡ 0) dirs
      (λ d same none q. same ∙ none q) (o.same_names (folded e.name)) unused)
      (apart_same old before dirs o.same_names were_apart)

  -- with the entry of a file in its block, the state is accepted
  pub enter_file : e.dir ≡ false → Whole ex n last s system hd sd entries' marked' dirs
  unfolding item_of
  enter_file file = record {
    good = o.good;
    tree = add-file before after h₀ (item_of s e) dirs reached gains root o.tree file new_fine o.not_named;
    all_named = named;
    apart = names_apart;
  }

  -- and so with the entry of a directory that has no item
  pub enter_directory : e.dir ≡ true → items_by entries' marked' s (dir_made e.anode h₀) ≡ [] →
      Whole ex n last s system hd sd entries' marked' (dir_made e.anode h₀ ∷ dirs)
  unfolding item_of
  enter_directory directory empty = record {
    good = o.good;
    tree = add_dir before after h₀ (item_of s e) dirs reached gains root o.tree directory new_fine o.not_named (λ i. omega (arith, from_6, i)) empty;
    all_named = λ x l d. omega (arith, named x l d, list_cons (named_in after x) (dir_made e.anode h₀) dirs);
    apart = λ v. (omega (arith, ap (name_count v) empty, list_nil {X = Item} (λ i. one_same i.name v)), names_apart v);
  }
