-- An entry removed: it goes, and so does the chain that it names, which has given back its blocks. A directory that goes has no entry.
use Rattle.std.specs.Prelude.{ℕ, ◌+◌, ◌≤◌, ◌<◌, ◌≡◌, ◌≢◌, Bool, true, false}
use Rattle.std.proofs.Math.Path.{refl}
use Rattle.std.proofs.Common.{sym, ap, ◌∙◌, subst, arith}
use mathlib.Core.List.{List, [], ◌∷◌, ◌++◌, map-id, append-eq-nil_iff}
use Rattle.rules.specs.Counting.{one_at, sum_list, gather}
use Rattle.rules.specs.Anodes.{limit, Anodes, exists_by}
use Rattle.rules.specs.Chains.{chain_of}
use Rattle.rules.specs.Walk.{Dir, dir_made, root, Entered, Item, item_of, items_at, items_by}
use Rattle.rules.specs.Plans.{Slotted, slotted}
use Rattle.laws.specs.Sums.{one_at-same, one_at_other}
use Rattle.laws.specs.Bags.{list_nil, list_cons, list_without, list_add}
use Rattle.laws.specs.Heads.{Head}
use Rattle.laws.specs.Space.{Good, on_chain_lem}
use Rattle.laws.specs.Frame.{kept-count}
use Rattle.laws.specs.Each.{Each, Member, each_both, each_pair, member_each, each_less, each_zero}
use Rattle.laws.specs.Items.{wrong, names-sum, named_in, faults, headed}
use Rattle.laws.specs.Trees.{Tree}
use Rattle.laws.specs.Apart.{name_count}
use Rattle.laws.specs.TreeChanges.{tree_unnamed, Gain, less_apart, sum-named, dir_there, remove_file, remove_dir, AlikeItems, alike_named, alike_apart, alike_tree}
use Rattle.laws.specs.Entries.{broken_wrong, sized_still, item_anode, item_dir, items-sum, items_at_fine, anodes_fine, items_alike}
use Rattle.laws.specs.Whole.{DirHead, Whole, fine_still, dir_heads, named_heads}
use Rattle.laws.specs.Make.{SameMarks, EntryMore, entry_gain}
use Rattle.laws.specs.Moves.{with_these}
use Rattle.laws.specs.ChainGone.{Gone, gone_alike, gone-chain, ChainGone}

-- a directory with nothing wrong and no entry has no item
no_items : (entries : ℕ → List Entered) (marked : Dir → ℕ → Bool) (s : Anodes) (d : Dir) → sum_list wrong (items_by entries marked s d) ≡ 0 →
    gather (λ a. entries (s.block a)) (chain_of s.next limit d.head) ≡ [] → items_by entries marked s d ≡ []
unfolding items_by gather
no_items entries marked s d z none = each (chain_of s.next limit d.head) (sym (items-sum entries marked s d wrong) ∙ z) none
  where
    each : (l : List ℕ) → sum_list (λ a. sum_list wrong (items_at entries marked s d a)) l ≡ 0 → gather (λ a. entries (s.block a)) l ≡ [] → gather (items_at entries marked s d) l ≡ []
    each [] z none = refl
    each (a ∷ l) z none =
        let both = (append-eq-nil_iff {p = entries (s.block a)} {q = gather (λ a. entries (s.block a)) l}).0 none in
        let right = list_cons (λ a. sum_list wrong (items_at entries marked s d a)) a l in
        let k = items_at_fine entries marked s d wrong (λ q. omega (arith, q, broken_wrong)) a (omega arith) in
        rw (k.2, both.0) (each l (omega arith) both.1)

-- ---- the entry goes while the chain is still there

-- e names h, and is gone from the block of the anode a₀ of the directory h₀; if it names a directory, that has no entry
module _ {ex : ℕ → Bool} {n last : ℕ} {s : Anodes} {system hd sd : ℕ → ℕ} {entries : ℕ → List Entered} {marked : Dir → ℕ → Bool} {dirs : List Dir}
    (w : Whole ex n last s system hd sd entries marked dirs) (e : Entered) (h : ℕ) (names_h : e.anode ≡ h)
    (a₀ h₀ : ℕ) (reached : headed h₀ dirs ≡ 1) (at₀ : hd a₀ ≡ h₀) (entries' : ℕ → List Entered)
    (cont : EntryMore s hd e a₀ entries' entries)
    (empty : e.dir ≡ true → gather (λ a. entries (s.block a)) (chain_of s.next limit h) ≡ []) where
  abbrev items : Dir → List Item
  items = items_by entries marked s

  abbrev between : Dir → List Item
  between = items_by entries' marked s

  gain : (d : Dir) → DirHead s d → faults items d ≡ 0 → Gain between items h₀ (item_of s e) d
  gain d p z = entry_gain w.good e a₀ h₀ at₀ entries' entries marked marked cont d p (λ a k q. let c = anodes_fine entries marked s d z a k in (c.0, c.1, c.1))

  gains : Each (Gain between items h₀ (item_of s e)) dirs
  gains = each_both (DirHead s) (λ d. faults items d ≡ 0) (Gain between items h₀ (item_of s e)) dirs
      gain (dir_heads w) (each_zero (faults items) dirs w.tree.faultless)

  named_less : (x : ℕ) → sum_list (named_in items x) dirs ≡ sum_list (named_in between x) dirs + one_at h x
  named_less x = sum-named between items h₀ (item_of s e) dirs reached gains x ∙ ap (λ (a : ℕ). sum_list (named_in between x) dirs + one_at a x) (item_anode s e ∙ names_h)

  head_h : (6 ≤ h) × (h < limit) × Head s.next s.block h
  head_h = named_heads w h (omega (arith, named_less h, one_at-same h h refl))

  -- the directories that are left
  record Rest : Type 1 where
    dirs' : List Dir
    tree : Tree between root dirs'
    each : (P : Dir → Type 0) → Each P dirs → Each P dirs'
    names : (x : ℕ) → sum_list (named_in between x) dirs' ≡ sum_list (named_in between x) dirs
    heads : (x : ℕ) → x ≢ h → headed x dirs' ≡ headed x dirs

  rest-file : e.dir ≡ false → Rest
  rest-file file = record {
    dirs' = dirs;
    tree = remove_file items between h₀ (item_of s e) root dirs reached gains w.tree (item_dir s e ∙ file);
    each = λ P p. p;
    names = λ x. refl;
    heads = λ x q. refl;
  }

  rest_dir : e.dir ≡ true → Rest
  rest_dir isdir = record {
    dirs' = l₁ ++ l₂;
    tree = remove_dir items between h₀ (item_of s e) root l₁ l₂ (rw parted at reached) (rw parted at gains) (rw parted at w.tree) (item_dir s e ∙ isdir) none_in;
    each = λ P p. each_less P l₁ c l₂ (subst (Each P) parted p);
    names = λ x. omega (arith, split (named_in between x), gone-named x);
    heads = λ x q. omega (arith, split (λ d. one_at d.head x), one_at_other c.head x (λ i. q (sym i ∙ is_h)));
  }
    where
      is_h : (item_of s e).anode ≡ h
      is_h = item_anode s e ∙ names_h

      c : Dir
      c = dir_made (item_of s e).anode h₀

      there : Member c dirs
      there = dir_there items between h₀ (item_of s e) root dirs reached gains w.tree (item_dir s e ∙ isdir)

      l₁ : List Dir
      l₁ = there.0

      l₂ : List Dir
      l₂ = there.1

      parted : dirs ≡ l₁ ++ (c ∷ l₂)
      parted = there.2

      none_in : items c ≡ []
      none_in = no_items entries marked s c
          (member_each (λ d. faults items d ≡ 0) c dirs there (each_zero (faults items) dirs w.tree.faultless)) (rw is_h (empty isdir))

      split : (f : Dir → ℕ) → sum_list f dirs ≡ sum_list f (l₁ ++ l₂) + f c
      split f = ap (sum_list f) parted ∙ list_without f l₁ c l₂

      gone-named : (x : ℕ) → named_in between x c ≡ 0
      gone-named x = omega (
        arith,
        names-sum x (between c),
        member_each (Gain between items h₀ (item_of s e)) c dirs there gains (λ f b a v. one_at a x),
        ap (sum_list (λ i. one_at i.anode x)) none_in,
        list_nil {X = Item} (λ i. one_at i.anode x),
      )

  rest : Rest
  rest = go e.dir refl
    where
      go : (b : Bool) → e.dir ≡ b → Rest
      go true q = rest_dir q
      go false q = rest-file q

  unnamed : sum_list (named_in between h) rest.dirs' ≡ 0
  unnamed = omega (arith, rest.names h, named_less h, w.tree.once h, one_at-same h h refl)

  not_h : Each (λ d. d.head ≢ h) rest.dirs'
  not_h = tree_unnamed between root rest.dirs' rest.tree h (λ q. omega (arith, q, head_h.0)) unnamed

  -- ---- the chain goes, which nothing names

  module _ {end : Anodes} {ex' : ℕ → Bool} {system' hd' sd' : ℕ → ℕ} (good : Good limit ex' n last end system' hd' sd') (gone : Gone s hd end h) (marked' : Dir → ℕ → Bool) (same_marks : SameMarks s hd marked marked') where
    abbrev items' : Dir → List Item
    items' = items_by entries' marked' end

    -- what is wrong, or names h
    guard : Item → ℕ
    guard i = wrong i + one_at i.anode h

    like : (j : Entered) → guard (item_of s j) ≡ 0 → (j.dir ≡ j.dir) × (j.anode ≡ j.anode) × (j.name ≡ j.name) × (wrong (item_of end j) ≡ 0)
    unfolding guard
    like j z = (
      refl,
      refl,
      refl,
      fine_still w.good good j j refl refl (omega arith) (λ l d q. (let j1 : j.anode ≢ 1 = λ i. omega (arith, i, l) in (
        gone.stays j.anode jh d,
        sized_still s end j (kept-count s end j.anode (gone-chain w.good good h gone j.anode j1 jh d) (λ a k. (gone_alike w.good good h gone j.anode j1 jh d a k).same_count)) q,
      ))),
    )
      where
        jh : j.anode ≢ h
        jh i = omega (arith, z, one_at-same (item_of s j).anode h (item_anode s j ∙ i))

    one : (d : Dir) → DirHead s d → (faults between d ≡ 0) × ((d.head ≢ h) × (named_in between h d ≡ 0)) → AlikeItems between items' d
    unfolding guard
    one d p q = items_alike s end (λ j. j) guard (λ z. omega (arith, z, broken_wrong)) like entries' entries' marked marked' d
        (gone-chain w.good good h gone d.head p.1 q.1.0 p.0) (gone_alike w.good good h gone d.head p.1 q.1.0 p.0)
        (λ a k c. (sym (map-id (entries' (s.block a))), same_marks a c (λ i. p.1 (sym (on_chain_lem w.good d.head p.0 a k).0 ∙ i)) d))
        (list_add wrong (λ i. one_at i.anode h) (between d) ∙ omega (arith, q.0, q.1.1, names-sum h (between d)))

    alikes : Each (AlikeItems between items') rest.dirs'
    alikes = each_both (DirHead s) (λ d. (faults between d ≡ 0) × ((d.head ≢ h) × (named_in between h d ≡ 0))) (AlikeItems between items') rest.dirs'
        one (rest.each (DirHead s) (dir_heads w))
        (each_pair (λ d. faults between d ≡ 0) (λ d. (d.head ≢ h) × (named_in between h d ≡ 0)) rest.dirs' (each_zero (faults between) rest.dirs' rest.tree.faultless)
        (each_pair (λ d. d.head ≢ h) (λ d. named_in between h d ≡ 0) rest.dirs' not_h (each_zero (named_in between h) rest.dirs' unnamed)))

    -- the directories that are left are those that were, but for one with the head h
    pub removed-chain : (dirs' : List Dir) × Whole ex' n last end system' hd' sd' entries' marked' dirs' × ((x : ℕ) → x ≢ h → headed x dirs' ≡ headed x dirs)
    removed-chain = (
      rest.dirs',
      record {
        good = good;
        tree = alike_tree between items' root rest.dirs' alikes rest.tree;
        all_named = λ x l d. let k = gone.was x d in
            omega (
              arith,
              w.all_named x l k.1,
              named_less x,
              one_at_other h x (λ i. k.0 (sym i)),
              rest.names x,
              alike_named between items' rest.dirs' alikes x,
            );
        apart = alike_apart between items' rest.dirs' alikes (λ v. rest.each (λ d. name_count v (between d) ≤ 1) (less_apart between items h₀ (item_of s e) dirs gains w.apart v));
      },
      rest.heads,
    )

  -- as where its blocks were given back
  pub removed : {slots : ℕ → ℕ} {ys gs : List ℕ} {u : Slotted} (goes : ChainGone limit n last (slotted s slots) system hd h ys gs u) (marked' : Dir → ℕ → Bool) → SameMarks s hd marked marked' →
      (dirs' : List Dir) × Whole (exists_by u.slots) n last u.anodes (with_these system gs) goes.hd' goes.sd' entries' marked' dirs' × ((x : ℕ) → x ≢ h → headed x dirs' ≡ headed x dirs)
  removed goes marked' same_marks = removed-chain goes.good goes.gone marked' same_marks
