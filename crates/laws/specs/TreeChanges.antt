-- The tree when a directory gains or loses an item, or its items change their faults alone.
use Rattle.std.specs.Prelude.{ℕ, suc, ◌+◌, ◌*◌, ◌≤◌, ◌<◌, ◌≡◌, refl, ◌≢◌, Bool, true, false, cond, List, [], ◌∷◌, ◌++◌}
use Rattle.std.proofs.Common.{sym, ap, ◌∙◌, inl, inr, arith}
use Rattle.rules.specs.Counting.{one_at, sum_list, occurrences, changed}
use Rattle.rules.specs.Walk.{Dir, dir_made, Item}
use Rattle.laws.specs.Sums.{one_at_cases, one_at-same, one_at_some, one_at_other, one_below, one_below-none, one_below-suc, changed-same, changed_other}
use Rattle.laws.specs.Bags.{list_nil, list_cons, list_without, list_some, list_add, list_gain, list_mono, list_congr_where, list_zero}
use Rattle.laws.specs.Each.{Each, Member, each_map, each_both, each_pair, member_each, list_congr_each, list_mono_each, each_zero}
use Rattle.laws.specs.Items.{wrong, weigh_item, weigh_named, names, names-sum, giving, subs, below, named_in, faults, below-items, subs-named, headed}
use Rattle.laws.specs.Trees.{not_lower, lowering, Tree}
use Rattle.laws.specs.Apart.{one_same, one_same_cases, name_count, Apart, SameNames, apart_same}

not_lower_is : (height : ℕ → ℕ) (m : ℕ) (e : Dir) → not_lower height m e ≡ one_below m (suc (height e.head))
unfolding not_lower
not_lower_is height m e = refl

-- an item of a file gives no directory, one of a directory gives that
giving-file : (w : Dir → ℕ) (h : ℕ) (i : Item) → i.dir ≡ false → giving w h i ≡ 0
giving-file w h i file = rw file

giving_dir : (w : Dir → ℕ) (h : ℕ) (i : Item) → i.dir ≡ true → giving w h i ≡ w (dir_made i.anode h)
giving_dir w h i isdir = rw isdir

-- a directory with no item has nothing below it
nothing_below : (items : Dir → List Item) (w : Dir → ℕ) (d : Dir) → items d ≡ [] → below items w d ≡ 0
nothing_below items w d empty = below-items items w d ∙ ap (sum_list (giving w d.head)) empty ∙ list_nil (giving w d.head)

-- one of the directories that have the head h is a member
pub headed-member : (h : ℕ) (l : List Dir) → 0 < headed h l → (d : Dir) × Member d l × (d.head ≡ h)
headed-member h l p = let (d, m, q) = list_some (λ d. one_at d.head h) l p in (d, m, one_at_some d.head h q)

pub none-headed : (h : ℕ) (l : List Dir) → headed h l ≡ 0 → Each (λ d. d.head ≢ h) l
none-headed h l z = each_map (λ d. one_at d.head h ≡ 0) (λ d. d.head ≢ h) l (λ d y e. omega (arith, y, one_at-same d.head h e)) (each_zero (λ d. one_at d.head h) l z)

-- what nothing names is no directory of the tree, but for the top one
pub tree_unnamed : (items : Dir → List Item) (top : Dir) (dirs : List Dir) → Tree items top dirs → (h : ℕ) → top.head ≢ h → sum_list (named_in items h) dirs ≡ 0 → Each (λ d. d.head ≢ h) dirs
tree_unnamed items top dirs t h other z = none-headed h dirs (omega (
  arith,
  t.exact (λ d. one_at d.head h),
  one_at_other top.head h other,
  list_mono (below items (λ d. one_at d.head h)) (named_in items h) dirs (subs-named items h),
  z,
))

-- under items' the directory d has what it had, places aside, and i too if its head is h
abbrev pub Gain : (Dir → List Item) → (Dir → List Item) → ℕ → Item → Dir → Type 0
Gain items items' h i d = (w : ℕ → Bool → ℕ → List ℕ → ℕ) → sum_list (weigh_item w) (items' d) ≡ sum_list (weigh_item w) (items d) + one_at d.head h * weigh_item w i

module _ (items items' : Dir → List Item) (h : ℕ) (i : Item) where
  gain_below : (w : Dir → ℕ) (d : Dir) → Gain items items' h i d → below items' w d ≡ below items w d + one_at d.head h * giving w h i
  gain_below w d g =
      below-items items' w d ∙ g (λ f b a v. cond b (w (dir_made a d.head)) 0) ∙ omega (arith, below-items items w d, at_h)
    where
      at_h : one_at d.head h * giving w d.head i ≡ one_at d.head h * giving w h i
      at_h = elim (one_at_cases d.head h) [
        | inl e ↦ ap (λ (k : ℕ). one_at d.head h * giving w k i) e.0
        | inr e ↦ rw e.1 (omega arith)
      ]

  gain_named : (x : ℕ) (d : Dir) → Gain items items' h i d → named_in items' x d ≡ named_in items x d + one_at d.head h * one_at i.anode x
  gain_named x d g = omega (arith, names-sum x (items' d), names-sum x (items d), g (λ f b a v. one_at a x))

  -- a name stands as often as before, and once more where the item is
  gain_names : (v : List ℕ) (d : Dir) → Gain items items' h i d → name_count v (items' d) ≡ name_count v (items d) + one_at d.head h * one_same i.name v
  gain_names v d g = g (λ f b a u. one_same u v)

  -- where the directory that gains the item had no such name, names stay apart
  pub more_apart : (dirs : List Dir) → Each (Gain items items' h i) dirs → Each (λ d. d.head ≡ h → name_count i.name (items d) ≡ 0) dirs → Apart items dirs → Apart items' dirs
  more_apart dirs gains unused a v = each_both (λ d. Gain items items' h i d × (d.head ≡ h → name_count i.name (items d) ≡ 0)) (λ d. name_count v (items d) ≤ 1) (λ d. name_count v (items' d) ≤ 1) dirs one
      (each_pair (Gain items items' h i) (λ d. d.head ≡ h → name_count i.name (items d) ≡ 0) dirs gains unused) (a v)
    where
      one : (d : Dir) → Gain items items' h i d × (d.head ≡ h → name_count i.name (items d) ≡ 0) → name_count v (items d) ≤ 1 → name_count v (items' d) ≤ 1
      one d (g, none) l = elim (one_at_cases d.head h) [
        | inr c ↦ omega (arith, l, gain_names v d g, ap (λ (k : ℕ). k * one_same i.name v) c.1)
        | inl c ↦ elim (one_same_cases i.name v) [
          | inl q ↦ omega (arith, gain_names v d g, ap (λ (k : ℕ). k * one_same i.name v) c.1, q.1, none c.0, ap (λ (u : List ℕ). name_count u (items d)) q.0)
          | inr q ↦ omega (arith, l, gain_names v d g, ap (λ (k : ℕ). k * one_same i.name v) c.1, q.1)
        ]
      ]

  -- and so they are where the item is left out
  pub less_apart : (dirs : List Dir) → Each (Gain items items' h i) dirs → Apart items' dirs → Apart items dirs
  less_apart dirs gains a v = each_both (Gain items items' h i) (λ d. name_count v (items' d) ≤ 1) (λ d. name_count v (items d) ≤ 1) dirs (λ d g l. omega (arith, l, gain_names v d g)) gains (a v)

  module _ (dirs : List Dir) (once : headed h dirs ≡ 1) (gains : Each (Gain items items' h i) dirs) where
    -- a weight that the item adds in the directory with the head h
    sum_gain : (w u : Dir → ℕ) (c : ℕ) → ((d : Dir) → Gain items items' h i d → u d ≡ w d + one_at d.head h * c) → sum_list u dirs ≡ sum_list w dirs + c
    sum_gain w u c at = omega (
      arith,
      list_gain w u (λ d. one_at d.head h) c dirs (each_map (Gain items items' h i) (λ d. u d ≡ w d + one_at d.head h * c) dirs at gains),
      ap (λ (n : ℕ). n * c) once,
    )

    sum_below : (w : Dir → ℕ) → sum_list (below items' w) dirs ≡ sum_list (below items w) dirs + giving w h i
    sum_below w = sum_gain (below items w) (below items' w) (giving w h i) (gain_below w)

    pub sum-named : (x : ℕ) → sum_list (named_in items' x) dirs ≡ sum_list (named_in items x) dirs + one_at i.anode x
    sum-named x = sum_gain (named_in items x) (named_in items' x) (one_at i.anode x) (gain_named x)

    sum-faults : sum_list (faults items') dirs ≡ sum_list (faults items) dirs + wrong i
    sum-faults = sum_gain (faults items) (faults items') (wrong i) (λ d g. g (λ f b a v. f))

    module _ (top : Dir) where
      once_named : Tree items top dirs → sum_list (named_in items i.anode) dirs ≡ 0 → (x : ℕ) → sum_list (named_in items' x) dirs ≤ 1
      once_named t free x = elim (one_at_cases i.anode x) [
        | inl c ↦ omega (arith, sum-named x, free, ap (λ (y : ℕ). sum_list (named_in items y) dirs) c.0)
        | inr c ↦ omega (arith, sum-named x, t.once x)
      ]

      -- a directory gains a file
      pub add-file : Tree items top dirs → i.dir ≡ false → wrong i ≡ 0 → sum_list (named_in items i.anode) dirs ≡ 0 → Tree items' top dirs
      add-file t file fine free = record {
        exact = λ w. omega (arith, t.exact w, sum_below w, giving-file w h i file);
        faultless = omega (arith, sum-faults, t.faultless);
        once = once_named t free;
        height = t.height;
        lower = list_congr_each (lowering items' t.height) (lowering items t.height) dirs
            (each_map (Gain items items' h i) (λ d. lowering items' t.height d ≡ lowering items t.height d) dirs
            (λ d g. gain_below (not_lower t.height (t.height d.head)) d g ∙ rw (giving-file (not_lower t.height (t.height d.head)) h i file) (omega arith)) gains)
            ∙ t.lower;
      }

      -- a directory gains a directory with nothing in it
      pub add_dir : Tree items top dirs → i.dir ≡ true → wrong i ≡ 0 → sum_list (named_in items i.anode) dirs ≡ 0 → i.anode ≢ top.head →
          items' (dir_made i.anode h) ≡ [] → Tree items' top (dir_made i.anode h ∷ dirs)
      add_dir t isdir fine free other empty = record {
        exact = λ w. omega (arith, t.exact w, sum_below w, giving_dir w h i isdir, list_cons w e dirs, list_cons (below items' w) e dirs, nothing_below items' w e empty);
        faultless = omega (arith, sum-faults, t.faultless, list_cons (faults items') e dirs, ap (sum_list wrong) empty, list_nil wrong);
        once = λ x. omega (arith, once_named t free x, list_cons (named_in items' x) e dirs, ap (λ (l : List Item). occurrences x (names l)) empty, names-sum x [], list_nil {X = Item} (λ j. one_at j.anode x));
        height = ht;
        lower = omega (
          arith,
          list_cons (lowering items' ht) e dirs,
          nothing_below items' (not_lower ht (ht e.head)) e empty,
          list_congr_each (lowering items' ht) (lowering items t.height) dirs
              (each_both (λ d. here d + below items here d ≡ 0) (Gain items items' h i) (λ d. lowering items' ht d ≡ lowering items t.height d) dirs low (each_zero (λ d. here d + below items here d) dirs guards) gains),
          t.lower,
        );
      }
        where
          e : Dir
          e = dir_made i.anode h

          ht : ℕ → ℕ
          ht = changed (λ x. suc (t.height x)) i.anode 0

          here : Dir → ℕ
          here d = one_at d.head i.anode

          -- the new directory's head is no directory's of the tree
          below_none : sum_list (below items here) dirs ≡ 0
          below_none = omega (arith, list_mono (below items here) (named_in items i.anode) dirs (λ d. subs-named items i.anode d), free)

          guards : sum_list (λ d. here d + below items here d) dirs ≡ 0
          guards = omega (arith, list_add here (below items here) dirs, t.exact here, below_none, one_at_other top.head i.anode (λ q. other (sym q)))

          away : (d : Dir) → here d ≡ 0 → d.head ≢ i.anode
          away d g q = omega (arith, g, one_at-same d.head i.anode q)

          ht_other : (d : Dir) → here d ≡ 0 → ht d.head ≡ suc (t.height d.head)
          ht_other d g = changed_other (λ x. suc (t.height x)) i.anode 0 d.head (away d g)

          low : (d : Dir) → here d + below items here d ≡ 0 → Gain items items' h i d → lowering items' ht d ≡ lowering items t.height d
          low d z g =
              gain_below (not_lower ht (ht d.head)) d g
              ∙ omega (arith, product, list_congr_where here (not_lower ht (ht d.head)) (not_lower t.height (t.height d.head)) (subs items d) (omega arith) shifted)
            where
              product : one_at d.head h * giving (not_lower ht (ht d.head)) h i ≡ 0
              product = rw (
                giving_dir (not_lower ht (ht d.head)) h i isdir,
                not_lower_is ht (ht d.head) e,
                ht_other d (omega arith),
                changed-same (λ x. suc (t.height x)) i.anode 0,
                one_below-suc (t.height d.head) 0,
                one_below-none (t.height d.head),
              ) (omega arith)

              shifted : (c : Dir) → here c ≡ 0 → not_lower ht (ht d.head) c ≡ not_lower t.height (t.height d.head) c
              shifted c y = rw (not_lower_is ht (ht d.head) c, not_lower_is t.height (t.height d.head) c, ht_other d (omega arith), ht_other c y)
                  (one_below-suc (t.height d.head) (suc (t.height c.head)))

-- ---- a directory loses an item: under items it has what it has under items', and i too

-- a directory by its head and its parent
find_dir : (x p : ℕ) (l : List Dir) → 0 < sum_list (λ d. one_at d.head x * one_at d.parent p) l → Member (dir_made x p) l
find_dir x p l h =
    let (d, (l₁, l₂, parted), q) = list_some (λ d. one_at d.head x * one_at d.parent p) l h in
    let is = both d q in
    (l₁, l₂, parted ∙ ap (λ (e : Dir). l₁ ++ (e ∷ l₂)) (λ j. record { head = is.0 j; parent = is.1 j }))
  where
    both : (d : Dir) → 0 < one_at d.head x * one_at d.parent p → (d.head ≡ x) × (d.parent ≡ p)
    both d q = elim (one_at_cases d.head x) [
      | inl a ↦ (a.0, one_at_some d.parent p (omega (arith, rw a.1 at q)))
      | inr a ↦ absurd (omega (arith, rw a.1 at q))
    ]

module _ (items items' : Dir → List Item) (h : ℕ) (i : Item) (top : Dir) where
  -- what the item names is in the tree
  pub dir_there : (dirs : List Dir) → headed h dirs ≡ 1 → Each (Gain items' items h i) dirs → Tree items top dirs → i.dir ≡ true → Member (dir_made i.anode h) dirs
  dir_there dirs one gains t isdir =
      find_dir i.anode h dirs (omega (arith, t.exact w, sum_below items' items h i dirs one gains w, given))
    where
      w : Dir → ℕ
      w d = one_at d.head i.anode * one_at d.parent h

      given : giving w h i ≡ 1
      given = rw (isdir, one_at-same i.anode i.anode refl, one_at-same h h refl) (omega arith)

  -- under items' nothing has more below it
  less_below : (w : Dir → ℕ) (d : Dir) → Gain items' items h i d → below items' w d ≤ below items w d
  less_below w d g = omega (arith, gain_below items' items h i w d g)

  -- and so no more directories are named that are not lower
  less_lowering : (height : ℕ → ℕ) (dirs : List Dir) → Each (Gain items' items h i) dirs → sum_list (lowering items' height) dirs ≤ sum_list (lowering items height) dirs
  less_lowering height dirs gains = list_mono_each (lowering items' height) (lowering items height) dirs
      (each_map (Gain items' items h i) (λ d. lowering items' height d ≤ lowering items height d) dirs (λ d g. less_below (not_lower height (height d.head)) d g) gains)

  pub remove_file : (dirs : List Dir) → headed h dirs ≡ 1 → Each (Gain items' items h i) dirs → Tree items top dirs → i.dir ≡ false → Tree items' top dirs
  remove_file dirs one gains t file = record {
    exact = λ w. omega (arith, t.exact w, sum_below items' items h i dirs one gains w, giving-file w h i file);
    faultless = omega (arith, t.faultless, sum-faults items' items h i dirs one gains);
    once = λ x. omega (arith, t.once x, sum-named items' items h i dirs one gains x);
    height = t.height;
    lower = omega (arith, t.lower, less_lowering t.height dirs gains);
  }

  -- a directory with nothing in it goes, with the item that names it
  pub remove_dir : (l₁ l₂ : List Dir) → headed h (l₁ ++ (dir_made i.anode h ∷ l₂)) ≡ 1 →
      Each (Gain items' items h i) (l₁ ++ (dir_made i.anode h ∷ l₂)) → Tree items top (l₁ ++ (dir_made i.anode h ∷ l₂)) →
      i.dir ≡ true → items (dir_made i.anode h) ≡ [] → Tree items' top (l₁ ++ l₂)
  remove_dir l₁ l₂ one gains t isdir empty = record {
    exact = λ w. omega (arith, t.exact w, sum_below items' items h i dirs one gains w, giving_dir w h i isdir, split w, split (below items' w), below_e w);
    faultless = omega (arith, t.faultless, sum-faults items' items h i dirs one gains, split (faults items'));
    once = λ x. omega (arith, t.once x, sum-named items' items h i dirs one gains x, split (named_in items' x));
    height = t.height;
    lower = omega (arith, t.lower, split (lowering items' t.height), less_lowering t.height dirs gains);
  }
    where
      e : Dir
      e = dir_made i.anode h

      dirs : List Dir
      dirs = l₁ ++ (e ∷ l₂)

      split : (w : Dir → ℕ) → sum_list w dirs ≡ sum_list w (l₁ ++ l₂) + w e
      split w = list_without w l₁ e l₂

      below_e : (w : Dir → ℕ) → below items' w e ≡ 0
      below_e w = omega (arith, less_below w e (member_each (Gain items' items h i) e dirs (l₁, l₂, refl) gains), nothing_below items w e empty)

-- ---- the items stay, but for the numbers of their faults: a size changes

abbrev pub AlikeItems : (Dir → List Item) → (Dir → List Item) → Dir → Type 0
AlikeItems items items' d = ((w : Bool → ℕ → List ℕ → ℕ) → sum_list (weigh_named w) (items' d) ≡ sum_list (weigh_named w) (items d)) × (faults items' d ≡ 0)

-- each anode is named as often
pub alike_named : (items items' : Dir → List Item) (dirs : List Dir) → Each (AlikeItems items items') dirs → (x : ℕ) → sum_list (named_in items' x) dirs ≡ sum_list (named_in items x) dirs
alike_named items items' dirs each x = list_congr_each (named_in items' x) (named_in items x) dirs
    (each_map (AlikeItems items items') (λ d. named_in items' x d ≡ named_in items x d) dirs (λ d g. names-sum x (items' d) ∙ g.0 (λ b a v. one_at a x) ∙ sym (names-sum x (items d))) each)

-- and each name stands as often in its directory
pub alike_names : (items items' : Dir → List Item) (dirs : List Dir) → Each (AlikeItems items items') dirs → SameNames items items' dirs
alike_names items items' dirs each v = each_map (AlikeItems items items') (λ d. name_count v (items' d) ≡ name_count v (items d)) dirs (λ d g. g.0 (λ b a u. one_same u v)) each

-- and so names that were apart still are
pub alike_apart : (items items' : Dir → List Item) (dirs : List Dir) → Each (AlikeItems items items') dirs → Apart items dirs → Apart items' dirs
alike_apart items items' dirs each = apart_same items items' dirs (alike_names items items' dirs each)

pub alike_tree : (items items' : Dir → List Item) (top : Dir) (dirs : List Dir) → Each (AlikeItems items items') dirs → Tree items top dirs → Tree items' top dirs
alike_tree items items' top dirs each t = record {
  exact = λ w. omega (arith, t.exact w, list_congr_each (below items' w) (below items w) dirs (to (λ d. below items' w d ≡ below items w d) (λ d g. at w d g)));
  faultless = list_congr_each (faults items') (λ d. 0) dirs (to (λ d. faults items' d ≡ 0) (λ d g. g.1)) ∙ list_zero {X = Dir} (λ d. 0) dirs (λ d. refl);
  once = λ x. omega (arith, t.once x, alike_named items items' dirs each x);
  height = t.height;
  lower = list_congr_each (lowering items' t.height) (lowering items t.height) dirs
      (to (λ d. lowering items' t.height d ≡ lowering items t.height d) (λ d g. at (not_lower t.height (t.height d.head)) d g)) ∙ t.lower;
}
  where
    to : (Q : Dir → Type 0) → ((d : Dir) → AlikeItems items items' d → Q d) → Each Q dirs
    to Q f = each_map (AlikeItems items items') Q dirs f each

    at : (w : Dir → ℕ) (d : Dir) → AlikeItems items items' d → below items' w d ≡ below items w d
    at w d g = below-items items' w d ∙ g.0 (λ b a v. cond b (w (dir_made a d.head)) 0) ∙ sym (below-items items w d)
