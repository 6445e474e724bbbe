-- The tree of directories as a list in any order, and that the walk goes through it and finds it.
use Prim.Native.Nat.{ℕ, zero, suc, ◌+◌, ◌*◌, ◌≤◌, ◌<◌}
use Rattle.std.specs.Prelude.{◌≡◌, refl, ◌≢◌, ◌⊎◌, length}
use Rattle.std.proofs.Common.{sym, ap, ◌∙◌}
use Rattle.std.proofs.Math.Logic.{inl, inr}
use mathlib.Core.List.{List, [], ◌∷◌, ◌++◌}
use native.Mathlib.Omega.{arith}
use Rattle.rules.specs.Counting.{one_at, sum_below, sum_list, occurrences, changed}
use Rattle.rules.specs.Walk.{Dir, Item, done, walk}
use Rattle.laws.specs.Tests.{not_above}
use Rattle.laws.specs.Sums.{one_at_cases, one_at-same, one_below, one_below_cases, one_below-none, one_below-suc, changed-same, changed_other, sum_congr, sum_mono, sum_const, sum-add, sum-one_at}
use Rattle.laws.specs.Bags.{list_nil, list_cons, list_append, list_one, list_add, list_mono, list_mono_where, list_congr_where, list_zero, list_length, list_swap, occurrences-nil, sum_by_occurrences}
use Rattle.laws.specs.Items.{names, subs, below, named_in, faults, subs-named, subs_few, headed}
use Rattle.laws.specs.Walks.{named_after, occurrences-named_after, Order, walk-found, walk_through, order_sum}

-- 1 where e is not lower than h
unfoldable pub not_lower : (ℕ → ℕ) → ℕ → Dir → ℕ
not_lower height h e = one_below h (suc (height e.head))

lower_is : (height : ℕ → ℕ) (h : ℕ) (e : Dir) → not_lower height h e ≡ 0 → height e.head < h
unfolding not_lower
lower_is height h e z = elim (one_below_cases h (suc (height e.head))) [ inl c ↦ absurd (omega arith) | inr c ↦ c.0 ]

-- no weight is above the sum
pub small : (f : Dir → ℕ) (l : List Dir) (m : ℕ) → sum_list f l ≤ m → sum_list (λ e. one_below m (f e)) l ≡ 0
small f [] m h = list_nil (λ e. one_below m (f e))
small f (e ∷ l) m h =
    omega (arith, list_cons (λ e. one_below m (f e)) e l, small f l m (omega (arith, list_cons f e l)), at_e)
  where
    at_e : one_below m (f e) ≡ 0
    at_e = elim (one_below_cases m (f e)) [ inl c ↦ absurd (omega (arith, list_cons f e l)) | inr c ↦ c.1 ]

module _ (items : Dir → List Item) where
  abbrev pub lowering : (ℕ → ℕ) → Dir → ℕ
  lowering height d = below items (not_lower height (height d.head)) d

  -- where no two of the directories have one head, the order in which they are taken gives heights
  order_heights : (Q q : List Dir) → Order items q Q → ((x : ℕ) → headed x Q ≤ 1) → (height : ℕ → ℕ) × (sum_list (lowering height) Q ≡ 0)
  unfolding not_lower
  order_heights [] q r h = ((λ x. 0), list_nil (lowering (λ x. 0)))
  order_heights (d ∷ Q) q r h = go (order_heights Q (r.0 ++ subs items d) r.2 (λ x. omega (arith, h x, list_cons (λ d. one_at d.head x) d Q)))
    where
      here : Dir → ℕ
      here e = one_at e.head d.head

      none : sum_list here Q ≡ 0
      none = omega (arith, h d.head, list_cons here d Q, one_at-same d.head d.head refl)

      under_d : sum_list here (subs items d) ≡ 0
      under_d = omega (arith, none, order_sum items Q (r.0 ++ subs items d) r.2 here, list_append here r.0 (subs items d))

      under_Q : sum_list (below items here) Q ≡ 0
      under_Q = omega (arith, none, order_sum items Q (r.0 ++ subs items d) r.2 here)

      go : (height : ℕ → ℕ) × (sum_list (lowering height) Q ≡ 0) → (height : ℕ → ℕ) × (sum_list (lowering height) (d ∷ Q) ≡ 0)
      go (old, z) =
          let S : ℕ = sum_list (λ e. old e.head) (subs items d) in (
            changed old d.head (suc S),
            omega (
              arith,
              list_cons (lowering (changed old d.head (suc S))) d Q,
              list_congr_where here (not_lower (changed old d.head (suc S)) (changed old d.head (suc S) d.head)) (λ e. one_below S (old e.head)) (subs items d) under_d
                  (λ e g. fresh old S e g),
              small (λ e. old e.head) (subs items d) S (omega arith),
              list_congr_where (λ e. here e + below items here e) (lowering (changed old d.head (suc S))) (lowering old) Q
                  (omega (arith, list_add here (below items here) Q, none, under_Q))
                  (λ x g. list_congr_where here (not_lower (changed old d.head (suc S)) (changed old d.head (suc S) x.head)) (not_lower old (old x.head)) (subs items x) (omega arith)
                  (λ e y. kept old (suc S) x e (omega arith) y)),
              z,
            ),
          )
        where
          away : (e : Dir) → here e ≡ 0 → e.head ≢ d.head
          away e g q = omega (arith, g, one_at-same e.head d.head q)

          fresh : (old : ℕ → ℕ) (S : ℕ) (e : Dir) → here e ≡ 0 → not_lower (changed old d.head (suc S)) (changed old d.head (suc S) d.head) e ≡ one_below S (old e.head)
          fresh old S e g = rw (changed-same old d.head (suc S), changed_other old d.head (suc S) e.head (away e g)) (one_below-suc S (old e.head))

          kept : (old : ℕ → ℕ) (m : ℕ) (x e : Dir) → here x ≡ 0 → here e ≡ 0 →
              not_lower (changed old d.head m) (changed old d.head m x.head) e ≡ not_lower old (old x.head) e
          kept old m x e g y = rw (changed_other old d.head m x.head (away x g), changed_other old d.head m e.head (away e y))

  module _ (top : Dir) where
    -- the directories are the top one and what they name, each as often as it is named
    abbrev pub Exact : List Dir → Type 0
    Exact dirs = (w : Dir → ℕ) → sum_list w dirs ≡ w top + sum_list (below items w) dirs

    pub record Tree (dirs : List Dir) : Type 0 where
      pub exact : Exact dirs
      pub faultless : sum_list (faults items) dirs ≡ 0
      pub once : (x : ℕ) → sum_list (named_in items x) dirs ≤ 1
      -- what a directory names is lower than it
      pub height : ℕ → ℕ
      pub lower : sum_list (lowering height) dirs ≡ 0

    -- ---- a tree is walked through

    walk_runs : (dirs : List Dir) → Tree dirs → (k : ℕ) (P q : List Dir) (s : List ℕ) → ((w : Dir → ℕ) → sum_list w P + sum_list w q ≡ w top + sum_list (below items w) P) →
        ((w : Dir → ℕ) → sum_list w P + sum_list w q ≤ sum_list w dirs) → ((x : ℕ) → occurrences x s ≡ sum_list (named_in items x) P) → length dirs ≤ k + length P →
        (Q : List Dir) × (walk items k q s ≡ done Q)
    unfolding walk
    walk_runs dirs t zero P [] s i l c f = ([], refl)
    walk_runs dirs t zero P (d ∷ q) s i l c f =
        absurd (omega (arith, l (λ d. 1), list_length dirs, list_length P, list_length (d ∷ q)))
    walk_runs dirs t (suc k) P [] s i l c f = ([], refl)
    walk_runs dirs t (suc k) P (d ∷ q) s i l c f =
        let rest = walk_runs dirs t k (d ∷ P) (q ++ subs items d) (named_after (items d) s) inv
        (λ w. omega (arith, inv w, list_cons (below items w) d P, l (below items w), list_cons (below items w) d q, t.exact w))
        (λ x. omega (arith, occurrences-named_after x (items d) s, c x, list_cons (named_in items x) d P))
        (omega arith) in (
          d ∷ rest.0,
          walk_through items k d q s rest.0 (omega (arith, l (faults items), list_cons (faults items) d q, t.faultless))
              (λ x. omega (arith, l (named_in items x), list_cons (named_in items x) d q, t.once x, c x)) rest.1,
        )
      where
        inv : (w : Dir → ℕ) → sum_list w (d ∷ P) + sum_list w (q ++ subs items d) ≡ w top + sum_list (below items w) (d ∷ P)
        inv w = omega (arith, i w, list_cons w d P, list_cons w d q, list_append w q (subs items d), list_cons (below items w) d P)

    -- ---- two trees of one top are one bag

    unfoldable level : ℕ → (Dir → ℕ) → Dir → ℕ
    level zero w d = w d
    level (suc k) w d = below items (level k w) d

    -- the levels one after another
    levels : (dirs : List Dir) → Exact dirs → (w : Dir → ℕ) (k : ℕ) →
        sum_list w dirs ≡ sum_below (λ i. level i w top) k + sum_list (level k w) dirs
    unfolding level sum_below
    levels dirs e w zero = omega arith
    levels dirs e w (suc k) = omega (arith, levels dirs e w k, e (level k w))

    -- below a height there is no level so deep
    module _ (dirs : List Dir) (t : Tree dirs) (w : Dir → ℕ) where
      deep : ℕ → Dir → ℕ
      deep k d = one_below (t.height d.head) k * level k w d

      deep_zero : (k : ℕ) → sum_list (deep k) dirs ≡ 0
      unfolding deep level
      deep_zero zero = list_zero (deep 0) dirs (λ d. rw (one_below-none (t.height d.head)) (omega arith))
      deep_zero (suc k) =
          omega (arith, deep_zero k, t.exact (deep k), list_mono_where (lowering t.height) (deep (suc k)) (below items (deep k)) dirs t.lower step)
        where
          step : (d : Dir) → lowering t.height d ≡ 0 → deep (suc k) d ≤ below items (deep k) d
          step d g = elim (one_below_cases (t.height d.head) (suc k)) [
            | inr c ↦ rw c.1 (omega arith)
            | inl c ↦ rw c.1 (omega (arith, list_mono_where (not_lower t.height (t.height d.head)) (level k w) (deep k) (subs items d) g (λ e y. child d e c.0 y)))
          ]
            where
              child : (d e : Dir) → t.height d.head < suc k → not_lower t.height (t.height d.head) e ≡ 0 → level k w e ≤ deep k e
              child d e l y = elim (one_below_cases (t.height e.head) k) [
                | inl c ↦ rw c.1 (omega arith)
                | inr c ↦ absurd (omega (arith, lower_is t.height (t.height d.head) e y))
              ]

      -- so the levels of any other list that is the top one and what it names hold this one
      tree_within : (others : List Dir) → Exact others → sum_list w dirs ≤ sum_list w others
      unfolding deep
      tree_within others e =
          let K : ℕ = sum_list (λ d. t.height d.head) dirs in
          omega (
            arith,
            levels dirs t.exact w (suc K),
            levels others e w (suc K),
            deep_zero (suc K),
            list_mono_where (λ d. one_below K (t.height d.head)) (level (suc K) w) (deep (suc K)) dirs (small (λ d. t.height d.head) dirs K (omega arith)) (at-K K),
          )
        where
          at-K : (K : ℕ) (d : Dir) → one_below K (t.height d.head) ≡ 0 → level (suc K) w d ≤ deep (suc K) d
          at-K K d z = elim (one_below_cases (t.height d.head) (suc K)) [
            | inl c ↦ rw c.1 (omega arith)
            | inr c ↦ elim (one_below_cases K (t.height d.head)) [ inl g ↦ absurd (omega arith) | inr g ↦ absurd (omega arith) ]
          ]

    pub tree_one : (dirs others : List Dir) → Tree dirs → Tree others → (w : Dir → ℕ) → sum_list w dirs ≡ sum_list w others
    tree_one dirs others t u w = omega (arith, tree_within dirs t w others u.exact, tree_within others u w dirs t.exact)

    -- ---- the walk and the tree, where an item with no fault names an anode below A other than the top one's

    module _ (A : ℕ) (top_in : top.head < A) (range : (d : Dir) (x : ℕ) → faults items d ≡ 0 → 0 < named_in items x d → (x ≢ top.head) × (x < A)) where
      -- the top one is named nowhere, and nothing from A up
      top_unnamed : (dirs : List Dir) → sum_list (faults items) dirs ≡ 0 → (x : ℕ) → (x ≡ top.head) ⊎ (A ≤ x) → sum_list (named_in items x) dirs ≡ 0
      top_unnamed dirs z x h = omega (arith, list_mono_where (faults items) (named_in items x) (λ d. 0) dirs z (λ d g. none d g h), list_zero {X = Dir} (λ d. 0) dirs (λ d. refl))
        where
          none : (d : Dir) → faults items d ≡ 0 → (x ≡ top.head) ⊎ (A ≤ x) → named_in items x d ≤ 0
          none d g (inl e) = omega (arith, not_above (named_in items x d) (λ p. (range d x g p).0 e))
          none d g (inr e) = omega (arith, not_above (named_in items x d) (λ p. omega (arith, (range d x g p).1)))

      -- no two directories of the tree have one head
      pub heads_once : (dirs : List Dir) → Exact dirs → sum_list (faults items) dirs ≡ 0 → ((x : ℕ) → sum_list (named_in items x) dirs ≤ 1) →
          (x : ℕ) → headed x dirs ≤ 1
      heads_once dirs e z o x = elim (one_at_cases top.head x) [
        | inl c ↦ omega (arith, e (λ d. one_at d.head x), list_mono (below items (λ d. one_at d.head x)) (named_in items x) dirs (λ d. subs-named items x d), top_unnamed dirs z x (inl (sym c.0)))
        | inr c ↦ omega (arith, e (λ d. one_at d.head x), list_mono (below items (λ d. one_at d.head x)) (named_in items x) dirs (λ d. subs-named items x d), o x)
      ]

      -- the directories of a walk that meets no fault are a tree
      pub walk_tree : (k : ℕ) (Q : List Dir) → walk items k (top ∷ []) [] ≡ done Q → Tree Q
      walk_tree k Q e =
          let f = walk-found items k (top ∷ []) [] Q e in
          let exact : Exact Q = λ w. order_sum items Q (top ∷ []) f.order w ∙ ap (λ (n : ℕ). n + sum_list (below items w) Q) (list_one w top) in
          let once : (x : ℕ) → sum_list (named_in items x) Q ≤ 1 = λ x. omega (arith, f.once x (omega (arith, occurrences-nil x))) in
          let h = order_heights Q (top ∷ []) f.order (heads_once Q exact f.faultless once) in
          record { exact = exact; faultless = f.faultless; once = once; height = h.0; lower = h.1 }

      -- a tree has at most A directories
      tree_short : (dirs : List Dir) → Tree dirs → length dirs ≤ A
      tree_short dirs t =
          omega (
            arith,
            list_length dirs,
            t.exact (λ d. 1),
            list_mono (below items (λ d. 1)) (λ d. sum_list (λ x. 1) (names (items d))) dirs (λ d. subs_few items d),
            list_mono_where (faults items) (λ d. sum_list (λ x. 1) (names (items d))) (λ d. sum_below (λ x. named_in items x d) A) dirs t.faultless per,
            list_swap (λ d x. named_in items x d) dirs A,
            sum-add (λ x. sum_list (named_in items x) dirs) (one_at top.head) A,
            sum-one_at top.head A top_in,
            sum_mono (λ x. sum_list (named_in items x) dirs + one_at top.head x) (λ x. 1) A (λ x l. each x),
            sum_const 1 A,
          )
        where
          per : (d : Dir) → faults items d ≡ 0 → sum_list (λ x. 1) (names (items d)) ≤ sum_below (λ x. named_in items x d) A
          per d g = omega (
            arith,
            sum_by_occurrences (λ x. 1) (names (items d)) A (λ x l. high x l),
            sum_congr (λ x. named_in items x d * 1) (λ x. named_in items x d) A (λ x l. omega arith),
          )
            where
              high : (x : ℕ) → A ≤ x → named_in items x d ≡ 0
              high x l = not_above (named_in items x d) (λ p. omega (arith, (range d x g p).1))

          each : (x : ℕ) → sum_list (named_in items x) dirs + one_at top.head x ≤ 1
          each x = elim (one_at_cases top.head x) [
            | inl c ↦ omega (arith, top_unnamed dirs t.faultless x (inl (sym c.0)))
            | inr c ↦ omega (arith, t.once x)
          ]

      -- and a tree is walked through without a fault, with fuel A
      pub tree_walk : (dirs : List Dir) → Tree dirs → (Q : List Dir) × (walk items A (top ∷ []) [] ≡ done Q)
      tree_walk dirs t = walk_runs dirs t A [] (top ∷ []) []
          (λ w. omega (arith, list_nil w, list_one w top, list_nil (below items w)))
          (λ w. omega (arith, list_nil w, list_one w top, t.exact w))
          (λ x. omega (arith, occurrences-nil x, list_nil (named_in items x)))
          (omega (arith, tree_short dirs t))
