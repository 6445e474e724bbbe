-- Sums over a list, how often a number stands in one, and the lists that its elements give.
use Rattle.std.specs.Prelude.{ℕ, ◌+◌, ◌*◌, ◌≤◌, ◌<◌, ◌≡◌, ◌≢◌, ◌⊎◌, length}
use Rattle.std.proofs.Math.Path.{refl, sym, ap}
use Rattle.std.proofs.Common.{◌∙◌, inl, inr}
use mathlib.Core.List.{List, [], ◌∷◌, ◌++◌, map, append-nil, append_assoc}
use native.Mathlib.Omega.{arith}
use Rattle.rules.specs.Counting.{one_at, sum_below, sum_list, occurrences, gather, last_of}
use Rattle.laws.specs.Tests.{less?}
use Rattle.laws.specs.Each.{Each, Member, each_all, each_map, each_zero, list_congr_each, list_mono_each, gather_congr_each}
use Rattle.laws.specs.Sums.{one_at_cases, one_at-same, sum_congr, sum_mono, sum_const, sum-zero, sum-add, sum_pick}

module _ {ℓ} {X : Type ℓ} where
  pub list_nil : (w : X → ℕ) → sum_list w [] ≡ 0
  unfolding sum_list
  list_nil w = refl

  pub list_cons : (w : X → ℕ) (x : X) (l : List X) → sum_list w (x ∷ l) ≡ w x + sum_list w l
  unfolding sum_list
  list_cons w x l = refl

  pub list_append : (w : X → ℕ) (l m : List X) → sum_list w (l ++ m) ≡ sum_list w l + sum_list w m
  unfolding sum_list
  list_append w [] m = omega arith
  list_append w (x ∷ l) m = omega (arith, list_append w l m)

  -- a list with x in it, and without it
  pub list_without : (w : X → ℕ) (l : List X) (x : X) (m : List X) → sum_list w (l ++ (x ∷ m)) ≡ sum_list w (l ++ m) + w x
  list_without w l x m = omega (arith, list_append w l (x ∷ m), list_append w l m, list_cons w x m)

  pub list_one : (w : X → ℕ) (x : X) → sum_list w (x ∷ []) ≡ w x
  unfolding sum_list
  list_one w x = omega arith

  -- a sum above 0 has a member whose weight is above 0
  pub list_some : (w : X → ℕ) (l : List X) → 0 < sum_list w l → (x : X) × Member x l × (0 < w x)
  list_some w [] p = absurd (omega (arith, p, list_nil w))
  list_some w (x ∷ l) p = elim (less? 0 (w x)) [
    | inl q ↦ (x, ([], l, refl), q)
    | inr q ↦ (let (y, (before, after, e), r) = list_some w l (omega (arith, p, list_cons w x l)) in (y, (x ∷ before, after, ap (λ (m : List X). x ∷ m) e), r))
  ]

  pub list_add : (w u : X → ℕ) (l : List X) → sum_list (λ x. w x + u x) l ≡ sum_list w l + sum_list u l
  unfolding sum_list
  list_add w u [] = refl
  list_add w u (x ∷ l) = omega (arith, list_add w u l)

  pub list_mono : (w u : X → ℕ) (l : List X) → ((x : X) → w x ≤ u x) → sum_list w l ≤ sum_list u l
  list_mono w u l h = list_mono_each w u l (each_all (λ x. w x ≤ u x) h l)

  pub list_congr : (w u : X → ℕ) (l : List X) → ((x : X) → w x ≡ u x) → sum_list w l ≡ sum_list u l
  list_congr w u l h = list_congr_each w u l (each_all (λ x. w x ≡ u x) h l)

  -- where a guard has no weight on the list, what holds where the guard is 0 may be used
  pub list_mono_where : (g w u : X → ℕ) (l : List X) → sum_list g l ≡ 0 → ((x : X) → g x ≡ 0 → w x ≤ u x) → sum_list w l ≤ sum_list u l
  list_mono_where g w u l z h = list_mono_each w u l (each_map (λ x. g x ≡ 0) (λ x. w x ≤ u x) l h (each_zero g l z))

  pub list_congr_where : (g w u : X → ℕ) (l : List X) → sum_list g l ≡ 0 → ((x : X) → g x ≡ 0 → w x ≡ u x) → sum_list w l ≡ sum_list u l
  list_congr_where g w u l z h = list_congr_each w u l (each_map (λ x. g x ≡ 0) (λ x. w x ≡ u x) l h (each_zero g l z))

  pub list_zero : (w : X → ℕ) (l : List X) → ((x : X) → w x ≡ 0) → sum_list w l ≡ 0
  unfolding sum_list
  list_zero w [] h = refl
  list_zero w (x ∷ l) h = omega (arith, list_zero w l h, h x)

  pub list_scale : (w : X → ℕ) (c : ℕ) (l : List X) → sum_list (λ x. w x * c) l ≡ sum_list w l * c
  unfolding sum_list
  list_scale w c [] = omega arith
  list_scale w c (x ∷ l) = omega (arith, list_scale w c l)

  -- a weight that is another and c for each unit of a third
  pub list_gain : (w u g : X → ℕ) (c : ℕ) (l : List X) → Each (λ x. u x ≡ w x + g x * c) l → sum_list u l ≡ sum_list w l + sum_list g l * c
  list_gain w u g c l e = list_congr_each u (λ x. w x + g x * c) l e ∙ omega (arith, list_add w (λ x. g x * c) l, list_scale g c l)

  pub list_length : (l : List X) → sum_list (λ x. 1) l ≡ length l
  unfolding sum_list
  list_length [] = refl
  list_length (x ∷ l) = omega (arith, list_length l)

  pub list_swap : (f : X → ℕ → ℕ) (l : List X) (k : ℕ) → sum_list (λ x. sum_below (f x) k) l ≡ sum_below (λ i. sum_list (λ x. f x i) l) k
  unfolding sum_list
  list_swap f [] k = sym (sum-zero (λ i. 0) k (λ i l. refl))
  list_swap f (x ∷ l) k = omega (arith, list_swap f l k, sum-add (f x) (λ i. sum_list (λ y. f y i) l) k)

module _ {ℓ κ} {X : Type ℓ} {Y : Type κ} where
  pub gather-sum : (f : X → List Y) (w : Y → ℕ) (l : List X) → sum_list w (gather f l) ≡ sum_list (λ x. sum_list w (f x)) l
  unfolding sum_list gather
  gather-sum f w [] = refl
  gather-sum f w (x ∷ l) = omega (arith, list_append w (f x) (gather f l), gather-sum f w l)

  pub gather_append : (f : X → List Y) (l m : List X) → gather f (l ++ m) ≡ gather f l ++ gather f m
  unfolding gather
  gather_append f [] m = refl
  gather_append f (x ∷ l) m = ap (λ (k : List Y). f x ++ k) (gather_append f l m) ∙ sym (append_assoc (f x) (gather f l) (gather f m))

  -- an element that gives nothing
  pub gather_skip : (f : X → List Y) (pre post : List X) (x : X) → f x ≡ [] → gather f (pre ++ (x ∷ post)) ≡ gather f (pre ++ post)
  unfolding gather
  gather_skip f pre post x e = gather_append f pre (x ∷ post) ∙ ap (λ (l : List Y). gather f pre ++ (l ++ gather f post)) e ∙ sym (gather_append f pre post)

  pub map-sum : (f : X → Y) (w : Y → ℕ) (l : List X) → sum_list w (map f l) ≡ sum_list (λ x. w (f x)) l
  unfolding sum_list
  map-sum f w [] = refl
  map-sum f w (x ∷ l) = omega (arith, map-sum f w l)

-- ---- lists of numbers: how often a number stands in one

pub occurrences-nil : (x : ℕ) → occurrences x [] ≡ 0
unfolding occurrences
occurrences-nil x = list_nil (λ y. one_at y x)

pub occurrences-cons : (x y : ℕ) (l : List ℕ) → occurrences x (y ∷ l) ≡ one_at y x + occurrences x l
unfolding occurrences
occurrences-cons x y l = list_cons (λ z. one_at z x) y l

pub occurrences-append : (x : ℕ) (l m : List ℕ) → occurrences x (l ++ m) ≡ occurrences x l + occurrences x m
unfolding occurrences
occurrences-append x l m = list_append (λ z. one_at z x) l m

-- the first number of a list stands in it, and so does each of the rest
pub occurrences-here : (x : ℕ) (l : List ℕ) → 0 < occurrences x (x ∷ l)
occurrences-here x l = omega (arith, occurrences-cons x x l, one_at-same x x refl)

pub occurrences-later : (x y : ℕ) (l : List ℕ) → 0 < occurrences x l → 0 < occurrences x (y ∷ l)
occurrences-later x y l p = omega (arith, p, occurrences-cons x y l)

-- the number of a list of one
pub first_in : (y : ℕ) (l : List ℕ) → l ≡ y ∷ [] → 0 < occurrences y l
first_in y l e = rw e (occurrences-here y [])

-- what holds of each number that stands in a list
pub each_in : (P : ℕ → Type 0) (l : List ℕ) → ((x : ℕ) → 0 < occurrences x l → P x) → Each P l
each_in P [] h = tt
each_in P (x ∷ l) h = (h x (occurrences-here x l), each_in P l (λ y p. h y (occurrences-later y x l p)))

pub each_at : (P : ℕ → Type 0) (l : List ℕ) → Each P l → (a : ℕ) → 0 < occurrences a l → P a
each_at P [] e a p = absurd (omega (arith, p, occurrences-nil a))
each_at P (x ∷ l) e a p = elim (one_at_cases x a) [
  | inl c ↦ rw (← c.0) e.0
  | inr c ↦ each_at P l e.1 a (omega (arith, p, c.1, occurrences-cons a x l))
]

-- a weight that is none on a list is none at a member
pub none-at : (g : ℕ → ℕ) (l : List ℕ) → sum_list g l ≡ 0 → (a : ℕ) → 0 < occurrences a l → g a ≡ 0
none-at g l z = each_at (λ a. g a ≡ 0) l (each_zero g l z)

-- two weights that agree at the numbers of a list, at least where a guard that has no weight on the list is 0
pub kept-sum_where : (g f f' : ℕ → ℕ) (l : List ℕ) → sum_list g l ≡ 0 → ((a : ℕ) → 0 < occurrences a l → g a ≡ 0 → f' a ≡ f a) → sum_list f' l ≡ sum_list f l
kept-sum_where g f f' l z e = list_congr_each f' f l (each_in (λ a. f' a ≡ f a) l (λ a p. e a p (none-at g l z a p)))

pub kept-sum : (f f' : ℕ → ℕ) (l : List ℕ) → ((a : ℕ) → 0 < occurrences a l → f' a ≡ f a) → sum_list f' l ≡ sum_list f l
kept-sum f f' l e = list_congr_each f' f l (each_in (λ a. f' a ≡ f a) l e)

-- two functions that agree on the numbers of a list
pub gather-kept : {Y : Type 0} (f f' : ℕ → List Y) (l : List ℕ) → ((a : ℕ) → 0 < occurrences a l → f' a ≡ f a) → gather f' l ≡ gather f l
gather-kept f f' l h = gather_congr_each f' f l (each_in (λ a. f' a ≡ f a) l h)

-- but at x, which does not stand in it
pub gather_off : {Y : Type 0} (f f' : ℕ → List Y) (x : ℕ) → ((a : ℕ) → a ≢ x → f' a ≡ f a) → (l : List ℕ) → occurrences x l ≡ 0 → gather f' l ≡ gather f l
gather_off f f' x same l z = gather-kept f f' l (λ a p. same a (λ i. omega (arith, z, p, ap (λ (b : ℕ). occurrences b l) i)))

pub gather_none {ℓ} : {Y : Type ℓ} (f : ℕ → List Y) (l : List ℕ) → ((a : ℕ) → 0 < occurrences a l → f a ≡ []) → gather f l ≡ []
unfolding gather
gather_none f [] h = refl
gather_none f (x ∷ l) h = rw (h x (occurrences-here x l), gather_none f l (λ a p. h a (occurrences-later a x l p)))

-- where the last number that gives anything gives y behind what it gives otherwise, so does the list
pub gather-last : (f f' : ℕ → List ℕ) (pre post : List ℕ) (x : ℕ) (zs : List ℕ) → ((a : ℕ) → a ≢ x → f' a ≡ f a) → occurrences x pre ≡ 0 → occurrences x post ≡ 0 → gather f post ≡ [] → f x ≡ f' x ++ zs →
    gather f (pre ++ (x ∷ post)) ≡ gather f' (pre ++ (x ∷ post)) ++ zs
unfolding gather
gather-last f f' pre post x zs same i j none lost =
    let was : gather f (pre ++ (x ∷ post)) ≡ gather f pre ++ (f' x ++ zs) = gather_append f pre (x ∷ post) ∙ rw (none, append-nil (f x), lost) in
    let now : gather f' (pre ++ (x ∷ post)) ≡ gather f pre ++ f' x = gather_append f' pre (x ∷ post) ∙ rw (gather_off f f' x same pre i, gather_off f f' x same post j, none, append-nil (f' x)) in
    was ∙ sym (append_assoc (gather f pre) (f' x) zs) ∙ ap (λ (l : List ℕ). l ++ zs) (sym now)

-- a number that stands in a list is a member of it
pub occurrences-member : (x : ℕ) (l : List ℕ) → 0 < occurrences x l → Member x l
unfolding occurrences
occurrences-member x l p =
    let (y, (before, after, parted), q) = list_some (λ y. one_at y x) l p in
    elim (one_at_cases y x) [ inl c ↦ (before, after, rw c.0 at parted) | inr c ↦ absurd (omega (arith, q, c.1)) ]

-- a weight's sum over a list of numbers below k, by how often each number stands there
pub sum_by_occurrences : (w : ℕ → ℕ) (l : List ℕ) (k : ℕ) → ((x : ℕ) → k ≤ x → occurrences x l ≡ 0) → sum_list w l ≡ sum_below (λ x. occurrences x l * w x) k
unfolding sum_list
sum_by_occurrences w [] k h = sym (sum-zero (λ x. occurrences x [] * w x) k (λ i l. rw occurrences-nil (omega arith)))
sum_by_occurrences w (y ∷ l) k h = elim (less? y k) [
  | inl b ↦ omega (arith, sum_by_occurrences w l k rest, sum-add (λ x. one_at y x * w x) (λ x. occurrences x l * w x) k, sum_pick w y k b, split)
  | inr b ↦ absurd (omega (arith, h y b, occurrences-here y l))
]
  where
    rest : (x : ℕ) → k ≤ x → occurrences x l ≡ 0
    rest x b = omega (arith, h x b, occurrences-cons x y l)

    split : sum_below (λ x. occurrences x (y ∷ l) * w x) k ≡ sum_below (λ x. one_at y x * w x + occurrences x l * w x) k
    split = sum_congr _ _ k (λ i m. rw (occurrences-cons i y l) (omega arith))

-- the pigeonhole principle: numbers below k, each at most once, are at most k
pub pigeonhole : (l : List ℕ) (k : ℕ) → ((x : ℕ) → k ≤ x → occurrences x l ≡ 0) → ((x : ℕ) → occurrences x l ≤ 1) → length l ≤ k
pigeonhole l k below once =
    omega (
      arith,
      list_length l,
      sum_by_occurrences (λ x. 1) l k below,
      sum_mono (λ x. occurrences x l * 1) (λ x. 1) k (λ i m. omega (arith, once i)),
      sum_const 1 k,
    )

-- ---- the last number of a list

pub last_on : (p : ℕ) (l : List ℕ) → (last_of p l ≡ p) ⊎ (0 < occurrences (last_of p l) l)
unfolding last_of
last_on p [] = inl refl
last_on p (x ∷ l) = inr (elim (last_on x l) [
  | inl e ↦ rw e (occurrences-here x l)
  | inr e ↦ occurrences-later (last_of x l) x l e
])

-- a list that is not empty, and its last element
pub last_split : (p x : ℕ) (l : List ℕ) → (pre : List ℕ) × (x ∷ l ≡ pre ++ (last_of p (x ∷ l) ∷ []))
unfolding last_of
last_split p x [] = ([], refl)
last_split p x (y ∷ l) = let r = last_split x y l in (x ∷ r.0, ap (λ (k : List ℕ). x ∷ k) r.1)
