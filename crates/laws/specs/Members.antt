-- Members of a list: the list parted at one of them.
use Rattle.std.specs.Prelude.{ℕ, zero, suc, ◌+◌, ◌*◌, ◌≤◌, ◌<◌, ◌≡◌, ◌≢◌, ◌⊎◌, Bool, false, length, get_or, take, drop}
use Rattle.std.proofs.Math.Path.{refl}
use Rattle.std.proofs.Common.{sym, ap, ap₂, ◌∙◌, inl, inr, arith}
use mathlib.Core.List.{List, [], ◌∷◌, ◌++◌, map, map-id, append_assoc, map-append}
use Rattle.std.proofs.Math.Seq.{split_at}
use Rattle.rules.specs.Counting.{sum_list, occurrences, gather, one_at, any_in}
use Rattle.counting.specs.Laws.{none_or}
use Rattle.laws.specs.Sums.{one_at-same, one_at_other, one_at_cases, one_at_some}
use Rattle.laws.specs.Bags.{list_cons, list_append, list_add, list_mono, list_scale, gather-sum, map-sum, list_some}
use Rattle.laws.specs.Each.{Each, list_congr_each, gather_congr_each}
pub use Rattle.laws.specs.Each.{Member, member_each}
pub use Rattle.laws.specs.Bags.{occurrences-member}

module _ {ℓ} {X : Type ℓ} where
  pub no_member : (x : X) → Member x [] → ⊥
  no_member x ([], after, e) = let z : ◌≡◌ {A = ℕ} 0 1 = cc in omega arith
  no_member x (y ∷ before, after, e) = let z : ◌≡◌ {A = ℕ} 0 1 = cc in omega arith

  pub member-first : (x : X) (l : List X) → Member x (x ∷ l)
  member-first x l = ([], l, refl)

  pub member-later : (x y : X) (l : List X) → Member x l → Member x (y ∷ l)
  member-later x y l (before, after, e) = (y ∷ before, after, ap (λ (m : List X). y ∷ m) e)

  -- what holds of every member holds of each
  pub each_of : (P : X → Type 0) (l : List X) → ((x : X) → Member x l → P x) → Each P l
  each_of P [] f = tt
  each_of P (x ∷ l) f = (f x (member-first x l), each_of P l (λ y m. f y (member-later y x l m)))

  pub member-cons : (x y : X) (l : List X) → Member x (y ∷ l) → (x ≡ y) ⊎ Member x l
  member-cons x y l ([], after, e) = inl (cc)
  member-cons x y l (z ∷ before, after, e) = inr (before, after, cc)

  pub member-append : (x : X) (l m : List X) → Member x (l ++ m) → Member x l ⊎ Member x m
  member-append x [] m p = inr p
  member-append x (y ∷ l) m p = elim (member-cons x y (l ++ m) p) [
    | inl e ↦ inl ([], l, ap (λ (z : X). z ∷ l) (sym e))
    | inr q ↦ elim (member-append x l m q) [ inl r ↦ inl (member-later x y l r) | inr r ↦ inr r ]
  ]

  pub member-left : (x : X) (l m : List X) → Member x l → Member x (l ++ m)
  member-left x l m (before, after, e) = (before, after ++ m, rw e (append_assoc before (x ∷ after) m))

  pub member_right : (x : X) (l m : List X) → Member x m → Member x (l ++ m)
  member_right x l m (before, after, e) = (l ++ before, after, rw e (sym (append_assoc l before (x ∷ after))))

  -- a member's weight is no more than the sum
  pub member-sum : (w : X → ℕ) (x : X) (l : List X) → Member x l → w x ≤ sum_list w l
  member-sum w x l (before, after, e) = rw e (omega (arith, list_append w before (x ∷ after), list_cons w x after))

  -- what holds of each member holds of each
  each_members : (P : X → Type 0) (l : List X) → ((x : X) → Member x l → P x) → Each P l
  each_members P [] f = tt
  each_members P (x ∷ l) f = (f x (member-first x l), each_members P l (λ y m. f y (member-later y x l m)))

  -- two weights, or two functions, that agree at each member
  pub member_congr : (w u : X → ℕ) (l : List X) → ((x : X) → Member x l → w x ≡ u x) → sum_list w l ≡ sum_list u l
  member_congr w u l f = list_congr_each w u l (each_members (λ x. w x ≡ u x) l f)

  pub gather_congr : {Y : Type 0} (f g : X → List Y) (l : List X) → ((x : X) → Member x l → f x ≡ g x) → gather f l ≡ gather g l
  gather_congr f g l e = gather_congr_each f g l (each_members (λ x. f x ≡ g x) l e)

  -- a test that no member passes
  pub none_pass : (test : X → Bool) (l : List X) → ((x : X) → Member x l → test x ≡ false) → any_in test l ≡ false
  unfolding any_in
  none_pass test [] f = refl
  none_pass test (x ∷ l) f = none_or (test x) (any_in test l) (f x (member-first x l)) (none_pass test l (λ y m. f y (member-later y x l m)))

-- a member of what f gives for the members of a list
pub member-gather {ℓ κ} : {X : Type ℓ} {Y : Type κ} (f : X → List Y) (l : List X) (y : Y) → Member y (gather f l) → (x : X) × Member x l × Member y (f x)
unfolding gather
member-gather f [] y p = absurd (no_member y p)
member-gather f (x ∷ l) y p = elim (member-append y (f x) (gather f l) p) [
  | inl q ↦ (x, member-first x l, q)
  | inr q ↦ (let r = member-gather f l y q in (r.0, member-later r.0 x l r.1, r.2))
]

-- a sum over the list that g gives for a member is within that over all of them
pub gather-part : {X Y : Type 0} (g : X → List Y) (f : Y → ℕ) (x : X) (l : List X) → Member x l → sum_list f (g x) ≤ sum_list f (gather g l)
gather-part g f x l m = omega (arith, gather-sum g f l, member-sum (λ y. sum_list f (g y)) x l m)

-- a function of all that is given
pub map-gather : {X Y : Type 0} (φ : Y → Y) (f : X → List Y) (l : List X) → map φ (gather f l) ≡ gather (λ a. map φ (f a)) l
unfolding gather
map-gather φ f [] = refl
map-gather φ f (a ∷ l) = map-append φ (f a) (gather f l) ∙ ap (λ (m : List _). map φ (f a) ++ m) (map-gather φ f l)

pub map_members {ℓ} : {X : Type ℓ} (f g : X → X) (l : List X) → ((x : X) → Member x l → f x ≡ g x) → map f l ≡ map g l
map_members f g [] e = refl
map_members f g (x ∷ l) e = ap₂ ◌∷◌ (e x (member-first x l)) (map_members f g l (λ y m. e y (member-later y x l m)))

pub map-kept {ℓ} : {X : Type ℓ} (f : X → X) (l : List X) → ((x : X) → Member x l → f x ≡ x) → map f l ≡ l
map-kept f l e = map_members f (λ x. x) l e ∙ map-id l

pub member-occurrences : (x : ℕ) (l : List ℕ) → Member x l → 0 < occurrences x l
unfolding occurrences
member-occurrences x l p = omega (arith, member-sum (λ y. one_at y x) x l p, one_at-same x x refl)

-- what stands among the numbers that g gives for a list
pub occurrences-map : (g : ℕ → ℕ) (l : List ℕ) (y : ℕ) → 0 < occurrences y (map g l) → (a : ℕ) × (0 < occurrences a l) × (y ≡ g a)
unfolding occurrences
occurrences-map g l y p =
    let (a, m, q) = list_some (λ x. one_at (g x) y) l (omega (arith, p, map-sum g (λ z. one_at z y) l)) in
    (a, member-occurrences a l m, sym (one_at_some (g a) y q))

-- and what stands in the list, among them
pub occurrences_mapped : (g : ℕ → ℕ) (l : List ℕ) (a : ℕ) → 0 < occurrences a l → 0 < occurrences (g a) (map g l)
occurrences_mapped g l a p =
    let (before, after, parted) = occurrences-member a l p in
    member-occurrences (g a) (map g l) (map g before, map g after, ap (map g) parted ∙ map-append g before (a ∷ after))

-- the number at a place of a list stands in it
pub nth_in : (l : List ℕ) (i : ℕ) → i < length l → Member (get_or l i 0) l
nth_in l i p = (take i l, drop (suc i) l, split_at l i 0 p)

-- two numbers of a list weigh no more than the list
pub two_members : (w : ℕ → ℕ) (l : List ℕ) (a b : ℕ) → a ≢ b → 0 < occurrences a l → 0 < occurrences b l → w a + w b ≤ sum_list w l
unfolding occurrences
two_members w l a b apart p q = omega (
  arith,
  list_mono (λ x. one_at x a * w a + one_at x b * w b) w l each,
  list_add (λ x. one_at x a * w a) (λ x. one_at x b * w b) l,
  list_scale (λ x. one_at x a) (w a) l,
  list_scale (λ x. one_at x b) (w b) l,
  once (sum_list (λ x. one_at x a) l) (w a) p,
  once (sum_list (λ x. one_at x b) l) (w b) q,
)
  where
    once : (k c : ℕ) → 0 < k → c ≤ k * c
    once zero c l = absurd (omega arith)
    once (suc k) c l = omega arith

    each : (x : ℕ) → one_at x a * w a + one_at x b * w b ≤ w x
    each x = elim (one_at_cases x a) [
      | inl e ↦ rw (e.1, one_at_other x b (λ i. apart (sym e.0 ∙ i)), ← e.0) (omega arith)
      | inr e ↦ rw e.1 (elim (one_at_cases x b) [ inl i ↦ rw (i.1, ← i.0) (omega arith) | inr i ↦ rw i.1 (omega arith) ])
    ]
