-- Sums over the numbers below a bound, and functions changed at one number.
use Rattle.std.specs.Prelude.{ℕ, zero, suc, ◌+◌, ◌*◌, ◌≤◌, ◌<◌, ◌≡◌, refl, ◌≢◌, ◌⊎◌, Bool, true, false, cond, T, ltb}
use Rattle.std.proofs.Common.{sym, ◌∙◌, inl, inr, arith, leb→le, le→leb}
use Rattle.std.proofs.Math.Path.{fun_ext}
use Rattle.rules.specs.Counting.{one_at, sum_below, least, changed}
use Rattle.laws.specs.Tests.{same?, less?, not_above, cond_cases, eqb_cases}

pub one_at_cases : (a b : ℕ) → ((a ≡ b) × (one_at a b ≡ 1)) ⊎ ((a ≢ b) × (one_at a b ≡ 0))
unfolding one_at
one_at_cases a b = eqb_cases {A = ℕ} a b 1 0

pub one_at-same : (a b : ℕ) → a ≡ b → one_at a b ≡ 1
one_at-same a b e = elim (one_at_cases a b) [ inl h ↦ h.1 | inr h ↦ absurd (h.0 e) ]

pub one_at_other : (a b : ℕ) → a ≢ b → one_at a b ≡ 0
one_at_other a b e = elim (one_at_cases a b) [ inl h ↦ absurd (e h.0) | inr h ↦ h.1 ]

-- where it is not 0, the two are the same
pub one_at_some : (a b : ℕ) → 0 < one_at a b → a ≡ b
one_at_some a b p = elim (one_at_cases a b) [ inl h ↦ h.0 | inr h ↦ absurd (omega arith) ]

pub one_at-le : (a b : ℕ) → one_at a b ≤ 1
one_at-le a b = elim (one_at_cases a b) [ inl h ↦ omega arith | inr h ↦ omega arith ]

-- 1 where a is below b, else 0
unfoldable pub one_below : ℕ → ℕ → ℕ
one_below a b = cond (ltb a b) 1 0

pub one_below_cases : (a b : ℕ) → ((a < b) × (one_below a b ≡ 1)) ⊎ ((b ≤ a) × (one_below a b ≡ 0))
unfolding one_below
one_below_cases a b = elim (cond_cases {A = ℕ} (ltb a b) 1 0) [
  | inl h ↦ inl (leb→le (suc a) b h.0, h.1)
  | inr h ↦ elim (less? a b) [ inl l ↦ absurd (h.0 (le→leb (suc a) b l)) | inr l ↦ inr (l, h.1) ]
]

pub one_below-none : (a : ℕ) → one_below a 0 ≡ 0
one_below-none a = elim (one_below_cases a 0) [ inl h ↦ absurd (omega arith) | inr h ↦ h.1 ]

pub one_below-suc : (a b : ℕ) → one_below (suc a) (suc b) ≡ one_below a b
one_below-suc a b = elim (one_below_cases a b) [
  | inl h ↦ elim (one_below_cases (suc a) (suc b)) [ inl g ↦ g.1 ∙ sym h.1 | inr g ↦ absurd (omega arith) ]
  | inr h ↦ elim (one_below_cases (suc a) (suc b)) [ inl g ↦ absurd (omega arith) | inr g ↦ g.1 ∙ sym h.1 ]
]

-- ---- a function changed at one place

pub changed_cases : (f : ℕ → ℕ) (i x j : ℕ) → ((j ≡ i) × (changed f i x j ≡ x)) ⊎ ((j ≢ i) × (changed f i x j ≡ f j))
unfolding changed
changed_cases f i x j = eqb_cases j i x (f j)

pub changed-same : (f : ℕ → ℕ) (i x : ℕ) → changed f i x i ≡ x
changed-same f i x = elim (changed_cases f i x i) [ inl h ↦ h.1 | inr h ↦ absurd (h.0 refl) ]

pub changed_other : (f : ℕ → ℕ) (i x j : ℕ) → j ≢ i → changed f i x j ≡ f j
changed_other f i x j e = elim (changed_cases f i x j) [ inl h ↦ absurd (e h.0) | inr h ↦ h.1 ]

pub changed-pos : (f : ℕ → ℕ) (i x j : ℕ) → x ≢ 0 → f j ≢ 0 → changed f i x j ≢ 0
changed-pos f i x j h g = elim (changed_cases f i x j) [ inl e ↦ rw e.1 h | inr e ↦ rw e.1 g ]

pub changed_twice : (f : ℕ → ℕ) (i x y : ℕ) → changed (changed f i x) i y ≡ changed f i y
changed_twice f i x y = fun_ext (λ j. elim (changed_cases (changed f i x) i y j) [
  | inl c ↦ elim (changed_cases f i y j) [ inl d ↦ c.1 ∙ sym d.1 | inr d ↦ absurd (d.0 c.0) ]
  | inr c ↦ c.1 ∙ changed_other f i x j c.0 ∙ sym (changed_other f i y j c.0)
])

-- the least number that passes, where one does
pub least_cases : (t : ℕ → Bool) (k : ℕ) → ((least t k < k) × T (t (least t k)) × ((i : ℕ) → i < least t k → T (t i) → ⊥)) ⊎ ((least t k ≡ k) × ((i : ℕ) → i < k → T (t i) → ⊥))
unfolding least
least_cases t zero = inr (refl, λ i l. absurd (omega arith))
least_cases t (suc k) = go (cond_cases (ltb (least t k) k) (least t k) (cond (t k) k (suc k))) (cond_cases (t k) k (suc k)) (least_cases t k)
  where
    go : (T (ltb (least t k) k) × (cond (ltb (least t k) k) (least t k) (cond (t k) k (suc k)) ≡ least t k))
        ⊎ ((T (ltb (least t k) k) → ⊥) × (cond (ltb (least t k) k) (least t k) (cond (t k) k (suc k)) ≡ cond (t k) k (suc k))) →
        (T (t k) × (cond (t k) k (suc k) ≡ k)) ⊎ ((T (t k) → ⊥) × (cond (t k) k (suc k) ≡ suc k)) →
        ((least t k < k) × T (t (least t k)) × ((i : ℕ) → i < least t k → T (t i) → ⊥)) ⊎ ((least t k ≡ k) × ((i : ℕ) → i < k → T (t i) → ⊥)) →
        ((least t (suc k) < suc k) × T (t (least t (suc k))) × ((i : ℕ) → i < least t (suc k) → T (t i) → ⊥)) ⊎ ((least t (suc k) ≡ suc k) × ((i : ℕ) → i < suc k → T (t i) → ⊥))
    go (inl a) b (inl r) = rw a.1 (inl (omega arith, r.1, r.2))
    go (inl a) b (inr r) = absurd (omega (arith, leb→le (suc (least t k)) k a.0, r.0))
    go (inr a) b (inl r) = absurd (a.0 (le→leb (suc (least t k)) k r.0))
    go (inr a) (inl b) (inr r) = rw (a.1, b.1) (inl (omega arith, b.0, r.1))
    go (inr a) (inr b) (inr r) = rw (a.1, b.1) (inr (refl, λ i l. elim (same? i k) [ inl e ↦ rw e b.0 | inr e ↦ r.1 i (omega arith) ]))

-- the least is i, where i passes and none below it does
pub least-found : (test : ℕ → Bool) (i n : ℕ) → i < n → ((j : ℕ) → j < i → test j ≡ false) → test i ≡ true → least test n ≡ i
least-found test i n l none here = elim (least_cases test n) [
  | inl d ↦ elim (less? (least test n) i) [
    | inl q ↦ absurd (rw (none (least test n) q) at d.1)
    | inr q ↦ elim (less? i (least test n)) [ inl p ↦ absurd (d.2 i p (rw here tt)) | inr p ↦ omega arith ]
  ]
  | inr d ↦ absurd (d.1 i l (rw here tt))
]

-- and the bound, where none passes
pub least-none : (test : ℕ → Bool) (n : ℕ) → ((j : ℕ) → j < n → test j ≡ false) → least test n ≡ n
least-none test n none = elim (least_cases test n) [
  | inl d ↦ absurd (rw (none (least test n) d.0) at d.1)
  | inr d ↦ d.0
]

-- ---- sums below a bound

pub sum_congr : (f g : ℕ → ℕ) (k : ℕ) → ((i : ℕ) → i < k → f i ≡ g i) → sum_below f k ≡ sum_below g k
unfolding sum_below
sum_congr f g zero h = refl
sum_congr f g (suc k) h = omega (arith, sum_congr f g k (λ i l. h i (omega arith)), h k (omega arith))

pub sum_mono : (f g : ℕ → ℕ) (k : ℕ) → ((i : ℕ) → i < k → f i ≤ g i) → sum_below f k ≤ sum_below g k
unfolding sum_below
sum_mono f g zero h = omega arith
sum_mono f g (suc k) h = omega (arith, sum_mono f g k (λ i l. h i (omega arith)), h k (omega arith))

pub sum_const : (c k : ℕ) → sum_below (λ i. c) k ≡ k * c
unfolding sum_below
sum_const c zero = omega arith
sum_const c (suc k) = omega (arith, sum_const c k)

pub sum-zero : (f : ℕ → ℕ) (k : ℕ) → ((i : ℕ) → i < k → f i ≡ 0) → sum_below f k ≡ 0
sum-zero f k h = omega (arith, sum_congr f (λ i. 0) k h, sum_const 0 k)

pub sum-add : (f g : ℕ → ℕ) (k : ℕ) → sum_below (λ i. f i + g i) k ≡ sum_below f k + sum_below g k
unfolding sum_below
sum-add f g zero = refl
sum-add f g (suc k) = omega (arith, sum-add f g k)

pub sum_scale : (f : ℕ → ℕ) (c k : ℕ) → sum_below (λ i. c * f i) k ≡ c * sum_below f k
unfolding sum_below
sum_scale f c zero = omega arith
sum_scale f c (suc k) = omega (arith, sum_scale f c k)

-- a factor of each term, taken out
pub sum_factor : (f g : ℕ → ℕ) (c k : ℕ) → sum_below (λ i. f i * (g i * c)) k ≡ sum_below (λ i. f i * g i) k * c
unfolding sum_below
sum_factor f g c zero = omega arith
sum_factor f g c (suc k) = omega (arith, sum_factor f g c k)

pub sum_swap : (f : ℕ → ℕ → ℕ) (m k : ℕ) → sum_below (λ i. sum_below (f i) k) m ≡ sum_below (λ j. sum_below (λ i. f i j) m) k
unfolding sum_below
sum_swap f zero k = sym (sum-zero (λ j. 0) k (λ i l. refl))
sum_swap f (suc m) k = omega (arith, sum_swap f m k, sum-add (λ j. sum_below (λ i. f i j) m) (f m) k)

-- two functions that agree below k but at i
pub sum_update : (f g : ℕ → ℕ) (i k : ℕ) → i < k → ((j : ℕ) → j < k → j ≢ i → f j ≡ g j) → sum_below g k + f i ≡ sum_below f k + g i
unfolding sum_below
sum_update f g i zero l h = absurd (omega arith)
sum_update f g i (suc k) l h = elim (same? i k) [
  | inl e ↦ rw e (omega (arith, sum_congr f g k (λ j l. h j (omega arith) (omega arith))))
  | inr e ↦ omega (arith, sum_update f g i k (omega arith) (λ j l. h j (omega arith)), h k (omega arith) (omega arith))
]

pub sum-member : (f : ℕ → ℕ) (i k : ℕ) → i < k → f i ≤ sum_below f k
sum-member f i k l = omega (arith, sum_update f (changed f i 0) i k l (λ j m e. sym (changed_other f i 0 j e)), changed-same f i 0)

pub sum_members : (f : ℕ → ℕ) (i j k : ℕ) → i < k → j < k → i ≢ j → f i + f j ≤ sum_below f k
sum_members f i j k li lj e =
    omega (
      arith,
      sum_update f (changed f i 0) i k li (λ x m e. sym (changed_other f i 0 x e)),
      changed-same f i 0,
      sum-member (changed f i 0) j k lj,
      changed_other f i 0 j (omega arith),
    )

pub sum-none : (f : ℕ → ℕ) (k : ℕ) → sum_below f k ≡ 0 → (i : ℕ) → i < k → f i ≡ 0
sum-none f k e i l = omega (arith, sum-member f i k l)

-- a sum above 0 has a term above 0
pub sum_some : (f : ℕ → ℕ) (k : ℕ) → 0 < sum_below f k → (i : ℕ) × (i < k) × (0 < f i)
unfolding sum_below
sum_some f zero h = absurd (omega arith)
sum_some f (suc k) h = go (less? 0 (f k)) (sum_some f k)
  where
    go : (0 < f k) ⊎ (f k ≤ 0) → (0 < sum_below f k → (i : ℕ) × (i < k) × (0 < f i)) → (i : ℕ) × (i < suc k) × (0 < f i)
    go (inl l) r = (k, omega arith, l)
    go (inr l) r = let q = r (omega arith) in (q.0, omega arith, q.2)

pub sum_one : (f : ℕ → ℕ) (k : ℕ) → sum_below f k ≡ 1 → (i : ℕ) × (i < k) × (f i ≡ 1) × ((j : ℕ) → j < k → j ≢ i → f j ≡ 0)
sum_one f k e =
    let s = sum_some f k (omega arith) in
    (s.0, s.1, omega (arith, sum-member f s.0 k s.1), λ j l ne. omega (arith, sum_members f s.0 j k s.1 l (λ q. ne (sym q))))

-- a sum where all but i vanish
pub sum_single : (f : ℕ → ℕ) (i k : ℕ) → i < k → ((j : ℕ) → j < k → j ≢ i → f j ≡ 0) → sum_below f k ≡ f i
sum_single f i k l h =
    omega (arith, sum_update (λ j. 0) f i k l (λ j m e. sym (h j m e)), sum-zero (λ j. 0) k (λ j m. refl))

-- a sum where all but three vanish
pub sum-three : (f : ℕ → ℕ) (i j l n : ℕ) → i < n → j < n → l < n → i ≢ j → i ≢ l → j ≢ l → ((a : ℕ) → a ≢ i → a ≢ j → a ≢ l → f a ≡ 0) → sum_below f n ≡ f i + f j + f l
sum-three f i j l n i< j< l< ij il jl z =
    let g = changed f i 0 in
    let h = changed g j 0 in
    omega (
      arith,
      sum_update f g i n i< (λ a m e. sym (changed_other f i 0 a e)),
      changed-same f i 0,
      sum_update g h j n j< (λ a m e. sym (changed_other g j 0 a e)),
      changed-same g j 0,
      changed_other f i 0 j (λ e. ij (sym e)),
      sum_single h l n l< rest,
      changed_other g j 0 l (λ e. jl (sym e)),
      changed_other f i 0 l (λ e. il (sym e)),
    )
  where
    rest : (a : ℕ) → a < n → a ≢ l → changed (changed f i 0) j 0 a ≡ 0
    rest a m al = elim (changed_cases (changed f i 0) j 0 a) [
      | inl e ↦ e.1
      | inr e ↦ e.1 ∙ elim (changed_cases f i 0 a) [ inl d ↦ d.1 | inr d ↦ d.1 ∙ z a d.0 e.0 al ]
    ]

pub sum-one_at : (x k : ℕ) → x < k → sum_below (one_at x) k ≡ 1
sum-one_at x k l = sum_single (one_at x) x k l (λ j m e. one_at_other x j (λ q. e (sym q))) ∙ one_at-same x x refl

-- terms of at most 1, and at most one of them above 0
pub sum-le-one : (f : ℕ → ℕ) (k : ℕ) → ((i : ℕ) → f i ≤ 1) → ((i j : ℕ) → i < k → j < k → 0 < f i → 0 < f j → i ≡ j) → sum_below f k ≤ 1
sum-le-one f k small once = elim (less? 0 (sum_below f k)) [
  | inr z ↦ omega arith
  | inl p ↦ (let s = sum_some f k p in omega (arith, small s.0, sum_single f s.0 k s.1 (λ j l ne. others s.0 s.1 s.2 j l ne)))
]
  where
    others : (i : ℕ) → i < k → 0 < f i → (j : ℕ) → j < k → j ≢ i → f j ≡ 0
    others i li p j l ne = not_above (f j) (λ q. ne (once j i l li q p))

-- the one term that is picked
pub sum_pick : (f : ℕ → ℕ) (j k : ℕ) → j < k → sum_below (λ x. one_at j x * f x) k ≡ f j
sum_pick f j k l =
    sum_single (λ x. one_at j x * f x) j k l (λ x m e. rw (one_at_other j x (λ q. e (sym q))) (omega arith)) ∙ rw (one_at-same j j refl) (omega arith)

pub sum-at : (j c k : ℕ) → j < k → sum_below (λ x. one_at j x * c) k ≡ c
sum-at j c k l = sum_pick (λ x. c) j k l
