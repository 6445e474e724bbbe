-- What the searches along a walk find: its first anode with a block, or its last.
use Prim.Native.Nat.{ℕ, zero, suc, ◌<◌}
use Rattle.std.specs.Prelude.{◌≡◌, refl, ◌≢◌, ◌⊎◌, List, [], ◌∷◌, ◌++◌}
use Rattle.std.proofs.Common.{sym, ap, ◌∙◌, inl, inr, arith}
use Rattle.rules.specs.Counting.{sum_list, occurrences}
use Rattle.rules.specs.Space.{Found, nowhere, found, extent_at, first_found, first_extent, last_extent}
use Rattle.laws.specs.Tests.{same?}
use Rattle.laws.specs.Sums.{one_at_cases}
use Rattle.laws.specs.Bags.{list_nil, list_cons, occurrences-nil, occurrences-cons, occurrences-here, occurrences-later}
use Rattle.laws.specs.Segments.{Seg}

-- x has a block and stands on the walk l from a; q is before it, or p where x is a itself
pub record FoundIn (count next : ℕ → ℕ) (a : ℕ) (l : List ℕ) (p q x : ℕ) : Type 0 where
  pub full : 0 < count x
  pub on : 0 < occurrences x l
  pub before : ((x ≡ a) × (q ≡ p)) ⊎ (next q ≡ x)

-- one that is not a itself stands after q
pub found_after : {count next : ℕ → ℕ} {a : ℕ} {l : List ℕ} {p q x : ℕ} → FoundIn count next a l p q x → x ≢ a → next q ≡ x
found_after f n = elim f.before [ inl c ↦ absurd (n c.0) | inr c ↦ c ]

nowhere≢found : (q x : ℕ) → nowhere ≡ found q x → ⊥
nowhere≢found q x e = let z : ◌≡◌ {A = ℕ} 0 1 = cc in omega arith

pub one_found : (a b : Found) (p x : ℕ) → first_found a b ≡ found p x → (a ≡ found p x) ⊎ (b ≡ found p x)
unfolding first_found
one_found nowhere b p x e = inr e
one_found (found q y) b p x e = inl e

pub none_found : (a b : Found) → first_found a b ≡ nowhere → (a ≡ nowhere) × (b ≡ nowhere)
unfolding first_found
none_found nowhere b e = (refl, e)
none_found (found q y) b e = absurd (nowhere≢found q y (sym e))

-- ---- one anode

module _ (count : ℕ → ℕ) (p a : ℕ) where
  pub full_at : (c : ℕ) → count a ≡ c → c ≢ 0 → extent_at count p a ≡ found p a
  unfolding extent_at
  full_at zero e h = absurd (h refl)
  full_at (suc c) e h = rw (e, extent_at)

  pub nowhere_at : count a ≡ 0 → extent_at count p a ≡ nowhere
  unfolding extent_at
  nowhere_at e = rw (e, extent_at)

  found_at : (q x : ℕ) → extent_at count p a ≡ found q x → (0 < count a) × (p ≡ q) × (a ≡ x)
  found_at q x e = elim (same? (count a) 0) [
    | inl z ↦ absurd (nowhere≢found q x (sym (nowhere_at z) ∙ e))
    | inr n ↦ (let s : found p a ≡ found q x = sym (full_at (count a) refl n) ∙ e in (omega arith, cc, cc))
  ]

  empty_at : extent_at count p a ≡ nowhere → count a ≡ 0
  empty_at e = elim (same? (count a) 0) [ inl z ↦ z | inr n ↦ absurd (nowhere≢found p a (sym e ∙ full_at (count a) refl n)) ]

-- ---- along a walk

module _ (count next : ℕ → ℕ) (a p b : ℕ) (l : List ℕ) (q x : ℕ) where
  -- found at the start of the walk
  found_here : a ≡ b → extent_at count p b ≡ found q x → FoundIn count next a (b ∷ l) p q x
  found_here ab e =
      let (full, pq, bx) = found_at count p b q x e in
      record { full = rw (← bx) full; on = rw (← bx) (occurrences-here b l); before = inl (sym bx ∙ sym ab, sym pq) }

  -- or on the rest of it
  found-later : FoundIn count next (next b) l b q x → FoundIn count next a (b ∷ l) p q x
  found-later f = record {
    full = f.full;
    on = occurrences-later x b l f.on;
    before = inr (elim f.before [ inl d ↦ ap next d.1 ∙ sym d.0 | inr d ↦ d ]);
  }

pub first_extent-found : (count next : ℕ → ℕ) (a z p : ℕ) (l : List ℕ) → Seg next a l z → (q x : ℕ) → first_extent count p l ≡ found q x → FoundIn count next a l p q x
unfolding first_extent
first_extent-found count next a z p [] s q x e = absurd (nowhere≢found q x e)
first_extent-found count next a z p (b ∷ l) s q x e = elim (one_found (extent_at count p b) (first_extent count b l) q x e) [
  | inl f ↦ found_here count next a p b l q x s.0 f
  | inr f ↦ found-later count next a p b l q x (first_extent-found count next (next b) z b l s.2 q x f)
]

pub last_extent-found : (count next : ℕ → ℕ) (a z p : ℕ) (l : List ℕ) → Seg next a l z → (q x : ℕ) → last_extent count p l ≡ found q x → FoundIn count next a l p q x
unfolding last_extent
last_extent-found count next a z p [] s q x e = absurd (nowhere≢found q x e)
last_extent-found count next a z p (b ∷ l) s q x e = elim (one_found (last_extent count b l) (extent_at count p b) q x e) [
  | inl f ↦ found-later count next a p b l q x (last_extent-found count next (next b) z b l s.2 q x f)
  | inr f ↦ found_here count next a p b l q x s.0 f
]

-- where none is found, no anode has a block
pub first_extent-none : (count : ℕ → ℕ) (p : ℕ) (l : List ℕ) → first_extent count p l ≡ nowhere → (x : ℕ) → 0 < occurrences x l → count x ≡ 0
unfolding first_extent
first_extent-none count p [] e x c = absurd (omega (arith, c, occurrences-nil x))
first_extent-none count p (b ∷ l) e x c =
    let n = none_found (extent_at count p b) (first_extent count b l) e in
    elim (one_at_cases b x) [
      | inl i ↦ ap count (sym i.0) ∙ empty_at count p b n.0
      | inr i ↦ first_extent-none count b l n.1 x (omega (arith, c, occurrences-cons x b l))
    ]

pub last_extent-none : (count : ℕ → ℕ) (p : ℕ) (l : List ℕ) → last_extent count p l ≡ nowhere → sum_list count l ≡ 0
unfolding last_extent
last_extent-none count p [] e = list_nil count
last_extent-none count p (b ∷ l) e =
    let n = none_found (last_extent count b l) (extent_at count p b) e in
    omega (arith, list_cons count b l, last_extent-none count b l n.0, empty_at count p b n.1)

-- the last anode with a block has one
pub last_extent-full : (count : ℕ → ℕ) (p : ℕ) (l : List ℕ) (q x : ℕ) → last_extent count p l ≡ found q x → 0 < count x
unfolding last_extent
last_extent-full count p [] q x e = absurd (nowhere≢found q x e)
last_extent-full count p (b ∷ l) q x e = elim (one_found (last_extent count b l) (extent_at count p b) q x e) [
  | inl f ↦ last_extent-full count b l q x f
  | inr f ↦ (let k = found_at count p b q x f in rw (← k.2) k.0)
]

-- around the last anode with a block: no anode behind it has one
pub last_extent_split : (count : ℕ → ℕ) (p : ℕ) (l : List ℕ) (q x : ℕ) → last_extent count p l ≡ found q x →
    (pre : List ℕ) × (post : List ℕ) × (l ≡ pre ++ (x ∷ post)) × (sum_list count post ≡ 0)
unfolding last_extent first_found
last_extent_split count p [] q x e = absurd (nowhere≢found q x e)
last_extent_split count p (b ∷ l) q x e = go (last_extent count b l) refl e (last_extent_split count b l q x)
  where
    go : (c : Found) → last_extent count b l ≡ c → first_found c (extent_at count p b) ≡ found q x →
        (last_extent count b l ≡ found q x → (pre : List ℕ) × (post : List ℕ) × (l ≡ pre ++ (x ∷ post)) × (sum_list count post ≡ 0)) →
        (pre : List ℕ) × (post : List ℕ) × (b ∷ l ≡ pre ++ (x ∷ post)) × (sum_list count post ≡ 0)
    go (found q' y) f e r = let t = r (f ∙ e) in (b ∷ t.0, t.1, ap (λ (k : List ℕ). b ∷ k) t.2, t.3)
    go nowhere f e r = ([], l, ap (λ (y : ℕ). y ∷ l) (found_at count p b q x e).2, last_extent-none count b l f)
