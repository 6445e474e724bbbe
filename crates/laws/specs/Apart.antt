-- The folded names of one directory: an item with no fault has no twin before it, and where every name stands once there is no twin.
use Rattle.std.specs.Prelude.{ℕ, ◌+◌, ◌≤◌, ◌≡◌, refl, ◌≢◌, ◌⊎◌, Bool, true, false, cond, ◌||◌, List, [], ◌∷◌, ◌++◌, T, eqb}
use Rattle.std.proofs.Common.{sym, ap, ◌∙◌, inl, inr, arith, eqb→eq}
use Rattle.std.proofs.Math.Dec.{eqb_refl}
use Rattle.rules.specs.Counting.{sum_list, any_in, same_bytes}
use Rattle.rules.specs.Walk.{Dir, Item, as_twin, twins, done, walk}
use Rattle.counting.specs.Laws.{neither, none_or}
use Rattle.laws.specs.Tests.{cond_cases, T_false, both, and, eqb_cases}
use Rattle.laws.specs.Sums.{one_below, one_below_cases}
use Rattle.laws.specs.Bags.{list_nil, list_cons}
use Rattle.laws.specs.Each.{Each, each_map, each_both, each_zero, member_each}
use Rattle.laws.specs.Items.{wrong, faults}
use Rattle.laws.specs.Walks.{walk-found, walk_same}

-- ---- two names

-- names that pass the test are equal
pub same_name : (u v : List ℕ) → T (same_bytes u v) → u ≡ v
unfolding same_bytes
same_name [] [] t = refl
same_name [] (y ∷ v) t = absurd t
same_name (x ∷ u) [] t = absurd t
same_name (x ∷ u) (y ∷ v) t =
    let p = both (eqb x y) (same_bytes u v) t in
    let h : x ≡ y = eqb→eq x y p.0 in
    rw (h, same_name u v p.1)

-- and equal ones pass it
pub name_same : (u : List ℕ) → T (same_bytes u u)
unfolding same_bytes
name_same [] = tt
name_same (x ∷ u) = and (eqb x x) (same_bytes u u) (eqb_refl x) (name_same u)

-- 1 where two names are the same, else 0
unfoldable pub one_same : List ℕ → List ℕ → ℕ
one_same u v = cond (same_bytes u v) 1 0

-- it is 1 for equal names alone
pub one_same_cases : (u v : List ℕ) → ((u ≡ v) × (one_same u v ≡ 1)) ⊎ ((u ≢ v) × (one_same u v ≡ 0))
unfolding one_same
one_same_cases u v = elim (cond_cases {A = ℕ} (same_bytes u v) 1 0) [
  | inl c ↦ inl (same_name u v c.0, c.1)
  | inr c ↦ inr (λ e. c.0 (rw e (name_same v)), c.1)
]

-- a name and itself
pub one_same-same : (u : List ℕ) → one_same u u ≡ 1
one_same-same u = elim (one_same_cases u u) [ inl c ↦ c.1 | inr c ↦ absurd (c.0 refl) ]

-- ---- the names of a directory

-- how many items have this name
abbrev pub name_count : List ℕ → List Item → ℕ
name_count v is = sum_list (λ i. one_same i.name v) is

-- in each of these directories every name stands once at most
abbrev pub Apart : (Dir → List Item) → List Dir → Type 0
Apart items dirs = (v : List ℕ) → Each (λ d. name_count v (items d) ≤ 1) dirs

-- 1 for a directory in which the name v stands twice
abbrev pub doubled : (Dir → List Item) → List ℕ → Dir → ℕ
doubled items v d = one_below 1 (name_count v (items d))

-- names that are apart, as a sum, which any order of the directories gives
pub apart_sum : (items : Dir → List Item) (dirs : List Dir) → Apart items dirs → (v : List ℕ) → sum_list (doubled items v) dirs ≡ 0
apart_sum items dirs a v = none dirs (a v)
  where
    none : (l : List Dir) → Each (λ d. name_count v (items d) ≤ 1) l → sum_list (doubled items v) l ≡ 0
    none [] p = list_nil (doubled items v)
    none (d ∷ l) p = elim (one_below_cases 1 (name_count v (items d))) [
      | inl c ↦ absurd (omega (arith, c.0, p.0))
      | inr c ↦ omega (arith, list_cons (doubled items v) d l, c.1, none l p.1)
    ]

-- and back
pub sum_apart : (items : Dir → List Item) (dirs : List Dir) → ((v : List ℕ) → sum_list (doubled items v) dirs ≡ 0) → Apart items dirs
sum_apart items dirs z v = each_map (λ d. doubled items v d ≡ 0) (λ d. name_count v (items d) ≤ 1) dirs
    (λ d e. elim (one_below_cases 1 (name_count v (items d))) [ inl c ↦ absurd (omega (arith, e, c.1)) | inr c ↦ c.0 ]) (each_zero (doubled items v) dirs (z v))

-- each of these directories has every name as often
abbrev pub SameNames : (Dir → List Item) → (Dir → List Item) → List Dir → Type 0
SameNames items items' dirs = (v : List ℕ) → Each (λ d. name_count v (items' d) ≡ name_count v (items d)) dirs

-- and so keeps them apart
pub apart_same : (items items' : Dir → List Item) (dirs : List Dir) → SameNames items items' dirs → Apart items dirs → Apart items' dirs
apart_same items items' dirs same a v =
    each_both (λ d. name_count v (items' d) ≡ name_count v (items d)) (λ d. name_count v (items d) ≤ 1) (λ d. name_count v (items' d) ≤ 1) dirs (λ d e l. omega (arith, e, l)) (same v) (a v)

-- one after the other
pub names_still : (old items items' : Dir → List Item) (dirs : List Dir) → SameNames old items dirs → SameNames items items' dirs → SameNames old items' dirs
names_still old items items' dirs one two v =
    each_both (λ d. name_count v (items d) ≡ name_count v (old d)) (λ d. name_count v (items' d) ≡ name_count v (items d)) (λ d. name_count v (items' d) ≡ name_count v (old d)) dirs (λ d e f. f ∙ e) (one v) (two v)

-- ---- twins

-- how often a name was seen
abbrev seen_count : List ℕ → List (List ℕ) → ℕ
seen_count v seen = sum_list (λ u. one_same u v) seen

unseen : (v : List ℕ) (seen : List (List ℕ)) → seen_count v seen ≡ 0 → any_in (same_bytes v) seen ≡ false
unfolding any_in
unseen v [] z = refl
unseen v (u ∷ seen) z = elim (one_same_cases u v) [
  | inl c ↦ absurd (omega (arith, z, list_cons (λ u. one_same u v) u seen, c.1))
  | inr c ↦ none_or (same_bytes v u) (any_in (same_bytes v) seen) (T_false (same_bytes v u) (λ t. c.0 (sym (same_name v u t)))) (unseen v seen (omega (arith, z, list_cons (λ u. one_same u v) u seen)))
]

not_seen : (v : List ℕ) (seen : List (List ℕ)) → any_in (same_bytes v) seen ≡ false → seen_count v seen ≡ 0
unfolding any_in
not_seen v [] e = list_nil (λ u. one_same u v)
not_seen v (u ∷ seen) e =
    let n = neither (same_bytes v u) (any_in (same_bytes v) seen) e in
    elim (one_same_cases u v) [
      | inl c ↦ (let same : same_bytes v v ≡ false = rw c.0 at n.0 in absurd (rw same at (name_same v)))
      | inr c ↦ omega (arith, list_cons (λ u. one_same u v) u seen, c.1, not_seen v seen n.1)
    ]

-- 17 is a fault
twin_wrong : (i : Item) → wrong (as_twin i) ≢ 0
unfolding wrong as_twin
twin_wrong i z = elim (eqb_cases {A = ℕ} i.early 12 12 17) [ inl c ↦ omega (arith, z, c.1) | inr c ↦ omega (arith, z, c.1) ]

-- an item with no fault is none's twin
lone : (i : Item) (t : Bool) → wrong (cond t (as_twin i) i) ≡ 0 → t ≡ false
lone i true z = absurd (twin_wrong i z)
lone i false z = refl

module _ (i : Item) (is : List Item) (seen : List (List ℕ)) where
  first_lone : sum_list wrong (twins seen (i ∷ is)) ≡ 0 → (any_in (same_bytes i.name) seen ≡ false) × (sum_list wrong (twins (i.name ∷ seen) is) ≡ 0)
  unfolding twins
  first_lone z =
      let here = list_cons wrong (cond (any_in (same_bytes i.name) seen) (as_twin i) i) (twins (i.name ∷ seen) is) in
      (lone i (any_in (same_bytes i.name) seen) (omega (arith, z, here)), omega (arith, z, here))

  -- where the first is no twin
  first-kept : any_in (same_bytes i.name) seen ≡ false → twins (i.name ∷ seen) is ≡ is → twins seen (i ∷ is) ≡ i ∷ is
  unfolding twins
  first-kept e r = rw (e, r)

-- where nothing is wrong there is no twin
pub twins_fine : (seen : List (List ℕ)) (is : List Item) → sum_list wrong (twins seen is) ≡ 0 → twins seen is ≡ is
unfolding twins
twins_fine seen [] z = refl
twins_fine seen (i ∷ is) z = let f = first_lone i is seen z in first-kept i is seen f.0 (twins_fine (i.name ∷ seen) is f.1)

-- and every name stands once at most, those seen before counted
twins-count : (seen : List (List ℕ)) (is : List Item) → ((v : List ℕ) → seen_count v seen ≤ 1) → sum_list wrong (twins seen is) ≡ 0 → (v : List ℕ) → name_count v is + seen_count v seen ≤ 1
twins-count seen [] once z v = omega (arith, once v, list_nil {X = Item} (λ i. one_same i.name v))
twins-count seen (i ∷ is) once z v =
    let f = first_lone i is seen z in
    omega (arith, twins-count (i.name ∷ seen) is (also (not_seen i.name seen f.0)) f.1 v, list_cons (λ i. one_same i.name v) i is, list_cons (λ u. one_same u v) i.name seen)
  where
    also : seen_count i.name seen ≡ 0 → (v : List ℕ) → seen_count v (i.name ∷ seen) ≤ 1
    also none v = elim (one_same_cases i.name v) [
      | inl c ↦ omega (arith, list_cons (λ u. one_same u v) i.name seen, c.1, none, ap (λ (u : List ℕ). seen_count u seen) c.0)
      | inr c ↦ omega (arith, list_cons (λ u. one_same u v) i.name seen, c.1, once v)
    ]

-- so the names of a directory in which nothing is wrong are apart
pub twins_apart : (is : List Item) → sum_list wrong (twins [] is) ≡ 0 → (v : List ℕ) → name_count v is ≤ 1
twins_apart is z v = omega (arith, twins-count [] is (λ u. omega (arith, list_nil {X = List ℕ} (λ x. one_same x u))) z v)

-- where every name stands once at most, those seen before counted, there is no twin
count-twins : (seen : List (List ℕ)) (is : List Item) → ((v : List ℕ) → name_count v is + seen_count v seen ≤ 1) → twins seen is ≡ is
unfolding twins
count-twins seen [] once = refl
count-twins seen (i ∷ is) once =
    first-kept i is seen
    (unseen i.name seen (omega (arith, once i.name, list_cons (λ j. one_same j.name i.name) i is, one_same-same i.name)))
    (count-twins (i.name ∷ seen) is (λ v. omega (arith, once v, list_cons (λ j. one_same j.name v) i is, list_cons (λ u. one_same u v) i.name seen)))

-- and so of names that are apart
pub apart_twins : (is : List Item) → ((v : List ℕ) → name_count v is ≤ 1) → twins [] is ≡ is
apart_twins is once = count-twins [] is (λ v. omega (arith, once v, list_nil {X = List ℕ} (λ x. one_same x v)))

-- ---- items in parts, as block after block gives them

-- the names seen behind these items
unfoldable pub seen_after : List Item → List (List ℕ) → List (List ℕ)
seen_after [] seen = seen
seen_after (i ∷ is) seen = seen_after is (i.name ∷ seen)

-- the twins of two lists, one behind the other
pub twins-append : (seen : List (List ℕ)) (is js : List Item) → twins seen (is ++ js) ≡ twins seen is ++ twins (seen_after is seen) js
unfolding twins seen_after
twins-append seen [] js = refl
twins-append seen (i ∷ is) js = ap (λ (l : List Item). cond (any_in (same_bytes i.name) seen) (as_twin i) i ∷ l) (twins-append (i.name ∷ seen) is js)

-- a name was seen behind them where one of them has it or it was seen before, in whatever order
pub seen_any : (test : List ℕ → Bool) (is : List Item) (seen : List (List ℕ)) → any_in test (seen_after is seen) ≡ (any_in (λ i. test i.name) is || any_in test seen)
unfolding any_in seen_after
seen_any test [] seen = refl
seen_any test (i ∷ is) seen = seen_any test is (i.name ∷ seen) ∙ swap (any_in (λ j. test j.name) is) (test i.name) (any_in test seen)
  where
    swap : (a b c : Bool) → (a || (b || c)) ≡ ((b || a) || c)
    swap true true c = refl
    swap true false c = refl
    swap false true c = refl
    swap false false c = refl

-- ---- a walk that looks for twins, and one that does not

module _ (items : Dir → List Item) where
  abbrev twinned : Dir → List Item
  twinned d = twins [] (items d)

  -- a walk that met no fault met no twin
  pub walked_lone : (k : ℕ) (q : List Dir) (named : List ℕ) (Q : List Dir) → walk (λ d. twins [] (items d)) k q named ≡ done Q → Each (λ d. twins [] (items d) ≡ items d) Q
  walked_lone k q named Q e = each_map (λ d. faults twinned d ≡ 0) (λ d. twinned d ≡ items d) Q (λ d z. twins_fine [] (items d) z) (each_zero (faults twinned) Q (walk-found twinned k q named Q e).faultless)

  -- so the names of each directory that it visited are apart
  pub walked_apart : (k : ℕ) (q : List Dir) (named : List ℕ) (Q : List Dir) → walk (λ d. twins [] (items d)) k q named ≡ done Q → Apart items Q
  walked_apart k q named Q e v = each_map (λ d. faults twinned d ≡ 0) (λ d. name_count v (items d) ≤ 1) Q (λ d z. twins_apart (items d) z v) (each_zero (faults twinned) Q (walk-found twinned k q named Q e).faultless)

  -- and it went as one that looks for none
  pub walked_plain : (k : ℕ) (q : List Dir) (named : List ℕ) (Q : List Dir) → walk (λ d. twins [] (items d)) k q named ≡ done Q → walk items k q named ≡ done Q
  walked_plain k q named Q e = walk_same twinned items k q named Q e (λ d m. sym (member_each (λ d. twinned d ≡ items d) d Q m (walked_lone k q named Q e)))

  -- where names are apart, both go the same way
  pub walked_twins : (k : ℕ) (q : List Dir) (named : List ℕ) (Q : List Dir) → walk items k q named ≡ done Q → Apart items Q → walk (λ d. twins [] (items d)) k q named ≡ done Q
  walked_twins k q named Q e a = walk_same items twinned k q named Q e (λ d m. apart_twins (items d) (λ v. member_each (λ d. name_count v (items d) ≤ 1) d Q m (a v)))
