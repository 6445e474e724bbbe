-- The last anode with a block of a chain whose anodes are in a list, and how long its run is.
use Prim.Native.Nat.{ℕ, zero, suc, ◌+◌, ◌-◌, ◌≤◌, ◌<◌, min}
use mathlib.Core.Path.{◌≡◌, refl, ap, ◌∙◌}
use mathlib.Core.Logic.{◌≢◌, inl, inr}
use mathlib.Core.List.{List, [], ◌∷◌, ◌++◌, append_assoc}
use native.Mathlib.Omega.{arith}
use native.Mathlib.Numerals.{add-one}
use lib.ListN.{length, get_or, take}
use lib.Seq.{take-suc}
use borrow.Author.Tests.{le-leb, lt-leb, lt-ltb, le-ltb, eq-eqb, ne_eqb}
use Rattle.rules.specs.Counting.{sum_list, last_of}
use Rattle.rules.specs.Space.{crosses, upper_run, lower_run, run_length, found, last_extent, first_found, nowhere}
use Rattle.laws.specs.Tests.{same?, less?}
use Rattle.laws.specs.Bags.{list_cons}
use Rattle.laws.specs.Searches.{full_at, nowhere_at}
use Rattle.laws.specs.SideEnds.{last_cons}
use Rattle.giving_runs.specs.Runs.{last_full, anode_before}

-- ---- how long a run is, by the tests of the code

module _ (last c b : ℕ) where
  -- an extent above last reserved is its own upper run
  pub upper_above : last < b → upper_run last c b ≡ c
  unfolding upper_run crosses
  upper_above h = rw (lt-leb b last h)

  -- and so is one up to it
  pub upper_below : b ≤ last → b + c ≤ last + 1 → upper_run last c b ≡ c
  unfolding upper_run crosses
  upper_below h k = rw (le-leb b last h, le-ltb (last + 1) (b + c) k)

  -- of one that crosses it is what is above
  pub upper_crossing : b ≤ last → last + 1 < b + c → upper_run last c b ≡ b + c - (last + 1)
  unfolding upper_run crosses
  upper_crossing h k = rw (le-leb b last h, lt-ltb (last + 1) (b + c) k)

  -- an extent above last reserved is its own lower run
  pub lower_above : last < b → lower_run last c b ≡ c
  unfolding lower_run crosses
  lower_above h = rw (lt-leb b last h)

  -- and so is one up to it
  pub lower_below : b ≤ last → b + c ≤ last + 1 → lower_run last c b ≡ c
  unfolding lower_run crosses
  lower_below h k = rw (le-leb b last h, le-ltb (last + 1) (b + c) k)

  -- of one that crosses it is what is up to last reserved
  pub lower_crossing : b ≤ last → last + 1 < b + c → lower_run last c b ≡ last + 1 - b
  unfolding lower_run crosses
  lower_crossing h k = rw (le-leb b last h, lt-ltb (last + 1) (b + c) k)

  -- of the upper run no more than are to go
  pub run-min : (k u : ℕ) → u ≡ upper_run last c b → min k u ≡ run_length last k c b
  unfolding run_length
  run-min k u is = elim (less? u k) [ inl h ↦ rw (← is, lt-leb k u h) (omega arith) | inr h ↦ rw (← is, le-leb k u h) (omega arith) ]

-- ---- the last anode with a block among the first of a list

-- among none it is place 0
pub full-none : (count : ℕ → ℕ) (l : List ℕ) → last_full count l 0 ≡ 0
unfolding last_full
full-none count l = refl

module _ (count : ℕ → ℕ) (l : List ℕ) (k m : ℕ) (fuel : k ≡ m + 1) where
  -- the last of them has a block
  pub full-here : count (get_or l m 0) ≢ 0 → last_full count l k ≡ m
  unfolding last_full
  full-here h = rw (fuel, add-one m, ne_eqb (count (get_or l m 0)) 0 h)

  -- or has none, and it is among those before
  pub full-before : count (get_or l m 0) ≡ 0 → last_full count l k ≡ last_full count l m
  unfolding last_full
  full-before h = rw (fuel, add-one m, eq-eqb (count (get_or l m 0)) 0 h)

-- before the first place stands 0
pub before-first : (l : List ℕ) → anode_before l 0 ≡ 0
unfolding anode_before
before-first l = refl

-- before another the anode of the place before
pub before-later : (l : List ℕ) (i j : ℕ) → i ≡ j + 1 → anode_before l i ≡ get_or l j 0
unfolding anode_before
before-later l i j e = rw (e, add-one j)

-- where the place i is found among the first k of the list, and rest comes after them
pub record FullAt (count : ℕ → ℕ) (l : List ℕ) (k : ℕ) (rest : List ℕ) (i : ℕ) : Type 0 where
  pub below : i < k
  pub full : 0 < count (get_or l i 0)
  pub post : List ℕ
  pub parts : take k l ++ rest ≡ take i l ++ (get_or l i 0 ∷ post)
  pub empty : sum_list count post ≡ 0

-- one more of a list
pub one_more : (l : List ℕ) (k : ℕ) (rest : List ℕ) → k < length l → take (suc k) l ++ rest ≡ take k l ++ (get_or l k 0 ∷ rest)
one_more l k rest h = ap (λ (i : List ℕ). i ++ rest) (take-suc l k 0 h) ∙ append_assoc (take k l) (get_or l k 0 ∷ []) rest

-- it is found where there is a block
pub full-found : (count : ℕ → ℕ) (l : List ℕ) (k : ℕ) (rest : List ℕ) → k ≤ length l → sum_list count rest ≡ 0 → 0 < sum_list count (take k l ++ rest) → FullAt count l k rest (last_full count l k)
full-found count l zero rest h e some = absurd (omega (arith, some, e))
full-found count l (suc k) rest h e some = elim (same? (count (get_or l k 0)) 0) [
  | inl z ↦ (let w = full-found count l k (get_or l k 0 ∷ rest) (omega arith) (omega (arith, list_cons count (get_or l k 0) rest, e, z)) (rw (one_more l k rest (omega arith)) at some) in
      rw (full-before count l (suc k) k (omega arith) z) (record { below = omega (arith, w.below); full = w.full; post = w.post; parts = one_more l k rest (omega arith) ∙ w.parts; empty = w.empty }))
  | inr n ↦ rw (full-here count l (suc k) k (omega arith) n) (record { below = omega arith; full = omega arith; post = rest; parts = one_more l k rest (omega arith); empty = e })
]

-- the search finds nothing where there is no block
extents_none : (count : ℕ → ℕ) (p : ℕ) (l : List ℕ) → sum_list count l ≡ 0 → last_extent count p l ≡ nowhere
unfolding last_extent first_found
extents_none count p [] e = refl
extents_none count p (a ∷ l) e = rw (extents_none count a l (omega (arith, list_cons count a l, e))) (nowhere_at count p a (omega (arith, list_cons count a l, e)))

-- and x where it has the last
pub last-at : (count : ℕ → ℕ) (p : ℕ) (pre : List ℕ) (x : ℕ) (post : List ℕ) → 0 < count x → sum_list count post ≡ 0 → last_extent count p (pre ++ (x ∷ post)) ≡ found (last_of p pre) x
unfolding last_extent first_found last_of
last-at count p [] x post full e = rw (extents_none count x post e) (full_at count p x (count x) refl (omega arith))
last-at count p (a ∷ pre) x post full e = rw (last-at count a pre x post full e)

-- the last of the first anodes of a list stands before the next
pub before_is : (l : List ℕ) (i : ℕ) → i ≤ length l → last_of 0 (take i l) ≡ anode_before l i
unfolding anode_before last_of
before_is l zero h = refl
before_is l (suc i) h = ap (last_of 0) (take-suc l i 0 (omega arith)) ∙ last_cons 0 (take i l) (get_or l i 0)
