-- The old blocks from a place on, by the tests of the code.
use Prim.Native.Nat.{ℕ, zero, suc, ◌+◌, ◌-◌, ◌/◌, ◌%◌, ◌≤◌, ◌<◌}
use mathlib.Core.Path.{◌≡◌, ap, subst, ◌∙◌}
use mathlib.Core.Logic.{◌≢◌, inl, inr}
use mathlib.Core.Bool.{Bool, true, false, cond, ◌||◌}
use mathlib.Core.List.{List, [], ◌∷◌, ◌++◌}
use native.Mathlib.Omega.{arith}
use lib.Dec.{eqb}
use lib.ListN.{get_or}
use borrow.Author.Tests.{eqb-false, eq-eqb, ne_eqb}
use Rattle.counting.specs.Laws.{neither}
use Rattle.laws.specs.Tests.{same?}
use Rattle.std.specs.Prelude.{Some, None}
use Rattle.giving_back.specs.OldTable.{is_old, old_from, NoneOwned, NoneOld, NextOld}

-- ---- whether a block is old

module _ (h d owner y : ℕ) where
  -- of the chain
  pub old-chain : owner ≡ h → true ≡ is_old h d owner y
  unfolding is_old
  old-chain e = rw (eq-eqb owner h e)

  -- an anode block
  pub old_slot : owner ≢ h → owner ≡ 65534 → true ≡ is_old h d owner y
  unfolding is_old
  old_slot u e = rw (ne_eqb owner h u, eq-eqb owner 65534 e)

  -- the block that moves, or none
  pub old-moved : owner ≢ h → owner ≢ 65534 → eqb y d ≡ is_old h d owner y
  unfolding is_old
  old-moved u v = rw (ne_eqb owner h u, ne_eqb owner 65534 v)

-- ---- several blocks

-- the 64 blocks from a multiple of 64 on are not one of another 64
pub other_64 : (d y : ℕ) → y % 64 ≡ 0 → d / 64 ≢ y / 64 → (x : ℕ) → y ≤ x → x < y + 64 → x ≢ d
other_64 d y whole other x p q e = other (omega (arith, whole, p, q, e))

module _ (blocks : List ℕ) (h : ℕ) where
  -- one more entry is neither of the two, where no test said that one is
  pub none_more : (from i : ℕ) (any : Bool) → (any ≡ false → NoneOwned blocks h from (from + i)) → (any || eqb (get_or blocks (from + i) 0) h) || eqb (get_or blocks (from + i) 0) 65534 ≡ false → NoneOwned blocks h from (from + (i + 1))
  none_more from i any before e x p q =
      let owner = get_or blocks (from + i) 0 in
      let (first, slot) = neither (any || eqb owner h) (eqb owner 65534) e in
      let (none, chain) = neither any (eqb owner h) first in
      elim (same? x (from + i)) [
        | inl is ↦ rw is (eqb-false owner h chain, eqb-false owner 65534 slot)
        | inr other ↦ before none x p (omega (arith, q, other))
      ]

  -- blocks that neither of the two owns, and that are not d, are not old
  pub none_old : (d y end : ℕ) → NoneOwned blocks h y end → ((x : ℕ) → y ≤ x → x < end → x ≢ d) → NoneOld blocks h d y end
  unfolding is_old
  none_old d y end o apart x p q = let (u, v) = o x p q in rw (ne_eqb (get_or blocks x 0) h u, ne_eqb (get_or blocks x 0) 65534 v, ne_eqb x d (apart x p q))

  -- one block that is not old
  pub one-not-old : (d y : ℕ) → is_old h d (get_or blocks y 0) y ≡ false → NoneOld blocks h d y (y + 1)
  one-not-old d y e x p q = let is : x ≡ y = omega (arith, p, q) in rw is e

-- ---- from a place on

module _ (blocks : List ℕ) (h d : ℕ) where
  -- block y, then the blocks behind it
  next_block : (n y m : ℕ) → n ≡ suc m → old_from blocks h d n y ≡ cond (is_old h d (get_or blocks y 0) y) (y ∷ []) [] ++ old_from blocks h d m (suc y)
  unfolding old_from
  next_block n y m e = ap (λ (k : ℕ). old_from blocks h d k y) e

  -- an old one
  old-here : (n y : ℕ) → y < n → is_old h d (get_or blocks y 0) y ≡ true → old_from blocks h d (n - y) y ≡ y ∷ old_from blocks h d (n - (y + 1)) (y + 1)
  old-here n y l e =
      let i : suc y ≡ y + 1 = omega arith in
      next_block (n - y) y (n - (y + 1)) (omega (arith, l)) ∙ ap (λ (b : Bool). cond b (y ∷ []) [] ++ old_from blocks h d (n - (y + 1)) (suc y)) e ∙ ap (λ (j : ℕ). y ∷ old_from blocks h d (n - (y + 1)) j) i

  -- one that is not
  old-not : (n y : ℕ) → y < n → is_old h d (get_or blocks y 0) y ≡ false → old_from blocks h d (n - y) y ≡ old_from blocks h d (n - (y + 1)) (y + 1)
  old-not n y l e =
      let i : suc y ≡ y + 1 = omega arith in
      next_block (n - y) y (n - (y + 1)) (omega (arith, l)) ∙ ap (λ (b : Bool). cond b (y ∷ []) [] ++ old_from blocks h d (n - (y + 1)) (suc y)) e ∙ ap (λ (j : ℕ). old_from blocks h d (n - (y + 1)) j) i

  old-end : (n y : ℕ) → n ≤ y → old_from blocks h d (n - y) y ≡ []
  unfolding old_from
  old-end n y l = let z : n - y ≡ 0 = omega (arith, l) in ap (λ (k : ℕ). old_from blocks h d k y) z

  -- ---- the search from y₀ on has come to y

  abbrev pub Searched : ℕ → ℕ → ℕ → Type 0
  Searched y₀ n y = (y₀ ≤ y) × (y ≤ n) × (old_from blocks h d (n - y₀) y₀ ≡ old_from blocks h d (n - y) y)

  pub search_on : (y₀ n y : ℕ) → Searched y₀ n y → y < n → is_old h d (get_or blocks y 0) y ≡ false → Searched y₀ n (y + 1)
  search_on y₀ n y (a, b, e) l o = (omega (arith, a), omega (arith, l), e ∙ old-not n y l o)

  -- as many as are passed over
  pub search_past : (y₀ n y : ℕ) → Searched y₀ n y → (r : ℕ) → y + r ≤ n → NoneOld blocks h d y (y + r) → Searched y₀ n (y + r)
  search_past y₀ n y s zero l o = let i : y ≡ y + 0 = omega arith in subst (λ (x : ℕ). Searched y₀ n x) i s
  search_past y₀ n y s (suc r) l o =
      let i : y + r + 1 ≡ y + suc r = omega arith in
      subst (λ (x : ℕ). Searched y₀ n x) i
      (search_on y₀ n (y + r) (search_past y₀ n y s r (omega (arith, l)) (λ x p q. o x p (omega (arith, q)))) (omega (arith, l)) (o (y + r) (omega arith) (omega arith)))

  pub search-found : (y₀ n y : ℕ) → Searched y₀ n y → y < n → is_old h d (get_or blocks y 0) y ≡ true → NextOld blocks h d y₀ n (Some y)
  search-found y₀ n y (a, b, e) l o = (a, l, e ∙ old-here n y l o)

  pub search-none : (y₀ n y : ℕ) → Searched y₀ n y → n ≤ y → NextOld blocks h d y₀ n None
  search-none y₀ n y (a, b, e) l = e ∙ old-end n y l
