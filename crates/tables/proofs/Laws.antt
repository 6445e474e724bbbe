-- The numbers that a table holds, one after the other, and a table whose first numbers were zeroed. Assumes nothing.
use Prim.Native.Nat.{ℕ, ◌+◌, ◌<◌, ◌≤◌}
use mathlib.Core.Path.{◌≡◌, ap, ◌∙◌}
use mathlib.Core.Logic.{⊎_elim}
use mathlib.Core.List.{List}
use native.Mathlib.Omega.{arith}
use native.Mathlib.Nat.{eq-or-lt_of_le}
use lib.ListN.{length, get_or, set, drop, replicate, length-replicate, get_or-append, get_or-replicate}
use lib.Bits.{bit_or, or_add_and, and_le_l, and_le_r}
use lib.Seq.{get_or-set_same, get_or-set_other, drop_at}
use Rattle.tables.specs.Held.{HeldBelow, ZeroBelow, ZeroFrom, zeroed_first}

-- the number at k too
pub held_next : (f : ℕ → ℕ) (l : List ℕ) (k : ℕ) → HeldBelow f l k → get_or l k 0 ≡ f k → HeldBelow f l (k + 1)
held_next f l k below is a h = let q : a ≤ k = omega arith in ⊎_elim (λ e. rw e is) (below a) (eq-or-lt_of_le q)

-- a number stored at k
pub held_more : (f : ℕ → ℕ) (l : List ℕ) (k v : ℕ) → k < length l → HeldBelow f l k → v ≡ f k → HeldBelow f (set l k v) (k + 1)
held_more f l k v room below is =
    held_next f (set l k v) k (λ a h. get_or-set_other l k a v 0 (λ e. omega arith) ∙ below a h) (get_or-set_same l k v 0 room ∙ is)

module _ (n : ℕ) (old t : List ℕ) (is : t ≡ zeroed_first n old) where
  pub zeroed-below : ZeroBelow t n
  zeroed-below a h = rw is (get_or-append (replicate n 0) (drop n old) 0 a (rw (length-replicate {A = ℕ} n 0) h) ∙ get_or-replicate {A = ℕ} n a 0 0 h)

  -- the numbers behind them are kept
  pub zeroed_past : drop n t ≡ drop n old
  zeroed_past = ap (λ (l : List ℕ). drop n l) is ∙ drop_at (replicate n 0) (drop n old) n (length-replicate {A = ℕ} n 0)

-- the number behind them is 0 too, where all joined by "or" are 0
pub zeros_more : (l : List ℕ) (from i any : ℕ) → (any ≡ 0 → ZeroFrom l from (from + i)) → bit_or any (get_or l (from + i) 0) ≡ 0
    → ZeroFrom l from (from + (i + 1))
zeros_more l from i any old e = λ a p q.
    let x = get_or l (from + i) 0 in
    let both = or_add_and any x in
    let none : any ≡ 0 = omega (arith, both, e, and_le_r any x) in
    let last : get_or l (from + i) 0 ≡ 0 = omega (arith, both, e, and_le_l any x) in
    let m : a ≤ from + i = omega arith in
    ⊎_elim (λ h. rw h last) (old none a p) (eq-or-lt_of_le m)
