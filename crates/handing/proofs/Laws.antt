-- The test for room in a form that cannot wrap, and six stores as one run. Assumes nothing.
use mathlib.Core.Path.{◌≡◌, sym, ◌∙◌}
use mathlib.Core.Logic.{inl, inr}
use mathlib.Core.List.{List, [], ◌∷◌}
use Prim.Native.Nat.{ℕ, suc, ◌+◌, ◌-◌, ◌≤◌}
use native.Mathlib.Omega.{arith}
use lib.Dec.{ltb}
use lib.ListN.{set}
use borrow.Author.Tests.{lt-ltb, le-ltb}
use Rattle.endian.specs.Bytes.{stored}
use Rattle.endian.proofs.Laws.{less?}

-- six fewer on the left, or six more on the right
pub full-same : (n done : ℕ) → 6 ≤ n → ltb (n - 6) done ≡ ltb n (done + 6)
full-same n done h = elim (less? n (done + 6)) [
  | inl l ↦ lt-ltb (n - 6) done (omega arith) ∙ sym (lt-ltb n (done + 6) l)
  | inr l ↦ le-ltb (n - 6) done (omega arith) ∙ sym (le-ltb n (done + 6) l)
]

-- six stores one behind the other
pub six_run : (l : List ℕ) (at a b c d e f : ℕ) →
    set (set (set (set (set (set l at a) (at + 1) b) (at + 2) c) (at + 3) d) (at + 4) e) (at + 5) f ≡ stored l at (a ∷ b ∷ c ∷ d ∷ e ∷ f ∷ [])
unfolding stored
six_run l at a b c d e f =
    let e1 : at + 1 ≡ suc at = omega arith in
    let e2 : at + 2 ≡ suc (suc at) = omega arith in
    let e3 : at + 3 ≡ suc (suc (suc at)) = omega arith in
    let e4 : at + 4 ≡ suc (suc (suc (suc at))) = omega arith in
    let e5 : at + 5 ≡ suc (suc (suc (suc (suc at)))) = omega arith in
    rw (e1, e2, e3, e4, e5)
