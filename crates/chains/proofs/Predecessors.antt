-- The table of predecessors, one anode after the other. `t` is that table, `n` the table of nexts.
use Prim.Native.Nat.{ℕ, ◌+◌, ◌≤◌, ◌<◌}
use mathlib.Core.Path.{◌≡◌, sym, ap, ◌∙◌}
use mathlib.Core.Logic.{◌≢◌, inl, inr}
use mathlib.Core.List.{List}
use native.Mathlib.Omega.{arith}
use lib.ListN.{length, get_or, set, replicate}
use lib.Seq.{get_or-set_same, get_or-set_other}
use Rattle.endian.proofs.Laws.{get_or_zeros}
use Rattle.rules.specs.Chains.{preds}
use Rattle.laws.specs.Tests.{same?}
use Rattle.laws.specs.Links.{preds-none as counted_none, preds-one as counted-one, preds_some as counted-some, preds-two as counted-two}
use Rattle.chains.specs.Predecessors.{PredTable, NotedBelow, Twice}
use Rattle.chains.proofs.Storing.{entry-below}

pub noted_none : (n : List ℕ) → NotedBelow (replicate 3444 0) n 0
noted_none n = record {
  is_pred = λ x h. absurd (h (get_or_zeros 3444 x));
  earlier = λ x h. absurd (h (get_or_zeros 3444 x));
  only = λ p l. absurd (omega arith);
}

module _ (t n : List ℕ) (a : ℕ) (w : NotedBelow t n a) where
  pub noted_skip : get_or n a 0 ≡ 0 → NotedBelow t n (a + 1)
  noted_skip z = record {
    is_pred = w.is_pred;
    earlier = λ x h. omega (arith, w.earlier x h);
    only = λ p l h. elim (same? p a) [ inl e ↦ absurd (h (ap (λ (q : ℕ). get_or n q 0) e ∙ z)) | inr e ↦ w.only p (omega arith) h ];
  }

  module _ (x : ℕ) (is : get_or n a 0 ≡ x) where
    pub noted_twice : x ≢ 0 → a < 3444 → get_or t x 0 ≢ 0 → Twice n
    noted_twice some l h = record {
      anode = x;
      before = a;
      some = some;
      leads = is;
      two = counted-two 3444 (λ p. get_or n p 0) x (get_or t x 0) (omega (arith, w.earlier x h)) (w.is_pred x h) a l (λ e. omega (arith, w.earlier x h)) is;
    }

    pub noted_set : x < length t → get_or n 0 0 ≡ 0 → get_or t x 0 ≡ 0 → NotedBelow (set t x a) n (a + 1)
    noted_set l first z = record {
      is_pred = λ y g. elim (same? y x) [
        | inl e ↦ rw (e, get_or-set_same t x a 0 l) is
        | inr e ↦ rw (get_or-set_other t x y a 0 e) (w.is_pred y (rw (get_or-set_other t x y a 0 e) at g))
      ];
      earlier = λ y g. elim (same? y x) [
        | inl e ↦ rw (e, get_or-set_same t x a 0 l) (omega arith)
        | inr e ↦ rw (get_or-set_other t x y a 0 e) (omega (arith, w.earlier y (rw (get_or-set_other t x y a 0 e) at g)))
      ];
      only = λ p m g. elim (same? p a) [
        | inl e ↦ rw (e, is) (get_or-set_same t x a 0 l)
        | inr e ↦ (let old = w.only p (omega arith) g in
            rw (get_or-set_other t x (get_or n p 0) a 0 (λ q. g (ap (λ (y : ℕ). get_or n y 0) (sym old ∙ ap (λ (y : ℕ). get_or t y 0) q ∙ z) ∙ first))) old)
      ];
    }

-- ---- the whole table

pub table_of : (t n : List ℕ) → length n ≡ 3444 → NotedBelow t n 3444 → PredTable t n
table_of t n whole w = record { noted = w; below = λ p h. rw whole at (entry-below n p h) }

module _ (t n : List ℕ) (w : PredTable t n) where
  -- a predecessor is the entry
  pub pred_is : (p x : ℕ) → x ≢ 0 → get_or n p 0 ≡ x → get_or t x 0 ≡ p
  pred_is p x h e = let q : get_or n p 0 ≢ 0 = λ z. h (sym e ∙ z) in rw e at (w.noted.only p (w.below p q) q)

  pub no_pred : get_or n 0 0 ≡ 0 → (x : ℕ) → x ≢ 0 → get_or t x 0 ≡ 0 → (p : ℕ) → get_or n p 0 ≢ x
  no_pred first x h z p e = h (sym e ∙ ap (λ (q : ℕ). get_or n q 0) (sym (pred_is p x h e) ∙ z) ∙ first)

  pub preds-none : get_or n 0 0 ≡ 0 → (x : ℕ) → x ≢ 0 → get_or t x 0 ≡ 0 → preds 3444 (λ a. get_or n a 0) x ≡ 0
  preds-none first x h z = counted_none 3444 (λ a. get_or n a 0) x (no_pred first x h z)

  pub preds_some : (x : ℕ) → get_or t x 0 ≢ 0 → 0 < preds 3444 (λ a. get_or n a 0) x
  preds_some x z = counted-some 3444 (λ a. get_or n a 0) x (get_or t x 0) (w.noted.earlier x z) (w.noted.is_pred x z)

  pub preds-one : (x : ℕ) → x ≢ 0 → preds 3444 (λ a. get_or n a 0) x ≤ 1
  preds-one x h = counted-one 3444 (λ a. get_or n a 0) x (λ p q e f. sym (pred_is p x h e) ∙ pred_is q x h f)
