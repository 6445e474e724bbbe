-- The anodes in three tables, when an entry of a table is stored. Assumes nothing.
use Prim.Native.Nat.{ℕ, ◌<◌}
use mathlib.Core.Path.{◌≡◌, sym, ◌∙◌, fun_ext}
use mathlib.Core.Logic.{inl, inr}
use mathlib.Core.List.{List}
use lib.ListN.{length, get_or, set, length-set, get_or-eq_default}
use lib.Seq.{get_or-set_same, get_or-set_other}
use Rattle.rules.specs.Counting.{changed}
use Rattle.rules.specs.Space.{rewritten, inserted_after, unlinked}
use Rattle.laws.specs.Tests.{less?}
use Rattle.laws.specs.Sums.{changed_cases}
use Rattle.anodes.specs.Loaded.{anodes_from}

-- a table with another number at i
pub set-changed : (l : List ℕ) (i v : ℕ) → i < length l → (λ a. get_or (set l i v) a 0) ≡ changed (λ a. get_or l a 0) i v
set-changed l i v h = fun_ext (λ a. elim (changed_cases (λ x. get_or l x 0) i v a) [
  | inl c ↦ rw c.0 (get_or-set_same l i v 0 h) ∙ sym c.1
  | inr c ↦ get_or-set_other l i a v 0 c.0 ∙ sym c.1
])

-- with 0 at i, wherever the table ends
pub set-zero : (l : List ℕ) (i : ℕ) → (λ a. get_or (set l i 0) a 0) ≡ changed (λ a. get_or l a 0) i 0
set-zero l i = elim (less? i (length l)) [
  | inl h ↦ set-changed l i 0 h
  | inr h ↦ fun_ext (λ a. elim (changed_cases (λ x. get_or l x 0) i 0 a) [
    | inl c ↦ rw c.0 (get_or-eq_default (set l i 0) 0 (rw (length-set l i 0) h)) ∙ sym c.1
    | inr c ↦ get_or-set_other l i a 0 0 c.0 ∙ sym c.1
  ])
]

module _ (c f n : List ℕ) where
  pub rewritten_tables : (a v b : ℕ) → a < length c → a < length f → anodes_from (set c a v) (set f a b) n ≡ rewritten (anodes_from c f n) a v b
  unfolding anodes_from rewritten
  rewritten_tables a v b p q = rw (set-changed c a v p, set-changed f a b q)

  -- the links of p and a changed before a is rewritten
  pub unlinked_tables : (p a : ℕ) → p < length n → a < length n → rewritten (anodes_from c f (set (set n p (get_or n a 0)) a 0)) a 0 0 ≡ unlinked (anodes_from c f n) p a
  unfolding anodes_from rewritten unlinked
  unlinked_tables p a h k = rw (set-changed (set n p (get_or n a 0)) a 0 (rw (length-set n p (get_or n a 0)) k), set-changed n p (get_or n a 0) h)

  pub inserted_tables : (p a v b : ℕ) → p < length n → a < length n → rewritten (anodes_from c f (set (set n a (get_or n p 0)) p a)) a v b ≡ inserted_after (anodes_from c f n) p a v b
  unfolding anodes_from rewritten inserted_after
  inserted_tables p a v b h k = rw (set-changed (set n a (get_or n p 0)) p a (rw (length-set n a (get_or n p 0)) h), set-changed n a (get_or n p 0) k)
