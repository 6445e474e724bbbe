-- The anodes of a chain zeroed, one after the other.
use Prim.Native.Nat.{ℕ, zero, suc, ◌+◌, ◌≤◌}
use mathlib.Core.Path.{◌≡◌, refl, sym, ap, ◌∙◌, fun_ext}
use mathlib.Core.Logic.{◌≢◌, inl, inr}
use mathlib.Core.Bool.{cond}
use mathlib.Core.List.{List, [], ◌∷◌}
use native.Mathlib.Omega.{arith}
use native.Mathlib.Numerals.{add-one}
use lib.Dec.{leb}
use lib.ListN.{length, get_or, set}
use borrow.Author.Tests.{le-leb}
use Rattle.rules.specs.Counting.{occurrences, changed}
use Rattle.rules.specs.Anodes.{Anodes}
use Rattle.rules.specs.Chains.{chain_of}
use Rattle.rules.specs.Space.{on_chain, dropped}
use Rattle.laws.specs.Tests.{cond_cases}
use Rattle.laws.specs.Sums.{one_at-same, one_at_other, changed_cases, changed_other}
use Rattle.laws.specs.Bags.{occurrences-nil, occurrences-cons}
use Rattle.laws.specs.Segments.{Seg, seg_keep}
use Rattle.laws.specs.Links.{Linked, the_chain, seg_once, seg_short}
use Rattle.anodes.specs.Loaded.{anodes_from}
use Rattle.placing.proofs.Tables.{set-zero}

-- anode a zeroed
abbrev zeroed_at : Anodes → ℕ → Anodes
zeroed_at s a = record { count = changed s.count a 0; block = changed s.block a 0; next = changed s.next a 0 }

-- a and what comes after it zeroed, at most k anodes
unfoldable pub zeroed_from : ℕ → Anodes → ℕ → Anodes
zeroed_from zero s a = s
zeroed_from (suc k) s zero = s
zeroed_from (suc k) s (suc a) = zeroed_from k (zeroed_at s (suc a)) (s.next (suc a))

pub zeroed-none : (s : Anodes) (a : ℕ) → zeroed_from 0 s a ≡ s
unfolding zeroed_from
zeroed-none s a = refl

pub zeroed-end : (k : ℕ) (s : Anodes) → zeroed_from k s 0 ≡ s
unfolding zeroed_from
zeroed-end zero s = refl
zeroed-end (suc k) s = refl

zeroed_next : (k m : ℕ) (s : Anodes) (a : ℕ) → k ≡ m + 1 → a ≢ 0 → zeroed_from k s a ≡ zeroed_from m (zeroed_at s a) (s.next a)
unfolding zeroed_from
zeroed_next k m s zero e h = absurd (h refl)
zeroed_next k m s (suc a) e h = rw (e, add-one m)

-- in the tables
pub zeroed_tables : (k m : ℕ) (c f n : List ℕ) (a : ℕ) → k ≡ m + 1 → a ≢ 0 → zeroed_from k (anodes_from c f n) a ≡ zeroed_from m (anodes_from (set c a 0) (set f a 0) (set n a 0)) (get_or n a 0)
unfolding anodes_from
zeroed_tables k m c f n a e h = zeroed_next k m (anodes_from c f n) a e h ∙ rw (set-zero c a, set-zero f a, set-zero n a)

-- the anodes of a list zeroed
abbrev without : List ℕ → (ℕ → ℕ) → ℕ → ℕ
without l f a = cond (leb 1 (occurrences a l)) 0 (f a)

abbrev zeroed_on : List ℕ → Anodes → Anodes
zeroed_on l s = record { count = without l s.count; block = without l s.block; next = without l s.next }

without-none : (f : ℕ → ℕ) → f ≡ without [] f
without-none f = fun_ext (λ a. rw (occurrences-nil a))

without_more : (b : ℕ) (l : List ℕ) (f : ℕ → ℕ) → without l (changed f b 0) ≡ without (b ∷ l) f
without_more b l f = fun_ext (λ a. elim (changed_cases f b 0 a) [
  | inl c ↦ rw (c.1, le-leb 1 (occurrences a (b ∷ l)) (omega (arith, occurrences-cons a b l, one_at-same b a (sym c.0)))) (elim (cond_cases {A = ℕ} (leb 1 (occurrences a l)) 0 0) [ inl d ↦ d.1 | inr d ↦ d.1 ])
  | inr c ↦ (let e : occurrences a (b ∷ l) ≡ occurrences a l = omega (arith, occurrences-cons a b l, one_at_other b a (λ q. c.0 (sym q))) in rw (c.1, e))
])

-- where no anode stands twice
zeroed_on_lem : (k : ℕ) (s : Anodes) (a : ℕ) (l : List ℕ) → Seg s.next a l 0 → ((x : ℕ) → occurrences x l ≤ 1) → length l ≤ k → zeroed_from k s a ≡ zeroed_on l s
zeroed_on_lem k s a [] c once short = rw c (zeroed-end k s ∙ (λ i. record { count = without-none s.count i; block = without-none s.block i; next = without-none s.next i }))
zeroed_on_lem zero s a (b ∷ l) c once short = absurd (omega arith)
zeroed_on_lem (suc k) s a (b ∷ l) c once short =
    rw c.0 (zeroed_next (suc k) k s b (omega arith) c.1
    ∙ zeroed_on_lem k (zeroed_at s b) (s.next b) l rest (λ x. omega (arith, once x, occurrences-cons x b l)) (omega arith)
    ∙ more)
  where
    gone : occurrences b l ≡ 0
    gone = omega (arith, once b, occurrences-cons b b l, one_at-same b b refl)

    rest : Seg (zeroed_at s b).next (s.next b) l 0
    rest = seg_keep s.next (changed s.next b 0) (s.next b) 0 l (λ x p. changed_other s.next b 0 x (λ q. omega (arith, p, gone, ap (λ (z : ℕ). occurrences z l) q))) c.2

    more : zeroed_on l (zeroed_at s b) ≡ zeroed_on (b ∷ l) s
    more = λ i. record { count = without_more b l s.count i; block = without_more b l s.block i; next = without_more b l s.next i }

pub zeroed-chain : (s : Anodes) → Linked 3444 s.next s.block → (h : ℕ) → s.block h ≢ 0 → zeroed_from 3444 s h ≡ dropped 3444 s h
unfolding dropped on_chain
zeroed-chain s k h u =
    let c = the_chain k h (λ q. u) in
    zeroed_on_lem 3444 s h (chain_of s.next 3444 h) c (λ x. seg_once k h 0 (chain_of s.next 3444 h) x (λ q. u) c) (seg_short k h 0 (chain_of s.next 3444 h) (λ q. u) c)
