-- The chains of a formatted image.
use Rattle.std.specs.Prelude.{ℕ, suc, ◌+◌, ◌-◌, ◌≤◌, ◌<◌, ◌≡◌, refl, ◌≢◌, ◌⊎◌, Bool, not, eqb, length}
use Rattle.std.proofs.Common.{sym, ◌∙◌, inl, inr}
use Rattle.std.proofs.Math.Path.{ap}
use Rattle.std.proofs.Math.Bool.{cond}
use mathlib.Core.List.{List, [], ◌∷◌}
use native.Mathlib.Omega.{arith}
use borrow.Author.Tests.{eqb-false, not-true, ne_eqb}
use Rattle.rules.specs.Counting.{one_at, sum_list, occurrences}
use Rattle.rules.specs.Anodes.{Anodes, limit}
use Rattle.rules.specs.Chains.{chain_of, followed, preds, one_if_head, block_count, cut, side}
use Rattle.counting.specs.Laws.{none-and}
use Rattle.laws.specs.Sums.{one_at-same, one_at_other, sum-member}
use Rattle.laws.specs.Bags.{occurrences-nil, occurrences-cons}
use Rattle.laws.specs.Segments.{Chain, followed-zero, chain_is, chain_ends}
use Rattle.laws.specs.Links.{preds-none, preds-one}
use Rattle.laws.specs.Acceptance.{Cleared}
use Rattle.format_laws.specs.Anodes.{Full, full-2, full-5, full-6, Which, is_0, is_1, is_2, is_5, is_6, free, Linking, direct, through_6, Laid}

module _ {s : Anodes} {n last k : ℕ} (m : Laid s n last k) where
  -- a link is 1's, or 6's to 2 where 1 links to 6
  abbrev LinkOf : ℕ → Type 0
  LinkOf a = (a ≡ 1) ⊎ ((a ≡ 6) × (s.next a ≡ 2) × (s.next 1 ≡ 6))

  link_of : (a : ℕ) → Which s a → Linking s → s.next a ≢ 0 → LinkOf a
  link_of _ is_0 l h = absurd (h m.at-0.next)
  link_of _ is_1 l h = inl refl
  link_of _ is_2 l h = absurd (h m.next_2)
  link_of _ is_5 l h = absurd (h m.at_5.next)
  link_of _ is_6 (direct f g) h = absurd (h g.next)
  link_of _ is_6 (through_6 f u g) h = inr (refl, g, f.next)
  link_of _ (free a f) l h = absurd (h f.next)

  -- so no two anodes link to one
  one-before : (p q : ℕ) → s.next p ≢ 0 → s.next p ≡ s.next q → p ≡ q
  one-before p q h e = go (link_of p (m.which p) m.linking h) (link_of q (m.which q) m.linking (rw e at h))
    where
      go : LinkOf p → LinkOf q → p ≡ q
      go (inl a) (inl b) = a ∙ sym b
      go (inl a) (inr b) = absurd (omega (arith, ap s.next a, b.1, b.2))
      go (inr a) (inl b) = absurd (omega (arith, ap s.next b, a.1, a.2))
      go (inr a) (inr b) = a.0 ∙ sym b.0

  -- a link goes to 2, or to 6 where that is in use
  links_to : (a : ℕ) → s.next a ≢ 0 → (s.next a ≡ 2) ⊎ ((s.next a ≡ 6) × (s.block 6 ≢ 0))
  links_to a h = go m.linking (link_of a (m.which a) m.linking h)
    where
      go : Linking s → LinkOf a → (s.next a ≡ 2) ⊎ ((s.next a ≡ 6) × (s.block 6 ≢ 0))
      go l (inr e) = inl e.1
      go (direct f g) (inl e) = inl (ap s.next e ∙ f.next)
      go (through_6 f u g) (inl e) = inr (ap s.next e ∙ f.next, u)

  pub closed : (a : ℕ) → s.next a ≢ 0 → s.block (s.next a) ≢ 0
  closed a h = elim (links_to a h) [ inl e ↦ rw e m.block_2 | inr e ↦ rw e.0 e.1 ]

  pub one_pred : (x : ℕ) → x ≢ 0 → preds limit s.next x ≤ 1
  one_pred x x0 = preds-one limit s.next x (λ p q a b. one-before p q (λ z. x0 (sym a ∙ z)) (a ∙ sym b))

  pub no_pred : (x : ℕ) → x ≢ 0 → x ≢ 2 → x ≢ 6 → preds limit s.next x ≡ 0
  no_pred x x0 x2 x6 = preds-none limit s.next x (λ p e. elim (links_to p (λ z. x0 (sym e ∙ z))) [
    | inl q ↦ x2 (sym e ∙ q)
    | inr q ↦ x6 (sym e ∙ q.0)
  ])

  -- ---- the chains

  chain-2 : Chain s.next 2 (2 ∷ [])
  chain-2 = (refl, omega arith, m.next_2)

  chain-5 : Chain s.next 5 (5 ∷ [])
  chain-5 = (refl, omega arith, m.at_5.next)

  -- the free list
  abbrev free_list : Linking s → List ℕ
  free_list (direct f g) = 1 ∷ 2 ∷ []
  free_list (through_6 f u g) = 1 ∷ 6 ∷ 2 ∷ []

  chain-1 : (l : Linking s) → Chain s.next 1 (free_list l)
  chain-1 (direct f g) = (refl, omega arith, (f.next, omega arith, m.next_2))
  chain-1 (through_6 f u g) = (refl, omega arith, (f.next, omega arith, (g, omega arith, m.next_2)))

  list_short : (l : Linking s) → length (free_list l) ≤ limit
  list_short (direct f g) = omega arith
  list_short (through_6 f u g) = omega arith

  pub ends : (a : ℕ) → Which s a → Linking s → s.block a ≢ 0 → followed s.next limit a ≡ 0
  ends _ is_0 l u = followed-zero s.next limit m.at-0.next
  ends _ is_1 l u = chain_ends s.next limit 1 (free_list l) m.at-0.next (chain-1 l) (list_short l)
  ends _ is_2 l u = chain_ends s.next limit 2 (2 ∷ []) m.at-0.next chain-2 (omega arith)
  ends _ is_5 l u = chain_ends s.next limit 5 (5 ∷ []) m.at-0.next chain-5 (omega arith)
  ends _ is_6 (direct f g) u = absurd (u g.block)
  ends _ is_6 (through_6 f v g) u = chain_ends s.next limit 6 (6 ∷ 2 ∷ []) m.at-0.next (refl, omega arith, (g, omega arith, m.next_2)) (omega arith)
  ends _ (free a f) l u = absurd (u f.block)

  list_is : chain_of s.next limit 1 ≡ free_list m.linking
  list_is = chain_is s.next limit 1 (free_list m.linking) (chain-1 m.linking) (list_short m.linking)

  pub root_is : chain_of s.next limit 5 ≡ 5 ∷ []
  root_is = chain_is s.next limit 5 (5 ∷ []) chain-5 (omega arith)

  -- ---- the sides of the free list

  pub two_on : 0 < occurrences 2 (chain_of s.next limit 1)
  unfolding occurrences sum_list one_at
  two_on = rw list_is (on m.linking)
    where
      on : (l : Linking s) → 0 < occurrences 2 (free_list l)
      on (direct f g) = omega arith
      on (through_6 f u g) = omega arith

  -- an anode other than 1 and 6 is not before 2
  upper_none : (a : ℕ) → a ≢ 1 → a ≢ 6 → occurrences a (side limit s 1) ≡ 0
  unfolding side cut
  upper_none a a1 a6 = go m.linking
    where
      go : Linking s → occurrences a (chain_of (cut s.next) limit 1) ≡ 0
      go (direct f g) = rw (chain_is (cut s.next) limit 1 (1 ∷ []) (refl, omega arith, rw f.next) (omega arith))
          (omega (arith, occurrences-cons a 1 [], one_at_other 1 a (λ e. a1 (sym e)), occurrences-nil a))
      go (through_6 f u g) = rw (chain_is (cut s.next) limit 1 (1 ∷ 6 ∷ []) (refl, omega arith, (rw f.next, omega arith, rw g)) (omega arith))
          (omega (arith, occurrences-cons a 1 (6 ∷ []), occurrences-cons a 6 [], one_at_other 1 a (λ e. a1 (sym e)), one_at_other 6 a (λ e. a6 (sym e)), occurrences-nil a))

  -- an anode other than 2 is not from 2 on
  lower_none : (a : ℕ) → a ≢ 2 → occurrences a (chain_of s.next limit 2) ≡ 0
  lower_none a a2 = rw (chain_is s.next limit 2 (2 ∷ []) chain-2 (omega arith))
      (omega (arith, occurrences-cons a 2 [], one_at_other 2 a (λ e. a2 (sym e)), occurrences-nil a))

  pub count-1 : s.count 1 ≡ 0
  count-1 = elim m.linking [ direct f g ↦ f.count | through_6 f u g ↦ f.count ]

  pub block_1 : s.block 1 ≡ 65535
  block_1 = elim m.linking [ direct f g ↦ f.block | through_6 f u g ↦ f.block ]

  -- an anode whose block field is 0 has all three fields 0
  pub laid_cleared : Cleared s
  laid_cleared a z = go a (m.which a) m.linking z
    where
      go : (a : ℕ) → Which s a → Linking s → s.block a ≡ 0 → (s.count a ≡ 0) × (s.next a ≡ 0)
      go _ is_0 l z = absurd (omega (arith, z, m.at-0.block))
      go _ is_1 l z = absurd (omega (arith, z, block_1))
      go _ is_2 l z = absurd (m.block_2 z)
      go _ is_5 l z = absurd (omega (arith, z, m.at_5.block))
      go _ is_6 (direct f g) z = (g.count, g.next)
      go _ is_6 (through_6 f u g) z = absurd (u z)
      go _ (free a f) l z = (f.count, f.next)

  -- an anode with a block is 2, 5 or 6
  pub full : (a : ℕ) → Which s a → 0 < s.count a → Full a
  full _ is_0 c = absurd (omega (arith, m.at-0.count))
  full _ is_1 c = absurd (omega (arith, count-1))
  full _ is_2 c = full-2
  full _ is_5 c = full-5
  full _ is_6 c = full-6
  full _ (free a f) c = absurd (omega (arith, f.count))

  pub high : (a : ℕ) → Full a → 0 < occurrences a (side limit s 1) → 0 < s.count a → last < s.block a
  high _ full-2 p c = absurd (omega (arith, upper_none 2 (omega arith) (omega arith)))
  high _ full-5 p c = absurd (omega (arith, upper_none 5 (omega arith) (omega arith)))
  high _ full-6 p c = omega (arith, m.owns_6.start c)

  pub low : (a : ℕ) → Full a → 0 < occurrences a (chain_of s.next limit 2) → 0 < s.count a → s.block a + s.count a ≤ suc last
  low _ full-2 p c = omega (arith, m.room, m.owns_2.count, m.owns_2.start c)
  low _ full-5 p c = absurd (omega (arith, lower_none 5 (omega arith)))
  low _ full-6 p c = absurd (omega (arith, lower_none 6 (omega arith)))

  -- ---- heads, and the free blocks

  -- no chain starts from 6 up: what is in use there has a predecessor
  pub no_head : (x : ℕ) → 6 ≤ x → one_if_head limit s.next s.block x ≡ 0
  unfolding one_if_head preds
  no_head x h = ap (λ (t : Bool). cond {A = ℕ} t 1 0) (none-and (not (eqb x 0)) _ (λ e. none-and (not (eqb (s.block x) 0)) _ (λ u.
      ne_eqb (preds limit s.next x) 0 (go x (m.which x) m.linking h (eqb-false (s.block x) 0 (not-true _ u))))))
    where
      go : (x : ℕ) → Which s x → Linking s → 6 ≤ x → s.block x ≢ 0 → preds limit s.next x ≢ 0
      go _ is_0 l h u = absurd (omega arith)
      go _ is_1 l h u = absurd (omega arith)
      go _ is_2 l h u = absurd (omega arith)
      go _ is_5 l h u = absurd (omega arith)
      go _ is_6 (direct f g) h u = absurd (u g.block)
      go _ is_6 (through_6 f v g) h u = λ z. omega (arith, z, sum-member (λ p. one_at (s.next p) 6) 1 limit (omega arith), one_at-same (s.next 1) 6 f.next)
      go _ (free a f) l h u = absurd (u f.block)

  pub free-blocks : block_count s 1 ≡ n - (4 + k)
  unfolding block_count sum_list
  free-blocks = rw list_is (go m.linking)
    where
      go : (l : Linking s) → sum_list s.count (free_list l) ≡ n - (4 + k)
      go (direct f g) = omega (arith, m.room, m.there, f.count, m.owns_2.count, m.owns_6.count, g.count)
      go (through_6 f u g) = omega (arith, m.room, m.there, f.count, m.owns_2.count, m.owns_6.count)
