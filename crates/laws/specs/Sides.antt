-- The two sides of the free list in a good state.
use Rattle.std.specs.Prelude.{ℕ, ◌<◌, ◌≡◌, ◌≢◌, ◌⊎◌, Bool}
use Rattle.std.proofs.Common.{sym, ap, ◌∙◌, inl, inr}
use Rattle.rules.specs.Counting.{occurrences, last_of}
use Rattle.rules.specs.Anodes.{Anodes}
use Rattle.rules.specs.Chains.{cut, side}
use Rattle.laws.specs.Tests.{same?}
use Rattle.laws.specs.Bags.{last_on}
use Rattle.laws.specs.Segments.{Chain}
use Rattle.laws.specs.Links.{Linked}
use Rattle.laws.specs.Heads.{Head, chain_ind, head_chain, head_of_is, seg_head}
use Rattle.laws.specs.Cut.{cut_cases, cut_other, cut-linked, cut_head, cut_head_2}
use Rattle.laws.specs.Space.{Good, head_1}

-- the heads of the two sides: 1 above last reserved, 2 up to it
abbrev pub SideHead : ℕ → Type 0
SideHead m = (m ≡ 1) ⊎ (m ≡ 2)

module _ {A : ℕ} {ex : ℕ → Bool} {n last : ℕ} {s : Anodes} {system hd sd : ℕ → ℕ} (g : Good A ex n last s system hd sd) where
  ck : Linked A (cut s.next) s.block
  ck = cut-linked g.linked

  pub head_of_1 : hd 1 ≡ 1
  head_of_1 = g.heads.at_head 1 (head_1 g)

  -- an anode has its side's head for head
  side_head : (a : ℕ) → a ≢ 0 → s.block a ≢ 0 → hd a ≡ hd (sd a)
  side_head = chain_ind ck (λ a. hd a ≡ hd (sd a))
      (λ a d. ap hd (sym (g.sides.at_head a d)))
      (λ a h q. elim (cut_cases s.next a) [
        | inl c ↦ absurd (h c.1)
        | inr c ↦ ap hd c.1 ∙ g.heads.along a (rw c.1 at h) ∙ q ∙ ap hd (sym (g.sides.along a h))
      ])

  -- so one of either side is on the free list
  pub side-free : (m : ℕ) → SideHead m → (a : ℕ) → a ≢ 0 → s.block a ≢ 0 → sd a ≡ m → hd a ≡ 1
  side-free m (inl e) a a0 u q = side_head a a0 u ∙ ap hd (q ∙ e) ∙ head_of_1
  side-free m (inr e) a a0 u q = side_head a a0 u ∙ ap hd (q ∙ e) ∙ g.two_on

  -- and one of the free list is on either side
  pub on_side : (a : ℕ) → a ≢ 0 → s.block a ≢ 0 → hd a ≡ 1 → SideHead (sd a)
  on_side a a0 u e = elim (same? (sd a) 2) [
    | inl q ↦ inr q
    | inr q ↦ inl (sym (g.heads.at_head (sd a) (record { pos = d.pos; in_use = d.in_use; no_pred = λ p i. d.no_pred p (cut_other s.next p (λ j. q (sym i ∙ j)) ∙ i) }))
        ∙ sym (side_head a a0 u) ∙ e)
  ]
    where
      d : Head (cut s.next) s.block (sd a)
      d = head_of_is ck g.sides a a0 u

  -- the two sides
  side-start : (m : ℕ) → SideHead m → Head (cut s.next) s.block m
  side-start m (inl e) = rw e (cut_head (head_1 g))
  side-start m (inr e) = rw e (cut_head_2 s.next g.fixed.block_2)

  pub side-chain : (m : ℕ) → SideHead m → Chain (cut s.next) m (side A s m)
  unfolding side
  side-chain m o = head_chain ck m (side-start m o)

  pub side_sd : (m : ℕ) → SideHead m → (x : ℕ) → 0 < occurrences x (side A s m) → sd x ≡ m
  unfolding side
  side_sd m o x c =
      let d = side-start m o in
      seg_head ck g.sides m 0 (side A s m) (head_chain ck m d) x c ∙ g.sides.at_head m d

  -- the last anode of a side is on it, and so in use and not 0
  module _ (m : ℕ) (o : SideHead m) where
    pub side-last : sd (last_of m (side A s m)) ≡ m
    side-last = elim (last_on m (side A s m)) [
      | inl c ↦ ap sd c ∙ g.sides.at_head m (side-start m o)
      | inr c ↦ side_sd m o (last_of m (side A s m)) c
    ]

    pub side-last_used : s.block (last_of m (side A s m)) ≢ 0
    side-last_used q = (side-start m o).pos (sym side-last ∙ g.sides.off (last_of m (side A s m)) q)

    pub side-last-0 : last_of m (side A s m) ≢ 0
    side-last-0 q = (side-start m o).pos (sym side-last ∙ ap sd q ∙ g.sides.off_zero)
