-- Heads and their blocks in a good state: how many each has, and that each block is the system's or stands in the chain of exactly one head.
use Rattle.std.specs.Prelude.{ℕ, ◌+◌, ◌*◌, ◌≤◌, ◌<◌, ◌≡◌, ◌≢◌, Bool}
use Rattle.std.proofs.Math.Path.{sym}
use Rattle.std.proofs.Common.{ap, ◌∙◌}
use Rattle.std.proofs.Math.Logic.{inl, inr}
use native.Mathlib.Omega.{arith}
use Rattle.rules.specs.Counting.{one_at, sum_below, sum_list, last_of}
use Rattle.rules.specs.Anodes.{Anodes}
use Rattle.rules.specs.Chains.{chain_of, owners}
use Rattle.laws.specs.Tests.{same?, less?}
use Rattle.laws.specs.Sums.{one_at_other, sum-zero, sum_one}
use Rattle.laws.specs.Bags.{last_on}
use Rattle.laws.specs.Heads.{Head, head_of_is, chain-sum}
use Rattle.laws.specs.Blocks.{blocks}
use Rattle.laws.specs.Held.{held, held_all, held_some}
use Rattle.laws.specs.Space.{Good, on_chain_lem}

module _ {A : ℕ} {ex : ℕ → Bool} {n last : ℕ} {s : Anodes} {system hd sd : ℕ → ℕ} (g : Good A ex n last s system hd sd) where
  pub hd_below : (a : ℕ) → hd a < A
  hd_below a = elim (same? a 0) [
    | inl e ↦ rw (e, g.heads.off_zero) some
    | inr e ↦ elim (same? (s.block a) 0) [
      | inl u ↦ rw (g.heads.off a u) some
      | inr u ↦ g.linked.view.below (hd a) (head_of_is g.linked g.heads a e u).in_use
    ]
  ]
    where
      some : 0 < A
      some = omega (arith, g.linked.view.below 5 g.fixed.block_5)

  -- an anode x with a block is in use, its blocks are on the disk, and it is neither 0 nor 1
  module _ (x : ℕ) (full : 0 < s.count x) where
    pub full_used : s.block x ≢ 0
    full_used z = omega (arith, full, g.present.free-none x z)

    pub full_inside : s.block x + s.count x ≤ n
    full_inside = g.own.fits x (g.linked.view.below x full_used) full

    pub full-0 : x ≢ 0
    full-0 e = omega (arith, full, ap s.count e, g.fixed.count-0)

    pub full-1 : x ≢ 1
    full-1 e = omega (arith, full, ap s.count e, g.fixed.count-1)

  -- what has a head is in use
  pub headed_used : (a : ℕ) → hd a ≢ 0 → s.block a ≢ 0
  headed_used a q z = q (g.heads.off a z)

  -- an anode that the table gives itself for head is one
  pub self_headed : (m : ℕ) → m ≢ 0 → hd m ≡ m → Head s.next s.block m
  self_headed m m0 e = rw e at (head_of_is g.linked g.heads m m0 (headed_used m (λ z. m0 (sym e ∙ z))))

  -- the last anode of a head's chain has that head, and so is in use and not 0
  module _ (h : ℕ) (d : Head s.next s.block h) where
    pub last_head : hd (last_of h (chain_of s.next A h)) ≡ h
    last_head = elim (last_on h (chain_of s.next A h)) [
      | inl c ↦ ap hd c ∙ g.heads.at_head h d
      | inr c ↦ (on_chain_lem g h d (last_of h (chain_of s.next A h)) c).0
    ]

    pub last_used : s.block (last_of h (chain_of s.next A h)) ≢ 0
    last_used = headed_used (last_of h (chain_of s.next A h)) (λ q. d.pos (sym last_head ∙ q))

    pub last-0 : last_of h (chain_of s.next A h) ≢ 0
    last-0 q = d.pos (sym last_head ∙ ap hd q ∙ g.heads.off_zero)

  -- what is no head has no blocks
  pub blocks-none : (h : ℕ) → (Head s.next s.block h → ⊥) → blocks A hd s.count h ≡ 0
  unfolding blocks
  blocks-none h none = sum-zero (λ a. one_at (hd a) h * s.count a) A (λ a l. elim (less? 0 (s.count a)) [
    | inl p ↦ rw (one_at_other (hd a) h (λ q. none (rw q at (head_of_is g.linked g.heads a (full-0 a p) (full_used a p))))) (omega arith)
    | inr p ↦ (let z : s.count a ≡ 0 = omega arith in rw z (omega arith))
  ])

  -- and a head's are those of its chain
  pub blocks-chain : (h : ℕ) → Head s.next s.block h → blocks A hd s.count h ≡ sum_list s.count (chain_of s.next A h)
  unfolding blocks
  blocks-chain h d = sym (chain-sum g.linked g.heads s.count h d)

  -- a block of the disk is the system's, or one head holds it
  pub total-held : (y : ℕ) → y < n → system y + sum_below (λ m. held A hd s.count s.block m y) A ≡ 1
  unfolding owners
  total-held y l = omega (arith, held_all A hd s.count s.block hd_below y, g.own.not-two y l, g.own.not_none y l)

  -- who holds a block is a head
  pub holder : (m y : ℕ) → 0 < held A hd s.count s.block m y → Head s.next s.block m
  holder m y p =
      let (a, l, e, from, to) = held_some A hd s.count s.block m y p in
      let full : 0 < s.count a = omega (arith, from, to) in
      rw e at (head_of_is g.linked g.heads a (full-0 a full) (full_used a full))

  -- a block that is not the system's has one owner
  pub owner : (y : ℕ) → y < n → system y ≡ 0 →
      (m : ℕ) × (m < A) × (held A hd s.count s.block m y ≡ 1) × ((j : ℕ) → j < A → j ≢ m → held A hd s.count s.block j y ≡ 0) × Head s.next s.block m
  owner y l z =
      let q = sum_one (λ m. held A hd s.count s.block m y) A (omega (arith, total-held y l, z)) in
      (q.0, q.1, q.2, q.3, holder q.0 y (omega (arith, q.2)))
