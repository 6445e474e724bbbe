-- The blocks of a chain in a good state: each stands once, in this chain alone, and is not the system's.
use Rattle.std.specs.Prelude.{ℕ, ◌+◌, ◌*◌, ◌≤◌, ◌<◌, ◌≡◌, refl, ◌≢◌, Bool, List, length}
use Rattle.std.proofs.Common.{◌∙◌, arith, le-ltb, ne_eqb}
use Rattle.std.proofs.Math.Logic.{inl, inr}
use Rattle.disk.specs.Root.{slot_of}
use Rattle.rules.specs.Counting.{one_at, occurrences}
use Rattle.rules.specs.Anodes.{Anodes, limit}
use Rattle.rules.specs.Chains.{one_if_holds, system_by, system_owns, blocks_of}
use Rattle.rules.specs.Accepted.{disk_size}
use Rattle.laws.specs.Tests.{less?}
use Rattle.laws.specs.Sums.{one_at-same, one_at_other, sum-zero, sum_single, sum-member, sum_members}
use Rattle.laws.specs.Heads.{Head}
use Rattle.laws.specs.Held.{held}
use Rattle.laws.specs.Space.{Good}
use Rattle.laws.specs.Owners.{total-held}
use Rattle.laws.specs.Whole.{blocks-sum}
use Rattle.laws.specs.OwnerTable.{not_system}
use Rattle.laws.specs.TestsPassed.{slot_low}
use Rattle.frames.specs.Kept.{Unheld}

module _ {ex : ℕ → Bool} {n last : ℕ} {s : Anodes} {system hd sd : ℕ → ℕ} (g : Good limit ex n last s system hd sd) where
  -- how often block y is held under the head h
  abbrev held_by : ℕ → ℕ → ℕ
  held_by h y = held limit hd s.count s.block h y

  module _ (h : ℕ) (d : Head s.next s.block h) (y : ℕ) where
    -- it stands in the chain as often as it is held under its head
    pub occurrences-held : y < n → occurrences y (blocks_of s h) ≡ held_by h y
    unfolding occurrences
    occurrences-held l =
        blocks-sum g (λ z. one_at z y) h d
        ∙ sum_single (λ z. held_by h z * one_at z y) y n l (λ z m o. rw (one_at_other z y o) (omega arith))
        ∙ rw (one_at-same y y refl) (omega arith)

    -- a block of the chain is on the disk
    chain-below : 0 < occurrences y (blocks_of s h) → y < n
    unfolding occurrences
    chain-below p = elim (less? y n) [
      | inl l ↦ l
      | inr l ↦ absurd (omega (arith, p, blocks-sum g (λ z. one_at z y) h d, sum-zero (λ z. held_by h z * one_at z y) n (λ z m. rw (one_at_other z y (λ e. omega (arith, e, l, m))) (omega arith))))
    ]

    -- the system and the chain have it at most once together
    one_holder : y < n → system y + occurrences y (blocks_of s h) ≤ 1
    one_holder l = omega (arith, occurrences-held l, total-held g y l, sum-member (λ m. held_by m y) h limit (g.linked.view.below h d.in_use))

    -- a block stands in a chain at most once
    pub chain_once : occurrences y (blocks_of s h) ≤ 1
    chain_once = elim (less? 0 (occurrences y (blocks_of s h))) [ inl p ↦ omega (arith, one_holder (chain-below p)) | inr p ↦ omega arith ]

    -- a block of the chain is not the system's
    chain_data : 0 < occurrences y (blocks_of s h) → system y ≡ 0
    chain_data p = omega (arith, one_holder (chain-below p))

  -- a block of one chain is no block of another
  pub chains_apart : (h k : ℕ) → Head s.next s.block h → Head s.next s.block k → h ≢ k → (y : ℕ) → 0 < occurrences y (blocks_of s h) → occurrences y (blocks_of s k) ≡ 0
  chains_apart h k d e o y p =
      let l = chain-below h d y p in
      omega (
        arith,
        p,
        occurrences-held h d y l,
        occurrences-held k e y l,
        total-held g y l,
        sum_members (λ m. held_by m y) h k limit (g.linked.view.below h d.in_use) (g.linked.view.below k e.in_use) o,
      )

-- ---- in an image

-- what the system does not own is from 3 up, and no slot holds it
system_none : (img : List ℕ) (y : ℕ) → system_owns img y ≡ 0 → (3 ≤ y) × Unheld img y
unfolding system_by one_if_holds
system_none img y z =
    let l = not_system img y z in
    (l, λ s u e. omega (arith, rw (le-ltb y 3 l) at z, sum-member (one_if_holds (slot_of img) y) s 42 (slot_low img s u), held_one s u e))
  where
    held_one : (s : ℕ) → slot_of img s ≢ 0 → slot_of img s ≡ y → one_if_holds (slot_of img) y s ≡ 1
    held_one s u e = rw (ne_eqb (slot_of img s) 0 u) (one_at-same (slot_of img s) y e)

-- a block of the disk that is not the system's
pub record DataBlock (img : List ℕ) (y : ℕ) : Type 0 where
  pub above : 3 ≤ y
  pub below : y < disk_size img
  pub inside : y * 512 + 512 ≤ length img
  pub unheld : Unheld img y

-- a block of a chain is a block of the disk that is not the system's
pub chain_block : {ex : ℕ → Bool} {last : ℕ} {s : Anodes} {hd sd : ℕ → ℕ} (img : List ℕ) → Good limit ex (disk_size img) last s (system_owns img) hd sd
    → (h : ℕ) → Head s.next s.block h → (y : ℕ) → 0 < occurrences y (blocks_of s h) → DataBlock img y
unfolding disk_size
chain_block img g h d y p =
    let below = chain-below g h d y p in
    let o = system_none img y (chain_data g h d y p) in
    record { above = o.0; below = below; inside = omega arith; unheld = o.1 }
