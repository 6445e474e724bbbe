-- How many blocks the chain of each head has, and what a change of one anode does to that.
use Rattle.std.specs.Prelude.{ℕ, ◌+◌, ◌*◌, ◌<◌, ◌≡◌, refl, ◌≢◌}
use Rattle.std.proofs.Common.{◌∙◌, arith}
use Rattle.rules.specs.Counting.{one_at, sum_below, changed}
use Rattle.laws.specs.Sums.{changed-same, changed_other, sum_congr, sum_swap, sum_update, sum-at}

-- the blocks that the table hd gives the head h: the sum of `count` over its anodes
unfoldable pub blocks : ℕ → (ℕ → ℕ) → (ℕ → ℕ) → ℕ → ℕ
blocks A hd count h = sum_below (λ a. one_at (hd a) h * count a) A

-- each anode's blocks are its head's
pub blocks-all : (A : ℕ) (hd count : ℕ → ℕ) → ((a : ℕ) → hd a < A) → sum_below (blocks A hd count) A ≡ sum_below count A
unfolding blocks
blocks-all A hd count low =
    sum_swap (λ h a. one_at (hd a) h * count a) A A
    ∙ sum_congr (λ a. sum_below (λ h. one_at (hd a) h * count a) A) count A (λ a l. sum-at (hd a) (count a) A (low a))

-- heads and counts that change at x alone
pub blocks-changed : (A : ℕ) (hd count hd' count' : ℕ → ℕ) (x : ℕ) → x < A → ((a : ℕ) → a ≢ x → hd' a ≡ hd a) → ((a : ℕ) → a ≢ x → count' a ≡ count a) → (h : ℕ) →
    blocks A hd' count' h + one_at (hd x) h * count x ≡ blocks A hd count h + one_at (hd' x) h * count' x
unfolding blocks
blocks-changed A hd count hd' count' x l same_hd same_count h =
    sum_update (λ a. one_at (hd a) h * count a) (λ a. one_at (hd' a) h * count' a) x A l (λ j m e. rw (same_hd j e, same_count j e))

module _ (A : ℕ) (hd count : ℕ → ℕ) where
  -- x keeps its head and has c blocks
  pub blocks_rewrite : (x c : ℕ) → x < A → (h : ℕ) → blocks A hd (changed count x c) h + one_at (hd x) h * count x ≡ blocks A hd count h + one_at (hd x) h * c
  blocks_rewrite x c l h = rw (changed-same count x c) at (blocks-changed A hd count hd (changed count x c) x l (λ a e. refl) (changed_other count x c) h)

  -- x, with no block, comes to the head m with c blocks (a fresh anode)
  pub blocks_fresh : (x m c : ℕ) → x < A → count x ≡ 0 → (h : ℕ) → blocks A (changed hd x m) (changed count x c) h ≡ blocks A hd count h + one_at m h * c
  blocks_fresh x m c l z h = omega (
    arith,
    rw (changed-same count x c, changed-same hd x m, z) at (blocks-changed A hd count (changed hd x m) (changed count x c) x l (changed_other hd x m) (changed_other count x c) h),
  )
