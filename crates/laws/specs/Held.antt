-- Which blocks the chain of each head has.
use Rattle.std.specs.Prelude.{ℕ, zero, suc, ◌+◌, ◌*◌, ◌≤◌, ◌<◌, ◌≡◌, refl, ◌≢◌}
use Rattle.std.proofs.Math.Path.{sym, ap}
use Rattle.std.proofs.Common.{◌∙◌}
use Rattle.std.proofs.Math.Logic.{inl, inr}
use native.Mathlib.Omega.{arith}
use Rattle.rules.specs.Counting.{one_at, sum_below, sum_list, gather, changed}
use Rattle.rules.specs.Chains.{chain_of, one_if_covers, run}
use Rattle.laws.specs.Tests.{less?}
use Rattle.laws.specs.Sums.{one_at_cases, changed-same, changed_other, sum_congr, sum-zero, sum-add, sum_scale, sum_factor, sum_swap, sum_some, sum_pick}
use Rattle.laws.specs.Bags.{gather-sum}
use Rattle.laws.specs.Ownership.{covers_cases, covers_none, covers_front}
use Rattle.laws.specs.Links.{Linked}
use Rattle.laws.specs.Heads.{Head, Heads, chain-sum}
use Rattle.laws.specs.Blocks.{blocks, blocks-changed, blocks-all}

-- how often the anodes that the table gives the head m cover the block y
unfoldable pub held : ℕ → (ℕ → ℕ) → (ℕ → ℕ) → (ℕ → ℕ) → ℕ → ℕ → ℕ
held A hd count block m y = blocks A hd (λ a. one_if_covers (count a) (block a) y) m

module _ (A : ℕ) (hd count block : ℕ → ℕ) where
  -- where x becomes (c, b), what another anode covers is the same
  covers_other : (x c b y a : ℕ) → a ≢ x → one_if_covers (changed count x c a) (changed block x b a) y ≡ one_if_covers (count a) (block a) y
  covers_other x c b y a e = rw (changed_other count x c a e, changed_other block x b a e)

  -- x keeps its head and becomes (c, b)
  pub held_rewrite : (x c b : ℕ) → x < A → (m y : ℕ) →
      held A hd (changed count x c) (changed block x b) m y + one_at (hd x) m * one_if_covers (count x) (block x) y ≡ held A hd count block m y + one_at (hd x) m * one_if_covers c b y
  unfolding held
  held_rewrite x c b l m y = rw (changed-same count x c, changed-same block x b) at
      (blocks-changed A hd (λ a. one_if_covers (count a) (block a) y) hd (λ a. one_if_covers (changed count x c a) (changed block x b a) y) x l (λ a e. refl) (covers_other x c b y) m)

  -- x, with no block, comes to the head h as (c, b)
  pub held_fresh : (x h c b : ℕ) → x < A → count x ≡ 0 → (m y : ℕ) →
      held A (changed hd x h) (changed count x c) (changed block x b) m y ≡ held A hd count block m y + one_at h m * one_if_covers c b y
  unfolding held
  held_fresh x h c b l z m y = omega (
    arith,
    rw (changed-same count x c, changed-same block x b, changed-same hd x h, z, covers_none (block x) y) at
        (blocks-changed A hd (λ a. one_if_covers (count a) (block a) y) (changed hd x h) (λ a. one_if_covers (changed count x c a) (changed block x b a) y) x l (changed_other hd x h) (covers_other x c b y) m),
  )

  -- each block is covered as often as it is held
  pub held_all : ((a : ℕ) → hd a < A) → (y : ℕ) → sum_below (λ m. held A hd count block m y) A ≡ sum_below (λ a. one_if_covers (count a) (block a) y) A
  unfolding held
  held_all low y = blocks-all A hd (λ a. one_if_covers (count a) (block a) y) low

  -- what is held is covered by an anode of that head
  pub held_some : (m y : ℕ) → 0 < held A hd count block m y → (a : ℕ) × (a < A) × (hd a ≡ m) × (block a ≤ y) × (y < block a + count a)
  unfolding held blocks
  held_some m y p =
      let (a, l, q) = sum_some (λ a. one_at (hd a) m * one_if_covers (count a) (block a) y) A p in
      elim (one_at_cases (hd a) m) [
        | inr e ↦ absurd (omega (arith, rw e.1 at q))
        | inl e ↦ elim (covers_cases (count a) (block a) y) [ inl c ↦ (a, l, e.0, c.0, c.1) | inr c ↦ absurd (omega (arith, rw c.1 at q)) ]
      ]

-- ---- the blocks of a chain in its order

run-sum : (f : ℕ → ℕ) (b c n : ℕ) → b + c ≤ n → sum_list f (run b c) ≡ sum_below (λ y. one_if_covers c b y * f y) n
unfolding run sum_list
run-sum f b zero n l = sym (sum-zero (λ y. one_if_covers 0 b y * f y) n (λ y q. rw (covers_none b y) (omega arith)))
run-sum f b (suc c) n l =
    omega (
      arith,
      run-sum f (suc b) c n (omega arith),
      sum_congr (λ y. one_if_covers (suc c) b y * f y) (λ y. one_at b y * f y + one_if_covers c (suc b) y * f y) n
          (λ y q. rw (covers_front c b y) (omega arith)),
      sum-add (λ y. one_at b y * f y) (λ y. one_if_covers c (suc b) y * f y) n,
      sum_pick f b n (omega arith),
    )

module _ {A : ℕ} {next block : ℕ → ℕ} (k : Linked A next block) {hd : ℕ → ℕ} (t : Heads next block hd) (count : ℕ → ℕ) (n : ℕ)
    (fits : (a : ℕ) → a < A → 0 < count a → block a + count a ≤ n) where
  each_run : (f : ℕ → ℕ) (a : ℕ) → a < A → sum_list f (run (block a) (count a)) ≡ sum_below (λ y. one_if_covers (count a) (block a) y * f y) n
  unfolding run sum_list
  each_run f a l = elim (less? 0 (count a)) [
    | inl p ↦ run-sum f (block a) (count a) n (fits a l p)
    | inr p ↦ (let none : count a ≡ 0 = omega arith in rw none (sym (sum-zero (λ y. one_if_covers 0 (block a) y * f y) n (λ y q. rw (covers_none (block a) y) (omega arith)))))
  ]

  -- a sum over the blocks of a chain, in its order, is one over all blocks
  pub chain-blocks : (f : ℕ → ℕ) (h : ℕ) → Head next block h → sum_list f (gather (λ a. run (block a) (count a)) (chain_of next A h)) ≡ sum_below (λ y. held A hd count block h y * f y) n
  unfolding held blocks
  chain-blocks f h d =
      gather-sum (λ a. run (block a) (count a)) f (chain_of next A h)
      ∙ chain-sum k t (λ a. sum_list f (run (block a) (count a))) h d
      ∙ sum_congr (λ a. one_at (hd a) h * sum_list f (run (block a) (count a))) (λ a. sum_below (λ y. one_at (hd a) h * (one_if_covers (count a) (block a) y * f y)) n) A
      (λ a l. ap (λ (q : ℕ). one_at (hd a) h * q) (each_run f a l) ∙ sym (sum_scale (λ y. one_if_covers (count a) (block a) y * f y) (one_at (hd a) h) n))
      ∙ sum_swap (λ a y. one_at (hd a) h * (one_if_covers (count a) (block a) y * f y)) A n
      ∙ sum_congr (λ y. sum_below (λ a. one_at (hd a) h * (one_if_covers (count a) (block a) y * f y)) A) (λ y. sum_below (λ a. one_at (hd a) h * one_if_covers (count a) (block a) y) A * f y) n (λ y q. sum_factor (λ a. one_at (hd a) h) (λ a. one_if_covers (count a) (block a) y) (f y) A)
