-- Who owns a block: what an extent covers, and that each block has one owner, which a move of blocks keeps.
use Rattle.std.specs.Prelude.{ℕ, zero, suc, ◌+◌, ◌≤◌, ◌<◌, ◌≡◌, refl, ◌≢◌, ◌⊎◌, ◌&&◌, leb, ltb}
use Rattle.std.proofs.Common.{sym, ◌∙◌, leb→le, le→leb, ltb→lt, lt→ltb}
use Rattle.std.proofs.Math.Logic.{inl, inr}
use native.Mathlib.Omega.{arith}
use Rattle.rules.specs.Counting.{one_at, sum_below, changed}
use Rattle.rules.specs.Chains.{one_if_covers, owners}
use Rattle.laws.specs.Tests.{same?, less?, cond_cases, both, and}
use Rattle.laws.specs.Sums.{one_at_cases, changed-same, changed_other, sum_congr, sum_const, sum-zero, sum-add, sum_swap, sum_update, sum_members, sum-one_at}

pub covers_cases : (c b x : ℕ) → ((b ≤ x) × (x < b + c) × (one_if_covers c b x ≡ 1)) ⊎ ((b ≤ x → x < b + c → ⊥) × (one_if_covers c b x ≡ 0))
unfolding one_if_covers
covers_cases c b x = elim (cond_cases {A = ℕ} (leb b x && ltb x (b + c)) 1 0) [
  | inl h ↦ (let p = both (leb b x) (ltb x (b + c)) h.0 in inl (leb→le b x p.0, ltb→lt x (b + c) p.1, h.1))
  | inr h ↦ inr (λ l m. h.0 (and (leb b x) (ltb x (b + c)) (le→leb b x l) (lt→ltb x (b + c) m)), h.1)
]

pub covers_in : (c b x : ℕ) → b ≤ x → x < b + c → one_if_covers c b x ≡ 1
covers_in c b x l m = elim (covers_cases c b x) [ inl h ↦ h.2 | inr h ↦ absurd (h.0 l m) ]

pub covers_under : (c b x : ℕ) → x < b → one_if_covers c b x ≡ 0
covers_under c b x l = elim (covers_cases c b x) [ inl h ↦ absurd (omega arith) | inr h ↦ h.1 ]

pub covers_over : (c b x : ℕ) → b + c ≤ x → one_if_covers c b x ≡ 0
covers_over c b x l = elim (covers_cases c b x) [ inl h ↦ absurd (omega arith) | inr h ↦ h.1 ]

pub covers_none : (b x : ℕ) → one_if_covers 0 b x ≡ 0
covers_none b x = elim (covers_cases 0 b x) [ inl h ↦ absurd (omega arith) | inr h ↦ h.1 ]

pub covers_one : (b x : ℕ) → one_if_covers 1 b x ≡ one_at b x
covers_one b x = elim (one_at_cases b x) [
  | inl e ↦ covers_in 1 b x (omega arith) (omega arith) ∙ sym e.1
  | inr e ↦ elim (covers_cases 1 b x) [ inl c ↦ absurd (e.0 (omega arith)) | inr c ↦ c.1 ∙ sym e.1 ]
]

-- c blocks from b on, and the d behind them
pub covers_join : (c d b e f x : ℕ) → f ≡ b + c → e ≡ c + d → one_if_covers c b x + one_if_covers d f x ≡ one_if_covers e b x
covers_join c d b e f x next all = elim (less? x b) [
  | inl m ↦ omega (arith, covers_under c b x m, covers_under d f x (omega arith), covers_under e b x m)
  | inr m ↦ elim (less? x f) [
    | inl l ↦ omega (arith, covers_in c b x m (omega arith), covers_under d f x l, covers_in e b x m (omega arith))
    | inr l ↦ elim (less? x (f + d)) [
      | inl h ↦ omega (arith, covers_over c b x (omega arith), covers_in d f x l h, covers_in e b x m (omega arith))
      | inr h ↦ omega (arith, covers_over c b x (omega arith), covers_over d f x h, covers_over e b x (omega arith))
    ]
  ]
]

-- one more at its end, and at its front
pub covers_end : (c b x : ℕ) → one_if_covers (suc c) b x ≡ one_if_covers c b x + one_at (b + c) x
covers_end c b x = omega (arith, covers_join c 1 b (suc c) (b + c) x refl (omega arith), covers_one (b + c) x)

pub covers_front : (c b x : ℕ) → one_if_covers (suc c) b x ≡ one_at b x + one_if_covers c (suc b) x
covers_front c b x = omega (arith, covers_join 1 c b (suc c) (suc b) x (omega arith) (omega arith), covers_one b x)

-- how many it covers
pub covers_sum : (c b n : ℕ) → b + c ≤ n → sum_below (one_if_covers c b) n ≡ c
covers_sum zero b n l = sum-zero (one_if_covers 0 b) n (λ i m. covers_none b i)
covers_sum (suc c) b n l =
    omega (
      arith,
      sum_congr (one_if_covers (suc c) b) (λ x. one_if_covers c b x + one_at (b + c) x) n (λ i m. covers_end c b i),
      sum-add (one_if_covers c b) (one_at (b + c)) n,
      covers_sum c b n (omega arith),
      sum-one_at (b + c) n (omega arith),
    )

-- the system's blocks, with the run of c blocks from b in hand
abbrev pub handed : (ℕ → ℕ) → ℕ → ℕ → ℕ → ℕ
handed system c b x = system x + one_if_covers c b x

module _ (A : ℕ) where
  -- what refusals 10 (two owners), 11 (none) and the first half of 7 compute
  pub record EachOnce (count block system : ℕ → ℕ) (n : ℕ) : Type 0 where
    pub not-two : (x : ℕ) → x < n → owners A count block system x ≤ 1
    pub not_none : (x : ℕ) → x < n → 1 ≤ owners A count block system x
    pub fits : (a : ℕ) → a < A → 0 < count a → block a + count a ≤ n

  -- the total: counts and system blocks make the disk's size
  pub total : (count block system : ℕ → ℕ) (n : ℕ) → EachOnce count block system n → sum_below system n + sum_below count A ≡ n
  unfolding owners
  total count block system n e =
      omega (
        arith,
        sum_congr (owners A count block system) (λ x. 1) n (λ x l. omega (arith, e.not-two x l, e.not_none x l)),
        sum_const 1 n,
        sum-add system (λ x. sum_below (λ a. one_if_covers (count a) (block a) x) A) n,
        sum_swap (λ x a. one_if_covers (count a) (block a) x) n A,
        sum_congr (λ a. sum_below (λ x. one_if_covers (count a) (block a) x) n) count A each,
      )
    where
      each : (a : ℕ) → a < A → sum_below (λ x. one_if_covers (count a) (block a) x) n ≡ count a
      each a l = elim (less? 0 (count a)) [
        | inl p ↦ covers_sum (count a) (block a) n (e.fits a l p)
        | inr p ↦ (let none : count a ≡ 0 = omega arith in rw none (sum-zero (λ x. one_if_covers 0 (block a) x) n (λ i m. covers_none (block a) i)))
      ]

  -- one anode a is rewritten to (c, b): x's owners change by what a covered and covers
  owners-changed : (count block system : ℕ → ℕ) (a c b x : ℕ) → a < A → owners A (changed count a c) (changed block a b) system x + one_if_covers (count a) (block a) x ≡ owners A count block system x + one_if_covers c b x
  unfolding owners
  owners-changed count block system a c b x l =
      omega (
        arith,
        sum_update (λ i. one_if_covers (count i) (block i) x) (λ i. one_if_covers (changed count a c i) (changed block a b i) x) a A l
            (λ j m e. rw (changed_other count a c j e, changed_other block a b j e)),
        at_a,
      )
    where
      at_a : one_if_covers (changed count a c a) (changed block a b a) x ≡ one_if_covers c b x
      at_a = rw (changed-same count a c, changed-same block a b)

  -- where every anode covers what it covered, nothing changes
  pub own_same : (count block count' block' system : ℕ → ℕ) (n : ℕ) → ((a x : ℕ) → one_if_covers (count' a) (block' a) x ≡ one_if_covers (count a) (block a) x) → ((a : ℕ) → a < A → 0 < count' a → block' a + count' a ≤ n) →
      EachOnce count block system n → EachOnce count' block' system n
  unfolding owners
  own_same count block count' block' system n same f e = record {
    not-two = λ x m. omega (arith, e.not-two x m, eq x);
    not_none = λ x m. omega (arith, e.not_none x m, eq x);
    fits = f;
  }
    where
      eq : (x : ℕ) → owners A count' block' system x ≡ owners A count block system x
      eq x = omega (arith, sum_congr (λ a. one_if_covers (count' a) (block' a) x) (λ a. one_if_covers (count a) (block a) x) A (λ a l. same a x))

  module _ (count block system : ℕ → ℕ) (n a : ℕ) (l : a < A) where
    -- every move: a is rewritten to (c, b), the system's blocks (the hand with them) change to system', and the two changes make up for one another at every block
    pub move : (c b : ℕ) (system' : ℕ → ℕ) → ((x : ℕ) → system x + one_if_covers (count a) (block a) x ≡ system' x + one_if_covers c b x) → (0 < c → b + c ≤ n) →
        EachOnce count block system n → EachOnce (changed count a c) (changed block a b) system' n
    unfolding owners
    move c b system' same f e = record {
      not-two = λ x m. omega (arith, e.not-two x m, owners-changed count block system' a c b x l, same x);
      not_none = λ x m. omega (arith, e.not_none x m, owners-changed count block system' a c b x l, same x);
      fits = fits';
    }
      where
        fits' : (i : ℕ) → i < A → 0 < changed count a c i → changed block a b i + changed count a c i ≤ n
        fits' i m = elim (same? i a) [
          | inl q ↦ rw (q, changed-same count a c, changed-same block a b) f
          | inr q ↦ rw (changed_other count a c i q, changed_other block a b i q) (e.fits i m)
        ]

  -- two anodes own no block in common, and no anode owns one of the system's
  pub disjoint : (count block system : ℕ → ℕ) (n : ℕ) → EachOnce count block system n → (a b y : ℕ) → a < A → b < A → a ≢ b → y < n → system y + one_if_covers (count a) (block a) y + one_if_covers (count b) (block b) y ≤ 1
  unfolding owners
  disjoint count block system n e a b y la lb ne l = omega (arith, e.not-two y l, sum_members (λ i. one_if_covers (count i) (block i) y) a b A la lb ne)

-- the system's blocks may be written in another way
pub own_system : (A : ℕ) (count block system system' : ℕ → ℕ) (n : ℕ) → ((x : ℕ) → system' x ≡ system x) → EachOnce A count block system n → EachOnce A count block system' n
unfolding owners
own_system A count block system system' n same e = record {
  not-two = λ x l. omega (arith, e.not-two x l, same x);
  not_none = λ x l. omega (arith, e.not_none x l, same x);
  fits = e.fits;
}
