-- What the longest run and the number of runs mean, for any test of blocks.
use Prim.Native.Nat.{ℕ, zero, suc, ◌+◌, ◌-◌, ◌<◌, ◌≤◌}
use Rattle.std.specs.Prelude.{◌≡◌, ◌≢◌, ◌⊎◌, Bool, true, false, ◌&&◌, leb, ltb}
use Rattle.std.proofs.Math.Path.{refl, sym}
use Rattle.std.proofs.Common.{ap, ◌∙◌, inl, inr, true≢false, arith, le-leb, lt-ltb, le-ltb}
use Rattle.std.proofs.Math.Bool.{and-false}
use Rattle.std.proofs.lemmas.Bool.{lt-leb}
use Rattle.laws.specs.Tests.{same?, less?}
use Rattle.report.specs.Runs.{passes_before, starts_run, runs_in, ending_run, longest_run}
use Rattle.report.proofs.Passes.{runs_none, runs_more, runs_start, runs_same, ending_more, ending_ends, longest_more}

-- a test holds or not
true_or_false : (b : Bool) → (b ≡ true) ⊎ (b ≡ false)
true_or_false true = inl refl
true_or_false false = inr refl

module _ (test : ℕ → Bool) where
  -- ---- the longest run

  -- k blocks from s on pass
  abbrev pub AllPass : ℕ → ℕ → Type 0
  AllPass s k = (x : ℕ) → s ≤ x → x < s + k → test x ≡ true

  ending_none : ending_run test 0 ≡ 0
  unfolding ending_run
  ending_none = refl

  ending_few : (n : ℕ) → ending_run test n ≤ n
  ending_few zero = omega (arith, ending_none)
  ending_few (suc n) = elim (true_or_false (test n)) [
    | inl e ↦ omega (arith, ending_more test n e, ending_few n)
    | inr e ↦ omega (arith, ending_ends test n e)
  ]

  -- the blocks of a run that ends below n pass
  ending_pass : (n x : ℕ) → n ≤ x + ending_run test n → x < n → test x ≡ true
  ending_pass zero x from below = absurd (omega arith)
  ending_pass (suc n) x from below = elim (true_or_false (test n)) [
    | inl e ↦ elim (same? x n) [
      | inl q ↦ ap test q ∙ e
      | inr q ↦ ending_pass n x (omega (arith, from, ending_more test n e)) (omega (arith, below, q))
    ]
    | inr e ↦ absurd (omega (arith, from, below, ending_ends test n e))
  ]

  -- a run that ends there is no longer
  ending_most : (s k : ℕ) → AllPass s k → k ≤ ending_run test (s + k)
  ending_most s zero all = omega arith
  ending_most s (suc k) all =
      let at : s + suc k ≡ suc (s + k) = omega arith in
      rw at (omega (arith, ending_more test (s + k) (all (s + k) (omega arith) (omega arith)), ending_most s k (λ x a b. all x a (omega arith))))

  longest_none : longest_run test 0 ≡ 0
  unfolding longest_run
  longest_none = refl

  longest_ending : (n m : ℕ) → m ≤ n → ending_run test m ≤ longest_run test n
  longest_ending zero m l = let e : m ≡ 0 = omega arith in rw e (omega (arith, ending_none))
  longest_ending (suc n) m l = elim (same? m (suc n)) [
    | inl e ↦ rw e (omega (arith, longest_more test n))
    | inr d ↦ omega (arith, longest_more test n, longest_ending n m (omega arith))
  ]

  -- no run below n is longer than the longest
  pub longest_most : (n s k : ℕ) → s + k ≤ n → AllPass s k → k ≤ longest_run test n
  longest_most n s k l all = omega (arith, ending_most s k all, longest_ending n (s + k) l)

  -- some run ends as long
  attained : (n : ℕ) → (m : ℕ) × (m ≤ n) × (ending_run test m ≡ longest_run test n)
  attained zero = (0, omega arith, ending_none ∙ sym longest_none)
  attained (suc n) =
      let r = attained n in
      elim (less? (longest_run test n) (ending_run test (suc n))) [
        | inl l ↦ (suc n, omega arith, omega (arith, longest_more test n))
        | inr l ↦ (r.0, omega (arith, r.1), omega (arith, r.2, longest_more test n))
      ]

  -- a run below n with so many blocks
  pub record RunOf (n k : ℕ) : Type 0 where
    pub start : ℕ
    pub inside : start + k ≤ n
    pub all : AllPass start k

  -- there is a run as long
  pub longest_there : (n : ℕ) → RunOf n (longest_run test n)
  longest_there n =
      let r = attained n in
      let few = ending_few r.0 in record {
        start = r.0 - ending_run test r.0;
        inside = omega (arith, r.1, r.2, few);
        all = λ x a b. ending_pass r.0 x (omega (arith, a)) (omega (arith, b, r.2, few));
      }

  -- ---- no run, one run, more than one

  -- no block below n passes
  abbrev pub NonePass : ℕ → Type 0
  NonePass n = (x : ℕ) → x < n → test x ≡ false

  -- the blocks below n that pass are those of one run: contiguous, and at least one
  pub record Contiguous (n : ℕ) : Type 0 where
    pub start : ℕ
    pub len : ℕ
    pub some : 0 < len
    pub inside : start + len ≤ n
    pub exactly : (x : ℕ) → x < n → test x ≡ leb start x && ltb x (start + len)

  -- between two blocks that pass lies one that does not
  pub record Apart (n : ℕ) : Type 0 where
    pub low : ℕ
    pub mid : ℕ
    pub high : ℕ
    pub above_low : low < mid
    pub below_high : mid < high
    pub inside : high < n
    pub low_passes : test low ≡ true
    pub mid_fails : test mid ≡ false
    pub high_passes : test high ≡ true

  module _ (n : ℕ) (c : Contiguous n) where
    in_run : (x : ℕ) → c.start ≤ x → x < c.start + c.len → test x ≡ true
    in_run x a b = c.exactly x (omega (arith, b, c.inside)) ∙ rw (le-leb c.start x a, lt-ltb x (c.start + c.len) b)

    behind-run : (x : ℕ) → x < n → c.start + c.len ≤ x → test x ≡ false
    behind-run x l a = c.exactly x l ∙ rw (le-ltb x (c.start + c.len) a) (and-false (leb c.start x))

    run_from : (x : ℕ) → x < n → test x ≡ true → c.start ≤ x
    run_from x l t = elim (less? x c.start) [
      | inl b ↦ absurd (true≢false (sym t ∙ c.exactly x l ∙ rw (lt-leb c.start x b)))
      | inr b ↦ b
    ]

    run_to : (x : ℕ) → x < n → test x ≡ true → x < c.start + c.len
    run_to x l t = elim (less? x (c.start + c.len)) [
      | inl b ↦ b
      | inr b ↦ absurd (true≢false (sym t ∙ behind-run x l b))
    ]

    not_apart : Apart n → ⊥
    not_apart g =
        let h = g.inside in
        let a = run_from g.low (omega (arith, g.above_low, g.below_high, h)) g.low_passes in
        let b = run_to g.high h g.high_passes in
        true≢false (sym (in_run g.mid (omega (arith, a, g.above_low)) (omega (arith, b, g.below_high))) ∙ g.mid_fails)

    some_pass : NonePass n → ⊥
    some_pass none = true≢false (sym (in_run c.start (omega arith) (omega (arith, c.some))) ∙ none c.start (omega (arith, c.some, c.inside)))

  starts_true : (n : ℕ) → test n ≡ true → passes_before test n ≡ false → starts_run test n ≡ true
  unfolding starts_run
  starts_true n t b = rw (t, b)

  starts_false : (n : ℕ) → (test n ≡ false) ⊎ (passes_before test n ≡ true) → starts_run test n ≡ false
  unfolding starts_run
  starts_false n (inl t) = rw t
  starts_false n (inr b) = rw b (and-false (test n))

  -- the block before, by its number
  before_fails : (n : ℕ) → ((x : ℕ) → n ≡ suc x → test x ≡ false) → passes_before test n ≡ false
  unfolding passes_before
  before_fails zero h = refl
  before_fails (suc n) h = h n refl

  before_passes : (n x : ℕ) → n ≡ suc x → test x ≡ true → passes_before test n ≡ true
  unfolding passes_before
  before_passes n x e t = rw e t

  -- which of the three it is, with the number of runs
  data Runs (n : ℕ) : Type 0 where
    no_run : runs_in test n ≡ 0 → NonePass n → Runs n
    one-run : runs_in test n ≡ 1 → Contiguous n → Runs n
    more_runs : 1 < runs_in test n → Apart n → Runs n

  later : (n : ℕ) → Apart n → Apart (suc n)
  later n g = record {
    low = g.low;
    mid = g.mid;
    high = g.high;
    above_low = g.above_low;
    below_high = g.below_high;
    inside = omega (arith, g.inside);
    low_passes = g.low_passes;
    mid_fails = g.mid_fails;
    high_passes = g.high_passes;
  }

  -- one block more that fails
  fails_more : (n : ℕ) → test n ≡ false → Runs n → Runs (suc n)
  fails_more n t (no_run z none) = no_run (runs_same test n (starts_false n (inl t)) ∙ z) (λ x l. elim (same? x n) [ inl e ↦ ap test e ∙ t | inr d ↦ none x (omega arith) ])
  fails_more n t (one-run z c) = one-run (runs_same test n (starts_false n (inl t)) ∙ z) (record {
    start = c.start;
    len = c.len;
    some = c.some;
    inside = omega (arith, c.inside);
    exactly = λ x l. elim (same? x n) [
      | inl e ↦ rw e (t ∙ sym (rw (le-ltb n (c.start + c.len) c.inside) (and-false (leb c.start n))))
      | inr d ↦ c.exactly x (omega arith)
    ];
  })
  fails_more n t (more_runs m g) = more_runs (omega (arith, m, runs_same test n (starts_false n (inl t)))) (later n g)

  -- that passes: the first of all
  first_run : (n : ℕ) → test n ≡ true → NonePass n → Contiguous (suc n)
  first_run n t none = record {
    start = n;
    len = 1;
    some = omega arith;
    inside = omega arith;
    exactly = λ x l. elim (same? x n) [
      | inl e ↦ rw e (t ∙ sym (rw (le-leb n n (omega arith), lt-ltb n (n + 1) (omega arith))))
      | inr d ↦ none x (omega arith) ∙ sym (rw (lt-leb n x (omega arith)))
    ];
  }

  -- the next of the run
  longer-run : (n : ℕ) → test n ≡ true → (c : Contiguous n) → c.start + c.len ≡ n → Contiguous (suc n)
  longer-run n t c e = record {
    start = c.start;
    len = suc c.len;
    some = omega arith;
    inside = omega (arith, e);
    exactly = λ x l. elim (same? x n) [
      | inl q ↦ rw q (t ∙ sym (rw (le-leb c.start n (omega (arith, e)), lt-ltb n (c.start + suc c.len) (omega (arith, e)))))
      | inr d ↦ c.exactly x (omega arith) ∙ rw (lt-ltb x (c.start + c.len) (omega (arith, e, l, d)), lt-ltb x (c.start + suc c.len) (omega (arith, e, l)))
    ];
  }

  -- behind a gap
  apart_behind : (n : ℕ) → test n ≡ true → (c : Contiguous n) → c.start + c.len < n → Apart (suc n)
  apart_behind n t c l = record {
    low = c.start;
    mid = c.start + c.len;
    high = n;
    above_low = omega (arith, c.some);
    below_high = l;
    inside = omega arith;
    low_passes = in_run n c c.start (omega arith) (omega (arith, c.some));
    mid_fails = behind-run n c (c.start + c.len) l (omega arith);
    high_passes = t;
  }

  passes_more : (n : ℕ) → test n ≡ true → Runs n → Runs (suc n)
  passes_more n t (no_run z none) =
      one-run (omega (arith, z, runs_start test n (starts_true n t (before_fails n (λ x e. none x (omega (arith, e))))))) (first_run n t none)
  passes_more n t (one-run z c) = elim (same? (c.start + c.len) n) [
    | inl e ↦ (
        let before : n ≡ suc (n - 1) = omega (arith, e, c.some) in
        let passed = in_run n c (n - 1) (omega (arith, e, c.some)) (omega (arith, e, c.some)) in
        one-run (runs_same test n (starts_false n (inr (before_passes n (n - 1) before passed))) ∙ z) (longer-run n t c e))
    | inr d ↦ (
        let l : c.start + c.len < n = omega (arith, d, c.inside) in
        more_runs (omega (arith, z, runs_start test n (starts_true n t (before_fails n (λ x e. behind-run n c x (omega (arith, e)) (omega (arith, e, l)))))))
        (apart_behind n t c l))
  ]
  passes_more n t (more_runs m g) = more_runs (go (starts_run test n) refl) (later n g)
    where
      go : (b : Bool) → starts_run test n ≡ b → 1 < runs_in test (suc n)
      go true e = omega (arith, m, runs_start test n e)
      go false e = omega (arith, m, runs_same test n e)

  runs_of : (n : ℕ) → Runs n
  runs_of zero = no_run (runs_none test) (λ x l. absurd (omega arith))
  runs_of (suc n) = elim (true_or_false (test n)) [ inl t ↦ passes_more n t (runs_of n) | inr t ↦ fails_more n t (runs_of n) ]

  none-zero : (n : ℕ) → NonePass n → runs_in test n ≡ 0
  none-zero n none = go (runs_of n)
    where
      go : Runs n → runs_in test n ≡ 0
      go (no_run z p) = z
      go (one-run z c) = absurd (some_pass n c none)
      go (more_runs m g) = absurd (true≢false (sym g.high_passes ∙ none g.high g.inside))

  zero-none : (n : ℕ) → runs_in test n ≡ 0 → NonePass n
  zero-none n z = go (runs_of n)
    where
      go : Runs n → NonePass n
      go (no_run e p) = p
      go (one-run e c) = absurd (omega arith)
      go (more_runs m g) = absurd (omega arith)

  -- no run exactly if no block passes
  pub no_run_exactly : (n : ℕ) → (runs_in test n ≡ 0 → NonePass n) × (NonePass n → runs_in test n ≡ 0)
  no_run_exactly n = (zero-none n, none-zero n)

  -- one run exactly if the blocks that pass are contiguous
  pub one-run_exactly : (n : ℕ) → (runs_in test n ≡ 1 → Contiguous n) × (Contiguous n → runs_in test n ≡ 1)
  one-run_exactly n = (λ z. there (runs_of n) z, λ c. back (runs_of n) c)
    where
      there : Runs n → runs_in test n ≡ 1 → Contiguous n
      there (no_run e p) z = absurd (omega arith)
      there (one-run e c) z = c
      there (more_runs m g) z = absurd (omega arith)

      back : Runs n → Contiguous n → runs_in test n ≡ 1
      back (no_run e p) c = absurd (some_pass n c p)
      back (one-run e k) c = e
      back (more_runs m g) c = absurd (not_apart n c g)

  -- more than one exactly if there is a gap
  pub more_runs_exactly : (n : ℕ) → (1 < runs_in test n → Apart n) × (Apart n → 1 < runs_in test n)
  more_runs_exactly n = (λ m. there (runs_of n) m, λ g. back (runs_of n) g)
    where
      there : Runs n → 1 < runs_in test n → Apart n
      there (no_run e p) m = absurd (omega arith)
      there (one-run e c) m = absurd (omega arith)
      there (more_runs k g) m = g

      back : Runs n → Apart n → 1 < runs_in test n
      back (no_run e p) g = absurd (true≢false (sym g.high_passes ∙ p g.high g.inside))
      back (one-run e c) g = absurd (not_apart n c g)
      back (more_runs m k) g = m

-- ---- tests that agree below n

module _ (f g : ℕ → Bool) where
  before_alike : (x : ℕ) → ((y : ℕ) → y < x → f y ≡ g y) → passes_before f x ≡ passes_before g x
  unfolding passes_before
  before_alike zero h = refl
  before_alike (suc x) h = h x (omega arith)

  pub runs_alike : (n : ℕ) → ((x : ℕ) → x < n → f x ≡ g x) → runs_in f n ≡ runs_in g n
  unfolding starts_run
  runs_alike zero h = runs_none f ∙ sym (runs_none g)
  runs_alike (suc n) h =
      let same : starts_run f n ≡ starts_run g n = rw (h n (omega arith), before_alike n (λ y l. h y (omega arith))) in
      rw (runs_more f n, runs_more g n, runs_alike n (λ x l. h x (omega arith)), same)

  ending_alike : (n : ℕ) → ((x : ℕ) → x < n → f x ≡ g x) → ending_run f n ≡ ending_run g n
  unfolding ending_run
  ending_alike zero h = refl
  ending_alike (suc n) h = rw (h n (omega arith), ending_alike n (λ x l. h x (omega arith)))

  pub longest_alike : (n : ℕ) → ((x : ℕ) → x < n → f x ≡ g x) → longest_run f n ≡ longest_run g n
  unfolding longest_run
  longest_alike zero h = refl
  longest_alike (suc n) h = rw (longest_alike n (λ x l. h x (omega arith)), ending_alike (suc n) h)
