-- A run of zeros changes nothing: what the anodes before it showed, those up to its end show too.
use Prim.Native.Nat.{ℕ, zero, suc, ◌+◌, ◌≤◌, ◌<◌}
use mathlib.Core.Path.{◌≡◌, refl, sym, ◌∙◌}
use mathlib.Core.Bool.{Bool, true, false, true≢false}
use mathlib.Core.List.{List}
use native.Mathlib.Omega.{arith}
use Rattle.rules.specs.Counting.{any_below}
use Rattle.rules.specs.Accepted.{out_of_range}
use Rattle.tables.specs.Held.{ZeroFrom}
use Rattle.anodes.specs.Loaded.{anodes_from}
use Rattle.counting.specs.Laws.{any_below_more, any_below_each, any_below-all}
use Rattle.chains.specs.Predecessors.{NotedBelow}
use Rattle.chains.specs.Endings.{EndsBelow}
use Rattle.chains.specs.Filling.{FilledBelow}
use Rattle.chains.proofs.Predecessors.{noted_skip}
use Rattle.chains.proofs.Endings.{ends_skip}
use Rattle.chains.proofs.Filling.{fill_skip}
use Rattle.chains.proofs.Laws.{zeros_range}

-- what each number of a run hands on, the run hands on
run_through : (P : ℕ → Type 0) (from k : ℕ) → ((a : ℕ) → from ≤ a → a < from + k → P a → P (a + 1)) → P from → P (from + k)
run_through P from zero step p = let e : from + 0 ≡ from = omega arith in rw e p
run_through P from (suc k) step p =
    let e : from + suc k ≡ from + k + 1 = omega arith in
    rw e (step (from + k) (omega arith) (omega arith) (run_through P from k (λ a l h. step a l (omega arith)) p))

-- a test that no number of the run passes
any_run : (test : ℕ → Bool) (from k : ℕ) → ((a : ℕ) → from ≤ a → a < from + k → test a ≡ false) → any_below test from ≡ false → any_below test (from + k) ≡ false
any_run test from k none = run_through (λ a. any_below test a ≡ false) from k (λ a l h p. any_below_more test a p (none a l h))

-- what passes below a bound passes below a larger one
pub any_later : (test : ℕ → Bool) (m n : ℕ) → m ≤ n → any_below test m ≡ true → any_below test n ≡ true
any_later test m n l e = go (any_below test n) refl where
  go : (r : Bool) → any_below test n ≡ r → any_below test n ≡ true
  go true p = p
  go false p = absurd (true≢false (sym e ∙ any_below-all test m (λ i k. any_below_each test i n (omega arith) p)))

-- 7 over free anodes
pub range_run : (c b n : List ℕ) (size from k : ℕ) → ZeroFrom c from (from + k) → ZeroFrom b from (from + k) → ZeroFrom n from (from + k)
    → any_below (out_of_range (anodes_from c b n) size) from ≡ false → any_below (out_of_range (anodes_from c b n) size) (from + k) ≡ false
range_run c b n size from k p q r = any_run (out_of_range (anodes_from c b n) size) from k (λ a l h. zeros_range c b n size a (p a l h) (q a l h) (r a l h))

-- the predecessors where none has a next
pub noted_run : (t n : List ℕ) (from k : ℕ) → ZeroFrom n from (from + k) → NotedBelow t n from → NotedBelow t n (from + k)
noted_run t n from k z = run_through (NotedBelow t n) from k (λ a l h w. noted_skip t n a w (z a l h))

-- the ends of chains over free anodes
pub ends_run : (n b m : List ℕ) (from k : ℕ) → ZeroFrom b from (from + k) → EndsBelow m n b from → EndsBelow m n b (from + k)
ends_run n b m from k z = run_through (EndsBelow m n b) from k (λ a l h w. ends_skip n b m a w (λ u. absurd (u (z a l h))))

-- the heads among free anodes
pub filled-run : (n b m : List ℕ) (from k : ℕ) → ZeroFrom b from (from + k) → FilledBelow m n b from → FilledBelow m n b (from + k)
filled-run n b m from k z = run_through (FilledBelow m n b) from k (λ a l h w. fill_skip n b m a w (λ d. d.in_use (z a l h)))
