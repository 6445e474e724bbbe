-- A chain and a run of blocks followed step by step, a table of the heads of chains, and blocks that an image has whole.
use Prim.Native.Nat.{ℕ, zero, suc, ◌+◌, ◌*◌, ◌<◌, ◌≤◌}
use Rattle.std.specs.Prelude.{◌≡◌, ◌≢◌, List, [], ◌∷◌, ◌++◌, length, get_or}
use Rattle.std.proofs.Math.Path.{refl}
use Rattle.std.proofs.Common.{sym, ap, ◌∙◌, arith}
use Rattle.std.proofs.Math.Numerals.{add-one}
use Rattle.rules.specs.Counting.{occurrences, gather}
use Rattle.rules.specs.Anodes.{Anodes, limit}
use Rattle.rules.specs.Chains.{chain_of, one_if_head, one_if_covers, run}
use Rattle.laws.specs.Bags.{occurrences-nil, occurrences-cons}
use Rattle.laws.specs.Ownership.{covers_none, covers_front}

module _ (next : ℕ → ℕ) where
  pub chain-none : (k a : ℕ) → k ≡ 0 → chain_of next k a ≡ []
  unfolding chain_of
  chain-none k a e = rw e

  pub chain-end : (k a : ℕ) → a ≡ 0 → chain_of next k a ≡ []
  unfolding chain_of
  chain-end zero a e = refl
  chain-end (suc k) a e = rw e

  pub chain_step : (k m a : ℕ) → k ≡ m + 1 → a ≢ 0 → chain_of next k a ≡ a ∷ chain_of next m (next a)
  unfolding chain_of
  chain_step k m zero e h = absurd (h refl)
  chain_step k m (suc a) e h = rw (e, add-one m)

  -- at most k anodes
  pub chain_short : (k a : ℕ) → length (chain_of next k a) ≤ k
  unfolding chain_of
  chain_short zero a = omega arith
  chain_short (suc k) zero = omega arith
  chain_short (suc k) (suc a) = omega (arith, chain_short k (next (suc a)))

-- what a chain of at most k anodes from a on gives
module _ {ℓ} {X : Type ℓ} (f : ℕ → List X) (next : ℕ → ℕ) where
  pub gathered_none : (k a : ℕ) → k ≡ 0 → gather f (chain_of next k a) ≡ []
  unfolding gather
  gathered_none k a e = rw (chain-none next k a e)

  pub gathered_end : (k a : ℕ) → a ≡ 0 → gather f (chain_of next k a) ≡ []
  unfolding gather
  gathered_end k a e = rw (chain-end next k a e)

  pub gathered_step : (k m a : ℕ) → k ≡ m + 1 → a ≢ 0 → gather f (chain_of next k a) ≡ f a ++ gather f (chain_of next m (next a))
  unfolding gather
  gathered_step k m a e n = rw (chain_step next k m a e n)

-- a run of blocks begins with its first
pub run_none : (b n : ℕ) → n ≡ 0 → run b n ≡ []
unfolding run
run_none b n e = rw e

pub run_step : (b n m : ℕ) → n ≡ m + 1 → run b n ≡ b ∷ run (b + 1) m
unfolding run
run_step b n m e = rw (e, add-one m, add-one b)

-- and falls into two at any place
pub run_split : (b c d : ℕ) → run b (c + d) ≡ run b c ++ run (b + c) d
unfolding run
run_split b zero d = let e : b + 0 ≡ b = omega arith in let f : 0 + d ≡ d = omega arith in rw (e, f)
run_split b (suc c) d = let e : b + suc c ≡ suc b + c = omega arith in let f : suc c + d ≡ suc (c + d) = omega arith in rw (e, f) (ap (λ (l : List ℕ). b ∷ l) (run_split (suc b) c d))

-- it has each block that it covers once, and as many as it counts
pub occurrences-run : (b c x : ℕ) → occurrences x (run b c) ≡ one_if_covers c b x
unfolding run
occurrences-run b zero x = occurrences-nil x ∙ sym (covers_none b x)
occurrences-run b (suc c) x = omega (arith, occurrences-cons x b (run (suc b) c), occurrences-run (suc b) c x, covers_front c b x)

pub length_run : (b c : ℕ) → length (run b c) ≡ c
unfolding run
length_run b zero = refl
length_run b (suc c) = ap suc (length_run (suc b) c)

-- a table in which exactly the heads of chains stand for themselves, from 6 up
abbrev pub HeadTable : List ℕ → Anodes → Type 0
HeadTable t s =
    (a : ℕ) → 6 ≤ a → a < limit
    → (get_or t a 0 ≡ a → one_if_head limit s.next s.block a ≡ 1) × (one_if_head limit s.next s.block a ≡ 1 → get_or t a 0 ≡ a)

-- the image has each of these blocks whole
abbrev pub Inside : List ℕ → List ℕ → Type 0
Inside img ys = (y : ℕ) → 0 < occurrences y ys → y * 512 + 512 ≤ length img
