-- Entries that are not 0, and a number stored along a walk, one step after the other.
use Prim.Native.Nat.{ℕ, zero, suc, ◌+◌, ◌<◌}
use mathlib.Core.Path.{◌≡◌, refl, ◌∙◌}
use mathlib.Core.Logic.{◌≢◌, inl, inr}
use mathlib.Core.List.{List, [], ◌∷◌}
use native.Mathlib.Numerals.{add-one}
use lib.ListN.{length, get_or, set, length-set, get_or-eq_default}
use lib.Seq.{get_or-set_same, get_or-set_other}
use Rattle.rules.specs.Chains.{chain_of}
use Rattle.laws.specs.Tests.{same?, less?}
use Rattle.chains.specs.Storing.{stored_along}

-- an entry that is not 0 stands in the table
pub entry-below : (l : List ℕ) (a : ℕ) → get_or l a 0 ≢ 0 → a < length l
entry-below l a h = elim (less? a (length l)) [ inl k ↦ k | inr k ↦ absurd (h (get_or-eq_default l 0 k)) ]

-- a store of another number than 0 takes no entry away
pub set-kept : (v : ℕ) → v ≢ 0 → (m : List ℕ) (i x : ℕ) → get_or m x 0 ≢ 0 → get_or (set m i v) x 0 ≢ 0
set-kept v some m i x h = elim (same? x i) [
  | inl e ↦ rw (e, get_or-set_same m i v 0 (rw e at (entry-below m x h))) some
  | inr e ↦ rw (get_or-set_other m i x v 0 e) h
]

-- a number stored at each place of a list, one after the other
unfoldable pub stored_in : ℕ → List ℕ → List ℕ → List ℕ
stored_in v [] m = m
stored_in v (a ∷ l) m = stored_in v l (set m a v)

module _ (links : List ℕ) (v : ℕ) where
  -- along links these places are the chain
  pub stored_chain : (k : ℕ) (m : List ℕ) (a : ℕ) → stored_along k links m v a ≡ stored_in v (chain_of (λ x. get_or links x 0) k a) m
  unfolding stored_along chain_of stored_in
  stored_chain zero m a = refl
  stored_chain (suc k) m zero = refl
  stored_chain (suc k) m (suc a) = stored_chain k (set m (suc a) v) (get_or links (suc a) 0)

  pub stored_step : (k j a : ℕ) (m : List ℕ) → k ≡ j + 1 → a ≢ 0 → stored_along k links m v a ≡ stored_along j links (set m a v) v (get_or links a 0)
  unfolding stored_along
  stored_step k j zero m e h = absurd (h refl)
  stored_step k j (suc a) m e h = rw (e, add-one j)

  pub stored-length : (k : ℕ) (m : List ℕ) (a : ℕ) → length (stored_along k links m v a) ≡ length m
  unfolding stored_along
  stored-length zero m a = refl
  stored-length (suc k) m zero = refl
  stored-length (suc k) m (suc a) = stored-length k (set m (suc a) v) (get_or links (suc a) 0) ∙ length-set m (suc a) v

  pub stored-kept : v ≢ 0 → (k : ℕ) (m : List ℕ) (a x : ℕ) → get_or m x 0 ≢ 0 → get_or (stored_along k links m v a) x 0 ≢ 0
  unfolding stored_along
  stored-kept some zero m a x h = h
  stored-kept some (suc k) m zero x h = h
  stored-kept some (suc k) m (suc a) x h = stored-kept some k (set m (suc a) v) (get_or links (suc a) 0) x (set-kept v some m (suc a) x h)
