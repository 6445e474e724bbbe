-- A number stored along a walk.
use Rattle.std.specs.Prelude.{ℕ, zero, suc, List, get_or, set}

-- v stored at a and along the links from there, until 0 and at most k times
unfoldable pub stored_along : ℕ → List ℕ → List ℕ → ℕ → ℕ → List ℕ
stored_along zero links table v a = table
stored_along (suc k) links table v zero = table
stored_along (suc k) links table v (suc a) = stored_along k links (set table (suc a) v) v (get_or links (suc a) 0)
