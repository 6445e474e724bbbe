-- 9, as the free list is followed from an anode on.
use Rattle.std.specs.Prelude.{ℕ, Bool, cond, ◌||◌, eqb}
use Rattle.rules.specs.Counting.{occurrences, any_in}
use Rattle.rules.specs.Anodes.{Anodes}
use Rattle.rules.specs.Chains.{chain_of, cut}
use Rattle.rules.specs.Accepted.{not_above}

-- within k anodes from a, 2 is not met, or one before it has an extent that is not above last reserved
unfoldable pub wrong_before : Anodes → ℕ → ℕ → ℕ → Bool
wrong_before s last k a =
    eqb (occurrences 2 (chain_of s.next k a)) 0 || any_in (not_above s last) (chain_of (cut s.next) k (cond (eqb a 2) 0 a))
