-- The old blocks of a safe change, told by the block table: those of a chain, the anode blocks, and one that moves.
use Rattle.std.specs.Prelude.{ℕ, zero, suc, ◌+◌, ◌-◌, ◌≤◌, ◌<◌, ◌≡◌, ◌≢◌, Bool, false, cond, ◌||◌, List, [], ◌∷◌, ◌++◌, eqb, get_or, Option, Some, None}

-- block y, with this entry in the block table, is of the chain of h, an anode block, or the block d
unfoldable pub is_old : ℕ → ℕ → ℕ → ℕ → Bool
is_old h d owner y = eqb owner h || (eqb owner 65534 || eqb y d)

-- the old ones of the n blocks from y upward
unfoldable pub old_from : List ℕ → ℕ → ℕ → ℕ → ℕ → List ℕ
old_from blocks h d zero y = []
old_from blocks h d (suc n) y = cond (is_old h d (get_or blocks y 0) y) (y ∷ []) [] ++ old_from blocks h d n (suc y)

-- none of the blocks from y up to an end is of the chain of h or an anode block
abbrev pub NoneOwned : List ℕ → ℕ → ℕ → ℕ → Type 0
NoneOwned blocks h y end = (x : ℕ) → y ≤ x → x < end → (get_or blocks x 0 ≢ h) × (get_or blocks x 0 ≢ 65534)

-- none of them is old
abbrev pub NoneOld : List ℕ → ℕ → ℕ → ℕ → ℕ → Type 0
NoneOld blocks h d y end = (x : ℕ) → y ≤ x → x < end → is_old h d (get_or blocks x 0) x ≡ false

-- the first old block from y on, below n, if there is one
abbrev pub NextOld : List ℕ → ℕ → ℕ → ℕ → ℕ → Option ℕ → Type 0
NextOld blocks h d y n (Some r) = (y ≤ r) × (r < n) × (old_from blocks h d (n - y) y ≡ r ∷ old_from blocks h d (n - (r + 1)) (r + 1))
NextOld blocks h d y n None = old_from blocks h d (n - y) y ≡ []
