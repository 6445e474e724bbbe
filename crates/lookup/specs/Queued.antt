-- A directory's head in the queue that the walk left.
use Rattle.std.specs.Prelude.{ℕ, zero, suc, ◌<◌, ◌≡◌, cond, List, get_or, eqb}

-- where h first stands among the n numbers of the queue from i on, and the place behind them if it does not
unfoldable pub place_of : List ℕ → ℕ → ℕ → ℕ → ℕ
place_of queue h i zero = i
place_of queue h i (suc n) = cond (eqb (get_or queue i 0) h) i (place_of queue h (suc i) n)

-- each of the first n numbers of the queue is its own head in the table
abbrev pub OwnHeads : List ℕ → List ℕ → ℕ → Type 0
OwnHeads heads queue n = (i : ℕ) → i < n → get_or heads (get_or queue i 0) 0 ≡ get_or queue i 0
