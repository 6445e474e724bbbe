-- A table whose first numbers are those of a function, and one whose first numbers are zeroed.
use Rattle.std.specs.Prelude.{ℕ, ◌≤◌, ◌<◌, ◌≡◌, List, ◌++◌, get_or, drop, replicate}

-- the numbers below k are those of f
abbrev pub HeldBelow : (ℕ → ℕ) → List ℕ → ℕ → Type 0
HeldBelow f l k = (a : ℕ) → a < k → get_or l a 0 ≡ f a

-- the numbers below k are 0
abbrev pub ZeroBelow : List ℕ → ℕ → Type 0
ZeroBelow l k = HeldBelow (λ a. 0) l k

-- the numbers from one place up to another are 0
abbrev pub ZeroFrom : List ℕ → ℕ → ℕ → Type 0
ZeroFrom l from end = (a : ℕ) → from ≤ a → a < end → get_or l a 0 ≡ 0

-- the first n numbers become 0, those behind them stay
abbrev pub zeroed_first : ℕ → List ℕ → List ℕ
zeroed_first n l = replicate n 0 ++ drop n l
