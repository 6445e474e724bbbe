-- The table of chain heads while it is filled.
use Rattle.std.specs.Prelude.{ℕ, ◌≤◌, ◌<◌, ◌≡◌, ◌≢◌, List, length, get_or}
use Rattle.rules.specs.Chains.{head_of}
use Rattle.laws.specs.Heads.{Head}

-- each entry that is not 0 is the head of its anode's chain
abbrev pub HeadsOnly : List ℕ → List ℕ → List ℕ → Type 0
HeadsOnly table nexts firsts = (x : ℕ) → x < 3444 → get_or table x 0 ≢ 0 → get_or table x 0 ≡ head_of 3444 (λ a. get_or nexts a 0) (λ a. get_or firsts a 0) x

-- the chains of the heads below k are filled in, and nothing else
pub record FilledBelow (table nexts firsts : List ℕ) (k : ℕ) : Type 0 where
  pub long : 3444 ≤ length table
  pub right : HeadsOnly table nexts firsts
  pub along : (x : ℕ) → get_or table x 0 ≢ 0 → get_or nexts x 0 ≢ 0 → get_or table (get_or nexts x 0) 0 ≢ 0
  pub filled : (h : ℕ) → h < k → Head (λ a. get_or nexts a 0) (λ a. get_or firsts a 0) h → get_or table h 0 ≢ 0
