-- Which chains end: the marks that a walk back from their ends leaves.
use Rattle.std.specs.Prelude.{ℕ, ◌<◌, ◌≡◌, ◌≢◌, Bool, true, false, not, ◌&&◌, List, length, get_or, eqb}
use Rattle.rules.specs.Chains.{followed}

-- each marked anode's chain ends
abbrev pub EndingOnly : List ℕ → List ℕ → Type 0
EndingOnly marks nexts = (x : ℕ) → get_or marks x 0 ≢ 0 → followed (λ a. get_or nexts a 0) 3444 x ≡ 0

-- the marks with the ends below k done: a marked anode's chain ends, and what comes to such an end is marked
pub record EndsBelow (marks nexts firsts : List ℕ) (k : ℕ) : Type 0 where
  pub whole : length marks ≡ 3444
  pub ending : EndingOnly marks nexts
  pub marked : (e : ℕ) → e < k → e ≢ 0 → get_or firsts e 0 ≢ 0 → get_or nexts e 0 ≡ 0
      → (j x : ℕ) → j < 3444 → followed (λ a. get_or nexts a 0) j x ≡ e → get_or marks x 0 ≢ 0

-- an anode in use, not 0, that is not marked
unfoldable pub unmarked : List ℕ → List ℕ → ℕ → Bool
unmarked firsts marks a = not (eqb a 0) && (not (eqb (get_or firsts a 0) 0) && eqb (get_or marks a 0) 0)

-- a chain that never ends
pub record Endless (nexts firsts : List ℕ) : Type 0 where
  pub anode : ℕ
  pub some : anode ≢ 0
  pub in_use : get_or firsts anode 0 ≢ 0
  pub never : followed (λ a. get_or nexts a 0) 3444 anode ≢ 0

-- every chain ends
pub record AllEnd (nexts firsts : List ℕ) : Type 0 where
  pub ends : (a : ℕ) → a ≢ 0 → get_or firsts a 0 ≢ 0 → followed (λ x. get_or nexts x 0) 3444 a ≡ 0

-- what was found of the chains' ends, by whether one never ends
abbrev pub Ends : Bool → List ℕ → List ℕ → Type 0
Ends true nexts firsts = Endless nexts firsts
Ends false nexts firsts = AllEnd nexts firsts
