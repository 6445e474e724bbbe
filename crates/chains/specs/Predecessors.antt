-- The predecessors of anodes, over the tables of next and of first blocks.
use Rattle.std.specs.Prelude.{ℕ, ◌<◌, ◌≡◌, ◌≢◌, Bool, true, false, not, ◌||◌, List, get_or, eqb}
use Rattle.rules.specs.Chains.{preds}

-- the predecessors below k are noted: an entry that is not 0 is one of them, and each of them is the entry
pub record NotedBelow (table nexts : List ℕ) (k : ℕ) : Type 0 where
  pub is_pred : (x : ℕ) → get_or table x 0 ≢ 0 → get_or nexts (get_or table x 0) 0 ≡ x
  pub earlier : (x : ℕ) → get_or table x 0 ≢ 0 → get_or table x 0 < k
  pub only : (p : ℕ) → p < k → get_or nexts p 0 ≢ 0 → get_or table (get_or nexts p 0) 0 ≡ p

-- all predecessors are noted: so where the entry is 0 there is none
pub record PredTable (table nexts : List ℕ) : Type 0 where
  pub noted : NotedBelow table nexts 3444
  pub below : (p : ℕ) → get_or nexts p 0 ≢ 0 → p < 3444

-- some anode has two predecessors
pub record Twice (nexts : List ℕ) : Type 0 where
  pub anode : ℕ
  pub before : ℕ
  pub some : anode ≢ 0
  pub leads : get_or nexts before 0 ≡ anode
  pub two : 1 < preds 3444 (λ a. get_or nexts a 0) anode

-- what the notes say, by whether a second predecessor was found
abbrev pub Noted : Bool → List ℕ → List ℕ → ℕ → Type 0
Noted true table nexts k = Twice nexts
Noted false table nexts k = NotedBelow table nexts k

-- anode 1, 3, 4 or 5 has an entry
abbrev pub fixed_noted : List ℕ → Bool
fixed_noted table = not (eqb (get_or table 1 0) 0) || (not (eqb (get_or table 3 0) 0) || (not (eqb (get_or table 4 0) 0) || not (eqb (get_or table 5 0) 0)))
