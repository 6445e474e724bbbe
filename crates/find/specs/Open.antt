-- An accepted image with what the check loaded of it and the anode table that it filled.
use Rattle.std.specs.Prelude.{ℕ, ◌<◌, ◌≡◌, List, get_or}
use Rattle.rules.specs.Anodes.{limit, anodes_of}
use Rattle.rules.specs.Walk.{reached_dirs}
use Rattle.rules.specs.Tables.{anode_entry}
use Rattle.anodes.specs.Loaded.{Loaded}
use Rattle.walk_steps.specs.Steps.{queue_of}

-- counts, firsts and nexts hold the anodes, queue and parents the reached directories, heads the head of each anode's chain
pub record Open (img counts firsts nexts queue parents heads : List ℕ) (dirs : ℕ) : Type 0 where
  pub loaded : Loaded img counts firsts nexts
  pub queued : queue_of queue parents dirs ≡ reached_dirs img (anodes_of img)
  pub shown : (a : ℕ) → a < limit → get_or heads a 0 ≡ anode_entry (anodes_of img) a

-- where the parents are not lent on
abbrev pub OpenAnodes : List ℕ → List ℕ → List ℕ → List ℕ → List ℕ → List ℕ → ℕ → Type 0
OpenAnodes img counts firsts nexts queue heads dirs = (parents : List ℕ) × Open img counts firsts nexts queue parents heads dirs

-- where the counts and the parents are not lent on
abbrev pub OpenFor : List ℕ → List ℕ → List ℕ → List ℕ → List ℕ → ℕ → Type 0
OpenFor img firsts nexts queue heads dirs = (counts : List ℕ) × (parents : List ℕ) × Open img counts firsts nexts queue parents heads dirs
