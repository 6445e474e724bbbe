-- The anodes that a walk along a chain has still to give.
use Rattle.std.specs.Prelude.{ℕ, cond, eqb, List, get_or}
use Rattle.rules.specs.Chains.{chain_of}
use Rattle.links.specs.declared.Links.{Links}

-- the anode after a, or 0 where the chain ends
unfoldable pub follow : Links → ℕ → ℕ
follow s a = cond (eqb (get_or s.nexts.now a 0) s.end) 0 (get_or s.nexts.now a 0)

-- the anodes from the one that is next
abbrev pub anodes_left : Links → List ℕ
anodes_left s = chain_of (follow s) s.left s.at.0
