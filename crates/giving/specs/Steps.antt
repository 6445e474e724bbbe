-- What is asked where a chain is zeroed.
use Rattle.std.specs.Prelude.{ℕ, ◌≢◌}
use Rattle.rules.specs.Anodes.{Anodes, limit}
use Rattle.laws.specs.Links.{Linked}

-- the anodes s are linked as the rules ask, and h is in use
abbrev pub LinkedFrom : Anodes → ℕ → Type 0
LinkedFrom s h = Linked limit s.next s.block × (s.block h ≢ 0)
