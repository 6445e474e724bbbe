-- The state in which a safe change's own steps are done.
use Rattle.std.specs.Prelude.{ℕ, ◌≡◌, List}
use Rattle.rules.specs.Plans.{Slotted, planned}
use Rattle.safe_rules.specs.SafePlans.{reslotted_from}
use Rattle.placing.specs.States.{GoodState}
use Rattle.giving_back.specs.Backs.{InLimbo}

-- a good state in which, once every anode block has a new place, the old blocks ys are in nobody's chain
abbrev pub SettleReady : ℕ → List ℕ → Slotted → Type 0
SettleReady last ys r = GoodState last r × ((s : Slotted) (us : List ℕ) → reslotted_from 42 0 r ≡ planned s us → InLimbo last ys s)
