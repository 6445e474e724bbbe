-- The state that the steps start from.
use Rattle.std.specs.Prelude.{ℕ, ◌≤◌, ◌≢◌}
use Rattle.rules.specs.Anodes.{limit, exists_by}
use Rattle.rules.specs.Plans.{Slotted}
use Rattle.laws.specs.Heads.{Head}
use Rattle.laws.specs.Space.{Good}
use Rattle.laws.specs.Take.{StartOwned}

-- anodes and slots in good order, none of the refusals 6 to 11 is given: with some size of a disk, owners of its blocks, and tables of heads and of sides
pub record GoodState (last : ℕ) (s : Slotted) : Type 0 where
  pub n : ℕ
  pub system : ℕ → ℕ
  pub hd : ℕ → ℕ
  pub sd : ℕ → ℕ
  pub small : n ≤ 65535
  pub start : StartOwned system
  pub good : Good limit (exists_by s.slots) n last s.anodes system hd sd

-- what a step on the chain of h asks: a good state, in which h heads a chain other than the free list
abbrev pub Ready : ℕ → Slotted → ℕ → Type 0
Ready last s h = GoodState last s × (Head s.anodes.next s.anodes.block h × (h ≢ 1))
