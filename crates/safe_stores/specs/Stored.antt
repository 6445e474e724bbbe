-- An anode table whose blocks have new places.
use Rattle.std.specs.Prelude.{ℕ, List}
use Rattle.frames.specs.StoredSlots.{SlotsFor}
use Rattle.block_copies.specs.Moved.{SlotsMove}

-- the slots may stand in the image, and those that hold other blocks than before are in use
abbrev pub TableMoves : List ℕ → (ℕ → ℕ) → Type 0
TableMoves img slots = SlotsFor img slots × SlotsMove img slots
