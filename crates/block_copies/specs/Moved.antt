-- Slots in which anode blocks have new places.
use Rattle.std.specs.Prelude.{ℕ, ◌≤◌, ◌<◌, ◌≢◌, List}
use Rattle.disk.specs.Root.{slot_of}
use Rattle.rules.specs.Accepted.{disk_size}

-- slots in use that hold other blocks than in the image, none of them an old anode block
pub record SlotsMove (img : List ℕ) (slots : ℕ → ℕ) : Type 0 where
  pub used : (k : ℕ) → slots k ≢ slot_of img k → slot_of img k ≢ 0
  pub old-placed : (k : ℕ) → slot_of img k ≢ 0 → (3 ≤ slot_of img k) × (slot_of img k < disk_size img)
  pub new-placed : (k : ℕ) → slots k ≢ slot_of img k → (3 ≤ slots k) × (slots k < disk_size img)
  pub apart : (k l : ℕ) → slots k ≢ slot_of img k → slot_of img l ≢ slots k
