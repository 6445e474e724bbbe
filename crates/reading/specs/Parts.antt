-- Where a part of lent bytes starts, and when the name of an entry stands whole in its block and in the image.
use Rattle.std.specs.Prelude.{ℕ, ◌+◌, ◌/◌, ◌%◌, ◌≤◌, ◌≡◌, List, length}
use Rattle.std.specs.Borrow.{Bor}
use Rattle.disk.specs.Blocks.{block_of}
use Rattle.directory.specs.Entries.{name_length}

-- a part of the lent bytes that starts at byte k of them
abbrev pub StartsAt : Bor (List ℕ) → Bor (List ℕ) → ℕ → Type 0
StartsAt lent part k = (part.ref_ptr.0 ≡ lent.ref_ptr.0) × (part.ref_ptr.1 ≡ lent.ref_ptr.1 + k)

-- the name of the entry that starts at a byte of the image ends within its block and within the image
pub record NameStands (img : List ℕ) (start : ℕ) : Type 0 where
  pub in_block_lem : start % 512 + 16 + name_length (block_of img (start / 512)) (start % 512) ≤ 512
  pub in_image : start + 16 + name_length (block_of img (start / 512)) (start % 512) ≤ length img
