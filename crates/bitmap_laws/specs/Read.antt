-- The bitmap by what the code reads of an accepted image: its size, its first data block and the block table.
use Rattle.std.specs.Prelude.{ℕ, ◌+◌, ◌*◌, ◌-◌, ◌/◌, ◌≤◌, ◌≡◌, List, length}
use Rattle.std.proofs.Common.{◌∙◌, arith}
use Rattle.disk.specs.Blocks.{block_of}
use Rattle.disk.specs.Root.{root_in}
use Rattle.disk.specs.declared.Root.{Root}
use Rattle.rules.specs.Accepted.{disk_size, last_reserved}
use Rattle.bitmap.specs.Bitmap.{first_data, data_blocks, block_bit, bitmap_byte, bitmap_length, bitmap_of, tabulate, first_differing}
use Rattle.bitmap.specs.Table.{free_bit}
use Rattle.bitmap_laws.specs.Shown.{Shown}

-- the first data block, from the root block as it was read
pub first_read : (img block : List ℕ) (root : Root) → block ≡ block_of img 2 → root ≡ root_in block → root.last.0 + 1 ≡ first_data img
unfolding first_data last_reserved
first_read img block root b r = rw (r, b)

module _ (img table : List ℕ) (sh : Shown img table) (n first : ℕ) (size : n ≡ disk_size img) (start : first ≡ first_data img) where
  pub bytes_known : (first ≤ n) × (n ≤ 65535)
  bytes_known = (omega (arith, size, start, sh.reserved), omega (arith, size, sh.small))

  module _ (need : ℕ) (is : need ≡ (n - first + 8095) / 8096 * 1024) where
    -- the bytes needed
    pub needed_is : need ≡ bitmap_length img
    unfolding bitmap_length data_blocks
    needed_is = is ∙ rw (size, start)

    -- which are few
    pub read_known : (len : ℕ) → len ≡ need → (n ≤ length table) × (first ≤ 65536) × (len ≤ 4000000)
    read_known len e =
        let k = bytes_known in
        (omega (arith, size, sh.long), omega (arith, k.0, k.1), omega (arith, e, is, k.0, k.1))

    -- the bytes that were filled in
    pub filled_is : (out : List ℕ) (len : ℕ) → len ≡ need → out ≡ tabulate (bitmap_byte (free_bit table n first)) len → out ≡ bitmap_of img
    unfolding bitmap_of
    filled_is out len e made = made ∙ rw (size, start, sh.bits, e ∙ needed_is)

  -- the place that was found
  pub place_is : (bytes : List ℕ) (p : ℕ) → p ≡ first_differing (free_bit table n first) bytes → p ≡ first_differing (block_bit img) bytes
  place_is bytes p e = e ∙ rw (size, start, sh.bits)
