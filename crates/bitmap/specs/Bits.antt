-- Bits and bytes of a longword, the highest first.
use Rattle.std.specs.Prelude.{ℕ, zero, suc, ◌+◌, ◌*◌, ◌-◌, ◌/◌, ◌%◌, ◌^◌}

-- bit i of a longword; bit 0 is the highest (02, No. 11, the house rule)
unfoldable pub bit_of : ℕ → ℕ → ℕ
bit_of w i = w / 2 ^ (31 - i) % 2

-- the longword with bit i set
unfoldable pub with_bit : ℕ → ℕ → ℕ
with_bit w i = w + (1 - bit_of w i) * 2 ^ (31 - i)

-- n bits from `at` on as one number, the first the highest
unfoldable pub bits_from : (ℕ → ℕ) → ℕ → ℕ → ℕ
bits_from f at zero = 0
bits_from f at (suc n) = bits_from f at n * 2 + f (at + n)

-- byte k of a longword; byte 0 is the highest
unfoldable pub byte_of : ℕ → ℕ → ℕ
byte_of w k = w / 2 ^ (24 - 8 * k) % 256
