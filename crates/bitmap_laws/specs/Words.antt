-- The longwords and the single bits of a bitmap, read back from its bytes.
use Prim.Native.Nat.{ℕ, zero, suc, ◌+◌, ◌*◌, ◌-◌, ◌/◌, ◌%◌, ◌^◌, ◌<◌, ◌≤◌}
use Rattle.std.specs.Prelude.{◌≡◌, refl, Bool, true, false, cond, List, ltb}
use Rattle.std.proofs.Common.{◌∙◌, not-suc-le-zero, pow-suc, shr-shr}
use Rattle.std.proofs.Math.Path.{ap}
use Rattle.std.proofs.Math.Logic.{⊎_elim}
use native.Mathlib.Omega.{arith}
use Rattle.std.proofs.Math.ListN.{get_or}
use borrow.Author.Tests.{ne_eqb}
use Rattle.endian.specs.Bytes.{be16, be32}
use Rattle.rules.specs.Anodes.{anodes_of}
use Rattle.laws.specs.Tests.{same?}
use Rattle.bitmap.specs.Bits.{bit_of, bits_from, byte_of}
use Rattle.bitmap.specs.Bitmap.{first_data, data_blocks, available, block_bit, bitmap_word, bitmap_byte, tabulate}
use Rattle.bitmap.proofs.Laws.{tabulate-at}

-- a bit is 0 or 1
pub bit_two : (img : List ℕ) (k : ℕ) → block_bit img k < 2
unfolding block_bit
bit_two img k = go (ltb k (data_blocks img)) (available (anodes_of img) (first_data img + k))
  where
    go : (a b : Bool) → cond a (cond b 1 0) 0 < 2
    go true true = omega arith
    go true false = omega arith
    go false b = omega arith

module _ (f : ℕ → ℕ) (two : (k : ℕ) → f k < 2) (at : ℕ) where
  -- n bits are below 2 ^ n
  bits_lt : (n : ℕ) → bits_from f at n < 2 ^ n
  unfolding bits_from
  bits_lt zero = omega arith
  bits_lt (suc n) = rw (pow-suc 2 n) (omega (arith, bits_lt n, two (at + n)))

  -- bit i of n is f's
  bits_bit : (n i : ℕ) → i < n → bits_from f at n / 2 ^ (n - 1 - i) % 2 ≡ f (at + i)
  unfolding bits_from
  bits_bit zero i l = absurd (not-suc-le-zero l)
  bits_bit (suc n) i l = ⊎_elim (λ (e : i ≡ n). last e) (λ d. earlier (omega arith) (bits_bit n i (omega arith))) (same? i n)
    where
      last : i ≡ n → bits_from f at (suc n) / 2 ^ (suc n - 1 - i) % 2 ≡ f (at + i)
      last e =
          let z : suc n - 1 - i ≡ 0 = omega arith in
          let b = two (at + n) in
          rw (z, e) (omega arith)

      earlier : i < n → bits_from f at n / 2 ^ (n - 1 - i) % 2 ≡ f (at + i) → bits_from f at (suc n) / 2 ^ (suc n - 1 - i) % 2 ≡ f (at + i)
      earlier k ih =
          let z : suc n - 1 - i ≡ 1 + (n - 1 - i) = omega arith in
          let b = two (at + n) in
          let h : (bits_from f at n * 2 + f (at + n)) / 2 ^ 1 ≡ bits_from f at n = omega arith in
          rw (z, ← shr-shr (bits_from f at n * 2 + f (at + n)) 1 (n - 1 - i), h) ih

-- a number by its last byte and the rest
last_byte : (w q : ℕ) → w / 256 ≡ q → q * 256 + w % 256 ≡ w
last_byte w q e = omega (arith, e)

-- four bytes are their longword
four_bytes : (w : ℕ) → w < 4294967296 → (byte_of w 0 * 256 + byte_of w 1) * 65536 + (byte_of w 2 * 256 + byte_of w 3) ≡ w
unfolding byte_of
four_bytes w l =
    let a : w / 256 / 256 ≡ w / 65536 = shr-shr w 8 8 in
    let b : w / 65536 / 256 ≡ w / 16777216 = shr-shr w 16 8 in
    let high : w / 16777216 < 256 = omega (arith, l) in
    let top : w / 16777216 % 256 ≡ w / 16777216 = omega (arith, high) in
    let one : w / 1 ≡ w = omega arith in
    rw (top, one) (omega (arith, last_byte w (w / 256) refl, last_byte (w / 256) (w / 65536) a, last_byte (w / 65536) (w / 16777216) b))

module _ (bit : ℕ → ℕ) (len j : ℕ) (room : 4 * j + 4 ≤ len) where
  byte_there : (k : ℕ) → k < 4 → get_or (tabulate (bitmap_byte bit) len) (4 * j + k) 0 ≡ byte_of (bitmap_word bit j) k
  unfolding bitmap_byte
  byte_there k l =
      let q : (4 * j + k) / 4 ≡ j = omega arith in
      let r : (4 * j + k) % 4 ≡ k = omega arith in
      tabulate-at (bitmap_byte bit) len (4 * j + k) (omega arith) ∙ rw (q, r)

  -- longword j of the bitmap's bytes
  pub word_there : bitmap_word bit j < 4294967296 → be32 (tabulate (bitmap_byte bit) len) (4 * j) ≡ bitmap_word bit j
  unfolding be32 be16
  word_there l =
      let z : 4 * j ≡ 4 * j + 0 = omega arith in
      let e : 4 * j + 2 + 1 ≡ 4 * j + 3 = omega arith in
      let first : get_or (tabulate (bitmap_byte bit) len) (4 * j) 0 ≡ byte_of (bitmap_word bit j) 0 = ap (λ (p : ℕ). get_or (tabulate (bitmap_byte bit) len) p 0) z ∙ byte_there 0 (omega arith) in
      rw (e, first, byte_there 1 (omega arith), byte_there 2 (omega arith), byte_there 3 (omega arith)) (four_bytes (bitmap_word bit j) l)

module _ (bit : ℕ → ℕ) (s : ℕ) where
  -- the first three longwords of block s
  pub mark_word : bitmap_word bit (s * 256) ≡ 0x424D0000
  unfolding bitmap_word
  mark_word = let r : s * 256 % 256 ≡ 0 = omega arith in rw r

  pub blank_word : bitmap_word bit (s * 256 + 1) ≡ 0
  unfolding bitmap_word
  blank_word = let r : (s * 256 + 1) % 256 ≡ 1 = omega arith in rw r

  pub sequence_word : bitmap_word bit (s * 256 + 2) ≡ s
  unfolding bitmap_word
  sequence_word = let r : (s * 256 + 2) % 256 ≡ 2 = omega arith in let q : (s * 256 + 2) / 256 ≡ s = omega arith in rw (r, q)

  -- longword w of its 253
  pub bits_word : (w : ℕ) → w < 253 → bitmap_word bit (s * 256 + (3 + w)) ≡ bits_from bit ((s * 253 + w) * 32) 32
  unfolding bitmap_word
  bits_word w l =
      let r : (s * 256 + (3 + w)) % 256 ≡ 3 + w = omega arith in
      let q : (s * 256 + (3 + w)) / 256 ≡ s = omega arith in
      let d : 3 + w - 3 ≡ w = omega arith in
      rw (r, q, ne_eqb (3 + w) 0 (λ e. omega arith), ne_eqb (3 + w) 1 (λ e. omega arith), ne_eqb (3 + w) 2 (λ e. omega arith), d)

-- bit i of longword w of block s
pub bit_there : (bit : ℕ → ℕ) → ((k : ℕ) → bit k < 2) → (len s w i : ℕ) → s * 1024 + 1024 ≤ len → w < 253 → i < 32 →
    bit_of (be32 (tabulate (bitmap_byte bit) len) (s * 1024 + 12 + 4 * w)) i ≡ bit ((s * 253 + w) * 32 + i)
unfolding bit_of
bit_there bit two len s w i room l k =
    let at : s * 1024 + 12 + 4 * w ≡ 4 * (s * 256 + (3 + w)) = omega arith in
    let is = bits_word bit s w l in
    let low = rw (← is) at (bits_lt bit two ((s * 253 + w) * 32) 32) in
    rw (at, word_there bit len (s * 256 + (3 + w)) (omega arith) low, is) (bits_bit bit two ((s * 253 + w) * 32) 32 i k)
