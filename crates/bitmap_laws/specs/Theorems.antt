-- 02, No. 11: the theorems about the bitmap.
use Rattle.std.specs.Prelude.{ℕ, ◌+◌, ◌*◌, ◌/◌, ◌%◌, ◌<◌, ◌≤◌, ◌≡◌, refl, ◌≢◌, ◌⊎◌, cond, not, List, [], ◌∷◌, T, eqb, length, get_or}
use Rattle.std.proofs.Math.Path.{sym}
use Rattle.std.proofs.Common.{◌∙◌, arith}
use Rattle.std.proofs.Math.Logic.{inl, inr}
use Rattle.std.proofs.Math.Seq.{ext_get_or}
use borrow.Author.Tests.{eq-eqb, ne_eqb, lt-ltb, le-ltb, eqb-true, not-false}
use Rattle.endian.specs.Bytes.{be32}
use Rattle.rules.specs.Anodes.{anodes_of}
use Rattle.rules.specs.Accepted.{check_answer}
use Rattle.rules.specs.Calls.{settled, done_or}
use Rattle.laws.specs.Tests.{same?, first_of-zero, if-zero}
use Rattle.laws.specs.Sums.{least_cases}
use Rattle.bitmap.specs.Bits.{bit_of}
use Rattle.bitmap.specs.Bitmap.{first_data, data_blocks, available, block_bit, bitmap_byte, bitmap_length, bitmap_of, differs_from, first_differing}
use Rattle.bitmap.specs.Calls.{bitmap_refusal, bitmap_answer, bitmap_outcome, differs_fields, bitmap_differs_outcome}
use Rattle.bitmap.proofs.Laws.{length-tabulate, tabulate-at}
use Rattle.bitmap_laws.specs.Words.{bit_two, bit_there, word_there, mark_word, blank_word, sequence_word}

-- the bitmap's length in bytes is that of the blocks needed
pub bitmap_length_lem : (img : List ℕ) → length (bitmap_of img) ≡ bitmap_length img
unfolding bitmap_of
bitmap_length_lem img = length-tabulate (bitmap_byte (block_bit img)) (bitmap_length img)

-- every bit of every bitmap block, those past the last block among them
pub every_bit : (img : List ℕ) (s w i : ℕ) → s * 1024 + 1024 ≤ bitmap_length img → w < 253 → i < 32 →
    bit_of (be32 (bitmap_of img) (s * 1024 + 12 + 4 * w)) i ≡ block_bit img ((s * 253 + w) * 32 + i)
unfolding bitmap_of
every_bit img s w i room = bit_there (block_bit img) (bit_two img) (bitmap_length img) s w i room

-- BIT AND BLOCK: the block k above the first data block has bit k % 32 of longword k / 32 % 253 of bitmap block k / 8096, which is set exactly if the block is on 1's chain
pub bit_and_block : (img : List ℕ) (k : ℕ) → k < data_blocks img →
    bit_of (be32 (bitmap_of img) (k / 8096 * 1024 + 12 + 4 * (k / 32 % 253))) (k % 32) ≡ cond (available (anodes_of img) (first_data img + k)) 1 0
unfolding block_bit bitmap_length
bit_and_block img k l =
    let place : (k / 8096 * 253 + k / 32 % 253) * 32 + k % 32 ≡ k = omega arith in
    every_bit img (k / 8096) (k / 32 % 253) (k % 32) (omega arith) (omega arith) (omega arith) ∙ rw (place, lt-ltb k (data_blocks img) l)

-- the header of each bitmap block: the mark, then zeros to byte 7, then the sequence number from 0
pub block_header : (img : List ℕ) (s : ℕ) → s * 1024 + 1024 ≤ bitmap_length img → s < 65536 →
    (be32 (bitmap_of img) (4 * (s * 256)) ≡ 0x424D0000) × (be32 (bitmap_of img) (4 * (s * 256 + 1)) ≡ 0) × (be32 (bitmap_of img) (4 * (s * 256 + 2)) ≡ s)
unfolding bitmap_of
block_header img s room small =
    let bit = block_bit img in
    let len = bitmap_length img in (
      word_there bit len (s * 256) (omega arith) (omega (arith, mark_word bit s)) ∙ mark_word bit s,
      word_there bit len (s * 256 + 1) (omega arith) (omega (arith, blank_word bit s)) ∙ blank_word bit s,
      word_there bit len (s * 256 + 2) (omega arith) (omega (arith, sequence_word bit s, small)) ∙ sequence_word bit s,
    )

-- what is said of a byte's place: it is the first where the bytes are not the bitmap's
pub record FirstDifference (img bytes : List ℕ) (p : ℕ) : Type 0 where
  pub inside : p < length bytes
  pub differs : get_or bytes p 0 ≢ get_or (bitmap_of img) p 0
  pub same-before : (i : ℕ) → i < p → get_or bytes i 0 ≡ get_or (bitmap_of img) i 0

module _ (img bytes : List ℕ) (len : length bytes ≡ bitmap_length img) where
  byte_same : (i : ℕ) → i < length bytes → (T (differs_from bytes (bitmap_byte (block_bit img)) i) → ⊥) → get_or bytes i 0 ≡ get_or (bitmap_of img) i 0
  unfolding differs_from bitmap_of
  byte_same i l n =
      elim (same? (get_or bytes i 0) (bitmap_byte (block_bit img) i)) [
        | inl e ↦ e ∙ sym (tabulate-at (bitmap_byte (block_bit img)) (bitmap_length img) i (omega arith))
        | inr d ↦ absurd (n (rw (ne_eqb (get_or bytes i 0) (bitmap_byte (block_bit img) i) d) tt))
      ]

  byte_differs : (i : ℕ) → i < length bytes → T (differs_from bytes (bitmap_byte (block_bit img)) i) → get_or bytes i 0 ≢ get_or (bitmap_of img) i 0
  unfolding differs_from bitmap_of
  byte_differs i l t e =
      rw (eq-eqb (get_or bytes i 0) (bitmap_byte (block_bit img) i) (e ∙ tabulate-at (bitmap_byte (block_bit img)) (bitmap_length img) i (omega arith))) at t

  -- the first, or none
  first_or_none : FirstDifference img bytes (first_differing (block_bit img) bytes) ⊎ ((first_differing (block_bit img) bytes ≡ length bytes) × (bytes ≡ bitmap_of img))
  unfolding first_differing
  first_or_none = elim (least_cases (differs_from bytes (bitmap_byte (block_bit img))) (length bytes)) [
    | inl c ↦ inl (record { inside = c.0; differs = byte_differs _ c.0 c.1; same-before = λ i l. byte_same i (omega (arith, l, c.0)) (c.2 i l) })
    | inr c ↦ inr (c.0, ext_get_or 0 bytes (bitmap_of img) (len ∙ sym (bitmap_length_lem img)) (λ i l. byte_same i l (c.1 i l)))
  ]

module _ (img blocks anodes bytes : List ℕ) where
  -- where the check accepts and the length is right, the call is done
  length_right : bitmap_answer img blocks anodes (length bytes) ≡ 0 → length bytes ≡ bitmap_length img
  unfolding bitmap_answer bitmap_refusal
  length_right z =
      let r = (first_of-zero (check_answer img (length blocks) (length anodes)) _ z).1 in
      eqb-true (length bytes) (bitmap_length img) (not-false _ (if-zero 40 (not (eqb (length bytes) (bitmap_length img))) 0 (omega arith) r).0)

  -- THE FIRST IS THE FIRST: a done check names the first byte that differs, or every byte is the bitmap's
  pub first_difference : (bitmap_differs_outcome img blocks anodes bytes).answer ≡ 0 →
      ((p : ℕ) × ((bitmap_differs_outcome img blocks anodes bytes).output ≡ 1 ∷ p ∷ []) × FirstDifference img bytes p)
      ⊎ (((bitmap_differs_outcome img blocks anodes bytes).output ≡ 0 ∷ 0 ∷ []) × (bytes ≡ bitmap_of img))
  unfolding bitmap_differs_outcome settled done_or differs_fields
  first_difference z = elim (first_or_none img bytes (length_right z)) [
    | inl d ↦ inl (first_differing (block_bit img) bytes, rw (z, lt-ltb (first_differing (block_bit img) bytes) (length bytes) d.inside), d)
    | inr d ↦ inr (rw (z, d.0, le-ltb (length bytes) (length bytes) (omega arith)), d.1)
  ]

module _ (img blocks anodes out : List ℕ) (z : (bitmap_outcome img blocks anodes out).answer ≡ 0) where
  made_is : (bitmap_outcome img blocks anodes out).output ≡ bitmap_of img
  unfolding bitmap_outcome settled done_or
  made_is = rw z

  made-answer : (bitmap_differs_outcome img blocks anodes (bitmap_of img)).answer ≡ 0
  unfolding bitmap_outcome bitmap_differs_outcome settled
  made-answer = rw (bitmap_length_lem img, ← length_right img blocks anodes out z) z

  made_output : (bitmap_differs_outcome img blocks anodes (bitmap_of img)).output ≡ 0 ∷ 0 ∷ []
  made_output = elim (first_difference img blocks anodes (bitmap_of img) made-answer) [
    | inl d ↦ absurd (d.2.differs refl)
    | inr d ↦ d.0
  ]

  -- THE MADE BITMAP: what a done call makes checks without a difference
  pub made-same : ((bitmap_differs_outcome img blocks anodes (bitmap_outcome img blocks anodes out).output).answer ≡ 0)
      × ((bitmap_differs_outcome img blocks anodes (bitmap_outcome img blocks anodes out).output).output ≡ 0 ∷ 0 ∷ [])
  made-same = rw made_is (made-answer, made_output)
