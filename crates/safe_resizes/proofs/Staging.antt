-- The bytes of a resized file as they are staged.
use Prim.Native.Nat.{ℕ, ◌-◌, ◌*◌, ◌≤◌, ◌<◌}
use mathlib.Core.Path.{◌≡◌, sym, ap, ap₂, ◌∙◌}
use mathlib.Core.List.{List, ◌++◌}
use native.Mathlib.Omega.{arith}
use lib.ListN.{length, take, drop, replicate}
use lib.Seq.{take_at, length-take-le}
use borrow.Rule.Slice.PartMut.{put_mid}
use Rattle.endian.specs.Bytes.{cleared}
use Rattle.endian.proofs.Laws.{cleared-rest}
use Rattle.rules.specs.Walk.{blocks_for}
use Rattle.safe_rules.specs.SafePlans.{resized_bytes}
use Rattle.safe_stores.proofs.Staged.{staged_whole}
use Rattle.safe_laws.specs.ResizedBytes.{resized_shorter, resized-longer}

-- the blocks of a size hold it
pub size_held : (size : ℕ) → size ≤ blocks_for size * 512
unfolding blocks_for
size_held size = omega arith

-- those of a size of four bytes are few
pub blocks_few : (size : ℕ) → size < 4294967296 → blocks_for size ≤ 8388608
unfolding blocks_for
blocks_few size low = omega (arith, low)

-- and those of a size of eight bytes can be counted
pub blocks-counted : (size : ℕ) → size < 18446744073709551616 → blocks_for size ≤ 36028797018963968
unfolding blocks_for
blocks-counted size low = omega (arith, low)

-- a smaller size asks for no more blocks
pub fewer_blocks : (old size : ℕ) → size ≤ old → blocks_for size ≤ blocks_for old
unfolding blocks_for
fewer_blocks old size less = omega (arith, less)

module _ (bytes stage : List ℕ) (old size : ℕ) (all : length bytes ≡ blocks_for old * 512) (room : length stage ≡ blocks_for size * 512) where
  -- a file that does not grow is cut off
  pub staged_shorter : size ≤ old → (new : List ℕ) → new ≡ take (length stage) (drop 0 bytes) → new ≡ resized_bytes bytes old size
  staged_shorter less new is = is ∙ ap (λ (n : ℕ). take n bytes) room
      ∙ sym (resized_shorter bytes old size (omega (arith, all, size_held old)) less (omega (arith, all, fewer_blocks old size less)))

  -- one that grows has zeros behind its old size
  module _ (more : old < size) (one : List ℕ) (copied : one ≡ take (length (take (old - 0) (drop 0 stage))) (drop 0 bytes)) where
    -- its old size is within its blocks
    within : old ≤ length bytes
    within = omega (arith, all, size_held old)

    -- its old bytes are copied
    one_is : one ≡ take old bytes
    one_is =
        let n : length (take (old - 0) (drop 0 stage)) ≡ old = length-take-le (old - 0) stage (omega (arith, more, room, size_held size)) ∙ omega arith in
        copied ∙ ap (λ (k : ℕ). take k bytes) n

    -- as many as that size
    one_long : length one ≡ old
    one_long = ap length one_is ∙ length-take-le old bytes within

    -- the stage keeps its length
    pub staged_long : length (put_mid 0 (old - 0) stage one) ≡ length stage
    staged_long = staged_whole stage one old one_long (omega (arith, more, room, size_held size))

    -- with zeros behind them these are its bytes
    pub staged_longer : (len : ℕ) → len ≡ length (put_mid 0 (old - 0) stage one) → (new : List ℕ) → new ≡ cleared (put_mid 0 (old - 0) stage one) old (len - old) → new ≡ resized_bytes bytes old size
    staged_longer len len_is new is =
        let n : len - old ≡ blocks_for size * 512 - old = omega (arith, len_is, staged_long, room) in
        is ∙ cleared-rest (put_mid 0 (old - 0) stage one) old (len - old) (omega (arith, staged_long, len_is, more, room, size_held size))
        ∙ ap₂ (λ (a : List ℕ) (k : ℕ). a ++ replicate k 0) (take_at one (drop (old - 0) stage) old one_long ∙ one_is) n
        ∙ sym (resized-longer bytes old size within more)
