-- The bytes of a file, with the new ones in them, at the front of a buffer.
use Prim.Native.Nat.{ℕ, ◌-◌, ◌≤◌}
use mathlib.Core.Path.{◌≡◌, sym, ap, ◌∙◌}
use mathlib.Core.List.{List}
use native.Mathlib.Omega.{arith}
use lib.ListN.{length, take, drop}
use lib.Seq.{take_all, length-take-le}
use borrow.Rule.Slice.PartMut.{put_mid}
use Rattle.endian.specs.Bytes.{stored}
use Rattle.endian.proofs.Laws.{length-stored}
use Rattle.safe_stores.proofs.Staged.{staged_front, staged_behind}

module _ (out bytes source : List ℕ) (len offset : ℕ) (one two : List ℕ) (all : len ≡ length bytes) (room : len ≤ length out) (copied : one ≡ take (length (take (len - 0) (drop 0 out))) (drop 0 bytes)) (written : two ≡ stored one offset source) where
  -- the bytes are copied whole
  whole : one ≡ bytes
  whole =
      let n : length (take (len - 0) (drop 0 out)) ≡ len = length-take-le (len - 0) out (omega (arith, room)) ∙ omega arith in
      copied ∙ ap (λ (k : ℕ). take k bytes) n ∙ take_all len bytes (omega (arith, all))

  -- with the new ones in them
  two_is : two ≡ stored bytes offset source
  two_is = written ∙ ap (λ (l : List ℕ). stored l offset source) whole

  -- as many as before
  two_long : length two ≡ len
  two_long = ap length two_is ∙ length-stored bytes offset source ∙ sym all

  -- they are at the front then, and all behind is as it was
  pub written_staged : (take len (put_mid 0 (len - 0) out two) ≡ stored bytes offset source) × (drop len (put_mid 0 (len - 0) out two) ≡ drop len out)
  written_staged =
      let n : len ≡ len - 0 = omega arith in
      (ap (λ (k : ℕ). take k (put_mid 0 (len - 0) out two)) n ∙ staged_front out two len two_long room ∙ two_is, staged_behind out two len two_long room)
