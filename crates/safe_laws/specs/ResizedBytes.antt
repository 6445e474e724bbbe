-- What a resize leaves in a file's blocks: its bytes, cut off or with zeros behind them; and so up to the new size.
use Rattle.std.specs.Prelude.{ℕ, ◌+◌, ◌-◌, ◌*◌, ◌≤◌, ◌<◌, ◌≡◌}
use Rattle.std.proofs.Math.Path.{sym, ap}
use Rattle.std.proofs.Common.{◌∙◌, inl, inr, lt-ltb, le-ltb}
use mathlib.Core.List.{List, ◌++◌, append_assoc}
use native.Mathlib.Omega.{arith}
use Rattle.std.proofs.Math.ListN.{length, take, replicate}
use Rattle.std.proofs.lemmas.List.{replicate-append-replicate}
use Rattle.std.proofs.Math.Seq.{take-take, take-append-le, take-append-add, length-take-le}
use Rattle.endian.specs.Bytes.{cleared}
use Rattle.endian.proofs.Laws.{cleared-rest, take_zeros}
use Rattle.rules.specs.Walk.{blocks_for}
use Rattle.laws.specs.Tests.{less?}
use Rattle.safe_rules.specs.SafePlans.{resized_bytes}

-- zeros behind a list, up to a greater length
take_padded : (l : List ℕ) (n m : ℕ) → length l ≤ n → n - length l ≤ m → take n (l ++ replicate m 0) ≡ l ++ replicate (n - length l) 0
take_padded l n m le enough =
    let up_to : n ≡ length l + (n - length l) = omega arith in
    ap (λ (k : ℕ). take k (l ++ replicate m 0)) up_to ∙ take-append-add l (replicate m 0) (n - length l) ∙ ap (λ (z : List ℕ). l ++ z) (take_zeros (n - length l) m enough)

module _ (bytes : List ℕ) (old new : ℕ) (within : old ≤ length bytes) where
  abbrev room : ℕ
  room = blocks_for new * 512

  -- the blocks of the new size hold it
  enough : new ≤ blocks_for new * 512
  unfolding blocks_for
  enough = omega arith

  -- a file that does not grow is cut off
  cut : new ≤ old → take new (resized_bytes bytes old new) ≡ take new (take old bytes ++ replicate new 0)
  unfolding resized_bytes
  cut less = rw (le-ltb old new less)
      (take-take new room (bytes ++ replicate room 0) enough ∙ take-append-le new bytes (replicate room 0) (omega (arith, less, within))
      ∙ sym (take-append-le new (take old bytes) (replicate new 0) (omega (arith, less, length-take-le old bytes within)) ∙ take-take new old bytes less))

  -- to the end of its blocks, where it has them already
  pub resized_shorter : new ≤ old → blocks_for new * 512 ≤ length bytes → resized_bytes bytes old new ≡ take (blocks_for new * 512) bytes
  unfolding resized_bytes
  resized_shorter less held = rw (le-ltb old new less) (take-append-le room bytes (replicate room 0) held)

  -- one that grows has zeros behind its bytes, up to the end of its blocks
  pub resized-longer : old < new → resized_bytes bytes old new ≡ take old bytes ++ replicate (blocks_for new * 512 - old) 0
  unfolding resized_bytes
  resized-longer more =
      let front = take old bytes in
      let rest = length bytes - old in
      let long : length front ≡ old = length-take-le old bytes within in
      let all : cleared bytes old rest ++ replicate room 0 ≡ front ++ replicate (rest + room) 0 =
      ap (λ (l : List ℕ). l ++ replicate room 0) (cleared-rest bytes old rest (omega (arith, within))) ∙ append_assoc front (replicate rest 0) (replicate room 0)
      ∙ ap (λ (l : List ℕ). front ++ l) (replicate-append-replicate {A = ℕ} rest room 0) in
      rw (lt-ltb old new more)
      (ap (take room) all ∙ take_padded front room (rest + room) (omega (arith, more, long, enough)) (omega arith) ∙ ap (λ (n : ℕ). front ++ replicate (room - n) 0) long)

  -- and so up to the new size
  padded : old < new → take new (resized_bytes bytes old new) ≡ take new (take old bytes ++ replicate new 0)
  padded more =
      let front = take old bytes in
      let long : length front ≡ old = length-take-le old bytes within in
      ap (take new) (resized-longer more) ∙ take_padded front new (room - old) (omega (arith, more, long)) (omega (arith, enough, long))
      ∙ sym (take_padded front new new (omega (arith, more, long)) (omega arith))

  -- the new contents
  pub take-resized : take new (resized_bytes bytes old new) ≡ take new (take old bytes ++ replicate new 0)
  take-resized = elim (less? old new) [ inl l ↦ padded l | inr l ↦ cut l ]
