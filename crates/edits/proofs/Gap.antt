-- A gap in a block that is closed. Assumes nothing.
use Prim.Native.Nat.{ℕ, ◌+◌, ◌-◌, ◌≤◌}
use mathlib.Core.Path.{◌≡◌, ◌∙◌}
use mathlib.Core.List.{List, ◌++◌, append_assoc}
use native.Mathlib.Omega.{arith}
use lib.ListN.{length, take, drop, replicate, length-drop, length-replicate}
use lib.Seq.{paste, length-paste, take-paste, drop-paste, drop-drop, sets-eq}
use Rattle.endian.specs.Bytes.{cleared}
use Rattle.rules.specs.Changes.{gap_closed}

-- zeros behind the moved bytes
zeros_behind : (b : List ℕ) (at len k : ℕ) → at + k + len ≤ length b
    → cleared (paste b at (drop (at + len) b) k) (at + k) len ≡ take at b ++ take k (drop (at + len) b) ++ replicate len 0 ++ drop (at + k + len) b
unfolding cleared
zeros_behind b at len k h =
    let s = drop (at + len) b in
    let d = length-drop (at + len) b in
    let z = length-replicate {A = ℕ} len 0 in
    let m = length-paste b at s k (omega arith) (omega arith) in
    rw (
      sets-eq (replicate len 0) (paste b at s k) (at + k) (omega arith),
      z,
      take-paste b at s k (omega arith) (omega arith),
      ← drop-drop len (at + k) (paste b at s k),
      drop-paste b at s k (omega arith) (omega arith),
      drop-drop len (at + k) b,
    )

pub moved-cleared : (b : List ℕ) (at len end : ℕ) → at + len ≤ end → end ≤ length b
    → cleared (paste b at (drop (at + len) b) (end - (at + len))) (end - len) len ≡ gap_closed b at len end
unfolding gap_closed
moved-cleared b at len end h g = rw (back, zeros_behind b at len k (omega arith), up) regroup
  where
    k : ℕ
    k = end - (at + len)

    back : end - len ≡ at + k
    back = omega arith

    up : at + k + len ≡ end
    up = omega arith

    regroup : take at b ++ take k (drop (at + len) b) ++ replicate len 0 ++ drop end b ≡ take at b ++ (take k (drop (at + len) b) ++ (replicate len 0 ++ drop end b))
    regroup = append_assoc (take at b ++ take k (drop (at + len) b)) (replicate len 0) (drop end b) ∙ append_assoc (take at b) (take k (drop (at + len) b)) (replicate len 0 ++ drop end b)
