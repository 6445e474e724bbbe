-- A lent buffer that is being filled with differences, six numbers for each.
use Rattle.std.specs.Prelude.{ℕ, ◌+◌, ◌-◌, cond, List, [], ◌∷◌, length, eqb, ltb}
use Rattle.endian.specs.Bytes.{stored}
use Rattle.differences.specs.Differences.{Difference, numbers_of}

-- the buffer, how many differences are still to be passed before the first is handed out, and how many numbers are there so far
pub record Handing : Type 0 where
  pub out : List ℕ
  pub skip : ℕ
  pub done : ℕ

-- its fields in one line
abbrev pub handing_of : List ℕ → ℕ → ℕ → Handing
handing_of out skip done = record { out = out; skip = skip; done = done }

-- one more difference: nothing where there is no room for it; one fewer to be passed; or its numbers behind those that are there
unfoldable pub hand_out : Handing → Difference → Handing
hand_out h d =
    cond (ltb (length h.out) (h.done + 6)) h
    (cond (eqb h.skip 0) (handing_of (stored h.out h.done (numbers_of d)) 0 (h.done + 6))
    (handing_of h.out (h.skip - 1) h.done))

-- one after the other
unfoldable pub hand_all : Handing → List Difference → Handing
hand_all h [] = h
hand_all h (d ∷ ds) = hand_all (hand_out h d) ds
