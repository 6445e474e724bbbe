-- 02, No. 4, Slow search for a free anode: what the search hands back, and the search slot by slot, which passes an empty slot in one step.
use Rattle.std.specs.Prelude.{ℕ, zero, suc, ◌+◌, ◌*◌, ◌-◌, Bool, cond, ◌&&◌, eqb, leb, ltb}
use Rattle.rules.specs.Counting.{sum_below}
use Rattle.rules.specs.Anodes.{Anodes}
use Rattle.rules.specs.Space.{lowest_free}

-- the lowest free anode from 6 up, or how many anodes there may be where none is free; and how many anodes were read
pub record Searched : Type 0 where
  pub anode : ℕ
  pub read : ℕ

-- where a search stops, and how many anodes it has read
abbrev pub searched_to : ℕ → ℕ → Searched
searched_to a n = record { anode = a; read = n }

-- A: how many anodes there may be; ex: the anodes that exist
module _ (A : ℕ) (ex : ℕ → Bool) where
  -- read are exactly the anodes of slots not 0, from 6 up to the one found, all if none is
  unfoldable pub anodes_read : Anodes → ℕ
  anodes_read s = sum_below (λ a. cond (leb 6 a && ex a) 1 0) (cond (ltb (lowest_free A ex s) A) (suc (lowest_free A ex s)) A)

  -- the search
  unfoldable pub searched : Anodes → Searched
  searched s = searched_to (lowest_free A ex s) (anodes_read s)

-- ---- the same, slot by slot

-- with n anodes read before it
unfoldable pub after_read : ℕ → Searched → Searched
after_read n r = searched_to r.anode (n + r.read)

-- the first anode of slot k that is looked at: 6 in slot 0
unfoldable pub slot_start : ℕ → ℕ
slot_start zero = 6
slot_start (suc k) = 82 * suc k

-- and the end of the slot
abbrev pub slot_end : ℕ → ℕ
slot_end k = 82 * suc k

-- n anodes of a used slot, from a up, until the first free one; none is: the rest
unfoldable pub through_used : Anodes → ℕ → ℕ → Searched → Searched
through_used s zero a rest = rest
through_used s (suc n) a rest = cond (eqb (s.block a) 0) (searched_to a 1) (after_read 1 (through_used s n (suc a) rest))

-- n slots from slot k up: an empty one is passed in one step
unfoldable pub through_slots : (ℕ → ℕ) → Anodes → ℕ → ℕ → Searched
through_slots slots s zero k = searched_to (82 * k) 0
through_slots slots s (suc n) k = elim (slots k) [
  | zero ↦ through_slots slots s n (suc k)
  | suc b ↦ through_used s (slot_end k - slot_start k) (slot_start k) (through_slots slots s n (suc k))
]

-- all 42
unfoldable pub searched_by_slots : (ℕ → ℕ) → Anodes → Searched
searched_by_slots slots s = through_slots slots s 42 0
