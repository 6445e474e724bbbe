-- The lowest empty slot, and the tables with a block in it.
use Prim.Native.Nat.{ℕ, zero, suc, ◌+◌, ◌<◌}
use mathlib.Core.Path.{◌≡◌, refl, ap, ◌∙◌}
use mathlib.Core.Bool.{Bool, true, false, cond}
use mathlib.Core.List.{List}
use mathlib.Core.Option.{none, some}
use Rattle.std.specs.Prelude.{Option, Some, None, option_map, MatchOption}
use Rattle.std.specs.List.{find, range_with_len}
use borrow.Author.Count.{below_more}
use native.Mathlib.Omega.{arith}
use lib.Dec.{eqb}
use lib.ListN.{length, get_or, set}
use Rattle.rules.specs.Counting.{changed, least}
use Rattle.rules.specs.Anodes.{Anodes, limit}
use Rattle.rules.specs.Plans.{Slotted, slotted}
use Rattle.rules.specs.Space.{nowhere, found, free_extent, without_run}
use Rattle.rules.specs.Growth.{empty_slot, slot_from, grown}
use Rattle.laws.specs.Sums.{least-found, least-none}
use Rattle.laws.specs.Grown.{grown-full, grown_nowhere, grown-found}
use Rattle.anodes.specs.Loaded.{anodes_from, slots_from, table_from}
use Rattle.placing.proofs.Tables.{set-changed}
use Rattle.placing.proofs.Found.{first_out}
use Rattle.growing.specs.Grown.{growth_if}

-- ---- the lowest empty slot

-- r is the least number below top that passes, if there is one
abbrev IsLeast : (ℕ → Bool) → ℕ → Option ℕ → Type 0
IsLeast test top r = MatchOption r (least test top ≡ top) (λ k. (k < top) × (least test top ≡ k))

-- the first of the numbers from a up to top that passes, where none below a does
first_least : (test : ℕ → Bool) (a n top : ℕ) → a + n ≡ top → ((j : ℕ) → j < a → test j ≡ false) → IsLeast test top (find test (range_with_len a n))
first_least test a zero top e before = least-none test top (λ j m. before j (omega arith))
first_least test a (suc n) top e before = go (test a) refl (λ q. first_least test (a + 1) n top (omega arith) (below_more (λ j. test j ≡ false) a before q))
  where
    go : (b : Bool) → test a ≡ b → (test a ≡ false → IsLeast test top (find test (range_with_len (a + 1) n))) → IsLeast test top (cond b (Some a) (find test (range_with_len (a + 1) n)))
    go true q later = (omega arith, least-found test a top (omega arith) before q)
    go false q later = later q

pub empty_first : (slots : ℕ → ℕ) (r : Option ℕ) → option_map (λ x. x) r ≡ find (λ k. eqb (slots k) 0) (range_with_len 0 42) → MatchOption r (empty_slot slots ≡ 42) (λ k. (k < 42) × (empty_slot slots ≡ k))
unfolding empty_slot
empty_first slots None e = rw (← e) at (first_least (λ k. eqb (slots k) 0) 0 42 42 refl (λ j l. absurd (omega arith)))
empty_first slots (Some k) e = rw (← e) at (first_least (λ k. eqb (slots k) 0) 0 42 42 refl (λ j l. absurd (omega arith)))

-- ---- growth on tables

-- slots that may not grow do not
pub grows_not : (b : Bool) → b ≡ false → (s : Slotted) → growth_if b s ≡ none
grows_not b e s = rw e

-- nor do those that cannot
pub grows_nowhere : (b : Bool) (s : Slotted) → grown limit s ≡ none → growth_if b s ≡ none
grows_nowhere true s e = e
grows_nowhere false s e = refl

module _ (s : Slotted) where
  -- no slot is empty
  pub grows_full : (b : Bool) → empty_slot s.slots ≡ 42 → growth_if b s ≡ none
  grows_full b e = grows_nowhere b s (grown-full limit s e)

  -- no block is free
  pub grows_out : (b : Bool) → free_extent limit true s.anodes ≡ nowhere → growth_if b s ≡ none
  grows_out b e = grows_nowhere b s (grown_nowhere limit s e)

-- the tables with the first block of the extent x, after p, in the lowest empty slot k
module _ (c f n slots : List ℕ) (all : length slots ≡ 42) (k p x y : ℕ) (lowest : k ≡ empty_slot (slots_from slots)) (low : k < 42) (first : free_extent 3444 true (anodes_from c f n) ≡ found p x) (here : y ≡ get_or f x 0) where
  -- the slots have grown, where the block is out of the free list
  pub grows_tables : (b : Bool) → b ≡ true → (t : Anodes) → t ≡ without_run (anodes_from c f n) 2 p x 1 (y + 1) → growth_if b (table_from c f n slots) ≡ some (slotted t (slots_from (set slots k y)))
  unfolding slot_from slots_from anodes_from
  grows_tables b e t out =
      let same : slots_from (set slots k y) ≡ changed (slots_from slots) (empty_slot (slots_from slots)) (get_or f x 0) = set-changed slots k y (omega arith) ∙ rw (lowest, here) in
      rw (e, out ∙ first_out (anodes_from c f n) p x (y + 1) (ap (λ (b : ℕ). b + 1) here), same) (grown-found limit (table_from c f n slots) (omega (arith, lowest, low)) p x first)
