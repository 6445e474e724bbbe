-- Laws of the tally: the lengths of the tables, and the numbers of the entries. Assumes nothing.
use Prim.Native.Nat.{ℕ, ◌+◌, ◌-◌, ◌<◌, ◌≤◌}
use mathlib.Core.Path.{◌≡◌, sym, ◌∙◌}
use mathlib.Core.List.{List, [], ◌∷◌}
use native.Mathlib.Omega.{arith}
use lib.ListN.{length}
use Rattle.rules.specs.Anodes.{limit}
use Rattle.rules.specs.Walk.{Item}
use Rattle.names.specs.Index.{seen_in, Indexed}
use Rattle.walk_steps.proofs.Laws.{marked-most, length_queue, Grown, item_grown}
use Rattle.walk_steps.specs.declared.Tally.{Tally}
use Rattle.walk_steps.specs.Steps.{going, enter_item, queue_of, Fits, WalkRoom, number_in, seen_by, Numbered}

-- ---- the lengths of the tables

-- the three tables are as long as they were
pub record SameLengths (marks queue parents marks₀ queue₀ parents₀ : List ℕ) : Type 0 where
  pub of_marks : length marks ≡ length marks₀
  pub of_queue : length queue ≡ length queue₀
  pub of_parents : length parents ≡ length parents₀

-- as tables that suffice are
pub same-lengths : {marks queue parents marks₀ queue₀ parents₀ : List ℕ} (t u : Tally) → WalkRoom t marks queue parents → WalkRoom u marks₀ queue₀ parents₀
    → SameLengths marks queue parents marks₀ queue₀ parents₀
same-lengths t u r s = record { of_marks = r.0 ∙ sym s.0; of_queue = r.1 ∙ sym s.1; of_parents = r.2 ∙ sym s.2 }

-- ---- the numbers of the entries

module _ (head : ℕ) (i : Item) (queue parents marks : List ℕ) (t : Tally) (queue' parents' marks' : List ℕ) (u : Tally) where
  -- after an item that the walk goes on from, the next number is the one after its own
  pub number_more : going (queue_of queue' parents' u.last) marks' u.files ≡ enter_item head i (queue_of queue parents t.last) marks t.files
      → (u.last + u.files ≡ t.last + t.files + 1) × (t.last ≤ u.last)
  number_more e =
      let g = item_grown head i (queue_of queue parents t.last) marks t.files in
      let h : Grown (length (queue_of queue parents t.last)) t.files (going (queue_of queue' parents' u.last) marks' u.files) = rw (← e) at g in
      let p = length_queue queue parents t.last in
      let q = length_queue queue' parents' u.last in
      (omega (arith, h.0, p, q), omega (arith, h.1, p, q))

module _ (img index index' : List ℕ) (from : ℕ) (name : List ℕ) (t u : Tally) (next : (u.last + u.files ≡ t.last + t.files + 1) × (t.last ≤ u.last)) (old : Numbered img index from t) where
  number_next : number_in u ≡ number_in t + 1
  number_next = omega (arith, next.0, old.1)

  -- the index with the name of that entry
  pub numbered_more : Indexed img index' (number_in t + 1) → Numbered img index' from u
  numbered_more i = (rw number_next i, omega (arith, next.1, old.1), omega (arith, number_next, old.2))

  pub seen_more : seen_in img index' from (number_in t + 1 - from) ≡ name ∷ seen_by img index from t → seen_by img index' from u ≡ name ∷ seen_by img index from t
  seen_more e = rw number_next e

-- numbers fit
pub number_room : (img index marks : List ℕ) (from : ℕ) (t : Tally) → Numbered img index from t → Fits t marks → length marks ≡ limit → (number_in t < limit) × (t.last ≤ limit)
number_room img index marks from t n f w = let most = marked-most marks in (omega (arith, most, n.1, f, w), omega (arith, most, f, w))

-- at the start of a directory none was seen
pub seen_start : (img index : List ℕ) (t : Tally) → seen_by img index (number_in t) t ≡ []
unfolding seen_in
seen_start img index t = let e : number_in t - number_in t ≡ 0 = omega arith in rw e
