-- No. 7: where both images hold the same tree there is no difference; so an image compared with itself has none.
use Rattle.std.specs.Prelude.{ℕ, zero, suc, ◌≡◌, true, cond, take, drop, eqb}
use Rattle.std.proofs.Math.Path.{refl}
use Rattle.std.proofs.Common.{sym}
use mathlib.Core.List.{List, [], ◌∷◌}
use Rattle.std.proofs.Math.Option.{Option, none, some, none-ne-some, some-injective}
use Rattle.std.proofs.Math.Dec.{eqb_refl}
use Rattle.rules.specs.Counting.{sum_below, gather, same_bytes}
use Rattle.rules.specs.Walk.{Entered}
use Rattle.rules.specs.Lookup.{of_entry}
use Rattle.laws.specs.Tests.{T_true}
use Rattle.paths.specs.Paths.{Path, entry_at}
use Rattle.paths.specs.Facts.{Facts, facts_of, facts_at, SameTree}
use Rattle.differences.specs.Listed.{paths}
use Rattle.differences.specs.Fields.{unless_same, same_stamps, fields_differing, byte_differs, bytes_differing, compared_bytes}
use Rattle.differences.specs.Differences.{Difference, only_first, only_second, differing_in, in_both, difference_at, only_second_at, differences}

eqb_own : (n : ℕ) → eqb n n ≡ true
eqb_own n = T_true (eqb n n) (eqb_refl n)

same_own : (l : List ℕ) → same_bytes l l ≡ true
unfolding same_bytes
same_own [] = refl
same_own (x ∷ l) = rw (eqb_own x, same_own l)

no_sum : (l : List ℕ) (k : ℕ) → sum_below (λ i. cond (byte_differs l l i) 1 0) k ≡ 0
unfolding sum_below byte_differs
no_sum l zero = refl
no_sum l (suc k) = rw (no_sum l k, same_own (take 1 (drop k l)))

no_bytes : (l : List ℕ) → bytes_differing l l ≡ 0
unfolding bytes_differing
no_bytes l = no_sum l _

no_fields : (f : Facts) → fields_differing f f ≡ 0
unfolding fields_differing unless_same same_stamps
no_fields f = rw (eqb_own f.type, same_own f.name, same_own f.comment, eqb_own f.day, eqb_own f.minute, eqb_own f.tick, eqb_own f.protection, eqb_own f.size)

-- the same facts are no difference
pub same-facts : (first second : ℕ) (f : Facts) → differing_in first second f f ≡ []
unfolding differing_in
same-facts first second f = rw (no_fields f, no_bytes (compared_bytes f f))

module _ (img j : List ℕ) where
  -- at a path where both hold the same facts, or nothing
  none_both : (o p : Option Entered) → of_entry o (λ e. some (facts_of img e)) none ≡ of_entry p (λ e. some (facts_of j e)) none →
      of_entry o (λ e. of_entry p (in_both img j e) (only_first e.start ∷ [])) [] ≡ []
  unfolding in_both
  none_both none p same = refl
  none_both (some e) none same = absurd (none-ne-some _ (sym same))
  none_both (some e) (some f) same = rw (some-injective (facts_of img e) (facts_of j f) same) (same-facts e.start f.start (facts_of j f))

  none_second : (o p : Option Entered) → of_entry o (λ e. some (facts_of img e)) none ≡ of_entry p (λ e. some (facts_of j e)) none →
      of_entry {X = List Difference} o (λ e. []) (of_entry p (λ f. only_second f.start ∷ []) []) ≡ []
  none_second none none same = refl
  none_second none (some f) same = absurd (none-ne-some _ same)
  none_second (some e) p same = refl

  module _ (same : SameTree img j) where
    no_first : (l : List Path) → gather (difference_at img j) l ≡ []
    unfolding gather difference_at facts_at
    no_first [] = refl
    no_first (p ∷ l) = rw (none_both (entry_at img p) (entry_at j p) (same p), no_first l)

    no_second : (l : List Path) → gather (only_second_at img j) l ≡ []
    unfolding gather only_second_at facts_at
    no_second [] = refl
    no_second (p ∷ l) = rw (none_second (entry_at img p) (entry_at j p) (same p), no_second l)

    -- half of the theorem: the same tree has no difference
    pub same_none : differences img j ≡ []
    unfolding differences
    same_none = rw (no_first (paths img), no_second (paths j))

-- an image compared with itself has no difference
pub own_none : (img : List ℕ) → differences img img ≡ []
own_none img = same_none img img (λ path. refl)
