-- No. 7, proved: 22 at place 0 exactly for the same tree, and each difference listed once.
use Rattle.std.specs.Prelude.{ℕ, ◌≡◌, refl, length}
use Rattle.std.proofs.Common.{sym, ◌∙◌, arith}
use Rattle.std.proofs.Math.Path.{ap}
use mathlib.Core.List.{List, [], ◌∷◌}
use Rattle.laws.specs.Tests.{first_of-none}
use Rattle.change_laws.specs.Image.{AcceptedImage}
use Rattle.differences.specs.Differences.{Difference, differences}
use Rattle.differences.specs.Calls.{nth_difference, place_answer, answer_for, compared, compare_outcome}
use Rattle.difference_laws.specs.SameTree as same_tree
use Rattle.difference_laws.specs.NoDifference as no_difference
use Rattle.difference_laws.specs.Complete.{complete}
use Rattle.difference_laws.specs.Claims.{NoneReported, CompareTheorem}
use Rattle.difference_laws.specs.EachReported as each

-- the first place answers 22 only for an empty list
none_first : (l : List Difference) → place_answer (nth_difference l 0) ≡ 22 → l ≡ []
unfolding nth_difference
none_first [] e = refl
none_first (d ∷ l) e = absurd (omega (arith, e))

-- images that the check accepts with the tables it is lent
module _ (img blocks anodes j second_blocks second_anodes : List ℕ) (first : answer_for img blocks anodes ≡ 0) (second : answer_for j second_blocks second_anodes ≡ 0) where
  a : AcceptedImage img
  a = record { blocks = length blocks; anodes = length anodes; accepted = first }

  b : AcceptedImage j
  b = record { blocks = length second_blocks; anodes = length second_anodes; accepted = second }

  -- both being accepted, the call answers by the list
  answer_is : (compare_outcome img blocks anodes j second_blocks second_anodes 0).answer ≡ place_answer (nth_difference (differences img j) 0)
  unfolding compare_outcome compared
  answer_is = first_of-none (answer_for img blocks anodes) _ first ∙ first_of-none (answer_for j second_blocks second_anodes) _ second

  -- no difference is reported exactly where both hold the same tree
  pub none-reported : NoneReported img blocks anodes j second_blocks second_anodes
  unfolding nth_difference
  none-reported = record {
    same_none = λ same. answer_is ∙ ap (λ (l : List Difference). place_answer (nth_difference l 0)) (same_tree.same_none img j same);
    none-same = λ e. no_difference.none-same img j (complete a) (complete b) (none_first (differences img j) (sym answer_is ∙ e));
  }

-- THE THEOREM
pub compare_theorem : CompareTheorem
compare_theorem img blocks anodes j second_blocks second_anodes first second = record {
  none-reported = none-reported img blocks anodes j second_blocks second_anodes first second;
  each_reported = each.each_reported (a img blocks anodes j second_blocks second_anodes first second) (b img blocks anodes j second_blocks second_anodes first second);
}
