-- Directories that have the same items: the state is whole again.
use Rattle.std.specs.Prelude.{ℕ, ◌≡◌, Bool, List}
use Rattle.std.proofs.Common.{ap, ◌∙◌, arith}
use Rattle.rules.specs.Counting.{sum_list, occurrences, gather}
use Rattle.rules.specs.Anodes.{Anodes}
use Rattle.rules.specs.Walk.{Dir, Entered, Item, items_by, sub_dirs}
use Rattle.laws.specs.Items.{wrong, names, subs}
use Rattle.laws.specs.Sums.{one_below}
use Rattle.laws.specs.Apart.{name_count, apart_sum, sum_apart}
use Rattle.laws.specs.Trees.{not_lower}
use Rattle.laws.specs.Whole.{Whole}
use Rattle.laws.specs.Members.{Member, member_congr}

module _ {ex : ℕ → Bool} {n last : ℕ} {s : Anodes} {system hd sd : ℕ → ℕ} {entries : ℕ → List Entered} {marked : Dir → ℕ → Bool} {dirs : List Dir}
    (w : Whole ex n last s system hd sd entries marked dirs) (entries' : ℕ → List Entered) (marked' : Dir → ℕ → Bool)
    (same : (d : Dir) → Member d dirs → items_by entries' marked' s d ≡ items_by entries marked s d) where
  abbrev items : Dir → List Item
  items = items_by entries marked s

  abbrev items' : Dir → List Item
  items' = items_by entries' marked' s

  -- a weight of the items of each directory
  same_sum : (f : Dir → List Item → ℕ) → sum_list (λ d. f d (items' d)) dirs ≡ sum_list (λ d. f d (items d)) dirs
  same_sum f = member_congr (λ d. f d (items' d)) (λ d. f d (items d)) dirs (λ d m. ap (f d) (same d m))

  pub whole_same : Whole ex n last s system hd sd entries' marked' dirs
  unfolding subs
  whole_same = record {
    good = w.good;
    tree = record {
      exact = λ f. omega (arith, w.tree.exact f, same_sum (λ d l. sum_list f (gather (sub_dirs d) l)));
      faultless = same_sum (λ d l. sum_list wrong l) ∙ w.tree.faultless;
      once = λ x. omega (arith, w.tree.once x, same_sum (λ d l. occurrences x (names l)));
      height = w.tree.height;
      lower = same_sum (λ d l. sum_list (not_lower w.tree.height (w.tree.height d.head)) (gather (sub_dirs d) l)) ∙ w.tree.lower;
    };
    all_named = λ x l d. omega (arith, w.all_named x l d, same_sum (λ d l. occurrences x (names l)));
    apart = sum_apart items' dirs (λ v. same_sum (λ d l. one_below 1 (name_count v l)) ∙ apart_sum items dirs w.apart v);
  }
