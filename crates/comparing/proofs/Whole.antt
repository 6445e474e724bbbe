-- The differences of both parts of the walk are all of them. Assumes nothing.
use Prim.Native.Nat.{ℕ}
use mathlib.Core.Path.{◌≡◌, refl, sym, ap, ◌∙◌}
use mathlib.Core.List.{List, []}
use Rattle.rules.specs.Counting.{gather}
use Rattle.rules.specs.Anodes.{Anodes, anodes_of}
use Rattle.rules.specs.Walk.{Dir, reached_dirs}
use Rattle.rules.specs.Lookup.{entries_of}
use Rattle.anodes.specs.Loaded.{anodes_from}
use Rattle.change_laws.specs.Image.{accepted_own}
use Rattle.walk_steps.specs.Steps.{queue_of}
use Rattle.differences.specs.Differences.{Difference, differences}
use Rattle.differences.specs.Pairs.{Pairs, pairs_of, unmet, first_pairs, pairs_along, differences_along, differences_by_pairs}
use Rattle.differences.specs.Handing.{Handing, hand_all}
use Rattle.handing.specs.HandLaws.{hand_append}
use Rattle.pair_laws.specs.ByPairs.{by_pairs}
use Rattle.comparing.specs.Walked.{OpenWalk}

-- what only the second has, by the tables of its anodes
abbrev unmet_in : List ℕ → List ℕ → Anodes → List Dir → List Difference
unmet_in j met s dirs = gather (λ d. gather (unmet met) (entries_of j s d.head)) dirs

-- the counts are not looked at
counts_unread : (j met c b n : List ℕ) (dirs : List Dir) → unmet_in j met (anodes_from [] b n) dirs ≡ unmet_in j met (anodes_from c b n) dirs
unfolding entries_of anodes_from
counts_unread j met c b n dirs = refl

module _ {img counts firsts nexts queue : List ℕ} {dirs : ℕ} (one : OpenWalk img counts firsts nexts queue dirs)
    {j c b n q : List ℕ} {k : ℕ} (other : OpenWalk j c b n q k) (partners met : List ℕ) (h g r : Handing) where
  pub handed_whole : pairs_of partners met ≡ pairs_along img j first_pairs (reached_dirs img (anodes_of img)) →
      g ≡ hand_all h (differences_along img j first_pairs (reached_dirs img (anodes_of img))) →
      ((parents : List ℕ) → r ≡ hand_all g (unmet_in j met (anodes_from [] b n) (queue_of q parents k))) → r ≡ hand_all h (differences img j)
  unfolding differences_by_pairs
  handed_whole pairs first second =
      let met_is : met ≡ (pairs_along img j first_pairs (reached_dirs img (anodes_of img))).met = ap (λ (t : Pairs). t.met) pairs in
      let all = by_pairs (accepted_own img one.2.loaded.accepted) (accepted_own j other.2.loaded.accepted) in
      second other.0
      ∙ rw (first, other.2.queued, counts_unread j met c b n (reached_dirs j (anodes_of j)) ∙ ap (λ (s : Anodes). unmet_in j met s (reached_dirs j (anodes_of j))) other.2.loaded.is_loaded, met_is) (sym (hand_append h _ _))
      ∙ ap (hand_all h) all
