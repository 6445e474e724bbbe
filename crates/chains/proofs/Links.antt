-- 8 by what its parts find. `c`, `b`, `n` and `t` are the tables of counts, of first blocks, of nexts and of predecessors.
use Prim.Native.Nat.{ℕ, ◌<◌}
use mathlib.Core.Path.{◌≡◌, sym, ◌∙◌}
use mathlib.Core.Logic.{◌≢◌, inl, inr}
use mathlib.Core.Bool.{Bool, true, false, not, ◌||◌, or-true}
use mathlib.Core.List.{List}
use native.Mathlib.Omega.{arith}
use lib.ListN.{get_or}
use lib.Dec.{eqb, ltb}
use borrow.Author.Tests.{lt-ltb, le-ltb, eq-eqb, ne_eqb, eqb-false, not-true}
use Rattle.rules.specs.Counting.{any_below}
use Rattle.rules.specs.Chains.{preds, followed}
use Rattle.rules.specs.Accepted.{wrong_link, wrong_at, has_pred, wrong_links}
use Rattle.anodes.specs.Loaded.{anodes_from}
use Rattle.counting.specs.Laws.{none_or, none-and, any_below_hit, any_below-all}
use Rattle.laws.specs.Tests.{same?, same}
use Rattle.laws.specs.Links.{View, Linked, checked, Closed}
use Rattle.chains.specs.Predecessors.{PredTable, NotedBelow, Twice, Noted, fixed_noted}
use Rattle.chains.specs.Endings.{Endless, AllEnd, Ends}
use Rattle.chains.proofs.Predecessors.{preds-none, preds_some, preds-one}

-- a next is an anode
pub next_in : (b n : List ℕ) → View 3444 (λ a. get_or n a 0) (λ a. get_or b a 0) → Closed (λ a. get_or n a 0) (λ a. get_or b a 0) → (a : ℕ) → get_or n a 0 < 3444
next_in b n v closed a = elim (same? (get_or n a 0) 0) [ inl z ↦ omega arith | inr h ↦ v.below (get_or n a 0) (closed a h) ]

-- an anode with two predecessors is in use
twice_used : (b n : List ℕ) → Closed (λ a. get_or n a 0) (λ a. get_or b a 0) → (w : Twice n) → get_or b w.anode 0 ≢ 0
twice_used b n closed w = rw w.leads at (closed w.before (λ z. w.some (sym w.leads ∙ z)))

-- by links in order no second predecessor is found
pub noted_once : (b n : List ℕ) → Linked 3444 (λ a. get_or n a 0) (λ a. get_or b a 0)
    → (r : Bool) (t : List ℕ) → Noted r t n 3444 → NotedBelow t n 3444
noted_once b n k true t w = absurd (omega (arith, w.two, (checked k).one_pred w.anode w.some (twice_used b n k.closed w)))
noted_once b n k false t w = w

module _ (c b n : List ℕ) where
  links_at : (a : ℕ) → a < 3444 → wrong_at (anodes_from c b n) a ≡ true → wrong_links (anodes_from c b n) ≡ true
  unfolding wrong_links
  links_at a l h = rw (any_below_hit (wrong_at (anodes_from c b n)) a 3444 l h)

  pub links_twice : View 3444 (λ a. get_or n a 0) (λ a. get_or b a 0) → Closed (λ a. get_or n a 0) (λ a. get_or b a 0) → Twice n → wrong_links (anodes_from c b n) ≡ true
  unfolding wrong_at wrong_link anodes_from
  links_twice v closed w =
      let x = w.anode in
      let u = twice_used b n closed w in
      links_at x (v.below x u) (rw (ne_eqb x 0 w.some, ne_eqb (get_or b x 0) 0 u, lt-ltb 1 (preds 3444 (λ a. get_or n a 0) x) w.two))

  links_endless : View 3444 (λ a. get_or n a 0) (λ a. get_or b a 0) → Endless n b → wrong_links (anodes_from c b n) ≡ true
  unfolding wrong_at wrong_link anodes_from
  links_endless v w =
      let x = w.anode in
      links_at x (v.below x w.in_use) (rw (ne_eqb x 0 w.some, ne_eqb (get_or b x 0) 0 w.in_use, ne_eqb (followed (λ a. get_or n a 0) 3444 x) 0 w.never, or-true))

  module _ (t : List ℕ) (w : PredTable t n) (first : get_or n 0 0 ≡ 0) where
    has_pred_lem : (x : ℕ) → x ≢ 0 → has_pred (anodes_from c b n) x ≡ not (eqb (get_or t x 0) 0)
    unfolding has_pred anodes_from
    has_pred_lem x h = elim (same? (get_or t x 0) 0) [
      | inl z ↦ rw (preds-none t n w first x h z, eq-eqb (get_or t x 0) 0 z)
      | inr z ↦ rw (lt-ltb 0 (preds 3444 (λ a. get_or n a 0) x) (preds_some t n w x z), ne_eqb (get_or t x 0) 0 z)
    ]

    -- what is left once no anode has two predecessors
    links_rest : wrong_links (anodes_from c b n) ≡ (any_below (wrong_at (anodes_from c b n)) 3444 || fixed_noted t)
    unfolding wrong_links
    links_rest = rw (has_pred_lem 1 (λ z. omega arith), has_pred_lem 3 (λ z. omega arith), has_pred_lem 4 (λ z. omega arith), has_pred_lem 5 (λ z. omega arith))

    pub links_fixed : true ≡ fixed_noted t → wrong_links (anodes_from c b n) ≡ true
    links_fixed e = links_rest ∙ rw (← e, or-true)

    right_at : AllEnd n b → (a : ℕ) → wrong_at (anodes_from c b n) a ≡ false
    unfolding wrong_at wrong_link anodes_from
    right_at ends a =
        none-and (not (eqb a 0)) _ (λ p.
        none-and (not (eqb (get_or b a 0) 0)) _ (λ q.
        let some = eqb-false a 0 (not-true (eqb a 0) p) in
        let used = eqb-false (get_or b a 0) 0 (not-true (eqb (get_or b a 0) 0) q) in
        none_or (ltb 1 (preds 3444 (λ x. get_or n x 0) a)) _ (le-ltb 1 (preds 3444 (λ x. get_or n x 0) a) (preds-one t n w a some)) (same (followed (λ x. get_or n x 0) 3444 a) 0 (ends.ends a some used))))

    links_right : false ≡ fixed_noted t → AllEnd n b → wrong_links (anodes_from c b n) ≡ false
    links_right e ends = links_rest ∙ rw (← e, any_below-all (wrong_at (anodes_from c b n)) 3444 (λ a l. right_at ends a))

    pub links_ends : View 3444 (λ a. get_or n a 0) (λ a. get_or b a 0) → false ≡ fixed_noted t → (r : Bool) → Ends r n b → wrong_links (anodes_from c b n) ≡ r
    links_ends v e true ends = links_endless v ends
    links_ends v e false ends = links_right e ends
