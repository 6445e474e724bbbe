-- What the check computes, and the whole accepted state: each follows from the other.
use Rattle.std.specs.Prelude.{ℕ, ◌<◌, ◌≡◌, ◌≢◌, Bool, List, [], ◌∷◌}
use Rattle.std.proofs.Common.{sym, ◌∙◌, inl, inr, arith}
use Rattle.rules.specs.Anodes.{limit, Anodes}
use Rattle.rules.specs.Chains.{head_of, cut}
use Rattle.rules.specs.Walk.{Dir, root, Entered, items_by, twins, done, walk}
use Rattle.laws.specs.Space.{Good}
use Rattle.laws.specs.Passes.{Reading, Passes, good_of, passes_of}
use Rattle.laws.specs.Items.{named_in, faults}
use Rattle.laws.specs.Trees.{tree_one, walk_tree, tree_walk}
use Rattle.laws.specs.Apart.{doubled, apart_sum, sum_apart, walked_apart, walked_plain, walked_twins}
use Rattle.laws.specs.Whole.{named-le, AllNamed, Whole, names_head}

-- 6 to 11 pass, the walk from the root meets no fault, and every head from 6 up is named
module _ (ex : ℕ → Bool) (n last : ℕ) where
  pub record Accepted (s : Anodes) (system : ℕ → ℕ) (entries : ℕ → List Entered) (marked : Dir → ℕ → Bool) (dirs : List Dir) : Type 0 where
    pub reading : Reading limit ex s
    pub passes : Passes limit n last s system
    pub walked : walk (λ d. twins [] (items_by entries marked s d)) limit (root ∷ []) [] ≡ done dirs
    pub all_named : AllNamed s entries marked dirs

-- what a directory with no fault names is below the limit, and not the root
pub named_range : {ex : ℕ → Bool} {n last : ℕ} {s : Anodes} {system hd sd : ℕ → ℕ} → Good limit ex n last s system hd sd → (entries : ℕ → List Entered) (marked : Dir → ℕ → Bool) (d : Dir) (x : ℕ) →
    faults (items_by entries marked s) d ≡ 0 → 0 < named_in (items_by entries marked s) x d → (x ≢ 5) × (x < limit)
named_range {s = s} g entries marked d x z p = elim (names_head g x) [
  | inl q ↦ (λ e. omega (arith, e, q.0), g.linked.view.below x q.1.in_use)
  | inr k ↦ absurd (omega (arith, p, z, named-le entries marked s x k d))
]

module _ {ex : ℕ → Bool} {n last : ℕ} {s : Anodes} {system : ℕ → ℕ} {entries : ℕ → List Entered} {marked : Dir → ℕ → Bool} {dirs : List Dir} where
  pub whole_of : Accepted ex n last s system entries marked dirs → Whole ex n last s system (head_of limit s.next s.block) (head_of limit (cut s.next) s.block) entries marked dirs
  whole_of a =
      let g = good_of a.reading a.passes in
      let items = items_by entries marked s in
      record {
        good = g;
        all_named = a.all_named;
        tree = walk_tree items root limit (omega arith) (named_range g entries marked) limit dirs (walked_plain items limit (root ∷ []) [] dirs a.walked);
        apart = walked_apart items limit (root ∷ []) [] dirs a.walked;
      }

  -- the check accepts whatever is whole, in whatever order its directories were listed
  pub accepted_of : {hd sd : ℕ → ℕ} → Whole ex n last s system hd sd entries marked dirs → (Q : List Dir) × Accepted ex n last s system entries marked Q
  accepted_of w =
      let q = tree_walk (items_by entries marked s) root limit (omega arith) (named_range w.good entries marked) dirs w.tree in
      let t = walk_tree (items_by entries marked s) root limit (omega arith) (named_range w.good entries marked) limit q.0 q.1 in
      let same = tree_one (items_by entries marked s) root dirs q.0 w.tree t in
      let p = passes_of w.good in (
        q.0,
        record {
          reading = p.0;
          passes = p.1;
          walked = walked_twins (items_by entries marked s) limit (root ∷ []) [] q.0 q.1
              (sum_apart (items_by entries marked s) q.0 (λ v. sym (same (doubled (items_by entries marked s) v)) ∙ apart_sum (items_by entries marked s) dirs w.apart v));
          all_named = λ x l d. omega (arith, w.all_named x l d, same (named_in (items_by entries marked s) x));
        },
      )
