-- The sum of demand 3: the system's blocks, the free chain, files, directories, the to-be-freed chain and the bad chain make the disk's size.
use Prim.Native.Nat.{ℕ, zero, suc, ◌+◌, ◌*◌, ◌≤◌, ◌<◌}
use Rattle.std.specs.Prelude.{◌≡◌, refl, Bool, true, false, cond, List}
use Rattle.std.proofs.Common.{sym, ◌∙◌}
use Rattle.std.proofs.Math.Path.{ap}
use Rattle.std.proofs.Math.Logic.{inl, inr}
use native.Mathlib.Omega.{arith}
use Rattle.rules.specs.Counting.{one_at, sum_below, sum_list, occurrences}
use Rattle.rules.specs.Anodes.{Anodes}
use Rattle.rules.specs.Walk.{Dir, Item}
use Rattle.laws.specs.Tests.{less?, not_above}
use Rattle.laws.specs.Sums.{one_at_other, sum_congr, sum-add, sum-at}
use Rattle.laws.specs.Bags.{list_add, list_congr, list_scale, list_swap, map-sum, sum_by_occurrences}
use Rattle.laws.specs.Ownership.{total}
use Rattle.laws.specs.Heads.{Head}
use Rattle.laws.specs.Blocks.{blocks, blocks-all}
use Rattle.laws.specs.Space.{Good}
use Rattle.laws.specs.Owners.{hd_below, blocks-none}
use Rattle.laws.specs.Each.{each_map, list_congr_each, each_none}
use Rattle.laws.specs.Items.{names, giving, below, named_in, below-items}
use Rattle.laws.specs.Trees.{Tree}

-- a sum over what a directory names: its files, and its directories
abbrev pub file_size : (ℕ → ℕ) → Item → ℕ
file_size f i = cond i.dir 0 (f i.anode)

names-parts : (items : Dir → List Item) (f : ℕ → ℕ) (d : Dir) → sum_list f (names (items d)) ≡ sum_list (file_size f) (items d) + below items (λ e. f e.head) d
names-parts items f d =
    map-sum (λ i. i.anode) f (items d)
    ∙ list_congr (λ i. f i.anode) (λ i. file_size f i + giving (λ e. f e.head) d.head i) (items d) (λ i. one i.dir (f i.anode))
    ∙ list_add (file_size f) (giving (λ e. f e.head) d.head) (items d)
    ∙ ap (λ (n : ℕ). sum_list (file_size f) (items d) + n) (sym (below-items items (λ e. f e.head) d))
  where
    one : (b : Bool) (m : ℕ) → m ≡ cond b 0 m + cond b m 0
    one true m = omega arith
    one false m = omega arith

-- a sum over the files that some directories name, and over these directories
abbrev pub files_of : (Dir → List Item) → (ℕ → ℕ) → List Dir → ℕ
files_of items f dirs = sum_list (λ d. sum_list (file_size f) (items d)) dirs

abbrev pub dirs_of : (ℕ → ℕ) → List Dir → ℕ
dirs_of f dirs = sum_list (λ d. f d.head) dirs

-- and so a sum over what some directories name
by_kind : (items : Dir → List Item) (f : ℕ → ℕ) (dirs : List Dir) →
    sum_list (λ d. sum_list f (names (items d))) dirs ≡ files_of items f dirs + sum_list (below items (λ e. f e.head)) dirs
by_kind items f dirs =
    list_congr (λ d. sum_list f (names (items d))) (λ d. sum_list (file_size f) (items d) + below items (λ e. f e.head) d) dirs (names-parts items f)
    ∙ list_add (λ d. sum_list (file_size f) (items d)) (below items (λ e. f e.head)) dirs

-- how often files name an anode
abbrev pub named_by_files : (Dir → List Item) → ℕ → List Dir → ℕ
named_by_files items h dirs = files_of items (λ x. one_at x h) dirs

-- an anode is named by files and by directories
pub named_by_kind : (items : Dir → List Item) (h : ℕ) (dirs : List Dir) →
    sum_list (named_in items h) dirs ≡ named_by_files items h dirs + sum_list (below items (λ e. one_at e.head h)) dirs
unfolding occurrences
named_by_kind items h dirs = by_kind items (λ x. one_at x h) dirs

-- ---- the whole

module _ {A : ℕ} {ex : ℕ → Bool} {n last : ℕ} {s : Anodes} {system hd sd : ℕ → ℕ} (g : Good A ex n last s system hd sd)
    (items : Dir → List Item) (top : Dir) (dirs : List Dir) (tree : Tree items top dirs) (top_is : top.head ≡ 5)
    (names_heads : (x : ℕ) → 0 < sum_list (named_in items x) dirs → (6 ≤ x) × (x < A) × Head s.next s.block x)
    (heads_named : (x : ℕ) → 6 ≤ x → Head s.next s.block x → 1 ≤ sum_list (named_in items x) dirs) where
  f : ℕ → ℕ
  f = blocks A hd s.count

  abbrev namings : ℕ → ℕ
  namings x = sum_list (named_in items x) dirs

  -- a head's blocks, as often as it is named, and those of 1, 3, 4 and 5
  abbrev by_name : ℕ → ℕ
  by_name x = namings x * f x + (one_at 1 x * f 1 + one_at 3 x * f 3 + one_at 4 x * f 4 + one_at 5 x * f 5)

  low_unnamed : (x : ℕ) → x < 6 → namings x ≡ 0
  low_unnamed x l = not_above (namings x) (λ p. omega (arith, (names_heads x p).0))

  high : (x : ℕ) → 6 ≤ x → f x ≡ by_name x
  unfolding f
  high x l = rw (one_at_other 1 x (omega arith), one_at_other 3 x (omega arith), one_at_other 4 x (omega arith), one_at_other 5 x (omega arith))
      (elim (less? 0 (namings x)) [
        | inl p ↦ rw (once x p) (omega arith)
        | inr p ↦ rw (blocks-none g x (λ d. omega (arith, heads_named x l d))) (omega arith)
      ])
    where
      once : (x : ℕ) → 0 < namings x → namings x ≡ 1
      once x p = omega (arith, tree.once x)

  -- every head but 1, 3, 4 and 5 is named once
  each : (x : ℕ) → f x ≡ by_name x
  unfolding one_at f
  each zero = rw (low_unnamed 0 (omega arith), blocks-none g 0 (λ d. d.pos refl)) (omega arith)
  each (suc zero) = rw (low_unnamed 1 (omega arith)) (omega arith)
  each (suc (suc zero)) = rw (low_unnamed 2 (omega arith), blocks-none g 2 (λ d. omega (arith, g.two_on, g.heads.at_head 2 d))) (omega arith)
  each (suc (suc (suc zero))) = rw (low_unnamed 3 (omega arith)) (omega arith)
  each (suc (suc (suc (suc zero)))) = rw (low_unnamed 4 (omega arith)) (omega arith)
  each (suc (suc (suc (suc (suc zero))))) = rw (low_unnamed 5 (omega arith)) (omega arith)
  each (suc (suc (suc (suc (suc (suc x)))))) = high (suc (suc (suc (suc (suc (suc x)))))) (omega arith)

  total-named : sum_below f A ≡ sum_below (λ x. namings x * f x) A + (f 1 + f 3 + f 4 + f 5)
  unfolding f
  total-named =
      let six = g.linked.view.below 5 g.fixed.block_5 in
      sum_congr f by_name A (λ x l. each x)
      ∙ omega (
        arith,
        sum-add (λ x. namings x * f x) (λ x. one_at 1 x * f 1 + one_at 3 x * f 3 + one_at 4 x * f 4 + one_at 5 x * f 5) A,
        sum-add (λ x. one_at 1 x * f 1 + one_at 3 x * f 3 + one_at 4 x * f 4) (λ x. one_at 5 x * f 5) A,
        sum-add (λ x. one_at 1 x * f 1 + one_at 3 x * f 3) (λ x. one_at 4 x * f 4) A,
        sum-add (λ x. one_at 1 x * f 1) (λ x. one_at 3 x * f 3) A,
        sum-at 1 (f 1) A (omega arith),
        sum-at 3 (f 3) A (omega arith),
        sum-at 4 (f 4) A (omega arith),
        sum-at 5 (f 5) A (omega arith),
      )

  by_dirs : sum_below (λ x. namings x * f x) A ≡ sum_list (λ d. sum_list f (names (items d))) dirs
  by_dirs = sym (
      list_congr_each (λ d. sum_list f (names (items d))) (λ d. sum_below (λ x. named_in items x d * f x) A) dirs (each_map (λ d. (x : ℕ) → A ≤ x → named_in items x d ≡ 0) (λ d. sum_list f (names (items d)) ≡ sum_below (λ x. named_in items x d * f x) A) dirs
      (λ d e. sum_by_occurrences f (names (items d)) A e) (each_none (named_in items) (λ x. A ≤ x) dirs high_none))
      ∙ list_swap (λ d x. named_in items x d * f x) dirs A
      ∙ sum_congr (λ x. sum_list (λ d. named_in items x d * f x) dirs) (λ x. namings x * f x) A (λ x l. list_scale (named_in items x) (f x) dirs))
    where
      high_none : (x : ℕ) → A ≤ x → namings x ≡ 0
      high_none x l = not_above (namings x) (λ p. omega (arith, (names_heads x p).1))

  -- the sum
  pub tree_total : sum_below system n + (blocks A hd s.count 1 + files_of items (blocks A hd s.count) dirs + dirs_of (blocks A hd s.count) dirs + blocks A hd s.count 3 + blocks A hd s.count 4) ≡ n
  unfolding f
  tree_total =
      omega (
        arith,
        total A s.count s.block system n g.own,
        blocks-all A hd s.count (hd_below g),
        total-named,
        by_dirs,
        by_kind items f dirs,
        tree.exact (λ e. f e.head),
        ap f top_is,
      )
