-- The same list as it is worked out, directory by directory: each directory of the first disk has its partner, the directory of the second at the same path, by its head anode, or 0 where there is none.
use Rattle.std.specs.Prelude.{ℕ, cond, ◌&&◌, List, [], ◌∷◌, ◌++◌, get_or, set, replicate, eqb}
use Rattle.std.proofs.Math.Option.{Option}
use Rattle.rules.specs.Counting.{gather}
use Rattle.rules.specs.Anodes.{limit, anodes_of}
use Rattle.rules.specs.Walk.{Dir, Entered, reached_dirs}
use Rattle.rules.specs.Lookup.{entries_of, entry_named, of_entry}
use Rattle.differences.specs.Differences.{Difference, only_first, only_second, in_both}

-- the entry of that name in the partner directory p; 0 heads no directory and has none
unfoldable pub counterpart : List ℕ → ℕ → List ℕ → Option Entered
counterpart j p name = entry_named j (anodes_of j) p name

-- the partner of the directory that an entry names: the directory that its counterpart names, if both name one
unfoldable pub partner_of : Entered → Option Entered → ℕ
partner_of e o = of_entry o (λ f. cond (e.dir && f.dir) f.anode 0) 0

-- two tables by anode: the partners of the directories of the first disk, and 1 for each entry of the second that is a counterpart
pub record Pairs : Type 0 where
  pub partners : List ℕ
  pub met : List ℕ

-- its fields in one line
abbrev pub pairs_of : List ℕ → List ℕ → Pairs
pairs_of partners met = record { partners = partners; met = met }

-- an entry that was met, by its anode
abbrev pub met_by : List ℕ → Option Entered → List ℕ
met_by met o = of_entry o (λ f. set met f.anode 1) met

-- an entry of the second that is no counterpart
unfoldable pub unmet : List ℕ → Entered → List Difference
unmet met f = cond (eqb (get_or met f.anode 0) 0) (only_second f.start ∷ []) []

-- the pairs with one more entry of a directory whose partner is p
unfoldable pub paired : List ℕ → ℕ → Pairs → Entered → Pairs
paired j p t e = pairs_of (set t.partners e.anode (partner_of e (counterpart j p e.name))) (met_by t.met (counterpart j p e.name))

-- with all of them
unfoldable pub paired_all : List ℕ → ℕ → Pairs → List Entered → Pairs
paired_all j p t [] = t
paired_all j p t (e ∷ es) = paired_all j p (paired j p t e) es

-- the partner of a directory, by the pairs so far
abbrev pub partner_in : Pairs → Dir → ℕ
partner_in t d = get_or t.partners d.head 0

-- the two roots are partners
abbrev pub first_pairs : Pairs
first_pairs = pairs_of (set (replicate limit 0) 5 5) (replicate limit 0)

module _ (img j : List ℕ) where
  -- an entry of a directory whose partner is p: only in the first, or in both
  unfoldable pub entry_difference : ℕ → Entered → List Difference
  entry_difference p e = of_entry (counterpart j p e.name) (in_both img j e) (only_first e.start ∷ [])

  -- the pairs behind the entries of a directory
  abbrev pub pairs_behind : Pairs → Dir → Pairs
  pairs_behind t d = paired_all j (partner_in t d) t (entries_of img (anodes_of img) d.head)

  -- the differences of the entries of one directory after the other, with the pairs of those before
  unfoldable pub differences_along : Pairs → List Dir → List Difference
  differences_along t [] = []
  differences_along t (d ∷ ds) =
      gather (entry_difference (partner_in t d)) (entries_of img (anodes_of img) d.head) ++ differences_along (pairs_behind t d) ds

  -- the pairs behind them all
  unfoldable pub pairs_along : Pairs → List Dir → Pairs
  pairs_along t [] = t
  pairs_along t (d ∷ ds) = pairs_along (pairs_behind t d) ds

  -- the differences, so worked out
  unfoldable pub differences_by_pairs : List Difference
  differences_by_pairs =
      differences_along first_pairs (reached_dirs img (anodes_of img))
      ++ gather (λ d. gather (unmet (pairs_along first_pairs (reached_dirs img (anodes_of img))).met) (entries_of j (anodes_of j) d.head)) (reached_dirs j (anodes_of j))
