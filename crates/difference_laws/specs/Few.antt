-- There are few differences: no more than the entries of both disks, and of those no more than fit in 3,444 directories of 3,444 blocks with 28 entries each.
use Rattle.std.specs.Prelude.{ℕ, zero, suc, ◌+◌, ◌*◌, ◌≤◌, ◌≡◌, refl, Bool, cond, ◌&&◌, get_or, Some, None, Ok, Err}
use Rattle.std.proofs.Common.{ap, length-append}
use Rattle.std.proofs.Math.Bool.{true, false}
use mathlib.Core.List.{List, [], ◌∷◌, map}
use Rattle.std.proofs.Math.Option.{Option, none, some}
use native.Mathlib.Omega.{arith}
use Rattle.std.proofs.Math.ListN.{length}
use Rattle.std.proofs.Math.Dec.{eqb}
use Rattle.directory.specs.Entries.{Walked}
use Rattle.directory.specs.Entries.{name_in, walked_at}
use Rattle.rules.specs.Counting.{gather}
use Rattle.rules.specs.Anodes.{Anodes, limit, anodes_of}
use Rattle.rules.specs.Chains.{chain_of}
use Rattle.rules.specs.Walk.{Entered, with_rest, entries_from, entries_in, reached_dirs}
use Rattle.rules.specs.Lookup.{entries_of, of_entry}
use Rattle.paths.specs.Paths.{Path, entry_at}
use Rattle.paths.specs.Facts.{facts_of}
use Rattle.differences.specs.Listed.{entry_path, paths}
use Rattle.differences.specs.Fields.{fields_differing, bytes_differing, first_byte_differing, compared_bytes}
use Rattle.differences.specs.Differences.{Difference, only_first, only_second, differing, differing_in, in_both, difference_at, only_second_at, differences}
use Rattle.laws.specs.Chains.{chain_short}
use Rattle.difference_laws.specs.Complete.{few_dirs}

-- lists of at most k elements each, one behind the other
length_gathered {ℓ κ} : {X : Type ℓ} {Y : Type κ} (f : X → List Y) (k : ℕ) → ((x : X) → length (f x) ≤ k) → (l : List X) → length (gather f l) ≤ length l * k
unfolding gather
length_gathered f k few [] = omega arith
length_gathered f k few (x ∷ l) = omega (arith, few x, length_gathered f k few l, length-append (f x) (gather f l))

length_mapped {ℓ κ} : {X : Type ℓ} {Y : Type κ} (f : X → Y) (l : List X) → length (map f l) ≡ length l
length_mapped f [] = refl
length_mapped f (x ∷ l) = ap suc (length_mapped f l)

-- a block has no more entries than its fuel
length_entries : (k : ℕ) (block : List ℕ) (y at : ℕ) → length (entries_from k block y at) ≤ k
unfolding entries_from
length_entries zero block y at = omega arith
length_entries (suc k) block y at = go (walked_at block at) (length_entries k block y (at + get_or block at 0))
  where
    go : (w : Walked) → length (entries_from k block y (at + get_or block at 0)) ≤ k → length (with_rest w (name_in block at) (y * 512 + at) (entries_from k block y (at + get_or block at 0))) ≤ suc k
    go (Ok (Some e)) l = omega (arith, l)
    go (Ok None) l = omega arith
    go (Err r) l = omega arith

length_block : (img : List ℕ) (y : ℕ) → length (entries_in img y) ≤ 28
unfolding entries_in
length_block img y = length_entries 28 _ y 16

length_directory : (img : List ℕ) (s : Anodes) (h : ℕ) → length (entries_of img s h) ≤ 96432
unfolding entries_of
length_directory img s h = omega (arith, length_gathered (λ a. entries_in img (s.block a)) 28 (λ a. length_block img (s.block a)) (chain_of s.next limit h), chain_short s.next limit h)

length-paths : (img : List ℕ) → length (paths img) ≤ 332111808
unfolding paths
length-paths img =
    let s = anodes_of img in
    omega (
      arith,
      length_gathered (λ d. map (entry_path img s d.head) (entries_of img s d.head)) 96432
          (λ d. omega (arith, length_mapped (entry_path img s d.head) (entries_of img s d.head), length_directory img s d.head)) (reached_dirs img s),
      few_dirs img,
    )

-- at a path there is one difference at most
module _ (img j : List ℕ) (path : Path) where
  one_both : (e f : Entered) → length (in_both img j e f) ≤ 1
  unfolding in_both differing_in
  one_both e f = let g = facts_of img e in let h = facts_of j f in go (eqb (fields_differing g h) 0 && eqb (bytes_differing (compared_bytes g h) (compared_bytes h g)) 0) (differing e.start f.start (fields_differing g h) (first_byte_differing (compared_bytes g h) (compared_bytes h g)) (bytes_differing (compared_bytes g h) (compared_bytes h g)))
    where
      go : (b : Bool) (d : Difference) → length (cond b [] (d ∷ [])) ≤ 1
      go true d = omega arith
      go false d = omega arith

  one-first : length (difference_at img j path) ≤ 1
  unfolding difference_at
  one-first = go (entry_at img path) (entry_at j path)
    where
      go : (o p : Option Entered) → length (of_entry o (λ e. of_entry p (in_both img j e) (only_first e.start ∷ [])) []) ≤ 1
      go none p = omega arith
      go (some e) none = omega arith
      go (some e) (some f) = one_both e f

  one_second : length (only_second_at img j path) ≤ 1
  unfolding only_second_at
  one_second = go (entry_at img path) (entry_at j path)
    where
      go : (o p : Option Entered) → length (of_entry {X = List Difference} o (λ e. []) (of_entry p (λ f. only_second f.start ∷ []) [])) ≤ 1
      go none none = omega arith
      go none (some f) = omega arith
      go (some e) p = omega arith

-- so their number fits in four bytes
pub few_differences : (img j : List ℕ) → length (differences img j) ≤ 664223616
unfolding differences
few_differences img j = omega (
  arith,
  length-append (gather (difference_at img j) (paths img)) (gather (only_second_at img j) (paths j)),
  length_gathered (difference_at img j) 1 (one-first img j) (paths img),
  length_gathered (only_second_at img j) 1 (one_second img j) (paths j),
  length-paths img,
  length-paths j,
)
