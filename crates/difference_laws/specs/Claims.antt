-- 02, No. 7: what is claimed of the list of differences, for any two accepted images.
use Rattle.std.specs.Prelude.{ℕ, ◌≡◌, ◌≢◌, List, map}
use Rattle.std.proofs.Math.Option.{none, some}
use Rattle.rules.specs.Counting.{occurrences}
use Rattle.rules.specs.Walk.{Entered}
use Rattle.laws.specs.Members.{Member}
use Rattle.paths.specs.Paths.{Path, entry_at}
use Rattle.paths.specs.Facts.{facts_of, facts_at, SameTree}
use Rattle.differences.specs.Fields.{fields_differing, first_byte_differing, bytes_differing, compared_bytes}
use Rattle.differences.specs.Differences.{Difference, only_first, only_second, differing, differences}
use Rattle.differences.specs.Calls.{answer_for, compare_outcome}

-- no difference is reported exactly when both hold the same tree with the same fields and bytes: then, and only then, 22 is the answer for place 0
pub record NoneReported (img blocks anodes j second_blocks second_anodes : List ℕ) : Type 0 where
  pub same_none : SameTree img j → (compare_outcome img blocks anodes j second_blocks second_anodes 0).answer ≡ 22
  pub none-same : (compare_outcome img blocks anodes j second_blocks second_anodes 0).answer ≡ 22 → SameTree img j

-- an entry of each image, with other facts, and what is said of them
pub record Differ (img j : List ℕ) (path : Path) (first second fields byte many : ℕ) : Type 0 where
  pub one : Entered
  pub other : Entered
  pub in_first : entry_at img path ≡ some one
  pub in_second : entry_at j path ≡ some other
  pub facts : facts_of img one ≢ facts_of j other
  pub first_place_lem : first ≡ one.start
  pub second_place_lem : second ≡ other.start
  pub its_fields : fields ≡ fields_differing (facts_of img one) (facts_of j other)
  pub its_byte : byte ≡ first_byte_differing (compared_bytes (facts_of img one) (facts_of j other)) (compared_bytes (facts_of j other) (facts_of img one))
  pub its_many : many ≡ bytes_differing (compared_bytes (facts_of img one) (facts_of j other)) (compared_bytes (facts_of j other) (facts_of img one))

-- an entry that one image has at a path and the other has not
pub record Only (img j : List ℕ) (path : Path) (place : ℕ) : Type 0 where
  pub one : Entered
  pub here : entry_at img path ≡ some one
  pub not_there : entry_at j path ≡ none
  pub its_place : place ≡ one.start

-- a difference is that of a path, and names the entries of that path
abbrev pub OfPath : List ℕ → List ℕ → Path → Difference → Type 0
OfPath img j path (only_first first) = Only img j path first
OfPath img j path (only_second second) = Only j img path second
OfPath img j path (differing first second fields byte many) = Differ img j path first second fields byte many

-- the place in the first image that a difference names
abbrev pub first_place : Difference → ℕ
first_place (only_first first) = first
first_place (only_second second) = 0
first_place (differing first second fields byte many) = first

-- and in the second
abbrev pub second_place : Difference → ℕ
second_place (only_first first) = 0
second_place (only_second second) = second
second_place (differing first second fields byte many) = second

-- each reported difference is one, and each one is reported, once: an entry's place stands in the list once if the other image has other facts, or nothing, at its path, and else not at all
pub record EachReported (img j : List ℕ) : Type 0 where
  pub is_one : (d : Difference) → Member d (differences img j) → (path : Path) × OfPath img j path d
  pub first_once : (path : Path) (e : Entered) → entry_at img path ≡ some e → facts_at img path ≢ facts_at j path → occurrences e.start (map first_place (differences img j)) ≡ 1
  pub first-none : (path : Path) (e : Entered) → entry_at img path ≡ some e → facts_at img path ≡ facts_at j path → occurrences e.start (map first_place (differences img j)) ≡ 0
  pub second_once : (path : Path) (f : Entered) → entry_at j path ≡ some f → facts_at img path ≢ facts_at j path → occurrences f.start (map second_place (differences img j)) ≡ 1
  pub second_none : (path : Path) (f : Entered) → entry_at j path ≡ some f → facts_at img path ≡ facts_at j path → occurrences f.start (map second_place (differences img j)) ≡ 0

-- both, for images that the check accepts with the tables it is lent
pub record CompareHolds (img blocks anodes j second_blocks second_anodes : List ℕ) : Type 0 where
  pub none-reported : NoneReported img blocks anodes j second_blocks second_anodes
  pub each_reported : EachReported img j

-- THE THEOREM of No. 7
abbrev pub CompareTheorem : Type 0
CompareTheorem = (img blocks anodes j second_blocks second_anodes : List ℕ) →
    answer_for img blocks anodes ≡ 0 → answer_for j second_blocks second_anodes ≡ 0 → CompareHolds img blocks anodes j second_blocks second_anodes
