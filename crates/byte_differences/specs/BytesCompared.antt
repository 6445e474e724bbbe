-- How far a comparison of two lists of bytes is, and what is still to come of a chain.
use Rattle.std.specs.Prelude.{ℕ, ◌+◌, ◌-◌, ◌≤◌, ◌≡◌, ◌≢◌, cond, List, [], ◌++◌, length, take, drop, get_or}
use Rattle.disk.specs.Blocks.{block_of}
use Rattle.rules.specs.Counting.{least, sum_below, gather}
use Rattle.rules.specs.Anodes.{limit}
use Rattle.rules.specs.Chains.{chain_of, run}
use Rattle.links.specs.declared.Links.{Links}
use Rattle.links.specs.Links.{anodes_left}
use Rattle.differences.specs.Fields.{byte_differs}
use Rattle.byte_differences.specs.declared.Differing.{Differing}
use Rattle.byte_differences.specs.declared.Place.{Place}

-- how many of the first n bytes differ
unfoldable pub many_in : List ℕ → List ℕ → ℕ → ℕ
many_in l m n = sum_below (λ i. cond (byte_differs l m i) 1 0) n

-- the first of them that does, or n
unfoldable pub first_in : List ℕ → List ℕ → ℕ → ℕ
first_in l m n = least (byte_differs l m) n

-- d answers for the first n bytes; its first is n where none differs
pub record BytesCompared (l m : List ℕ) (n : ℕ) (d : Differing) : Type 0 where
  pub first_is : d.first ≡ first_in l m n
  pub many_is : d.many ≡ many_in l m n

-- a place, in one line
abbrev pub place_made : ℕ → ℕ → Links → Place
place_made from left behind = record { from = from; left = left; behind = behind }

-- the blocks of an anode, by the counts and first blocks in two lists
unfoldable pub extents_of : List ℕ → List ℕ → ℕ → List ℕ
extents_of counts firsts a = run (get_or firsts a 0) (get_or counts a 0)

-- the bytes from a place on: what is left of its extent, then the extents of the anodes behind it
unfoldable pub to_come : List ℕ → (ℕ → List ℕ) → Place → List ℕ
to_come img extents p = take p.left (drop p.from img) ++ gather (block_of img) (gather extents (anodes_left p.behind))

-- a place whose left bytes the image has, and no further on than a first block and a count of two bytes each can say
pub record PlaceWithin (img : List ℕ) (p : Place) : Type 0 where
  pub there : p.left ≤ length img - p.from
  pub small : p.from + p.left ≤ 67107840

-- the place before the first byte of the chain that h heads
pub record StartsAt (nexts : List ℕ) (h : ℕ) (p : Place) : Type 0 where
  pub first : p.from ≡ 0
  pub empty : p.left ≡ 0
  pub whole : anodes_left p.behind ≡ chain_of (λ a. get_or nexts a 0) limit h

-- a place before the first byte of a's extent, with some anodes behind it
pub record Entering (img : List ℕ) (extents : ℕ → List ℕ) (a : ℕ) (behind : List ℕ) (r : Place) : Type 0 where
  pub within : PlaceWithin img r
  pub behind_is : anodes_left r.behind ≡ behind
  pub bytes : to_come img extents r ≡ gather (block_of img) (extents a ++ gather extents behind)

-- the same bytes come from p as from r, and r has some of them where there are any
pub record Settled (img : List ℕ) (extents : ℕ → List ℕ) (p r : Place) : Type 0 where
  pub within : PlaceWithin img r
  pub same : to_come img extents r ≡ to_come img extents p
  pub none : r.left ≡ 0 → to_come img extents r ≡ []

-- the bytes from p on are those of l behind the first n
pub record At (img : List ℕ) (extents : ℕ → List ℕ) (l : List ℕ) (n : ℕ) (p : Place) : Type 0 where
  pub within : PlaceWithin img p
  pub bytes : to_come img extents p ≡ drop n l

-- a length within all four bounds, and 0 only where one of them is
pub record PartLength (left other rest n : ℕ) : Type 0 where
  pub own : n ≤ left
  pub others : n ≤ other
  pub asked : n ≤ rest
  pub small : n ≤ 4096
  pub some : left ≢ 0 → other ≢ 0 → rest ≢ 0 → n ≢ 0
