-- 02, No. 9: what lies below a directory, the blocks that a party uses, whose a directory is, and the tests 30 and 29.
use Rattle.std.specs.Prelude.{ℕ, zero, suc, ◌+◌, ◌-◌, Bool, cond, not, ◌&&◌, ◌||◌, List, eqb, leb, ltb}
use Rattle.rules.specs.Counting.{sum_list, occurrences, any_in}
use Rattle.rules.specs.Anodes.{Anodes, limit}
use Rattle.rules.specs.Chains.{chain_of, block_count}
use Rattle.rules.specs.Walk.{Dir, reached_dirs}
use Rattle.rules.specs.Accepted.{disk_size}
use Rattle.rules.specs.Lookup.{no_directory, entries_of}
use Rattle.rules.specs.Changes.{parent_of}
use Rattle.rules.specs.Totals.{free_blocks}

-- each party's top directory, by its head anode, and its share in blocks
pub record Shares : Type 0 where
  pub first : ℕ
  pub first_share : ℕ
  pub second : ℕ
  pub second_share : ℕ

-- the same in one line
abbrev pub shares : ℕ → ℕ → ℕ → ℕ → Shares
shares first first_share second second_share = record { first = first; first_share = first_share; second = second; second_share = second_share }

-- directory h, its parent, and so on up to the root, whose parent is 0
unfoldable pub way_up : List Dir → ℕ → List ℕ
way_up dirs h = chain_of (parent_of dirs) limit h

-- directory h is top or lies below it
unfoldable pub lies_in : List Dir → ℕ → ℕ → Bool
lies_in dirs top h = leb 1 (occurrences top (way_up dirs h))

-- the blocks of a directory and of the files that it names
unfoldable pub blocks_at : List ℕ → Anodes → ℕ → ℕ
blocks_at img s h = block_count s h + sum_list (λ e. cond e.dir 0 (block_count s e.anode)) (entries_of img s h)

-- a share counts all blocks of that directory and what lies below
unfoldable pub used_in : List ℕ → Anodes → ℕ → ℕ
used_in img s top = sum_list (λ d. cond (lies_in (reached_dirs img s) top d.head) (blocks_at img s d.head) 0) (reached_dirs img s)

-- all that lies outside them and is not free
unfoldable pub used_else : List ℕ → Anodes → Shares → ℕ
used_else img s sh = disk_size img - (free_blocks s + used_in img s sh.first + used_in img s sh.second)

-- the blocks that a party uses; the keeper, party 0, all else
unfoldable pub used_by : List ℕ → Anodes → Shares → ℕ → ℕ
used_by img s sh zero = used_else img s sh
used_by img s sh (suc zero) = used_in img s sh.first
used_by img s sh (suc (suc p)) = used_in img s sh.second

-- the keeper's share, for all else, is the rest
unfoldable pub share_of : List ℕ → Shares → ℕ → ℕ
share_of img sh zero = disk_size img - (sh.first_share + sh.second_share)
share_of img sh (suc zero) = sh.first_share
share_of img sh (suc (suc p)) = sh.second_share

-- 29: so many blocks more would bring the party over its share
unfoldable pub over_share : List ℕ → Anodes → Shares → ℕ → ℕ → Bool
over_share img s sh party more = ltb (share_of img sh party) (used_by img s sh party + more)

-- a directory of the root
unfoldable pub is_top : List ℕ → Anodes → ℕ → Bool
is_top img s h = any_in (λ d. eqb d.head h && eqb d.parent 5) (reached_dirs img s)

-- 30 unless the two are different directories of the root,
unfoldable pub wrong_tops : List ℕ → Anodes → Shares → Bool
wrong_tops img s sh = not (is_top img s sh.first) || (not (is_top img s sh.second) || eqb sh.first sh.second)

-- each share covers what is used already and both together, with all that lies outside them and is not free, fit the disk
unfoldable pub unfit : List ℕ → Anodes → Shares → Bool
unfit img s sh =
    wrong_tops img s sh
    || (over_share img s sh 1 0
    || (over_share img s sh 2 0
    || ltb (disk_size img) (sh.first_share + sh.second_share + used_else img s sh)))

-- 30: a party that is not 0, 1 or 2, or shares that do not fit
unfoldable pub wrong_shares : List ℕ → Anodes → ℕ → Shares → Bool
wrong_shares img s party sh = ltb 2 party || unfit img s sh

-- whose a directory is: a party's own are its top directory and all below; all else, the root too, is the keeper's
unfoldable pub party_of : List Dir → Shares → ℕ → ℕ
party_of dirs sh h = cond (lies_in dirs sh.first h) 1 (cond (lies_in dirs sh.second h) 2 0)

-- 21: directory number is not a reached directory's head, or names one that is not the party's own
unfoldable pub not_own : List ℕ → Anodes → ℕ → Shares → ℕ → Bool
not_own img s party sh h = no_directory img s h || not (eqb (party_of (reached_dirs img s) sh h) party)
