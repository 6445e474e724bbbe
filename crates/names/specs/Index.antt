-- An index of entered names, so that a name is looked for among few: one table of two-byte numbers. Entries are numbered from 0 in the order they are entered.
-- 4,096 buckets, each with one more than the number of its last entry or 0; then, for each of 3,444 entries, the same of the entry before it in its bucket; the rest of its hash; its block; its place in the block.
use Rattle.std.specs.Prelude.{ℕ, zero, suc, ◌+◌, ◌*◌, ◌/◌, ◌%◌, ◌<◌, ◌≤◌, ◌≡◌, Bool, cond, ◌&&◌, List, [], ◌∷◌, eqb, leb, length, get_or, set}
use Rattle.disk.specs.Blocks.{block_of}
use Rattle.directory.specs.Entries.{name_in}
use Rattle.rules.specs.Counting.{same_bytes}
use Rattle.rules.specs.Folding.{folded}

-- the folded name at a place of a block
unfoldable pub folded_in : List ℕ → ℕ → ℕ → List ℕ
folded_in img b at = folded (name_in (block_of img b) at)

-- the folded name of entry j
unfoldable pub name_of : List ℕ → List ℕ → ℕ → List ℕ
name_of img index j = folded_in img (get_or index (10984 + j) 0) (get_or index (14428 + j) 0)

-- the folded names of the k entries from `from` on, the last first
unfoldable pub seen_in : List ℕ → List ℕ → ℕ → ℕ → List (List ℕ)
seen_in img index from zero = []
seen_in img index from (suc k) = name_of img index (from + k) ∷ seen_in img index from k

-- a hash below 2 to the 28th of the bytes behind those of h
unfoldable pub hash_from : ℕ → List ℕ → ℕ
hash_from h [] = h
hash_from h (x ∷ l) = hash_from ((h * 31 + x) % 268435456) l

-- the hash of a folded name
unfoldable pub hash_of : List ℕ → ℕ
hash_of name = hash_from 0 name

-- the bucket of a folded name
unfoldable pub bucket_of : List ℕ → ℕ
bucket_of name = hash_of name % 4096

-- the rest of its hash
unfoldable pub print_of : List ℕ → ℕ
print_of name = hash_of name / 4096

-- the bucket of entry j
unfoldable pub bucket_at : List ℕ → List ℕ → ℕ → ℕ
bucket_at img index j = bucket_of (name_of img index j)

-- one more than the last number below a bound that passes; 0 if none does
unfoldable pub last_below : (ℕ → Bool) → ℕ → ℕ
last_below test zero = 0
last_below test (suc n) = cond (test n) (suc n) (last_below test n)

-- one more than the last number below n that f sends to h; 0 if there is none
unfoldable pub latest : (ℕ → ℕ) → ℕ → ℕ → ℕ
latest f h n = last_below (λ j. eqb (f j) h) n

-- entry j is one from `from` on, and has that folded name
unfoldable pub is_same : List ℕ → List ℕ → ℕ → List ℕ → ℕ → Bool
is_same img index from name j = leb from j && same_bytes name (name_of img index j)

-- the place in the image of the first byte of entry k
unfoldable pub start_of : List ℕ → ℕ → ℕ
start_of index k = get_or index (10984 + k) 0 * 512 + get_or index (14428 + k) 0

-- entry k begins within its block
abbrev pub InBlock : List ℕ → ℕ → Type 0
InBlock index k = get_or index (14428 + k) 0 < 512

-- each of the first n entries has the rest of its hash and is linked to the one before it in its bucket
pub record Linked (img index : List ℕ) (n : ℕ) : Type 0 where
  pub prints : (j : ℕ) → j < n → get_or index (7540 + j) 0 ≡ print_of (name_of img index j)
  pub links : (j : ℕ) → j < n → get_or index (4096 + j) 0 ≡ latest (bucket_at img index) (bucket_at img index j) j

-- a chain of bucket h that starts at the entry before `first`
pub record Chain (img index : List ℕ) (h first : ℕ) : Type 0 where
  pub few : first ≤ 3444
  pub linked : Linked img index first
  pub starts : latest (bucket_at img index) h first ≡ first

-- the first n entries are in the index
pub record Indexed (img index : List ℕ) (n : ℕ) : Type 0 where
  pub whole : length index ≡ 17872
  pub few : n ≤ 3444
  pub linked : Linked img index n
  pub last : (h : ℕ) → h < 4096 → get_or index h 0 ≡ latest (bucket_at img index) h n

-- the index with entry i in bucket h, before which `first` stood there
unfoldable pub joined : List ℕ → ℕ → ℕ → ℕ → ℕ → ℕ → ℕ → List ℕ
joined index h i first print b at = set (set (set (set (set index (10984 + i) b) (14428 + i) at) (7540 + i) print) (4096 + i) first) h (i + 1)
