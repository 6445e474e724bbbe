-- Laws of the sums over entries, and of how far they can come. Assumes nothing.
use Prim.Native.Nat.{ℕ, suc, ◌+◌, ◌<◌, ◌≤◌}
use mathlib.Core.Path.{◌≡◌, sym}
use mathlib.Core.List.{List, [], ◌∷◌, ◌++◌}
use native.Mathlib.Omega.{arith}
use native.Mathlib.Numerals.{add-one}
use lib.ListN.{get_or}
use borrow.Author.Tests.{lt-ltb, le-ltb}
use Rattle.directory.specs.declared.Entry.{Entry}
use Rattle.directory.specs.declared.Kind.TheVariants.{File, Directory}
use Rattle.rules.specs.Counting.{sum_list, gather}
use Rattle.rules.specs.Walk.{Entered, entries_in}
use Rattle.laws.specs.Bags.{list_nil, list_one, list_append}
use Rattle.laws.specs.Entries.{entered_at}
use Rattle.lookup.proofs.Laws.{entries_along, along}
use Rattle.walk_steps.specs.Steps.{dirs_from, queue_of}
use Rattle.report.specs.Runs.{one_if_many}
use Rattle.report.specs.Figures.{file_size}
use Rattle.file_sums.specs.declared.FileSums.{FileSums}
use Rattle.file_sums.specs.Sums.{one_if_apart, sums_made, sums_with, EntriesFit, Within}

-- ---- sums over lists of entries

module _ (starts : List ℕ) (t : FileSums) where
  pub sums_none : (es : List Entered) → es ≡ [] → sums_with starts t es ≡ t
  unfolding sums_with
  sums_none es e =
      let b : t.bytes + 0 ≡ t.bytes = omega arith in
      let s : t.split + 0 ≡ t.split = omega arith in
      rw (e, list_nil file_size, list_nil (one_if_apart starts), b, s)

  pub sums_join : (xs ys : List Entered) → sums_with starts t (xs ++ ys) ≡ sums_with starts (sums_with starts t xs) ys
  unfolding sums_with
  sums_join xs ys = rw (
    list_append file_size xs ys,
    list_append (one_if_apart starts) xs ys,
    assoc t.bytes (sum_list file_size xs) (sum_list file_size ys),
    assoc t.split (sum_list (one_if_apart starts) xs) (sum_list (one_if_apart starts) ys),
  )
    where
      assoc : (a b c : ℕ) → a + (b + c) ≡ a + b + c
      assoc a b c = omega arith

-- ---- one entry

module _ (starts : List ℕ) (e : Entry) (name : List ℕ) (start : ℕ) (t : FileSums) where
  pub entry-file : e.kind ≡ File → (size one : ℕ) → size ≡ e.size → one ≡ one_if_many (get_or starts e.anode.0 0) → sums_made (t.bytes + size) (t.split + one) ≡ sums_with starts t (entered_at e name start ∷ [])
  unfolding sums_with file_size one_if_apart
  entry-file k size one bytes split = rw (list_one file_size (entered_at e name start), list_one (one_if_apart starts) (entered_at e name start), k, bytes, split)

  pub entry_directory : e.kind ≡ Directory → t ≡ sums_with starts t (entered_at e name start ∷ [])
  unfolding sums_with file_size one_if_apart
  entry_directory k =
      let b : t.bytes + 0 ≡ t.bytes = omega arith in
      let s : t.split + 0 ≡ t.split = omega arith in
      rw (list_one file_size (entered_at e name start), list_one (one_if_apart starts) (entered_at e name start), k, b, s)

-- the first of some entries, with those behind it
pub sums_first : (starts : List ℕ) (t : FileSums) (es : List Entered) (e : Entered) (rest : List Entered) (r : FileSums) → es ≡ e ∷ rest → r ≡ sums_with starts t (e ∷ []) → sums_with starts r rest ≡ sums_with starts t es
sums_first starts t es e rest r is added = rw (is, added) (sym (sums_join starts t (e ∷ []) rest))

-- ---- along a chain and along the queue

-- the entries of the first of some anodes, and those behind it
pub along_more : (starts : List ℕ) (t : FileSums) (img firsts anodes : List ℕ) (a : ℕ) (rest : List ℕ) → anodes ≡ a ∷ rest → (r : FileSums) → r ≡ sums_with starts t (entries_in img (get_or firsts a 0)) →
    sums_with starts r (entries_along img firsts rest) ≡ sums_with starts t (entries_along img firsts anodes)
along_more starts t img firsts anodes a rest is r added = rw (along img firsts anodes a rest is, added) (sym (sums_join starts t _ _))

module _ (starts : List ℕ) (t : FileSums) (entries : ℕ → List Entered) (queue parents : List ℕ) where
  -- the entries of n directories of the queue, from i on
  abbrev queued : ℕ → ℕ → List Entered
  queued i n = gather (λ d. entries d.head) (dirs_from queue parents i n)

  pub queued-none : (i n : ℕ) → n ≡ 0 → sums_with starts t (queued i n) ≡ t
  unfolding dirs_from gather
  queued-none i n e = sums_none starts t (queued i n) (rw e)

  pub queued_more : (i n m : ℕ) → n ≡ m + 1 → (r : FileSums) → r ≡ sums_with starts t (entries (get_or queue i 0)) → sums_with starts r (queued (i + 1) m) ≡ sums_with starts t (queued i n)
  unfolding dirs_from gather
  queued_more i n m fuel r added = rw (fuel, add-one m, add-one i, added) (sym (sums_join starts t (entries (get_or queue i 0)) (queued (suc i) m)))

  pub queued-all : (n m : ℕ) → m ≡ n → queued 0 m ≡ gather (λ d. entries d.head) (queue_of queue parents n)
  unfolding queue_of
  queued-all n m e = rw e

pub many : (n : ℕ) → 1 < n → 1 ≡ one_if_many n
unfolding one_if_many
many n l = rw (lt-ltb 1 n l)

pub not_many : (n : ℕ) → n ≤ 1 → 0 ≡ one_if_many n
unfolding one_if_many
not_many n l = rw (le-ltb 1 n l)

-- ---- how far the sums can come

pub within_none : (t : FileSums) → Within t t 0
within_none t = record { bytes = omega arith; split = omega arith }

pub within_file : (t : FileSums) (size one : ℕ) → size < 4294967296 → one ≤ 1 → Within t (sums_made (t.bytes + size) (t.split + one)) 1
within_file t size one l m = record { bytes = omega (arith, l); split = omega (arith, m) }

pub within_join : (t u v : FileSums) (j k m : ℕ) → m ≡ j + k → Within t u j → Within u v k → Within t v m
within_join t u v j k m e a b = record { bytes = omega (arith, a.bytes, b.bytes, e); split = omega (arith, a.split, b.split, e) }

pub within_wider : (t u : FileSums) (j k : ℕ) → j ≤ k → Within t u j → Within t u k
within_wider t u j k l a = record { bytes = omega (arith, a.bytes, l); split = omega (arith, a.split, l) }

pub fit_within : (t u : FileSums) (j k m : ℕ) → j + m ≤ k → EntriesFit t k → Within t u j → EntriesFit u m
fit_within t u j k m l f a = record { bytes = omega (arith, f.bytes, a.bytes, l); split = omega (arith, f.split, a.split, l) }

-- the entries of 3,445 directories fit
pub fit_all : EntriesFit (sums_made 0 0) 332208240
fit_all = record { bytes = omega arith; split = omega arith }
