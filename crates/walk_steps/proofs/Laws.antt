-- Laws of the walk's steps. Assumes nothing.
use Rattle.std.specs.Prelude.{Some, Ok, Err}
use Prim.Native.Nat.{ℕ, zero, suc, ◌+◌, ◌<◌, ◌≤◌}
use mathlib.Core.Path.{◌≡◌, refl, sym, ap, ◌∙◌}
use mathlib.Core.Bool.{Bool, true, false, cond, false≢true}
use mathlib.Core.List.{List, [], ◌∷◌, ◌++◌, map}
use native.Mathlib.Nat.{not-suc-le-zero, zero-add, add-zero}
use native.Mathlib.Numerals.{add-one}
use native.Mathlib.Omega.{arith}
use lib.Dec.{eqb, leb, ltb}
use lib.ListN.{length, get_or, set, take, drop, length-set, length-append, drop_of_length-le}
use lib.Seq.{take_all, take-add, take-append-le, drop-append-le, get_or-set_same, get_or-set_other}
use borrow.Author.Tests.{eq-eqb, ne_eqb, leb-true, ltb-true}
use Rattle.disk.specs.declared.Refusal.{Refusal}
use Rattle.disk.specs.Refusals.{number_of}
use Rattle.directory.specs.declared.Kind.TheVariants.{File, Directory}
use Rattle.directory.specs.declared.Entry.{Entry}
use Rattle.directory.specs.Entries.{Walked}
use Rattle.rules.specs.Counting.{sum_list, gather, any_in, same_bytes}
use Rattle.rules.specs.Folding.{folded}
use Rattle.rules.specs.Anodes.{Anodes, limit}
use Rattle.rules.specs.Walk.{Dir, Entered, Item, with_rest, entries_in, is_block_of, items_for, broken_item, as_twin, twins, blocks_for, dir_made}
use Rattle.laws.specs.Apart.{seen_after, twins-append}
use Rattle.laws.specs.Entries.{entered_at}
use Rattle.laws.specs.Chains.{chain-none, chain_step, chain-end}
use Rattle.walk_steps.specs.Steps.{sum_from, head_at, item_in, Progress, stopped, going, refuse, enter_item, onward, enter_all, items_from, halted, ended, after_dir, run_from, dirs_from, queue_of, marked}

-- ---- the sum along a chain

module _ (counts nexts : List ℕ) where
  pub sum-none : (k a : ℕ) → k ≡ 0 → sum_from counts nexts k a ≡ 0
  unfolding sum_from sum_list
  sum-none k a e = rw (chain-none (λ x. get_or nexts x 0) k a e)

  pub sum-end : (k a : ℕ) → a ≡ 0 → sum_from counts nexts k a ≡ 0
  unfolding sum_from sum_list
  sum-end k a e = rw (chain-end (λ x. get_or nexts x 0) k a e)

  pub sum_step : (k m a : ℕ) → k ≡ m + 1 → (a ≡ 0 → ⊥) → sum_from counts nexts k a ≡ get_or counts a 0 + sum_from counts nexts m (get_or nexts a 0)
  unfolding sum_from sum_list
  sum_step k m a e n = rw (chain_step (λ x. get_or nexts x 0) k m a e n)

-- ---- marks

-- an anode that an entry may name has a place in the tables
pub head_range : (heads : List ℕ) (a : ℕ) → head_at heads a ≡ true → (6 ≤ a) × (a < limit)
unfolding head_at
head_range heads a h = go (leb 6 a) (ltb a limit) refl refl h where
  go : (p q : Bool) → leb 6 a ≡ p → ltb a limit ≡ q → cond p (cond q (eqb (get_or heads a 0) a) false) false ≡ true → (6 ≤ a) × (a < limit)
  go false q e f t = absurd (false≢true t)
  go true false e f t = absurd (false≢true t)
  go true true e f t = (leb-true 6 a e, ltb-true a limit f)

pub marked_more : (marks : List ℕ) (i : ℕ) → i < length marks → get_or marks i 0 ≡ 0 → marked (set marks i 1) ≡ marked marks + 1
unfolding marked sum_list
marked_more [] i h e = absurd (not-suc-le-zero h)
marked_more (x ∷ l) zero h e = rw e (omega arith)
marked_more (x ∷ l) (suc i) h e = omega (arith, marked_more l i (omega arith) e)

one-most : (b : Bool) → cond b 0 1 ≤ 1
one-most true = omega arith
one-most false = omega arith

pub marked-most : (marks : List ℕ) → marked marks ≤ length marks
unfolding marked sum_list
marked-most [] = omega arith
marked-most (x ∷ l) = omega (arith, marked-most l, one-most (eqb x 0))

-- so one more fits where n have marks of their own
pub marked-room : (heads marks : List ℕ) (a n : ℕ) → head_at heads a ≡ true → get_or marks a 0 ≡ 0 → length marks ≡ limit → n ≤ marked marks
    → (n < limit) × (n + 1 ≤ marked (set marks a 1))
marked-room heads marks a n h e whole fits =
    let range = head_range heads a h in
    let more = marked_more marks a (omega arith) e in
    let most = marked-most (set marks a 1) in
    let same = length-set marks a 1 in
    (omega arith, omega arith)

-- ---- the queue

dirs_push : (queue parents : List ℕ) (i n j a h : ℕ) → j ≡ i + n → j < length queue → j < length parents
    → dirs_from (set queue j a) (set parents j h) i (suc n) ≡ dirs_from queue parents i n ++ (dir_made a h ∷ [])
unfolding dirs_from
dirs_push queue parents i zero j a h e p q =
    let k : i ≡ j = omega arith in
    rw (k, get_or-set_same queue j a 0 p, get_or-set_same parents j h 0 q)
dirs_push queue parents i (suc n) j a h e p q =
    rw (get_or-set_other queue j i a 0 (omega arith), get_or-set_other parents j i h 0 (omega arith), dirs_push queue parents (suc i) n j a h (omega arith) p q)

pub queue_push : (queue parents : List ℕ) (n a h : ℕ) → n < length queue → n < length parents
    → queue_of (set queue n a) (set parents n h) (n + 1) ≡ queue_of queue parents n ++ (dir_made a h ∷ [])
unfolding queue_of
queue_push queue parents n a h p q = rw (add-one n) (dirs_push queue parents 0 n n a h (omega arith) p q)

dirs_pop : (queue parents : List ℕ) (i j n : ℕ) → j < n
    → drop j (dirs_from queue parents i n) ≡ dir_made (get_or queue (i + j) 0) (get_or parents (i + j) 0) ∷ drop (suc j) (dirs_from queue parents i n)
unfolding dirs_from
dirs_pop queue parents i j zero h = absurd (not-suc-le-zero h)
dirs_pop queue parents i zero (suc n) h = rw (add-zero i)
dirs_pop queue parents i (suc j) (suc n) h =
    let e : i + suc j ≡ suc i + j = omega arith in
    rw e (dirs_pop queue parents (suc i) j n (omega arith))

queue_pop : (queue parents : List ℕ) (j n : ℕ) → j < n
    → drop j (queue_of queue parents n) ≡ dir_made (get_or queue j 0) (get_or parents j 0) ∷ drop (j + 1) (queue_of queue parents n)
unfolding queue_of
queue_pop queue parents j n h = rw (add-one j) (dirs_pop queue parents 0 j n h ∙ rw (zero-add j))

length-dirs : (queue parents : List ℕ) (i n : ℕ) → length (dirs_from queue parents i n) ≡ n
unfolding dirs_from
length-dirs queue parents i zero = refl
length-dirs queue parents i (suc n) = ap suc (length-dirs queue parents (suc i) n)

pub length_queue : (queue parents : List ℕ) (n : ℕ) → length (queue_of queue parents n) ≡ n
unfolding queue_of
length_queue queue parents n = length-dirs queue parents 0 n

-- ---- one entry

module _ (counts nexts heads : List ℕ) (head : ℕ) (e : Entry) (name : List ℕ) (start : ℕ) (queue : List Dir) (marks : List ℕ) (files : ℕ) where
  pub enter_no_head : head_at heads e.anode.0 ≡ false → enter_item head (item_in counts nexts heads (entered_at e name start)) queue marks files ≡ stopped 13
  unfolding enter_item item_in
  enter_no_head h = rw h

  pub enter_twice : head_at heads e.anode.0 ≡ true → (get_or marks e.anode.0 0 ≡ 0 → ⊥)
      → enter_item head (item_in counts nexts heads (entered_at e name start)) queue marks files ≡ stopped 14
  unfolding enter_item item_in
  enter_twice h n = rw (h, ne_eqb (get_or marks e.anode.0 0) 0 n)

  pub enter_size : head_at heads e.anode.0 ≡ true → get_or marks e.anode.0 0 ≡ 0 → e.kind ≡ File → (sum_from counts nexts limit e.anode.0 ≡ blocks_for e.size → ⊥)
      → enter_item head (item_in counts nexts heads (entered_at e name start)) queue marks files ≡ stopped 15
  unfolding enter_item item_in
  enter_size h m k n = rw (h, eq-eqb (get_or marks e.anode.0 0) 0 m, k, ne_eqb (sum_from counts nexts limit e.anode.0) (blocks_for e.size) n)

  pub enter_file : head_at heads e.anode.0 ≡ true → get_or marks e.anode.0 0 ≡ 0 → e.kind ≡ File → sum_from counts nexts limit e.anode.0 ≡ blocks_for e.size
      → enter_item head (item_in counts nexts heads (entered_at e name start)) queue marks files ≡ going queue (set marks e.anode.0 1) (files + 1)
  unfolding enter_item item_in
  enter_file h m k n = rw (h, eq-eqb (get_or marks e.anode.0 0) 0 m, k, eq-eqb (sum_from counts nexts limit e.anode.0) (blocks_for e.size) n)

  pub enter_dir : head_at heads e.anode.0 ≡ true → get_or marks e.anode.0 0 ≡ 0 → e.kind ≡ Directory
      → enter_item head (item_in counts nexts heads (entered_at e name start)) queue marks files ≡ going (queue ++ (dir_made e.anode.0 head ∷ [])) (set marks e.anode.0 1) files
  unfolding enter_item item_in
  enter_dir h m k = rw (h, eq-eqb (get_or marks e.anode.0 0) 0 m, k)

-- ---- the items of a block, one after the other

pub enter_none : (head : ℕ) (is : List Item) (queue : List Dir) (marks : List ℕ) (files : ℕ) → is ≡ [] → enter_all head is queue marks files ≡ going queue marks files
unfolding enter_all
enter_none head is queue marks files e = rw e

-- ---- the entries of a block behind names seen, one after the other

-- what is read at a place, with the entries behind it
module _ (counts nexts heads : List ℕ) (head : ℕ) (seen : List (List ℕ)) (name : List ℕ) (start : ℕ) (rest : List Entered) (queue : List Dir) (marks : List ℕ) (files : ℕ) where
  -- an entry that breaks the rules stops the walk with the number of its fault, whatever was seen
  pub enter_fault : (w : Walked) (r : Refusal) → w ≡ Err r → number_of r ≡ 12
      → enter_all head (twins seen (map (item_in counts nexts heads) (with_rest w name start rest))) queue marks files ≡ stopped (number_of r)
  unfolding enter_all twins enter_item item_in as_twin
  enter_fault w r is n = rw (is, n) (go (any_in (same_bytes (folded [])) seen) refl) where
    go : (t : Bool) → any_in (same_bytes (folded [])) seen ≡ t → enter_all head (twins seen (map (item_in counts nexts heads) (with_rest (Err r) name start rest))) queue marks files ≡ stopped 12
    go true e = rw e
    go false e = rw e

  module _ (e : Entry) where
    -- 17: the name was seen
    pub enter_alike : any_in (same_bytes (folded name)) seen ≡ true
        → enter_all head (twins seen (map (item_in counts nexts heads) (with_rest (Ok (Some e)) name start rest))) queue marks files ≡ stopped 17
    unfolding enter_all twins enter_item item_in as_twin
    enter_alike h = go (head_at heads e.anode.0) refl where
      go : (t : Bool) → head_at heads e.anode.0 ≡ t → enter_all head (twins seen (map (item_in counts nexts heads) (with_rest (Ok (Some e)) name start rest))) queue marks files ≡ stopped 17
      go true i = rw (h, i)
      go false i = rw (h, i)

    module _ (new : any_in (same_bytes (folded name)) seen ≡ false) where
      pub enter_stop : (n : ℕ) → enter_item head (item_in counts nexts heads (entered_at e name start)) queue marks files ≡ stopped n
          → enter_all head (twins seen (map (item_in counts nexts heads) (with_rest (Ok (Some e)) name start rest))) queue marks files ≡ stopped n
      unfolding enter_all twins enter_item any_in same_bytes as_twin item_in
      enter_stop n h = rw (new, h)

      pub enter_step : (more : List (List ℕ)) (q : List Dir) (l : List ℕ) (f : ℕ) → more ≡ folded name ∷ seen → enter_item head (item_in counts nexts heads (entered_at e name start)) queue marks files ≡ going q l f
          → enter_all head (twins seen (map (item_in counts nexts heads) (with_rest (Ok (Some e)) name start rest))) queue marks files ≡ enter_all head (twins more (map (item_in counts nexts heads) rest)) q l f
      unfolding enter_all twins enter_item item_in
      enter_step more q l f m h = rw (new, h, m)

    pub seen_step : (more : List (List ℕ)) → more ≡ folded name ∷ seen
        → seen_after (map (item_in counts nexts heads) (with_rest (Ok (Some e)) name start rest)) seen ≡ seen_after (map (item_in counts nexts heads) rest) more
    unfolding seen_after item_in
    seen_step more m = rw m

-- ---- the anodes of a directory

onward_twice : (p : Progress) (f g h : List Dir → List ℕ → ℕ → Progress)
    → ((q : List Dir) (m : List ℕ) (n : ℕ) → f q m n ≡ onward (g q m n) h) → onward p f ≡ onward (onward p g) h
onward_twice (stopped n) f g h e = refl
onward_twice (going q m n) f g h e = e q m n

-- the items of two lists, one behind the other
enter_append : (head : ℕ) (is js : List Item) (queue : List Dir) (marks : List ℕ) (files : ℕ)
    → enter_all head (is ++ js) queue marks files ≡ onward (enter_all head is queue marks files) (enter_all head js)
unfolding enter_all
enter_append head [] js queue marks files = refl
enter_append head (i ∷ is) js queue marks files =
    onward_twice (enter_item head i queue marks files) (enter_all head (is ++ js)) (enter_all head is) (enter_all head js)
    (λ q m n. enter_append head is js q m n)

-- what breaks the rules as a whole is 12, whatever was seen
broken_stops : (head : ℕ) (seen : List (List ℕ)) (queue : List Dir) (marks : List ℕ) (files : ℕ) → enter_all head (twins seen (broken_item ∷ [])) queue marks files ≡ stopped 12
unfolding enter_all twins enter_item as_twin
broken_stops head seen queue marks files = go (any_in (same_bytes []) seen) refl where
  go : (t : Bool) → any_in (same_bytes []) seen ≡ t → enter_all head (twins seen (broken_item ∷ [])) queue marks files ≡ stopped 12
  go true e = rw e
  go false e = rw e

module _ (item : Entered → Item) (img : List ℕ) (s : Anodes) (d : Dir) (a head : ℕ) (seen : List (List ℕ)) (queue : List Dir) (marks : List ℕ) (files : ℕ) where
  pub anode_count : (s.count a ≡ 1 → ⊥) → enter_all head (twins seen (items_from item img s d a)) queue marks files ≡ stopped 12
  unfolding items_for
  anode_count n = rw (ne_eqb (s.count a) 1 n) (broken_stops head seen queue marks files)

  pub anode_mark : s.count a ≡ 1 → is_block_of img d (s.block a) ≡ false → enter_all head (twins seen (items_from item img s d a)) queue marks files ≡ stopped 12
  unfolding items_for
  anode_mark n h = rw (eq-eqb (s.count a) 1 n, h) (broken_stops head seen queue marks files)

-- an anode with one block that is the directory's gives that block's items
pub anode_block : (item : Entered → Item) (img : List ℕ) (s : Anodes) (d : Dir) (a : ℕ) → s.count a ≡ 1 → is_block_of img d (s.block a) ≡ true → items_from item img s d a ≡ map item (entries_in img (s.block a))
unfolding items_for
anode_block item img s d a n h = rw (eq-eqb (s.count a) 1 n, h)

-- the items of a directory's anodes: those of the first, and those of the rest
module _ (item : Entered → Item) (img : List ℕ) (s : Anodes) (d : Dir) (a : ℕ) (rest : List ℕ) (head : ℕ) (seen : List (List ℕ)) (queue : List Dir) (marks : List ℕ) (files : ℕ) where
  along_items : enter_all head (twins seen (gather (items_from item img s d) (a ∷ rest))) queue marks files
      ≡ onward (enter_all head (twins seen (items_from item img s d a)) queue marks files) (enter_all head (twins (seen_after (items_from item img s d a) seen) (gather (items_from item img s d) rest)))
  unfolding gather
  along_items =
      rw (twins-append seen (items_from item img s d a) (gather (items_from item img s d) rest))
      (enter_append head (twins seen (items_from item img s d a)) (twins (seen_after (items_from item img s d a) seen) (gather (items_from item img s d) rest)) queue marks files)

  pub along_stop : (n : ℕ) → enter_all head (twins seen (items_from item img s d a)) queue marks files ≡ stopped n
      → enter_all head (twins seen (gather (items_from item img s d) (a ∷ rest))) queue marks files ≡ stopped n
  along_stop n h = along_items ∙ rw h

  pub along_step : (more : List (List ℕ)) (q : List Dir) (l : List ℕ) (f : ℕ) → more ≡ seen_after (items_from item img s d a) seen → enter_all head (twins seen (items_from item img s d a)) queue marks files ≡ going q l f
      → enter_all head (twins seen (gather (items_from item img s d) (a ∷ rest))) queue marks files ≡ enter_all head (twins more (gather (items_from item img s d) rest)) q l f
  along_step more q l f e h = along_items ∙ rw (h, e)

-- nothing is left
pub twins-none : (seen : List (List ℕ)) (is : List Item) → is ≡ [] → twins seen is ≡ []
unfolding twins
twins-none seen is e = rw e

pub seen_none : (seen : List (List ℕ)) (is : List Item) → is ≡ [] → seen_after is seen ≡ seen
unfolding seen_after
seen_none seen is e = rw e

-- ---- the numbers of the entries

-- one entry more was met
abbrev pub Grown : ℕ → ℕ → Progress → Type 0
Grown last files (stopped n) = Unit {0}
Grown last files (going queue marks f) = (length queue + f ≡ last + files + 1) × (last ≤ length queue)

cases_grown : (early : ℕ) (new : Bool) (late : ℕ) (dir : Bool) (queue : List Dir) (x : Dir) (marks : List ℕ) (files : ℕ)
    → Grown (length queue) files (refuse early (cond new (refuse late (cond dir (going (queue ++ (x ∷ [])) marks files) (going queue marks (files + 1)))) (stopped 14)))
cases_grown (suc e) new late dir queue x marks files = tt
cases_grown zero false late dir queue x marks files = tt
cases_grown zero true (suc l) dir queue x marks files = tt
cases_grown zero true zero false queue x marks files = (omega arith, omega arith)
cases_grown zero true zero true queue x marks files = let l = length-append queue (x ∷ []) in (omega (arith, l), omega (arith, l))

-- so does an item that the walk goes on from
pub item_grown : (head : ℕ) (i : Item) (queue : List Dir) (marks : List ℕ) (files : ℕ) → Grown (length queue) files (enter_item head i queue marks files)
unfolding enter_item
item_grown head i queue marks files = cases_grown i.early (eqb (get_or marks i.anode 0) 0) i.late i.dir queue (dir_made i.anode head) (set marks i.anode 1) files

-- ---- the queue without the directories taken from it, and those

-- how far the walk is, without the first v directories of the queue
abbrev dropped : ℕ → Progress → Progress
dropped v (stopped n) = stopped n
dropped v (going queue marks files) = going (drop v queue) marks files

-- the queue still has the directories taken from it in front
abbrev Extends : ℕ → List Dir → Progress → Type 0
Extends v taken (stopped n) = Unit {0}
Extends v taken (going queue marks files) = (v ≤ length queue) × (take v queue ≡ taken)

module _ (v : ℕ) where
  item_cases : (early : ℕ) (new : Bool) (late : ℕ) (dir : Bool) (queue : List Dir) (x : Dir) (marks : List ℕ) (f g : ℕ) → v ≤ length queue
      → (refuse early (cond new (refuse late (cond dir (going (drop v queue ++ (x ∷ [])) marks f) (going (drop v queue) marks g))) (stopped 14))
      ≡ dropped v (refuse early (cond new (refuse late (cond dir (going (queue ++ (x ∷ [])) marks f) (going queue marks g))) (stopped 14))))
      × Extends v (take v queue) (refuse early (cond new (refuse late (cond dir (going (queue ++ (x ∷ [])) marks f) (going queue marks g))) (stopped 14)))
  item_cases (suc e) new late dir queue x marks f g h = (refl, tt)
  item_cases zero false late dir queue x marks f g h = (refl, tt)
  item_cases zero true (suc l) dir queue x marks f g h = (refl, tt)
  item_cases zero true zero false queue x marks f g h = (refl, (h, refl))
  item_cases zero true zero true queue x marks f g h =
      (rw (drop-append-le v queue (x ∷ []) h), (omega (arith, length-append queue (x ∷ [])), take-append-le v queue (x ∷ []) h))

  onward-dropped : (taken : List Dir) (p : Progress) (f : List Dir → List ℕ → ℕ → Progress) → Extends v taken p
      → ((q : List Dir) (m : List ℕ) (n : ℕ) → v ≤ length q → (f (drop v q) m n ≡ dropped v (f q m n)) × Extends v (take v q) (f q m n))
      → (onward (dropped v p) f ≡ dropped v (onward p f)) × Extends v taken (onward p f)
  onward-dropped taken (stopped n) f l e = (refl, tt)
  onward-dropped taken (going q m n) f l e = rw (← l.1) (e q m n l.0)

  enter_dropped : (head : ℕ) (is : List Item) (queue : List Dir) (marks : List ℕ) (files : ℕ) → v ≤ length queue
      → (enter_all head is (drop v queue) marks files ≡ dropped v (enter_all head is queue marks files)) × Extends v (take v queue) (enter_all head is queue marks files)
  unfolding enter_all enter_item
  enter_dropped head [] queue marks files h = (refl, (h, refl))
  enter_dropped head (i ∷ is) queue marks files h =
      let w = item_cases i.early (eqb (get_or marks i.anode 0) 0) i.late i.dir queue (dir_made i.anode head) (set marks i.anode 1) files (files + 1) h in
      rw w.0 (onward-dropped (take v queue) (enter_item head i queue marks files) (enter_all head is) w.1 (enter_dropped head is))

-- ---- the queue, from its directory `first` on

module _ (items : Dir → List Item) (k : ℕ) (queue parents : List ℕ) (first last : ℕ) (marks : List ℕ) (files : ℕ) where
  pub run_end : last ≤ first → run_from items k (drop first (queue_of queue parents last)) marks files (take first (queue_of queue parents last)) ≡ ended marks files (queue_of queue parents last)
  unfolding run_from
  run_end h =
      let l = length_queue queue parents last in
      rw (drop_of_length-le (queue_of queue parents last) {i = first} (omega arith), take_all first (queue_of queue parents last) (omega arith)) (none k) where
        none : (k : ℕ) → run_from items k [] marks files (queue_of queue parents last) ≡ ended marks files (queue_of queue parents last)
        none zero = refl
        none (suc k) = refl

  module _ (m : ℕ) (fuel : k ≡ m + 1) (some : first < last) where
    taken_more : take first (queue_of queue parents last) ++ (dir_made (get_or queue first 0) (get_or parents first 0) ∷ []) ≡ take (first + 1) (queue_of queue parents last)
    taken_more = sym (take-add first 1 (queue_of queue parents last) ∙ rw (queue_pop queue parents first last some))

    entered : (enter_all (get_or queue first 0) (items (dir_made (get_or queue first 0) (get_or parents first 0))) (drop (first + 1) (queue_of queue parents last)) marks files
        ≡ dropped (first + 1) (enter_all (get_or queue first 0) (items (dir_made (get_or queue first 0) (get_or parents first 0))) (queue_of queue parents last) marks files))
        × Extends (first + 1) (take (first + 1) (queue_of queue parents last)) (enter_all (get_or queue first 0) (items (dir_made (get_or queue first 0) (get_or parents first 0))) (queue_of queue parents last) marks files)
    entered = enter_dropped (first + 1) (get_or queue first 0) (items (dir_made (get_or queue first 0) (get_or parents first 0))) (queue_of queue parents last) marks files (rw length_queue (omega arith))

    run_pop : run_from items k (drop first (queue_of queue parents last)) marks files (take first (queue_of queue parents last))
        ≡ after_dir (dropped (first + 1) (enter_all (get_or queue first 0) (items (dir_made (get_or queue first 0) (get_or parents first 0))) (queue_of queue parents last) marks files))
        (λ q l f. run_from items m q l f (take (first + 1) (queue_of queue parents last)))
    unfolding run_from
    run_pop = rw (queue_pop queue parents first last some, fuel, add-one m, entered.0, taken_more)

    pub run_stop : (r : ℕ) → enter_all (get_or queue first 0) (items (dir_made (get_or queue first 0) (get_or parents first 0))) (queue_of queue parents last) marks files ≡ stopped r
        → run_from items k (drop first (queue_of queue parents last)) marks files (take first (queue_of queue parents last)) ≡ halted r
    run_stop r e = run_pop ∙ rw e

    pub run_step : (q : List Dir) (l : List ℕ) (f : ℕ) → enter_all (get_or queue first 0) (items (dir_made (get_or queue first 0) (get_or parents first 0))) (queue_of queue parents last) marks files ≡ going q l f
        → run_from items k (drop first (queue_of queue parents last)) marks files (take first (queue_of queue parents last)) ≡ run_from items m (drop (first + 1) q) l f (take (first + 1) q)
    run_step q l f e = run_pop ∙ rw (e, (rw e at entered.1).1)
