-- The index: chains by bucket, the entry that joins, and what a search comes to. Assumes nothing.
use mathlib.Core.Path.{◌≡◌, refl, sym, ap, ◌∙◌}
use mathlib.Core.Bool.{Bool, true, false, cond, not, ◌||◌, and-false, or-false, or-true}
use mathlib.Core.Logic.{⊎_elim, ◌≢◌}
use Prim.Native.Nat.{ℕ, zero, suc, ◌+◌, ◌*◌, ◌-◌, ◌/◌, ◌%◌, ◌<◌, ◌≤◌}
use mathlib.Core.List.{List, ◌∷◌}
use native.Mathlib.Omega.{arith}
use native.Mathlib.Nat.{not-suc-le-zero}
use native.Mathlib.Numerals.{add-one}
use lib.Dec.{eqb, leb}
use lib.ListN.{length, length-set, length-replicate, get_or, set, drop, replicate, drop_of_length-le}
use lib.Seq.{drop-cons, get_or-set_same, get_or-set_other}
use borrow.Author.Tests.{le-leb, lt-leb, eq-eqb, ne_eqb, eqb-true, eqb-false}
use Rattle.endian.proofs.Laws.{same?, get_or_zeros}
use Rattle.tables.specs.Held.{zeroed_first}
use Rattle.tables.proofs.Laws.{zeroed-below}
use Rattle.rules.specs.Counting.{any_below, any_in, same_bytes}
use Rattle.rules.specs.Folding.{fold, folded}
use Rattle.laws.specs.Apart.{same_name}
use Rattle.names.specs.Index.{folded_in, name_of, seen_in, hash_from, hash_of, bucket_of, print_of, bucket_at, last_below, latest, is_same, start_of, InBlock, Linked, Chain, Indexed, joined}

-- ---- the last number below n that passes

module _ (test : ℕ → Bool) where
  last_hit : (n : ℕ) → test n ≡ true → last_below test (n + 1) ≡ n + 1
  unfolding last_below
  last_hit n e = rw (add-one n, e)

  last-not : (n : ℕ) → test n ≡ false → last_below test (n + 1) ≡ last_below test n
  unfolding last_below
  last-not n e = rw (add-one n, e)

  pub last_none : last_below test 0 ≡ 0
  unfolding last_below
  last_none = refl

  pub last-le : (n : ℕ) → last_below test n ≤ n
  unfolding last_below
  last-le zero = omega arith
  last-le (suc n) = go (last-le n) (test n) refl where
    go : last_below test n ≤ n → (b : Bool) → test n ≡ b → cond (test n) (suc n) (last_below test n) ≤ suc n
    go ih true e = rw e (omega arith)
    go ih false e = rw e (omega arith)

  -- there is one where any passes
  pub any_last : (n : ℕ) → any_below test n ≡ not (eqb (last_below test n) 0)
  unfolding any_below last_below
  any_last zero = refl
  any_last (suc n) = go (any_last n) (test n) refl where
    go : any_below test n ≡ not (eqb (last_below test n) 0) → (b : Bool) → test n ≡ b → any_below test n || test n ≡ not (eqb (cond (test n) (suc n) (last_below test n)) 0)
    go ih true e = rw (e, ne_eqb (suc n) 0 (omega arith)) (or-true (any_below test n))
    go ih false e = rw e (or-false (any_below test n) ∙ ih)

  -- it passes
  last_again : (n : ℕ) → last_below test (last_below test n) ≡ last_below test n
  unfolding last_below
  last_again zero = refl
  last_again (suc n) = go (last_again n) (test n) refl where
    go : last_below test (last_below test n) ≡ last_below test n → (b : Bool) → test n ≡ b
        → last_below test (cond (test n) (suc n) (last_below test n)) ≡ cond (test n) (suc n) (last_below test n)
    go ih true e = rw (e, e)
    go ih false e = rw e ih

  last_of : (n : ℕ) → last_below test (n + 1) ≡ n + 1 → test n ≡ true
  last_of n e = go (test n) refl where
    go : (b : Bool) → test n ≡ b → test n ≡ true
    go true p = p
    go false p = absurd (let q = last-not n p in let l = last-le n in omega arith)

  pub last_passes : (n j : ℕ) → last_below test n ≡ j + 1 → test j ≡ true
  last_passes n j e = last_of j (rw e at (last_again n))

-- ---- the last number below n of a bucket

module _ (f : ℕ → ℕ) (h : ℕ) where
  latest-here : (n : ℕ) → f n ≡ h → latest f h (n + 1) ≡ n + 1
  unfolding latest
  latest-here n e = last_hit (λ j. eqb (f j) h) n (eq-eqb (f n) h e)

  latest_other : (n : ℕ) → f n ≢ h → latest f h (n + 1) ≡ latest f h n
  unfolding latest
  latest_other n e = last-not (λ j. eqb (f j) h) n (ne_eqb (f n) h e)

  latest-none : latest f h 0 ≡ 0
  unfolding latest
  latest-none = last_none (λ j. eqb (f j) h)

  latest-le : (n : ℕ) → latest f h n ≤ n
  unfolding latest
  latest-le n = last-le (λ j. eqb (f j) h) n

  -- it is of the bucket
  latest_again : (n : ℕ) → latest f h (latest f h n) ≡ latest f h n
  unfolding latest
  latest_again n = last_again (λ j. eqb (f j) h) n

  latest_of : (n : ℕ) → latest f h (n + 1) ≡ n + 1 → f n ≡ h
  unfolding latest
  latest_of n e = eqb-true (f n) h (last_passes (λ j. eqb (f j) h) (n + 1) n e)

  -- a test that only numbers of the bucket pass need not be tried behind its last
  last-latest : (test : ℕ → Bool) → ((j : ℕ) → f j ≢ h → test j ≡ false) → (n : ℕ) → last_below test n ≡ last_below test (latest f h n)
  unfolding latest last_below
  last-latest test only zero = refl
  last-latest test only (suc n) = go (last-latest test only n) (eqb (f n) h) refl where
    go : last_below test n ≡ last_below test (latest f h n) → (b : Bool) → eqb (f n) h ≡ b
        → cond (test n) (suc n) (last_below test n) ≡ last_below test (cond (eqb (f n) h) (suc n) (latest f h n))
    go ih true e = rw e
    go ih false e = rw (e, only n (eqb-false (f n) h e)) ih

-- it goes by the numbers below n alone
latest-same : (f g : ℕ → ℕ) (h n : ℕ) → ((j : ℕ) → j < n → f j ≡ g j) → latest f h n ≡ latest g h n
unfolding latest last_below
latest-same f g h zero e = refl
latest-same f g h (suc n) e = rw (e n (omega arith), latest-same f g h n (λ j k. e j (omega arith)))

-- ---- the hash of a name, byte by byte

pub hash_whole : (l : List ℕ) → hash_from 0 (folded (drop 0 l)) ≡ hash_of (folded l)
unfolding hash_of
hash_whole l = refl

pub hash_end : (h : ℕ) (l : List ℕ) (i : ℕ) → length l ≤ i → hash_from h (folded (drop i l)) ≡ h
unfolding hash_from folded
hash_end h l i e = rw (drop_of_length-le l {i = i} e)

pub hash_step : (h : ℕ) (l : List ℕ) (i : ℕ) → i < length l → hash_from h (folded (drop i l)) ≡ hash_from ((h * 31 + fold (get_or l i 0)) % 268435456) (folded (drop (i + 1) l))
unfolding hash_from folded
hash_step h l i e = rw (drop-cons l i 0 e, add-one i)

-- ---- two names

-- names that differ do not pass the test
pub other_name : (u v : List ℕ) → u ≢ v → same_bytes u v ≡ false
other_name u v n = go (same_bytes u v) refl where
  go : (b : Bool) → same_bytes u v ≡ b → same_bytes u v ≡ false
  go true e = absurd (n (same_name u v (rw e tt)))
  go false e = e

-- ---- a chain

module _ (img index : List ℕ) (from : ℕ) (name : List ℕ) where
  same_bucket : (j : ℕ) → bucket_at img index j ≢ bucket_of name → is_same img index from name j ≡ false
  unfolding is_same bucket_at
  same_bucket j n = rw (other_name name (name_of img index j) (λ e. n (ap bucket_of (sym e)))) (and-false (leb from j))

  -- entries before `from` are passed over
  pub same_early : (n : ℕ) → n ≤ from → last_below (is_same img index from name) n ≡ 0
  unfolding last_below is_same
  same_early zero h = refl
  same_early (suc n) h = rw (lt-leb from n (omega arith)) (same_early n (omega arith))

  -- the chain's first entry has the name
  pub same_hit : (x j : ℕ) → x ≡ j + 1 → from < x → same_bytes name (name_of img index j) ≡ true → last_below (is_same img index from name) x ≡ x
  unfolding is_same
  same_hit x j p h e = rw p (last_hit (is_same img index from name) j (rw (le-leb from j (omega arith)) e))

  same_not : (j : ℕ) → same_bytes name (name_of img index j) ≡ false → last_below (is_same img index from name) (j + 1) ≡ last_below (is_same img index from name) j
  unfolding is_same
  same_not j e = last-not (is_same img index from name) j (rw e (and-false (leb from j)))

  -- it has not: what is left is the chain behind it
  pub same_next : (x j : ℕ) → x ≡ j + 1 → Chain img index (bucket_of name) x → same_bytes name (name_of img index j) ≡ false
      → last_below (is_same img index from name) (get_or index (4096 + j) 0) ≡ last_below (is_same img index from name) x
  same_next x j p b e =
      let own = latest_of (bucket_at img index) (bucket_of name) j (rw p at b.starts) in
      rw (b.linked.links j (omega arith), own, ← last-latest (bucket_at img index) (bucket_of name) (is_same img index from name) same_bucket j, p) (sym (same_not j e))

  -- a search by number finds one where a search among the names does
  pub same_list : (k : ℕ) → not (eqb (last_below (is_same img index from name) (from + k)) 0) ≡ any_in (same_bytes name) (seen_in img index from k)
  unfolding any_in seen_in
  same_list zero = rw (same_early (from + 0) (omega arith))
  same_list (suc k) = more (same_list k) (same_bytes name (name_of img index (from + k))) refl where
    more : not (eqb (last_below (is_same img index from name) (from + k)) 0) ≡ any_in (same_bytes name) (seen_in img index from k) → (b : Bool) → same_bytes name (name_of img index (from + k)) ≡ b
        → not (eqb (last_below (is_same img index from name) (from + suc k)) 0) ≡ same_bytes name (name_of img index (from + k)) || any_in (same_bytes name) (seen_in img index from k)
    more ih true e = rw (same_hit (from + suc k) (from + k) (omega arith) (omega arith) e, ne_eqb (from + suc k) 0 (omega arith), e)
    more ih false e =
        let p : from + suc k ≡ from + k + 1 = omega arith in
        rw (p, same_not (from + k) e, e) ih

linked_fewer : (img index : List ℕ) (n m : ℕ) → m ≤ n → Linked img index n → Linked img index m
linked_fewer img index n m h l = record { prints = λ j k. l.prints j (omega arith); links = λ j k. l.links j (omega arith) }

pub chain_next : (img index : List ℕ) (h x j : ℕ) → x ≡ j + 1 → Chain img index h x → (get_or index (4096 + j) 0 ≤ j) × Chain img index h (get_or index (4096 + j) 0)
chain_next img index h x j p b =
    let f = bucket_at img index in
    let own = latest_of f h j (rw p at b.starts) in
    let e : get_or index (4096 + j) 0 ≡ latest f h j = rw own at (b.linked.links j (omega arith)) in
    let low = latest-le f h j in
    let l : get_or index (4096 + j) 0 ≤ j = rw e low in
    let few = b.few in
    (l, record { few = omega arith; linked = linked_fewer img index x (get_or index (4096 + j) 0) (omega arith) b.linked; starts = rw e (latest_again f h j) })

-- ---- the index

-- with no entry, where every bucket is empty
indexed_empty : (img index : List ℕ) → length index ≡ 17872 → ((h : ℕ) → h < 4096 → get_or index h 0 ≡ 0) → Indexed img index 0
indexed_empty img index whole empty = record {
  whole = whole;
  few = omega arith;
  linked = record { prints = λ j k. absurd (not-suc-le-zero k); links = λ j k. absurd (not-suc-le-zero k) };
  last = λ h k. empty h k ∙ sym (latest-none (bucket_at img index) h);
}

pub indexed_none : (img : List ℕ) → Indexed img (replicate 17872 0) 0
indexed_none img = indexed_empty img (replicate 17872 0) (length-replicate {A = ℕ} 17872 0) (λ h k. get_or_zeros 17872 h)

-- begun anew: its buckets are zeroed
pub indexed_anew : (img old index : List ℕ) → index ≡ zeroed_first 4096 old → length index ≡ 17872 → Indexed img index 0
indexed_anew img old index is whole = indexed_empty img index whole (zeroed-below 4096 old index is)

module _ (img index : List ℕ) (n : ℕ) (t : Indexed img index n) where
  -- the chain of a bucket
  pub indexed_chain : (h : ℕ) → h < 4096 → Chain img index h (get_or index h 0)
  indexed_chain h k =
      let f = bucket_at img index in
      let e = t.last h k in
      let low = latest-le f h n in
      let few = t.few in
      let l : get_or index h 0 ≤ n = rw e low in
      record { few = omega arith; linked = linked_fewer img index n (get_or index h 0) l t.linked; starts = rw e (latest_again f h n) }

  -- the chain of a name's bucket has all entries with that name
  pub indexed_last : (from : ℕ) (name : List ℕ) → bucket_of name < 4096
      → last_below (is_same img index from name) (get_or index (bucket_of name) 0) ≡ last_below (is_same img index from name) n
  indexed_last from name k = rw (t.last (bucket_of name) k) (sym (last-latest (bucket_at img index) (bucket_of name) (is_same img index from name) (same_bucket img index from name) n))

-- among the names seen is one that a search by number finds
pub same_seen : (img index : List ℕ) (from : ℕ) (name : List ℕ) (n : ℕ) → from ≤ n
    → not (eqb (last_below (is_same img index from name) n) 0) ≡ any_in (same_bytes name) (seen_in img index from (n - from))
same_seen img index from name n l =
    let e : from + (n - from) ≡ n = omega arith in
    rw e at (same_list img index from name (n - from))

-- ---- one entry more

module _ (index : List ℕ) (h i first print b at : ℕ) (room : i < 3444) (low : h < 4096) (whole : length index ≡ 17872) where
  abbrev one : List ℕ
  one = set index (10984 + i) b

  abbrev two : List ℕ
  two = set one (14428 + i) at

  abbrev three : List ℕ
  three = set two (7540 + i) print

  abbrev four : List ℕ
  four = set three (4096 + i) first

  whole_one : length one ≡ 17872
  whole_one = length-set index (10984 + i) b ∙ whole

  whole_two : length two ≡ 17872
  whole_two = length-set one (14428 + i) at ∙ whole_one

  whole_three : length three ≡ 17872
  whole_three = length-set two (7540 + i) print ∙ whole_two

  whole_four : length four ≡ 17872
  whole_four = length-set three (4096 + i) first ∙ whole_three

  pub joined_whole : length (joined index h i first print b at) ≡ 17872
  unfolding joined
  joined_whole = length-set four h (i + 1) ∙ whole_four

  joined_block : get_or (joined index h i first print b at) (10984 + i) 0 ≡ b
  unfolding joined
  joined_block =
      get_or-set_other four h (10984 + i) (i + 1) 0 (omega arith)
      ∙ get_or-set_other three (4096 + i) (10984 + i) first 0 (omega arith)
      ∙ get_or-set_other two (7540 + i) (10984 + i) print 0 (omega arith)
      ∙ get_or-set_other one (14428 + i) (10984 + i) at 0 (omega arith)
      ∙ get_or-set_same index (10984 + i) b 0 (omega (arith, whole))

  joined_place : get_or (joined index h i first print b at) (14428 + i) 0 ≡ at
  unfolding joined
  joined_place =
      get_or-set_other four h (14428 + i) (i + 1) 0 (omega arith)
      ∙ get_or-set_other three (4096 + i) (14428 + i) first 0 (omega arith)
      ∙ get_or-set_other two (7540 + i) (14428 + i) print 0 (omega arith)
      ∙ get_or-set_same one (14428 + i) at 0 (omega (arith, whole_one))

  joined_print : get_or (joined index h i first print b at) (7540 + i) 0 ≡ print
  unfolding joined
  joined_print =
      get_or-set_other four h (7540 + i) (i + 1) 0 (omega arith)
      ∙ get_or-set_other three (4096 + i) (7540 + i) first 0 (omega arith)
      ∙ get_or-set_same two (7540 + i) print 0 (omega (arith, whole_two))

  joined_link : get_or (joined index h i first print b at) (4096 + i) 0 ≡ first
  unfolding joined
  joined_link =
      get_or-set_other four h (4096 + i) (i + 1) 0 (omega arith)
      ∙ get_or-set_same three (4096 + i) first 0 (omega (arith, whole_three))

  joined_bucket : get_or (joined index h i first print b at) h 0 ≡ i + 1
  unfolding joined
  joined_bucket = get_or-set_same four h (i + 1) 0 (omega (arith, whole_four))

  -- all else stays
  joined_other : (k : ℕ) → k ≢ h → k ≢ 4096 + i → k ≢ 7540 + i → k ≢ 14428 + i → k ≢ 10984 + i → get_or (joined index h i first print b at) k 0 ≡ get_or index k 0
  unfolding joined
  joined_other k a c d e f =
      get_or-set_other four h k (i + 1) 0 a
      ∙ get_or-set_other three (4096 + i) k first 0 c
      ∙ get_or-set_other two (7540 + i) k print 0 d
      ∙ get_or-set_other one (14428 + i) k at 0 e
      ∙ get_or-set_other index (10984 + i) k b 0 f

  -- its start
  pub start_more : start_of (joined index h i first print b at) i ≡ b * 512 + at
  unfolding start_of
  start_more = rw (joined_block, joined_place)

  -- and those of the others
  pub start-kept : (j : ℕ) → j < i → start_of (joined index h i first print b at) j ≡ start_of index j
  unfolding start_of
  start-kept j l = rw (joined_other (10984 + j) (omega arith) (omega arith) (omega arith) (omega arith) (omega arith), joined_other (14428 + j) (omega arith) (omega arith) (omega arith) (omega arith) (omega arith))

  -- all begin within their blocks where the others do
  pub within_more : at < 512 → (j : ℕ) → j ≤ i → (j < i → InBlock index j) → InBlock (joined index h i first print b at) j
  within_more place j l others = ⊎_elim
      (λ (e : j ≡ i). rw (e, joined_place) place)
      (λ d. rw (joined_other (14428 + j) (omega arith) (omega arith) (omega arith) (omega arith) (omega arith)) (others (omega arith)))
      (same? j i)

  module _ (img : List ℕ) where
    name_more : name_of img (joined index h i first print b at) i ≡ folded_in img b at
    unfolding name_of
    name_more = rw (joined_block, joined_place)

    name_kept : (j : ℕ) → j < i → name_of img (joined index h i first print b at) j ≡ name_of img index j
    unfolding name_of
    name_kept j l = rw (joined_other (10984 + j) (omega arith) (omega arith) (omega arith) (omega arith) (omega arith), joined_other (14428 + j) (omega arith) (omega arith) (omega arith) (omega arith) (omega arith))

    bucket_kept : (j : ℕ) → j < i → bucket_at img (joined index h i first print b at) j ≡ bucket_at img index j
    unfolding bucket_at
    bucket_kept j l = rw (name_kept j l)

    latest-kept : (g n : ℕ) → n ≤ i → latest (bucket_at img (joined index h i first print b at)) g n ≡ latest (bucket_at img index) g n
    latest-kept g n l = latest-same (bucket_at img (joined index h i first print b at)) (bucket_at img index) g n (λ j k. bucket_kept j (omega arith))

    seen_kept : (from k : ℕ) → from + k ≤ i → seen_in img (joined index h i first print b at) from k ≡ seen_in img index from k
    unfolding seen_in
    seen_kept from zero l = refl
    seen_kept from (suc k) l = rw (name_kept (from + k) (omega arith), seen_kept from k (omega arith))

    -- the names seen are one more
    pub seen_more : (from : ℕ) → from ≤ i → seen_in img (joined index h i first print b at) from (i + 1 - from) ≡ folded_in img b at ∷ seen_in img index from (i - from)
    unfolding seen_in
    seen_more from l =
        let e : i + 1 - from ≡ suc (i - from) = omega arith in
        let f : from + (i - from) ≡ i = omega arith in
        rw (e, f, name_more, seen_kept from (i - from) (omega arith))

    module _ (t : Indexed img index i) (own : h ≡ bucket_of (folded_in img b at)) (rest : print ≡ print_of (folded_in img b at)) (before : first ≡ get_or index h 0) where
      bucket_more : bucket_at img (joined index h i first print b at) i ≡ h
      unfolding bucket_at
      bucket_more = rw name_more (sym own)

      print_more : (j : ℕ) → j < i + 1 → get_or (joined index h i first print b at) (7540 + j) 0 ≡ print_of (name_of img (joined index h i first print b at) j)
      print_more j l = ⊎_elim
          (λ (e : j ≡ i). rw (e, name_more) (joined_print ∙ rest))
          (λ d. rw (name_kept j (omega arith)) (joined_other (7540 + j) (omega arith) (omega arith) (omega arith) (omega arith) (omega arith) ∙ t.linked.prints j (omega arith)))
          (same? j i)

      link_more : (j : ℕ) → j < i + 1 → get_or (joined index h i first print b at) (4096 + j) 0 ≡ latest (bucket_at img (joined index h i first print b at)) (bucket_at img (joined index h i first print b at) j) j
      link_more j l = ⊎_elim
          (λ (e : j ≡ i). rw (e, bucket_more, latest-kept h i (omega arith)) (joined_link ∙ before ∙ t.last h low))
          (λ d. rw (bucket_kept j (omega arith), latest-kept (bucket_at img index j) j (omega arith)) (joined_other (4096 + j) (omega arith) (omega arith) (omega arith) (omega arith) (omega arith) ∙ t.linked.links j (omega arith)))
          (same? j i)

      last_more : (g : ℕ) → g < 4096 → get_or (joined index h i first print b at) g 0 ≡ latest (bucket_at img (joined index h i first print b at)) g (i + 1)
      last_more g l = ⊎_elim
          (λ (e : g ≡ h). rw e (joined_bucket ∙ sym (latest-here (bucket_at img (joined index h i first print b at)) h i bucket_more)))
          (λ d. rw (latest_other (bucket_at img (joined index h i first print b at)) g i (λ e. d (sym e ∙ bucket_more)), latest-kept g i (omega arith)) (joined_other g d (omega arith) (omega arith) (omega arith) (omega arith) ∙ t.last g l))
          (same? g h)

      pub indexed_more : Indexed img (joined index h i first print b at) (i + 1)
      indexed_more = record {
        whole = joined_whole;
        few = omega arith;
        linked = record { prints = print_more; links = link_more };
        last = last_more;
      }

-- ---- the steps: a name that has this hash is looked for; the entry with that name at a place of block b joins as entry i

module _ (img index : List ℕ) (i : ℕ) (name : List ℕ) (hash : ℕ) (t : Indexed img index i) (own : hash ≡ hash_of name) where
  step_low : hash % 4096 < 4096
  step_low = omega arith

  step_bucket : hash % 4096 ≡ bucket_of name
  unfolding bucket_of
  step_bucket = rw own

  pub step_print : hash / 4096 ≡ print_of name
  unfolding print_of
  step_print = rw own

  pub step_chain : Chain img index (bucket_of name) (get_or index (hash % 4096) 0)
  step_chain = rw (← step_bucket) (indexed_chain img index i t (hash % 4096) step_low)

  pub step_last : (from : ℕ) → last_below (is_same img index from name) (get_or index (hash % 4096) 0) ≡ last_below (is_same img index from name) i
  step_last from = ap (λ (g : ℕ). last_below (is_same img index from name) (get_or index g 0)) step_bucket ∙ indexed_last img index i t from name (rw step_bucket at step_low)

  module _ (b at : ℕ) (is : name ≡ folded_in img b at) (room : i < 3444) where
    pub step_joins : Indexed img (joined index (hash % 4096) i (get_or index (hash % 4096) 0) (hash / 4096) b at) (i + 1)
    step_joins = indexed_more index (hash % 4096) i (get_or index (hash % 4096) 0) (hash / 4096) b at room step_low t.whole img t (step_bucket ∙ ap bucket_of is) (step_print ∙ ap print_of is) refl

    pub step_seen : (from : ℕ) → from ≤ i
        → seen_in img (joined index (hash % 4096) i (get_or index (hash % 4096) 0) (hash / 4096) b at) from (i + 1 - from) ≡ folded_in img b at ∷ seen_in img index from (i - from)
    step_seen from l = seen_more index (hash % 4096) i (get_or index (hash % 4096) 0) (hash / 4096) b at room step_low t.whole img from l

    pub step_start : start_of (joined index (hash % 4096) i (get_or index (hash % 4096) 0) (hash / 4096) b at) i ≡ b * 512 + at
    step_start = start_more index (hash % 4096) i (get_or index (hash % 4096) 0) (hash / 4096) b at room step_low t.whole

    pub step_others : (k : ℕ) → k < i → start_of (joined index (hash % 4096) i (get_or index (hash % 4096) 0) (hash / 4096) b at) k ≡ start_of index k
    step_others k l = start-kept index (hash % 4096) i (get_or index (hash % 4096) 0) (hash / 4096) b at room step_low t.whole k l

    pub step_within : at < 512 → (k : ℕ) → k ≤ i → (k < i → InBlock index k) → InBlock (joined index (hash % 4096) i (get_or index (hash % 4096) 0) (hash / 4096) b at) k
    step_within place k l others = within_more index (hash % 4096) i (get_or index (hash % 4096) 0) (hash / 4096) b at room step_low t.whole place k l others
