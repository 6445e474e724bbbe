-- The blocks along a chain, from an anode on: the i-th of them, those behind the first n, and the first with room for an entry. Assumes nothing.
use Prim.Native.Nat.{ℕ, zero, suc, ◌+◌, ◌-◌, ◌*◌, ◌<◌, ◌≤◌}
use mathlib.Core.Path.{◌≡◌, refl, sym, ap, ◌∙◌}
use mathlib.Core.List.{List, [], ◌∷◌, ◌++◌}
use mathlib.Core.Option.{some}
use native.Mathlib.Numerals.{add-one}
use native.Mathlib.Omega.{arith}
use lib.ListN.{length, get_or, drop}
use lib.Seq.{drop-append-add}
use borrow.Author.Tests.{le-leb, lt-leb, eq-eqb, ne_eqb}
use Rattle.disk.specs.Blocks.{block_of}
use Rattle.rules.specs.Counting.{occurrences, gather}
use Rattle.rules.specs.Anodes.{Anodes}
use Rattle.rules.specs.Chains.{chain_of, run, blocks_of}
use Rattle.rules.specs.Format.{zero_block}
use Rattle.rules.specs.Changes.{end_from, entries_end, first_room, with_blocks}
use Rattle.laws.specs.Bags.{occurrences-here, occurrences-later}
use Rattle.laws.specs.Chains.{length_run}
use Rattle.laws.specs.ChainBlocks.{extent}
use Rattle.laws.specs.OwnerTable.{set_all}
use Rattle.anodes.specs.Loaded.{anodes_from}
use Rattle.edits.specs.Entries.{OneBlockEach}
use Rattle.edits.proofs.Blocks.{with_blocks-append, set_all-append}

-- ---- the i-th block

run_at : (b c i : ℕ) (rest : List ℕ) → i < c → get_or (run b c ++ rest) i 0 ≡ b + i
unfolding run
run_at b zero i rest h = absurd (omega arith)
run_at b (suc c) zero rest h = omega arith
run_at b (suc c) (suc i) rest h = run_at (suc b) c i rest (omega arith) ∙ omega arith

run_past : (b c i : ℕ) (rest : List ℕ) → c ≤ i → get_or (run b c ++ rest) i 0 ≡ get_or rest (i - c) 0
unfolding run
run_past b zero i rest h = ap (λ (j : ℕ). get_or rest j 0) (omega arith)
run_past b (suc c) zero rest h = absurd (omega arith)
run_past b (suc c) (suc i) rest h = run_past (suc b) c i rest (omega arith) ∙ ap (λ (j : ℕ). get_or rest j 0) (omega arith)

-- of a chain that begins with a
module _ (s : Anodes) (a : ℕ) (rest : List ℕ) (i : ℕ) where
  pub nth_here : i < s.count a → get_or (gather (extent s) (a ∷ rest)) i 0 ≡ s.block a + i
  unfolding extent gather
  nth_here h = run_at (s.block a) (s.count a) i (gather (extent s) rest) h

  pub nth-later : s.count a ≤ i → get_or (gather (extent s) (a ∷ rest)) i 0 ≡ get_or (gather (extent s) rest) (i - s.count a) 0
  unfolding extent gather
  nth-later h = run_past (s.block a) (s.count a) i (gather (extent s) rest) h

-- ---- the blocks behind the first n

run-behind : (b c n : ℕ) (rest : List ℕ) → n ≤ c → drop n (run b c ++ rest) ≡ run (b + n) (c - n) ++ rest
unfolding run
run-behind b c zero rest h =
    let e : b + 0 ≡ b = omega arith in
    let f : c - 0 ≡ c = omega arith in
    rw (e, f)
run-behind b zero (suc n) rest h = absurd (omega arith)
run-behind b (suc c) (suc n) rest h =
    let e : b + suc n ≡ suc b + n = omega arith in
    let f : suc c - suc n ≡ c - n = omega arith in
    rw (e, f) (run-behind (suc b) c n rest (omega arith))

run-passed : (b c n : ℕ) (rest : List ℕ) → c ≤ n → drop n (run b c ++ rest) ≡ drop (n - c) rest
run-passed b c n rest h =
    let l = length_run b c in
    let e : n ≡ length (run b c) + (n - c) = omega arith in
    ap (λ (k : ℕ). drop k (run b c ++ rest)) e ∙ drop-append-add (run b c) rest (n - c)

module _ (s : Anodes) (a : ℕ) (rest : List ℕ) (n : ℕ) where
  behind-here : n ≤ s.count a → drop n (gather (extent s) (a ∷ rest)) ≡ run (s.block a + n) (s.count a - n) ++ gather (extent s) rest
  unfolding extent gather
  behind-here h = run-behind (s.block a) (s.count a) n (gather (extent s) rest) h

  pub behind-later : s.count a ≤ n → drop n (gather (extent s) (a ∷ rest)) ≡ drop (n - s.count a) (gather (extent s) rest)
  unfolding extent gather
  behind-later h = run-passed (s.block a) (s.count a) n (gather (extent s) rest) h

  pub zero-here : n ≤ s.count a → (img j : List ℕ) → j ≡ with_blocks img (run (s.block a + n) (s.count a - n)) zero_block
      → with_blocks j (gather (extent s) rest) zero_block ≡ with_blocks img (drop n (gather (extent s) (a ∷ rest))) zero_block
  zero-here h img j is = rw (is, behind-here h) (with_blocks-append img (run (s.block a + n) (s.count a - n)) (gather (extent s) rest) zero_block)

  pub set_here : n ≤ s.count a → (v : ℕ) (blocks j : List ℕ) → j ≡ set_all blocks (run (s.block a + n) (s.count a - n)) v → set_all j (gather (extent s) rest) v ≡ set_all blocks (drop n (gather (extent s) (a ∷ rest))) v
  set_here h v blocks j is = rw (is, behind-here h) (set_all-append blocks (run (s.block a + n) (s.count a - n)) (gather (extent s) rest) v)

-- ---- the end mark, from a place on

module _ (b : List ℕ) where
  pub end_none : (k at : ℕ) → k ≡ 0 → end_from k b at ≡ at
  unfolding end_from
  end_none k at e = rw e

  pub end-here : (k m at : ℕ) → k ≡ m + 1 → get_or b at 0 ≡ 0 → end_from k b at ≡ at
  unfolding end_from
  end-here k m at fuel z = rw (fuel, add-one m, eq-eqb (get_or b at 0) 0 z)

  pub end_later : (k m at : ℕ) → k ≡ m + 1 → (get_or b at 0 ≡ 0 → ⊥) → end_from k b at ≡ end_from m b (at + get_or b at 0)
  unfolding end_from
  end_later k m at fuel n = rw (fuel, add-one m, ne_eqb (get_or b at 0) 0 n)

  pub end_whole : entries_end b ≡ end_from 28 b 16
  unfolding entries_end
  end_whole = refl

-- ---- the first block with room

-- part: the bytes of block y; end: its end mark's place
module _ (img part : List ℕ) (len y end : ℕ) (is : part ≡ block_of img y) (found : end ≡ entries_end part) (ys : List ℕ) where
  ends : end ≡ entries_end (block_of img y)
  ends = found ∙ ap entries_end is

  pub room-here : end + len ≤ 510 → first_room img len (y ∷ ys) ≡ some (y * 512 + end)
  unfolding first_room
  room-here h = rw (ends, le-leb (entries_end (block_of img y) + len) 510 (rw ends at h), first_room)

  pub room-later : 510 < end + len → first_room img len (y ∷ ys) ≡ first_room img len ys
  unfolding first_room
  room-later h = rw (lt-leb (entries_end (block_of img y) + len) 510 (rw ends at h), first_room)

-- the first blocks of these anodes
abbrev pub firsts_along : List ℕ → List ℕ → List ℕ
firsts_along firsts chain = gather (λ a. get_or firsts a 0 ∷ []) chain

-- of anodes with count 1 they are all blocks
single_blocks : (block count : ℕ → ℕ) (l : List ℕ) → ((a : ℕ) → 0 < occurrences a l → count a ≡ 1) → gather (λ a. run (block a) (count a)) l ≡ gather (λ a. block a ∷ []) l
unfolding gather run
single_blocks block count [] one = refl
single_blocks block count (x ∷ l) one =
    rw (one x (occurrences-here x l), single_blocks block count l (λ a p. one a (occurrences-later a x l p)))

pub room_whole : (img : List ℕ) (len : ℕ) (counts firsts nexts : List ℕ) (h : ℕ) → OneBlockEach counts nexts h
    → first_room img len (firsts_along firsts (chain_of (λ x. get_or nexts x 0) 3444 h)) ≡ first_room img len (blocks_of (anodes_from counts firsts nexts) h)
unfolding blocks_of anodes_from
room_whole img len counts firsts nexts h one = ap (first_room img len) (sym (single_blocks (λ x. get_or firsts x 0) (λ x. get_or counts x 0) (chain_of (λ x. get_or nexts x 0) 3444 h) one))
