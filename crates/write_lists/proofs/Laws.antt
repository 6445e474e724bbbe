-- Laws of block writes that stand in a buffer one behind the other: of a run's blocks, of a chain's and of the slots'.
use Prim.Native.Nat.{ℕ, zero, suc, ◌+◌, ◌*◌, ◌-◌, ◌/◌, ◌%◌, ◌≤◌, ◌<◌}
use mathlib.Core.Path.{◌≡◌, refl, sym, ap, ◌∙◌}
use mathlib.Core.Logic.{◌≢◌, inl, inr}
use mathlib.Core.List.{List, [], ◌∷◌, ◌++◌, append-nil}
use native.Mathlib.Omega.{arith}
use native.Mathlib.Numerals.{add-one}
use lib.ListN.{length, length-append}
use borrow.Author.Tests.{eq-eqb, ne_eqb}
use Rattle.endian.specs.Bytes.{put16, stored}
use Rattle.endian.proofs.Laws.{less?, same?, length-stored, stored-none, run_on, put16-run}
use Rattle.disk.specs.Blocks.{block_of}
use Rattle.disk.proofs.Laws.{length-block_of}
use Rattle.rules.specs.Counting.{occurrences, gather}
use Rattle.rules.specs.Anodes.{Anodes}
use Rattle.rules.specs.Chains.{run}
use Rattle.laws.specs.Sums.{one_at_some}
use Rattle.laws.specs.Bags.{gather_append, occurrences-nil, occurrences-cons, occurrences-append, occurrences-here, occurrences-later}
use Rattle.laws.specs.Chains.{run_step, length_run, Inside}
use Rattle.laws.specs.ChainBlocks.{extent}
use Rattle.safe_rules.specs.SafePlans.{slot_blocks}
use Rattle.safe_rules.specs.SafeWrites.{BlockWrite, block_write, writes_of, write_bytes, list_bytes}
use Rattle.contents.proofs.Writing.{first_inside, inside_append}
use Rattle.write_lists.specs.Puts.{with_writes, held_by}

-- ---- writes as bytes

-- a whole block's write has 514 bytes
length_write : (img : List ℕ) (y : ℕ) → y * 512 + 512 ≤ length img → length (write_bytes (block_write y (block_of img y))) ≡ 514
unfolding write_bytes put16
length_write img y inside = omega (arith, length-block_of img y inside)

-- and so has each of a list
pub length-listed : (img ys : List ℕ) → Inside img ys → length (list_bytes (writes_of img ys)) ≡ length ys * 514
unfolding list_bytes gather writes_of
length-listed img [] i = refl
length-listed img (y ∷ ys) i =
    omega (
      arith,
      length-append (write_bytes (block_write y (block_of img y))) (list_bytes (writes_of img ys)),
      length_write img y (i y (occurrences-here y ys)),
      length-listed img ys (λ z p. i z (occurrences-later z y ys p)),
    )

writes_append : (img xs ys : List ℕ) → writes_of img (xs ++ ys) ≡ writes_of img xs ++ writes_of img ys
unfolding writes_of
writes_append img [] ys = refl
writes_append img (x ∷ xs) ys = ap (λ (l : List BlockWrite). block_write x (block_of img x) ∷ l) (writes_append img xs ys)

-- the bytes of two lists, one behind the other
bytes-append : (img xs ys : List ℕ) → list_bytes (writes_of img (xs ++ ys)) ≡ list_bytes (writes_of img xs) ++ list_bytes (writes_of img ys)
unfolding list_bytes
bytes-append img xs ys = ap list_bytes (writes_append img xs ys) ∙ gather_append write_bytes (writes_of img xs) (writes_of img ys)

-- ---- writes in a buffer

pub length-with_writes : (out : List ℕ) (at : ℕ) (img ys : List ℕ) → length (with_writes out at img ys) ≡ length out
unfolding with_writes
length-with_writes out at img ys = length-stored out at (list_bytes (writes_of img ys))

-- no write leaves the buffer as it is
pub no_write : (out : List ℕ) (at : ℕ) (img ys : List ℕ) → ys ≡ [] → with_writes out at img ys ≡ out
unfolding with_writes list_bytes gather writes_of
no_write out at img ys none = rw none (stored-none out at)

-- a number and a block's bytes behind it are a write
pub one_write : (out : List ℕ) (at : ℕ) (img : List ℕ) (y : ℕ) (numbered source new : List ℕ) → numbered ≡ put16 out at y → source ≡ block_of img y → new ≡ stored numbered (at + 2) source
    → new ≡ with_writes out at img (y ∷ [])
unfolding with_writes list_bytes gather writes_of write_bytes put16
one_write out at img y numbered source new number bytes both =
    both ∙ ap (stored numbered (at + 2)) bytes ∙ run_on out at (y / 256 ∷ y % 256 ∷ []) numbered (number ∙ put16-run out at y) (at + 2) (block_of img y) (omega arith)
    ∙ ap (λ (b : List ℕ). stored out at (y / 256 ∷ y % 256 ∷ b)) (sym (append-nil (block_of img y)))

-- writes that go on where others end
pub writes_on : (out : List ℕ) (at : ℕ) (img xs : List ℕ) → Inside img xs → (new : List ℕ) (place : ℕ) → new ≡ with_writes out at img xs → place ≡ at + length xs * 514
    → (ys : List ℕ) → with_writes new place img ys ≡ with_writes out at img (xs ++ ys)
unfolding with_writes
writes_on out at img xs inside new place is end ys =
    run_on out at (list_bytes (writes_of img xs)) new is place (list_bytes (writes_of img ys)) (omega (arith, length-listed img xs inside))
    ∙ ap (stored out at) (sym (bytes-append img xs ys))

-- ---- a run

-- the first of n blocks from b upward is put
pub run_on_write : (out : List ℕ) (at : ℕ) (img : List ℕ) (b n m : ℕ) → n ≡ m + 1 → Inside img (run b n) → (new : List ℕ) (place : ℕ) → new ≡ with_writes out at img (b ∷ []) → place ≡ at + 514
    → with_writes new place img (run (b + 1) m) ≡ with_writes out at img (run b n)
run_on_write out at img b n m more inside new place is end =
    let here = first_inside img b n m more inside in
    let one : Inside img (b ∷ []) = λ y p. rw (sym (one_at_some b y (omega (arith, p, occurrences-cons y b [], occurrences-nil y)))) here in
    writes_on out at img (b ∷ []) one new place is (omega arith) (run (b + 1) m) ∙ ap (with_writes out at img) (sym (run_step b n m more))

-- ---- a chain

-- numbers end at 65535: those of a run that has any
pub run_low : (b c : ℕ) → b ≤ 65535 → (0 < c → b + c ≤ 65535) → b + c ≤ 65535
run_low b c low within = elim (less? 0 c) [ inl some ↦ within some | inr none ↦ omega arith ]

-- an anode of a chain: its c blocks from b upward, and those behind it
module _ (img : List ℕ) (s : Anodes) (a : ℕ) (behind : List ℕ) (inside : Inside img (extent s a ++ behind)) (b c : ℕ) (first : b ≡ s.block a) (count : c ≡ s.count a) where
  run_is : run b c ≡ extent s a
  unfolding extent
  run_is = rw (first, count)

  pub anode_inside : Inside img (run b c)
  anode_inside = rw run_is (inside_append img (extent s a) behind inside).0

  pub behind_inside : Inside img behind
  behind_inside = (inside_append img (extent s a) behind inside).1

  pub anode_length : length (extent s a ++ behind) ≡ c + length behind
  anode_length = rw (← run_is) (omega (arith, length-append (run b c) behind, length_run b c))

  pub anode_put : (out new : List ℕ) (at place : ℕ) → new ≡ with_writes out at img (run b c) → place ≡ at + c * 514
      → with_writes new place img behind ≡ with_writes out at img (extent s a ++ behind)
  anode_put out new at place is end =
      rw (← run_is) (writes_on out at img (run b c) anode_inside new place is (omega (arith, end, length_run b c)) behind)

-- ---- the slots

module _ (slots : ℕ → ℕ) where
  pub held_none : (k : ℕ) → slots k ≡ 0 → held_by slots k ≡ []
  held_none k e = rw (eq-eqb (slots k) 0 e)

  pub held_one : (k : ℕ) → slots k ≢ 0 → held_by slots k ≡ slots k ∷ []
  held_one k n = rw (ne_eqb (slots k) 0 n)

  pub no_slot : slot_blocks slots 0 ≡ []
  unfolding slot_blocks
  no_slot = refl

  pub next_slot : (k : ℕ) → slot_blocks slots (k + 1) ≡ slot_blocks slots k ++ held_by slots k
  unfolding slot_blocks
  next_slot k = rw (add-one k)

  pub slot_length : (k : ℕ) → length (slot_blocks slots (k + 1)) ≡ length (slot_blocks slots k) + length (held_by slots k)
  slot_length k = ap length (next_slot k) ∙ length-append (slot_blocks slots k) (held_by slots k)

  -- more slots hold no fewer blocks
  more_slots : (k d : ℕ) → length (slot_blocks slots k) ≤ length (slot_blocks slots (k + d))
  more_slots k zero = let e : k + 0 ≡ k = omega arith in rw e (omega arith)
  more_slots k (suc d) = let e : k + suc d ≡ k + d + 1 = omega arith in rw e (omega (arith, more_slots k d, slot_length (k + d)))

  -- the writes of all slots have room for that of slot k
  pub slot_room : (k : ℕ) → k < 42 → length (slot_blocks slots k) + length (held_by slots k) ≤ length (slot_blocks slots 42)
  slot_room k low = let e : k + 1 + (42 - (k + 1)) ≡ 42 = omega arith in omega (arith, slot_length k, rw e at (more_slots (k + 1) (42 - (k + 1))))

  -- the image has the block of each slot whole
  module _ (img : List ℕ) (inside : (k : ℕ) → slots k * 512 + 512 ≤ length img) where
    held_inside : (k : ℕ) → Inside img (held_by slots k)
    held_inside k y p = elim (same? (slots k) 0) [
      | inl e ↦ absurd (omega (arith, rw (held_none k e) at p, occurrences-nil y))
      | inr n ↦ rw (sym (one_at_some (slots k) y (omega (arith, rw (held_one k n) at p, occurrences-cons y (slots k) [], occurrences-nil y)))) (inside k)
    ]

    slots_inside : (k : ℕ) → Inside img (slot_blocks slots k)
    unfolding slot_blocks
    slots_inside zero y p = absurd (omega (arith, p, occurrences-nil y))
    slots_inside (suc k) y p = elim (less? 0 (occurrences y (held_by slots k))) [
      | inl q ↦ held_inside k y q
      | inr q ↦ slots_inside k y (omega (arith, p, q, occurrences-append y (slot_blocks slots k) (held_by slots k)))
    ]

    -- slot k's write is put behind those of the slots below it
    pub slot_put : (out₀ : List ℕ) (at k : ℕ) (out : List ℕ) (place : ℕ) (new : List ℕ) → out ≡ with_writes out₀ at img (slot_blocks slots k) → place ≡ at + length (slot_blocks slots k) * 514
        → new ≡ with_writes out place img (held_by slots k) → new ≡ with_writes out₀ at img (slot_blocks slots (k + 1))
    slot_put out₀ at k out place new before end is =
        is ∙ writes_on out₀ at img (slot_blocks slots k) (slots_inside k) out place before end (held_by slots k) ∙ ap (with_writes out₀ at img) (sym (next_slot k))
