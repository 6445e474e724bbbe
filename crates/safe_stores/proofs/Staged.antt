-- Bytes staged at the front of a buffer, a block that is stored and then changed, and writes listed one behind the other.
use Prim.Native.Nat.{ℕ, ◌+◌, ◌-◌, ◌*◌, ◌/◌, ◌%◌, ◌≤◌, ◌<◌}
use mathlib.Core.Path.{◌≡◌, sym, ap, ap₂, ◌∙◌}
use mathlib.Core.List.{List, [], ◌∷◌, ◌++◌, append_assoc}
use native.Mathlib.Omega.{arith}
use lib.ListN.{length, take, drop, length-append, length-drop}
use lib.Seq.{take_at, drop_at, drop-drop, length-take-le, take-append_seam, drop-append_seam}
use borrow.Rule.Slice.PartMut.{put_mid}
use Rattle.disk.specs.Blocks.{block_of, with_block}
use Rattle.disk.proofs.Laws.{length-block_of}
use Rattle.disk.proofs.Store.{block_of-with_block-same}
use Rattle.rules.specs.Counting.{gather}
use Rattle.rules.specs.Anodes.{Anodes, anodes_of}
use Rattle.rules.specs.Chains.{blocks_of, block_count}
use Rattle.rules.specs.Walk.{Entered}
use Rattle.rules.specs.Lookup.{bytes_of}
use Rattle.rules.specs.Table.{in_block}
use Rattle.laws.specs.Sums.{one_at_some}
use Rattle.laws.specs.Bags.{occurrences-nil, occurrences-cons}
use Rattle.laws.specs.Chains.{Inside}
use Rattle.laws.specs.ChainBlocks.{length-blocks_of}
use Rattle.frames.specs.StoredBytes.{length-gather}
use Rattle.change_laws.specs.Reached.{EntryIn, entry_data}
use Rattle.anodes.specs.Loaded.{anodes_from, Loaded}
use Rattle.write_lists.specs.Puts.{with_writes}
use Rattle.write_lists.proofs.Laws.{writes_on}

-- ---- bytes at the front of a buffer

module _ (out two : List ℕ) (len : ℕ) (all : length two ≡ len) (room : len ≤ length out) where
  -- they are there
  pub staged_front : take (len - 0) (drop 0 (put_mid 0 (len - 0) out two)) ≡ two
  staged_front =
      let n : len - 0 ≡ length two = omega (arith, all) in
      ap (λ (k : ℕ). take k (two ++ drop (len - 0) out)) n ∙ take-append_seam two (drop (len - 0) out)

  -- all behind is as it was
  pub staged_behind : drop len (put_mid 0 (len - 0) out two) ≡ drop len out
  staged_behind =
      let n : len - 0 ≡ len = omega arith in
      ap (λ (k : ℕ). drop k (two ++ drop (len - 0) out)) (sym all) ∙ drop-append_seam two (drop (len - 0) out) ∙ ap (λ (k : ℕ). drop k out) n

  -- and the buffer is as long
  pub staged_whole : length (put_mid 0 (len - 0) out two) ≡ length out
  staged_whole = omega (arith, length-append two (drop (len - 0) out), length-drop (len - 0) out, all, room)

-- the bytes of the blocks of a file, by the tables that are lent
pub loaded_long : {img counts firsts nexts : List ℕ} {k : ℕ} {e : Entered} → Loaded img counts firsts nexts → EntryIn img k e → length (bytes_of img (anodes_from counts firsts nexts) e.anode) ≡ block_count (anodes_of img) e.anode * 512
unfolding bytes_of
loaded_long {img} {e = e} loaded m = ap (λ (s : Anodes). length (gather (block_of img) (blocks_of s e.anode))) loaded.is_loaded
    ∙ length-gather img (blocks_of (anodes_of img) e.anode) (λ y p. (entry_data m y p).inside) ∙ ap (λ (n : ℕ). n * 512) (length-blocks_of (anodes_of img) e.anode)

-- ---- a block that is stored and then changed

-- a place in block z, taken apart
pub place_parts : (z at : ℕ) → at < 512 → ((z * 512 + at) / 512 ≡ z) × ((z * 512 + at) % 512 ≡ at)
place_parts z at low = (omega (arith, low), omega (arith, low))

-- of two stores of a block the later stays
stored_twice : (img : List ℕ) (z : ℕ) (first last : List ℕ) → z * 512 + 512 ≤ length img → length first ≡ 512 → with_block (with_block img z first) z last ≡ with_block img z last
unfolding with_block
stored_twice img z first last inside whole =
    let front = take (z * 512) img in
    let behind = drop (z * 512 + 512) img in
    let here = length-block_of img z inside in
    let fits = take (length (block_of img z)) first in
    let long : length front ≡ z * 512 = length-take-le (z * 512) img (omega (arith, inside)) in
    let full : length fits ≡ 512 = length-take-le (length (block_of img z)) first (omega (arith, here, whole)) ∙ here in
    let size : length (block_of (with_block img z first) z) ≡ length (block_of img z) = ap length (block_of-with_block-same img z first (whole ∙ sym here)) ∙ whole ∙ sym here in
    ap₂ (λ (x y : List ℕ). x ++ (take (length (block_of (with_block img z first) z)) last ++ y)) (take_at front (fits ++ behind) (z * 512) long)
    (sym (drop-drop 512 (z * 512) (front ++ (fits ++ behind))) ∙ ap (drop 512) (drop_at front (fits ++ behind) (z * 512) long) ∙ drop_at fits behind 512 full)
    ∙ ap (λ (k : ℕ). front ++ (take k last ++ behind)) size

module _ (img : List ℕ) (z : ℕ) (bytes : List ℕ) (inside : z * 512 + 512 ≤ length img) (whole : length bytes ≡ 512) (i : List ℕ) (is : i ≡ with_block img z bytes) where
  -- once stored, it has its bytes
  pub stored_there : block_of i z ≡ bytes
  stored_there = ap (λ (x : List ℕ). block_of x z) is ∙ block_of-with_block-same img z bytes (whole ∙ sym (length-block_of img z inside))

  -- changed at a place in it, it has those that the change makes of them
  pub stored-changed : (at : ℕ) → at < 512 → (change : List ℕ → ℕ → List ℕ) → in_block i ((z * 512 + at) / 512) (λ b. change b ((z * 512 + at) % 512)) ≡ with_block img z (change bytes at)
  unfolding in_block
  stored-changed at low change =
      let (block, place) = place_parts z at low in
      ap₂ (λ (x p : ℕ). with_block i x (change (block_of i x) p)) block place ∙ ap₂ (λ (x b : List ℕ). with_block x z (change b at)) is stored_there
      ∙ stored_twice img z bytes (change bytes at) inside whole

-- ---- writes listed one behind the other

-- all blocks of an empty list are inside
pub none_inside : (img : List ℕ) → Inside img []
none_inside img x p = absurd (omega (arith, p, occurrences-nil x))

-- and so are those of a list of one that is
pub one_inside : (img : List ℕ) (z : ℕ) → z * 512 + 512 ≤ length img → Inside img (z ∷ [])
one_inside img z there x p = rw (sym (one_at_some z x (omega (arith, p, occurrences-cons x z [], occurrences-nil x)))) there

-- the writes of some blocks, of one more, and of the rest with the root
pub list_put : (img us : List ℕ) (z : ℕ) (rest : List ℕ) → Inside img us → z * 512 + 512 ≤ length img → (out first second new : List ℕ) (behind end : ℕ) → first ≡ with_writes out 0 img us → behind ≡ 0 + length us * 514 →
    second ≡ with_writes first behind img (z ∷ []) → end ≡ behind + 514 → new ≡ with_writes second end img (rest ++ (2 ∷ [])) → new ≡ with_writes out 0 img ((us ++ (z ∷ rest)) ++ (2 ∷ []))
list_put img us z rest inside there out first second new behind end is at is₂ at₂ is₃ =
    is₃ ∙ writes_on first behind img (z ∷ []) (one_inside img z there) second end is₂ (omega (arith, at₂)) (rest ++ (2 ∷ []))
    ∙ writes_on out 0 img us inside first behind is at ((z ∷ []) ++ (rest ++ (2 ∷ [])))
    ∙ ap (with_writes out 0 img) (sym (append_assoc us (z ∷ rest) (2 ∷ [])))
