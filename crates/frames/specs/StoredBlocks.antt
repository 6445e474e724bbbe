-- Stores in blocks: each keeps the length of the image and the blocks that it does not name.
use Rattle.std.specs.Prelude.{ℕ, ◌*◌, ◌≤◌, ◌≡◌, ◌≢◌, List, [], ◌∷◌, length, take, drop}
use Rattle.std.proofs.Common.{sym, arith, le_of_eq, length-take, length-drop}
use Rattle.disk.specs.Blocks.{block_of, with_block}
use Rattle.disk.proofs.Laws.{length-block_of-min}
use Rattle.disk.proofs.Store.{length-with_block, block_of-with_block-same, block_of-with_block_other}
use Rattle.rules.specs.Counting.{occurrences}
use Rattle.rules.specs.Table.{in_block}
use Rattle.rules.specs.Changes.{with_blocks, spread}
use Rattle.laws.specs.Sums.{one_at-same}
use Rattle.laws.specs.Bags.{occurrences-cons}
use Rattle.frames.specs.Kept.{Kept, kept-all, kept_both}

-- ---- one block

-- a block stored whole keeps every other
pub with_block-kept : (img : List ℕ) (b : ℕ) (new : List ℕ) → length (block_of img b) ≤ length new → Kept (λ d. d ≢ b) img (with_block img b new)
with_block-kept img b new enough = record {
  length-kept = length-with_block img b new enough;
  block_kept = block_of-with_block_other img b new enough;
}

module _ (img : List ℕ) (b : ℕ) (f : List ℕ → List ℕ) (long : length (f (block_of img b)) ≡ length (block_of img b)) where
  -- a block changed in its place keeps every other
  pub in_block-kept : Kept (λ d. d ≢ b) img (in_block img b f)
  unfolding in_block
  in_block-kept = with_block-kept img b (f (block_of img b)) (le_of_eq (sym long))

  pub block_of-in_block : block_of (in_block img b f) b ≡ f (block_of img b)
  unfolding in_block
  block_of-in_block = block_of-with_block-same img b (f (block_of img b)) long

-- ---- some blocks

-- what is not among them is not the first and not among the rest
others : (y d : ℕ) (ys : List ℕ) → occurrences d (y ∷ ys) ≡ 0 → (d ≢ y) × (occurrences d ys ≡ 0)
others y d ys z = (λ e. omega (arith, occurrences-cons d y ys, one_at-same y d (sym e)), omega (arith, occurrences-cons d y ys))

module _ (img : List ℕ) (y : ℕ) (ys : List ℕ) (new : List ℕ) (long : 512 ≤ length new) {j : List ℕ} where
  -- a whole block stored before the rest
  before-rest : Kept (λ d. occurrences d ys ≡ 0) (with_block img y new) j → Kept (λ d. occurrences d (y ∷ ys) ≡ 0) img j
  before-rest = kept_both (λ d z. (others y d ys z).0) (λ d z. (others y d ys z).1) (with_block-kept img y new (omega (arith, length-block_of-min img y)))

-- the same bytes stored in some blocks keep every other
pub with_blocks-kept : (img ys new : List ℕ) → 512 ≤ length new → Kept (λ d. occurrences d ys ≡ 0) img (with_blocks img ys new)
unfolding with_blocks
with_blocks-kept img [] new long = kept-all img
with_blocks-kept img (y ∷ ys) new long = before-rest img y ys new long (with_blocks-kept (with_block img y new) ys new long)

-- bytes spread over some blocks keep every other
pub spread-kept : (img ys bytes : List ℕ) → length ys * 512 ≤ length bytes → Kept (λ d. occurrences d ys ≡ 0) img (spread img ys bytes)
unfolding spread
spread-kept img [] bytes long = kept-all img
spread-kept img (y ∷ ys) bytes long =
    before-rest img y ys (take 512 bytes) (simp length-take (omega arith)) (spread-kept (with_block img y (take 512 bytes)) ys (drop 512 bytes) (simp length-drop (omega arith)))
