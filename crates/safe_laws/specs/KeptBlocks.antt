-- In the image that a done safe change leaves, every block of a chain of the old image but 1's is as it was.
use Rattle.std.specs.Prelude.{ℕ, ◌≡◌, ◌≢◌, List, [], ◌∷◌}
use Rattle.std.proofs.Common.{arith}
use Rattle.rules.specs.Anodes.{anodes_of}
use Rattle.rules.specs.Plans.{Slotted, planned}
use Rattle.laws.specs.Sums.{one_at_other}
use Rattle.laws.specs.Bags.{occurrences-nil, occurrences-cons, occurrences-append}
use Rattle.laws.specs.Heads.{Head}
use Rattle.laws.specs.Space.{head_1}
use Rattle.frames.specs.DisjointBlocks.{chain_block, chains_apart}
use Rattle.frames.specs.StoredBytes.{BlocksKept}
use Rattle.change_laws.specs.Image.{AcceptedWhole, AcceptedImage, accepted_whole}
use Rattle.safe_rules.specs.SafePlans.{SafeChange, safe_steps}
use Rattle.safe_rules.specs.SafeWrites.{new_image}
use Rattle.safe_laws.specs.AllTaken.{OwnSteps}
use Rattle.safe_laws.specs.LeftImage.{free, left-kept}

module _ {img : List ℕ} (image : AcceptedImage img) {left : ℕ → Type 0} {c : SafeChange} (own : OwnSteps img left c) (t : Slotted) (ys : List ℕ) (plan : safe_steps img c ≡ planned t ys) where
  w : AcceptedWhole img
  w = accepted_whole image

  -- the new blocks are those of 1's chain
  pub chain-kept : (h : ℕ) → Head (anodes_of img).next (anodes_of img).block h → h ≢ 1 → BlocksKept img (new_image img c t ys) (anodes_of img) h
  chain-kept h head h1 y q = (left-kept image own t ys plan).block_kept y (omega (
    arith,
    occurrences-append y ys (2 ∷ []),
    occurrences-cons y 2 [],
    occurrences-nil y,
    free image own t ys plan y,
    chains_apart w.good h 1 head (head_1 w.good) h1 y q,
    one_at_other 2 y (λ i. omega (arith, i, (chain_block img w.good h head y q).above)),
  ))
