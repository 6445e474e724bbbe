-- Half of the crash theorem: whole blocks written on the free list alone leave a sound image with the same tree.
use Rattle.std.specs.Prelude.{ℕ, ◌<◌, ◌≡◌, List, [], ◌∷◌}
use Rattle.std.proofs.Common.{ap, arith}
use Rattle.disk.specs.Blocks.{with_block}
use Rattle.disk.proofs.Laws.{length-block_of-min}
use Rattle.rules.specs.Counting.{occurrences}
use Rattle.rules.specs.Anodes.{anodes_of}
use Rattle.rules.specs.Chains.{blocks_of}
use Rattle.rules.specs.Totals.{Sound}
use Rattle.laws.specs.Each.{Each}
use Rattle.frames.specs.Kept.{Kept, kept-all, kept_both}
use Rattle.frames.specs.StoredBlocks.{with_block-kept}
use Rattle.change_laws.specs.Answers.{own_tables}
use Rattle.change_laws.specs.Image.{AcceptedImage}
use Rattle.change_laws.specs.Totals.{accepted-total}
use Rattle.paths.specs.Facts.{SameTree}
use Rattle.safe_rules.specs.SafeWrites.{BlockWrite, applied}
use Rattle.safe_laws.specs.FreeWrites.{free-accepted, free_tree}
use Rattle.safe_laws.specs.Replayed.{WholeWrite}

-- an accepted image is sound
pub accepted_sound : {img : List ℕ} → AcceptedImage img → Sound img
accepted_sound {img} a = record { accepted = own_tables img a.blocks a.anodes a.accepted; adds_up = accepted-total a }

-- a write of a whole block that the image's free list has
abbrev pub OnFree : List ℕ → BlockWrite → Type 0
OnFree img w = WholeWrite w × (0 < occurrences w.block (blocks_of (anodes_of img) 1))

-- writes of whole blocks that are counted keep those that are not
applied-kept : (on : ℕ → ℕ) (img : List ℕ) (ws : List BlockWrite) → Each (λ w. WholeWrite w × (0 < on w.block)) ws → Kept (λ y. on y ≡ 0) img (applied img ws)
unfolding applied
applied-kept on img [] each = kept-all img
applied-kept on img (w ∷ ws) each =
    kept_both (λ y z i. omega (arith, each.0.1, z, ap on i)) (λ y z. z)
    (with_block-kept img w.block w.bytes (omega (arith, each.0.0, length-block_of-min img w.block)))
    (applied-kept on (with_block img w.block w.bytes) ws each.1)

-- cut off before the root's write: sound, with the old tree
pub cut-old_tree : {img : List ℕ} → AcceptedImage img → (ws : List BlockWrite) → Each (OnFree img) ws → Sound (applied img ws) × SameTree img (applied img ws)
cut-old_tree {img} image ws each =
    let kept = applied-kept (λ y. occurrences y (blocks_of (anodes_of img) 1)) img ws each in
    (accepted_sound (record { blocks = image.blocks; anodes = image.anodes; accepted = free-accepted image kept }), free_tree image kept)
