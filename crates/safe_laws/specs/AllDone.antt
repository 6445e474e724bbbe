-- An image whose blocks are written on another that differs from it in those blocks alone is that image.
use Rattle.std.specs.Prelude.{ℕ, ◌+◌, ◌*◌, ◌/◌, ◌%◌, ◌<◌, ◌≡◌, List, [], ◌∷◌, length, get_or}
use Rattle.std.proofs.Common.{sym, ap, ◌∙◌, inl, inr, arith, le_of_eq, ext_get_or}
use Rattle.disk.specs.Blocks.{block_of, with_block}
use Rattle.disk.proofs.Laws.{length-block_of-min}
use Rattle.disk.proofs.Store.{get_or-block_of, length-with_block, block_of-with_block-same, block_of-with_block_other}
use Rattle.rules.specs.Counting.{occurrences}
use Rattle.laws.specs.Tests.{same?}
use Rattle.laws.specs.Sums.{one_at_other}
use Rattle.laws.specs.Bags.{occurrences-nil, occurrences-cons}
use Rattle.frames.specs.Kept.{Kept}
use Rattle.safe_rules.specs.SafeWrites.{applied, writes_of}

-- images of one length with the same blocks are the same
pub same-image : (img j : List ℕ) → length j ≡ length img → ((d : ℕ) → block_of j d ≡ block_of img d) → img ≡ j
same-image img j long same = ext_get_or 0 img j (sym long) (λ i l.
    let e : i / 512 * 512 + i % 512 ≡ i = omega arith in
    let low : i % 512 < 512 = omega arith in
    rw e at (sym (get_or-block_of img (i / 512) (i % 512) low) ∙ ap (λ (b : List ℕ). get_or b (i % 512) 0) (sym (same (i / 512))) ∙ get_or-block_of j (i / 512) (i % 512) low))

-- j, written block by block on what differs from it in some blocks alone
pub applied_is : (j ys img : List ℕ) → Kept (λ d. occurrences d ys ≡ 0) img j → applied img (writes_of j ys) ≡ j
unfolding applied writes_of
applied_is j [] img k = same-image img j k.length-kept (λ d. k.block_kept d (occurrences-nil d))
applied_is j (y ∷ ys) img k = applied_is j ys (with_block img y (block_of j y)) (record {
  length-kept = k.length-kept ∙ sym (length-with_block img y (block_of j y) (le_of_eq (sym long)));
  block_kept = λ d z. elim (same? d y) [
    | inl e ↦ rw e (sym (block_of-with_block-same img y (block_of j y) long))
    | inr n ↦ k.block_kept d (omega (arith, z, occurrences-cons d y ys, one_at_other y d (λ e. n (sym e)))) ∙ sym (block_of-with_block_other img y (block_of j y) (le_of_eq (sym long)) d n)
  ];
})
  where
    long : length (block_of j y) ≡ length (block_of img y)
    long = omega (arith, length-block_of-min img y, length-block_of-min j y, k.length-kept)
