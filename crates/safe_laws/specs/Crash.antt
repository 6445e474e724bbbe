-- What the crash theorem still asks of a safe change whose new blocks are distinct free ones of the old image, which the image left differs in alone, and in the root: that it is sound and holds the new tree.
use Rattle.std.specs.Prelude.{ℕ, zero, suc, ◌+◌, ◌*◌, ◌≤◌, ◌<◌, ◌≡◌, refl, get_or, take, drop}
use Rattle.std.proofs.Common.{sym, ap, ◌∙◌, inl, inr, arith, length-append, drop-drop}
use mathlib.Core.List.{List, [], ◌∷◌, ◌++◌, append_assoc}
use Rattle.std.proofs.Math.ListN.{length}
use Rattle.std.proofs.lemmas.List.{take-append-le}
use Rattle.std.proofs.Math.Seq.{get_or-append_seam}
use Rattle.disk.specs.Blocks.{block_of}
use Rattle.disk.proofs.Laws.{length-block_of}
use Rattle.rules.specs.Counting.{one_at, occurrences, gather}
use Rattle.rules.specs.Anodes.{limit, anodes_of}
use Rattle.rules.specs.Chains.{blocks_of}
use Rattle.rules.specs.Totals.{Sound}
use Rattle.laws.specs.Tests.{less?, not_above}
use Rattle.laws.specs.Sums.{one_at-same, one_at_other, one_at_some, one_at-le, sum-member}
use Rattle.laws.specs.Bags.{occurrences-nil, occurrences-cons, occurrences-append, occurrences-here, occurrences-later}
use Rattle.laws.specs.Each.{Each}
use Rattle.laws.specs.Held.{held}
use Rattle.laws.specs.Space.{head_1}
use Rattle.laws.specs.Owners.{total-held}
use Rattle.laws.specs.Acceptance.{size_bounds}
use Rattle.frames.specs.Kept.{Kept}
use Rattle.frames.specs.DisjointBlocks.{DataBlock, occurrences-held, chain_block, chain_once, chains_apart}
use Rattle.frames.specs.StoredSlots.{block_inside}
use Rattle.change_laws.specs.Image.{AcceptedWhole, head_in, AcceptedImage, image-passed, accepted_whole}
use Rattle.safe_rules.specs.SafeWrites.{BlockWrite, block_write, applied, writes_of, write_bytes, list_bytes, buffer_after, replayed}
use Rattle.safe_rules.specs.SafeCalls.{SafeCall, safe_settled, safe_done}
use Rattle.safe_laws.specs.Claims.{NewTree, block_at, OldFree, NotOwned, CrashSafe}
use Rattle.safe_laws.specs.Replayed.{WholeWrite, number_read, rest_read, replay_buffer, replay_all}
use Rattle.safe_laws.specs.CutOff.{OnFree, cut-old_tree}
use Rattle.safe_laws.specs.AllDone.{applied_is}

-- ---- numbers in a list, each once

-- what stands at a place stands in the list
pub place_in : (l : List ℕ) (i : ℕ) → i < length l → 0 < occurrences (get_or l i 0) l
place_in [] i q = absurd (omega arith)
place_in (x ∷ l) zero q = occurrences-here x l
place_in (x ∷ l) (suc i) q = occurrences-later (get_or l i 0) x l (place_in l i (omega arith))

-- two places of one number are one
place_once : (l : List ℕ) → ((x : ℕ) → occurrences x l ≤ 1) → (i k : ℕ) → i < length l → k < length l → get_or l i 0 ≡ get_or l k 0 → i ≡ k
place_once [] once i k p q e = absurd (omega arith)
place_once (x ∷ l) once zero zero p q e = refl
place_once (x ∷ l) once zero (suc k) p q e = absurd (omega (arith, once x, occurrences-cons x x l, one_at-same x x refl, place_in l k (omega arith), ap (λ (z : ℕ). occurrences z l) e))
place_once (x ∷ l) once (suc i) zero p q e = absurd (omega (arith, once x, occurrences-cons x x l, one_at-same x x refl, place_in l i (omega arith), ap (λ (z : ℕ). occurrences z l) e))
place_once (x ∷ l) once (suc i) (suc k) p q e = ap suc (place_once l (λ z. omega (arith, once z, occurrences-cons z x l)) i k (omega arith) (omega arith) e)

-- a place before the last of a list with one more
get_or-before : (l : List ℕ) (x i : ℕ) → i < length l → get_or (l ++ (x ∷ [])) i 0 ≡ get_or l i 0
get_or-before [] x i q = absurd (omega arith)
get_or-before (y ∷ l) x zero q = refl
get_or-before (y ∷ l) x (suc i) q = get_or-before l x i (omega arith)

-- ---- the block numbers in the buffer

later_block : (w : BlockWrite) (rest : List ℕ) (k : ℕ) → WholeWrite w → block_at (write_bytes w ++ rest) (suc k) ≡ block_at rest k
later_block w rest k whole =
    let e : suc k * 514 ≡ 514 + k * 514 = omega arith in
    rw (e, sym (drop-drop (k * 514) 514 (write_bytes w ++ rest)), rest_read w rest whole)

-- they are those of the list
list_blocks : (j ns rest : List ℕ) (k : ℕ) → Each WholeWrite (writes_of j ns) → k < length ns → block_at (list_bytes (writes_of j ns) ++ rest) k ≡ get_or ns k 0
unfolding list_bytes gather writes_of
list_blocks j [] rest k whole l = absurd (omega arith)
list_blocks j (n ∷ ns) rest zero whole l = rw (append_assoc (write_bytes (block_write n (block_of j n))) (list_bytes (writes_of j ns)) rest) (number_read (block_write n (block_of j n)) (list_bytes (writes_of j ns) ++ rest))
list_blocks j (n ∷ ns) rest (suc k) whole l =
    rw (append_assoc (write_bytes (block_write n (block_of j n))) (list_bytes (writes_of j ns)) rest)
    (later_block (block_write n (block_of j n)) (list_bytes (writes_of j ns) ++ rest) k whole.0 ∙ list_blocks j ns rest k whole.1 (omega arith))

-- ---- the writes

-- each write of an image's blocks has what its block gives it
each_write : (P : BlockWrite → Type 0) (j ns : List ℕ) → ((y : ℕ) → 0 < occurrences y ns → P (block_write y (block_of j y))) → Each P (writes_of j ns)
unfolding writes_of
each_write P j [] h = tt
each_write P j (n ∷ ns) h = (h n (occurrences-here n ns), each_write P j ns (λ y p. h y (occurrences-later y n ns p)))

pub length_writes : (j ns : List ℕ) → length (writes_of j ns) ≡ length ns
unfolding writes_of
length_writes j [] = refl
length_writes j (n ∷ ns) = rw (length_writes j ns)

-- the first k writes are those of the first k blocks
take_writes : (j : List ℕ) (k : ℕ) (ns : List ℕ) → take k (writes_of j ns) ≡ writes_of j (take k ns)
unfolding writes_of
take_writes j zero ns = refl
take_writes j (suc k) [] = refl
take_writes j (suc k) (n ∷ ns) = ap (λ (l : List BlockWrite). block_write n (block_of j n) ∷ l) (take_writes j k ns)

pub take_few : (y k : ℕ) (l : List ℕ) → occurrences y (take k l) ≤ occurrences y l
take_few y zero l = omega (arith, occurrences-nil y)
take_few y (suc k) [] = omega arith
take_few y (suc k) (x ∷ l) = omega (arith, take_few y k l, occurrences-cons y x (take k l), occurrences-cons y x l)

-- ---- the theorem's record

-- j differs from the accepted img in the root and in the blocks ys alone, which are distinct free blocks of img
module _ {img : List ℕ} (image : AcceptedImage img) (j ys : List ℕ) (fresh : OldFree img ys) (kept : Kept (λ d. occurrences d (ys ++ (2 ∷ [])) ≡ 0) img j) where
  w : AcceptedWhole img
  w = accepted_whole image

  -- the blocks written, the root last
  abbrev ns : List ℕ
  ns = ys ++ (2 ∷ [])

  on_list : (y : ℕ) → 0 < occurrences y ys → 0 < occurrences y (blocks_of (anodes_of img) 1)
  on_list y p = omega (arith, p, fresh y)

  data_block : (y : ℕ) → 0 < occurrences y ys → DataBlock img y
  data_block y p = chain_block img w.good 1 (head_1 w.good) y (on_list y p)

  -- a block of the free list is nobody else's
  pub spared : (y : ℕ) → 0 < occurrences y ys → NotOwned img y
  spared y p = record {
    not_system = omega (
      arith,
      on_list y p,
      total-held w.good y (data_block y p).below,
      occurrences-held w.good 1 (head_1 w.good) y (data_block y p).below,
      sum-member (λ m. held limit (head_in img) (anodes_of img).count (anodes_of img).block m y) 1 limit (omega arith),
    );
    not-chain = λ h d o. not_above (occurrences y (blocks_of (anodes_of img) h)) (λ q. omega (arith, on_list y p, chains_apart w.good h 1 d (head_1 w.good) o y q));
  }

  at_ends : (y : ℕ) → occurrences y ns ≡ occurrences y ys + one_at 2 y
  at_ends y = omega (arith, occurrences-append y ys (2 ∷ []), occurrences-cons y 2 [], occurrences-nil y)

  once : (y : ℕ) → occurrences y ns ≤ 1
  once y = elim (less? 0 (occurrences y ys)) [
    | inl p ↦ omega (arith, at_ends y, fresh y, chain_once w.good 1 (head_1 w.good) y, not-2 p)
    | inr p ↦ omega (arith, at_ends y, p, one_at-le 2 y)
  ]
    where
      not-2 : 0 < occurrences y ys → one_at 2 y ≡ 0
      not-2 p = one_at_other 2 y (λ e. omega (arith, e, (data_block y p).above))

  -- every block written is a whole block
  inside : (y : ℕ) → 0 < occurrences y ns → y * 512 + 512 ≤ length img
  inside y p = elim (less? 0 (occurrences y ys)) [
    | inl q ↦ (data_block y q).inside
    | inr q ↦ (let e = one_at_some 2 y (omega (arith, p, q, at_ends y)) in block_inside img y (omega (arith, e, (size_bounds img (image-passed image).size_right).0)))
  ]

  whole : (y : ℕ) → 0 < occurrences y ns → length (block_of j y) ≡ 512
  whole y p = length-block_of j y (omega (arith, inside y p, kept.length-kept))

  all_whole : Each WholeWrite (writes_of j ns)
  all_whole = each_write WholeWrite j ns whole

  -- the first k writes before the root's
  abbrev cut : ℕ → List BlockWrite
  cut k = writes_of j (take k ys)

  all-free : (k : ℕ) → Each (OnFree img) (cut k)
  all-free k = each_write (OnFree img) j (take k ys) (λ y p. let q : 0 < occurrences y ys = omega (arith, p, take_few y k ys) in (whole y (omega (arith, q, at_ends y)), on_list y q))

  length-ns : length ns ≡ suc (length ys)
  length-ns = omega (arith, length-append ys (2 ∷ []))

  before_root : (buffer : List ℕ) (k : ℕ) → k < suc (length ys) → replayed k img (buffer_after (writes_of j ns) buffer) ≡ applied img (cut k)
  before_root buffer k l =
      replay_buffer k img (writes_of j ns) buffer all_whole (omega (arith, l, length-ns, length_writes j ns))
      ∙ ap (applied img) (take_writes j k ns ∙ ap (writes_of j) (take-append-le k ys (2 ∷ []) (omega (arith, l))))

  -- a done safe call is safe against a cut, if the image left is sound and holds the new tree
  pub crash_safe : (blocks anodes buffer : List ℕ) (call : SafeCall) → Sound j → NewTree img call j → CrashSafe img call (safe_done img blocks anodes buffer (writes_of j (ys ++ (2 ∷ []))))
  unfolding safe_settled buffer_after
  crash_safe blocks anodes buffer call sound tree = record {
    last = length ys;
    count = length_writes j ns ∙ length-ns;
    root-last = number (length ys) (omega arith) ∙ get_or-append_seam ys 2 [] 0;
    on_free = λ k l. rw (early k l) (on_list (get_or ys k 0) (place_in ys k l));
    spares = λ k l. rw (early k l) (spared (get_or ys k 0) (place_in ys k l));
    once = λ k l p q e. place_once ns once k l (omega (arith, p, length-ns)) (omega (arith, q, length-ns)) (sym (number k p) ∙ e ∙ number l q);
    old_sound = λ k l. rw (before_root buffer k l) (cut-old_tree image (cut k) (all-free k)).0;
    old_tree = λ k l. rw (before_root buffer k l) (cut-old_tree image (cut k) (all-free k)).1;
    all_done = rw (← (length_writes j ns ∙ length-ns)) (replay_all img (writes_of j ns) buffer all_whole);
    new_sound = rw left_is sound;
    new_tree = rw left_is tree;
  }
    where
      left_is : applied img (writes_of j ns) ≡ j
      left_is = applied_is j ns img kept

      number : (k : ℕ) → k < suc (length ys) → block_at (list_bytes (writes_of j ns) ++ drop (length (writes_of j ns) * 514) buffer) k ≡ get_or ns k 0
      number k l = list_blocks j ns _ k all_whole (omega (arith, l, length-ns))

      early : (k : ℕ) → k < length ys → block_at (list_bytes (writes_of j ns) ++ drop (length (writes_of j ns) * 514) buffer) k ≡ get_or ys k 0
      early k l = number k (omega arith) ∙ get_or-before ys 2 k l
