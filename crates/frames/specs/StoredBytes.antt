-- The bytes of a chain's blocks after stores: those stored, and in every other chain those that were.
use Rattle.std.specs.Prelude.{ℕ, ◌+◌, ◌*◌, ◌≤◌, ◌<◌, ◌≡◌, refl, ◌≢◌, ◌⊎◌, Bool, List, [], ◌∷◌, ◌++◌, length, take, drop}
use Rattle.std.proofs.Common.{sym, ap₂, ◌∙◌, inl, inr, arith, le_of_eq, length-take, length-drop, length-append, take-append-drop, drop_of_length-le}
use Rattle.endian.specs.Bytes.{stored}
use Rattle.endian.proofs.Laws.{length-stored}
use Rattle.disk.specs.Blocks.{block_of, with_block}
use Rattle.disk.proofs.Laws.{length-block_of, length-block_of-min}
use Rattle.disk.proofs.Store.{length-with_block, block_of-with_block-same}
use Rattle.rules.specs.Counting.{one_at, occurrences, gather}
use Rattle.rules.specs.Anodes.{Anodes, limit}
use Rattle.rules.specs.Chains.{system_owns, blocks_of}
use Rattle.rules.specs.Walk.{Entered}
use Rattle.rules.specs.Accepted.{disk_size}
use Rattle.rules.specs.Lookup.{bytes_of}
use Rattle.rules.specs.Changes.{with_blocks, spread, written}
use Rattle.laws.specs.Chains.{Inside}
use Rattle.laws.specs.Tests.{less?}
use Rattle.laws.specs.Sums.{one_at_cases, one_at-same}
use Rattle.laws.specs.Bags.{occurrences-nil, occurrences-cons, occurrences-here, occurrences-later, gather-kept}
use Rattle.laws.specs.Heads.{Head}
use Rattle.laws.specs.Space.{Good}
use Rattle.frames.specs.Kept.{Kept}
use Rattle.frames.specs.StoredBlocks.{with_blocks-kept, spread-kept}
use Rattle.frames.specs.DisjointBlocks.{chain_once, chains_apart, chain_block}

-- ---- the bytes of some blocks

-- 512 each
pub length-gather : (img ys : List ℕ) → Inside img ys → length (gather (block_of img) ys) ≡ length ys * 512
unfolding gather
length-gather img [] i = refl
length-gather img (y ∷ ys) i =
    omega (arith, length-append (block_of img y) (gather (block_of img) ys), length-block_of img y (i y (occurrences-here y ys)), length-gather img ys (λ z p. i z (occurrences-later z y ys p)))

-- a block in which the same bytes are stored as in the others has them
pub block_of-with_blocks : (img ys new : List ℕ) (y : ℕ) → length new ≡ 512 → 0 < occurrences y ys → y * 512 + 512 ≤ length img → block_of (with_blocks img ys new) y ≡ new
unfolding with_blocks
block_of-with_blocks img [] new y long p i = absurd (omega (arith, p, occurrences-nil y))
block_of-with_blocks img (z ∷ ys) new y long p i =
    let enough : length (block_of img z) ≤ length new = omega (arith, long, length-block_of-min img z) in
    elim (less? 0 (occurrences y ys)) [
      | inl q ↦ block_of-with_blocks (with_block img z new) ys new y long q (rw (length-with_block img z new enough) i)
      | inr q ↦ (with_blocks-kept (with_block img z new) ys new (le_of_eq (sym long))).block_kept y (omega arith) ∙ here (one_at_cases z y) q
    ]
  where
    here : ((z ≡ y) × (one_at z y ≡ 1)) ⊎ ((z ≢ y) × (one_at z y ≡ 0)) → occurrences y ys ≤ 0 → block_of (with_block img z new) y ≡ new
    here (inl e) q = rw e.0 (block_of-with_block-same img y new (long ∙ sym (length-block_of img y i)))
    here (inr e) q = absurd (omega (arith, p, q, occurrences-cons y z ys, e.1))

-- bytes spread over some blocks, each of which stands among them once, are the bytes of those blocks
pub gather-spread : (img ys bytes : List ℕ) → length bytes ≡ length ys * 512 → Inside img ys → ((y : ℕ) → occurrences y ys ≤ 1) → gather (block_of (spread img ys bytes)) ys ≡ bytes
unfolding gather spread
gather-spread img [] bytes long i once = sym (drop_of_length-le bytes {i = 0} (omega arith))
gather-spread img (y ∷ ys) bytes long i once =
    let part : length (take 512 bytes) ≡ length (block_of img y) = length-take 512 bytes ∙ omega (arith, long, length-block_of img y (i y (occurrences-here y ys))) in
    let rest : length (drop 512 bytes) ≡ length ys * 512 = length-drop 512 bytes ∙ omega arith in
    ap₂ ◌++◌
    ((spread-kept (with_block img y (take 512 bytes)) ys (drop 512 bytes) (le_of_eq (sym rest))).block_kept y (omega (arith, once y, occurrences-cons y y ys, one_at-same y y refl))
    ∙ block_of-with_block-same img y (take 512 bytes) part)
    (gather-spread (with_block img y (take 512 bytes)) ys (drop 512 bytes) rest
    (λ z p. rw (length-with_block img y (take 512 bytes) (le_of_eq (sym part))) (i z (occurrences-later z y ys p))) (λ z. omega (arith, once z, occurrences-cons z y ys)))
    ∙ take-append-drop 512 bytes

-- ---- the bytes of a chain

-- the blocks of the chain of h have the same bytes in both images
abbrev pub BlocksKept : List ℕ → List ℕ → Anodes → ℕ → Type 0
BlocksKept img j s h = (y : ℕ) → 0 < occurrences y (blocks_of s h) → block_of j y ≡ block_of img y

pub bytes_of-kept : (img j : List ℕ) (s : Anodes) (h : ℕ) → BlocksKept img j s h → bytes_of j s h ≡ bytes_of img s h
unfolding bytes_of
bytes_of-kept img j s h kept = gather-kept (block_of img) (block_of j) (blocks_of s h) kept

module _ {ex : ℕ → Bool} {last : ℕ} {s : Anodes} {hd sd : ℕ → ℕ} (img : List ℕ) (g : Good limit ex (disk_size img) last s (system_owns img) hd sd)
    (e : Entered) (d : Head s.next s.block e.anode) (offset : ℕ) (bytes : List ℕ) where
  inside : Inside img (blocks_of s e.anode)
  inside y p = (chain_block img g e.anode d y p).inside

  long : length (stored (bytes_of img s e.anode) offset bytes) ≡ length (blocks_of s e.anode) * 512
  unfolding bytes_of
  long = length-stored (gather (block_of img) (blocks_of s e.anode)) offset bytes ∙ length-gather img (blocks_of s e.anode) inside

  pub written-kept : Kept (λ y. occurrences y (blocks_of s e.anode) ≡ 0) img (written img s e offset bytes)
  unfolding written
  written-kept = spread-kept img (blocks_of s e.anode) (stored (bytes_of img s e.anode) offset bytes) (le_of_eq (sym long))

  -- the chain has the bytes that were written
  pub bytes_of-written : bytes_of (written img s e offset bytes) s e.anode ≡ stored (bytes_of img s e.anode) offset bytes
  unfolding written bytes_of
  bytes_of-written = gather-spread img (blocks_of s e.anode) (stored (bytes_of img s e.anode) offset bytes) long inside (chain_once g e.anode d)

  -- every other chain has the bytes that it had
  pub bytes_of-written_other : (h : ℕ) → Head s.next s.block h → h ≢ e.anode → bytes_of (written img s e offset bytes) s h ≡ bytes_of img s h
  bytes_of-written_other h k o = bytes_of-kept img (written img s e offset bytes) s h (λ y p. written-kept.block_kept y (chains_apart g h e.anode k d o y p))
