-- The image that a safe resize to another size leaves: the file's bytes are in its new blocks, the directory block with the new size in its new place, and every old block is as it was.
use Rattle.std.specs.Prelude.{ℕ, ◌+◌, ◌*◌, ◌/◌, ◌%◌, ◌≤◌, ◌<◌, ◌≡◌, ◌≢◌, false, length, take, drop}
use Rattle.std.proofs.Math.Path.{refl, sym, ap, ap₂}
use Rattle.std.proofs.Common.{◌∙◌, inl, inr, arith, le_of_eq, length-append, take_at, drop_at, ne_eqb}
use mathlib.Core.List.{List, [], ◌∷◌, ◌++◌, append-nil}
use Rattle.disk.specs.Blocks.{block_of}
use Rattle.endian.specs.Bytes.{put32}
use Rattle.endian.proofs.Laws.{length-put32}
use Rattle.rules.specs.Counting.{occurrences, gather}
use Rattle.rules.specs.Anodes.{Anodes, limit, anodes_of}
use Rattle.rules.specs.Chains.{chain_of, blocks_of}
use Rattle.rules.specs.Walk.{Entered}
use Rattle.rules.specs.Lookup.{bytes_of}
use Rattle.rules.specs.Plans.{Slotted, table_of, planned}
use Rattle.rules.specs.Table.{with_table}
use Rattle.rules.specs.Changes.{spread}
use Rattle.laws.specs.Tests.{less?}
use Rattle.laws.specs.Sums.{one_at_cases, one_at_other}
use Rattle.laws.specs.Bags.{occurrences-nil, occurrences-cons, occurrences-append, gather_append}
use Rattle.laws.specs.Heads.{Head}
use Rattle.laws.specs.Space.{head_1}
use Rattle.laws.specs.Members.{Member, member-occurrences}
use Rattle.frames.specs.Kept.{Kept}
use Rattle.frames.specs.DisjointBlocks.{DataBlock, chain_block, chain_once, chains_apart}
use Rattle.frames.specs.StoredBlocks.{spread-kept}
use Rattle.frames.specs.StoredBytes.{length-gather, gather-spread, BlocksKept}
use Rattle.change_laws.specs.Image.{AcceptedWhole, AcceptedImage, accepted_whole, DiskWith, disk_at, disk-good, disk-stored, disk_then, stored-kept, not_among}
use Rattle.change_laws.specs.Reached.{EntryIn, EntryFacts, entry-facts, block_entry, block_on, reached_head, reached-not-1, not-file}
use Rattle.safe_rules.specs.SafePlans.{SafeChange, resized_bytes, resize_change, safe_steps}
use Rattle.safe_rules.specs.SafeWrites.{new_image}
use Rattle.safe_laws.specs.Crash.{take_few}
use Rattle.safe_laws.specs.OwnChanges.{length-resized, resize_own}
use Rattle.safe_laws.specs.LeftImage.{free, data_block, left-kept}
use Rattle.safe_laws.specs.SafeResized.{file_blocks, new_place, resized-table, resized_head, resized_anodes, resized-count, resized-home, resized-file, resized_many, resized-taken}

-- lists that are the same in two parts, the first as long in both
halves_same : (a b c d : List ℕ) → length a ≡ length c → a ++ b ≡ c ++ d → (a ≡ c) × (b ≡ d)
halves_same a b c d long same = (
  sym (take_at a b (length a) refl) ∙ ap (take (length a)) same ∙ take_at c d (length a) (sym long),
  sym (drop_at a b (length a) refl) ∙ ap (drop (length a)) same ∙ drop_at c d (length a) (sym long),
)

-- a file of an accepted image, safely resized to another size
pub record ResizeDone (img : List ℕ) (k : ℕ) (e : Entered) (new : ℕ) (t : Slotted) (ys : List ℕ) : Type 0 where
  pub entry : EntryIn img k e
  pub file : e.dir ≡ false
  pub differs : e.size ≢ new
  pub steps : safe_steps img (resize_change img (table_of img) e new) ≡ planned t ys

module _ {img : List ℕ} {k : ℕ} {e : Entered} {new : ℕ} {t : Slotted} {ys : List ℕ} (p : ResizeDone img k e new t ys) where
  abbrev s : Anodes
  s = anodes_of img

  abbrev c : SafeChange
  c = resize_change img (table_of img) e new

  abbrev pub image : AcceptedImage img
  image = p.entry.directory.image

  w : AcceptedWhole img
  w = accepted_whole image

  abbrev pub facts : EntryFacts img k e
  facts = entry-facts p.entry

  -- the image that it leaves
  abbrev pub resized_now : List ℕ
  resized_now = new_image img (resize_change img (table_of img) e new) t ys

  -- the new place of the directory block
  abbrev pub place_now : ℕ
  place_now = new_place p.entry new p.differs t ys p.steps

  abbrev us : List ℕ
  us = file_blocks p.entry new p.differs t ys p.steps

  -- all that it fills with bytes
  abbrev filled : List ℕ
  filled = us ++ (place_now ∷ [])

  -- the bytes of the file, and of the directory block
  abbrev file_new : List ℕ
  file_new = resized_bytes (bytes_of img s e.anode) e.size new

  abbrev home_new : List ℕ
  home_new = put32 (block_of img (e.start / 512)) (e.start % 512 + 4) new

  -- they are the first that were taken
  filled_are : take (c.takes + length c.changing) ys ≡ filled
  filled_are = resized-taken p.entry new p.differs t ys p.steps

  -- with these bytes
  bytes_are : c.bytes ≡ file_new ++ home_new
  unfolding resize_change
  bytes_are = rw (ne_eqb e.size new p.differs) refl

  -- which are spread over them
  image_is : resized_now ≡ spread (with_table img t) filled (file_new ++ home_new)
  unfolding new_image
  image_is = ap₂ (spread (with_table img t)) filled_are bytes_are

  -- ---- the blocks that are filled

  -- they are among those that were taken
  taken_in : (y : ℕ) → occurrences y filled ≤ occurrences y ys
  taken_in y = omega (arith, ap (occurrences y) filled_are, take_few y (c.takes + length c.changing) ys)

  -- each once
  filled_once : (y : ℕ) → occurrences y filled ≤ 1
  filled_once y = omega (arith, taken_in y, free image (resize_own p.entry new) t ys p.steps y, chain_once w.good 1 (head_1 w.good) y)

  -- each within the image
  filled_inside : (y : ℕ) → 0 < occurrences y filled → y * 512 + 512 ≤ length img
  filled_inside y q = (data_block image (resize_own p.entry new) t ys p.steps y (omega (arith, q, taken_in y))).inside

  -- their bytes fill them
  filled_long : length (file_new ++ home_new) ≡ length filled * 512
  filled_long = omega (
    arith,
    length-append file_new home_new,
    length-append us (place_now ∷ []),
    length-resized (bytes_of img s e.anode) e.size new,
    length-put32 (block_of img (e.start / 512)) (e.start % 512 + 4) new,
    (block_entry facts).whole,
    resized_many p.entry new p.differs t ys p.steps,
  )

  -- so they have those bytes
  all-bytes : gather (block_of resized_now) filled ≡ file_new ++ home_new
  all-bytes =
      let same = (stored-kept image (resized-table p.entry new p.differs t ys p.steps).table).length-kept in
      ap (λ (i : List ℕ). gather (block_of i) filled) image_is
      ∙ gather-spread (with_table img t) filled (file_new ++ home_new) filled_long (λ y q. rw same (filled_inside y q)) filled_once

  -- the file's blocks have as many as the file
  file-first : length (gather (block_of resized_now) us) ≡ length file_new
  file-first =
      let same = (left-kept image (resize_own p.entry new) t ys p.steps).length-kept in
      length-gather resized_now us (λ y q. rw same (filled_inside y (omega (arith, q, occurrences-append y us (place_now ∷ [])))))
      ∙ ap (λ (n : ℕ). n * 512) (resized_many p.entry new p.differs t ys p.steps) ∙ sym (length-resized (bytes_of img s e.anode) e.size new)

  -- the file's blocks and the directory block, each its own
  both_parts : (gather (block_of resized_now) us ≡ file_new) × (block_of resized_now place_now ≡ home_new)
  unfolding gather
  both_parts = halves_same (gather (block_of resized_now) us) (block_of resized_now place_now) file_new home_new file-first
      (ap (λ (l : List ℕ). gather (block_of resized_now) us ++ l) (sym (append-nil (block_of resized_now place_now))) ∙ sym (gather_append (block_of resized_now) us (place_now ∷ [])) ∙ all-bytes)

  -- the file has its new bytes in its blocks
  pub resized-bytes : bytes_of (new_image img (resize_change img (table_of img) e new) t ys) t.anodes e.anode ≡ resized_bytes (bytes_of img (anodes_of img) e.anode) e.size new
  unfolding bytes_of
  resized-bytes = ap (gather (block_of resized_now)) (resized-file p.entry new p.differs t ys p.steps) ∙ both_parts.0

  -- the moved directory block has the new size
  pub place_bytes : block_of (new_image img (resize_change img (table_of img) e new) t ys) place_now ≡ put32 (block_of img (e.start / 512)) (e.start % 512 + 4) new
  place_bytes = both_parts.1

  -- every block of a chain but 1's is as it was
  pub resized-kept : (h : ℕ) → Head (anodes_of img).next (anodes_of img).block h → h ≢ 1 → BlocksKept img (new_image img (resize_change img (table_of img) e new) t ys) (anodes_of img) h
  resized-kept h head h1 y q = (left-kept image (resize_own p.entry new) t ys p.steps).block_kept y (omega (
    arith,
    occurrences-append y ys (2 ∷ []),
    occurrences-cons y 2 [],
    occurrences-nil y,
    free image (resize_own p.entry new) t ys p.steps y,
    chains_apart w.good h 1 head (head_1 w.good) h1 y q,
    one_at_other 2 y (λ i. omega (arith, i, (chain_block img w.good h head y q).above)),
  ))

  -- ---- the disk

  -- the moved block is one of the directory's
  place_on : 0 < occurrences place_now (blocks_of t.anodes k)
  place_on =
      let r = p.entry.directory in
      let o = not-file r facts p.file in
      let on = member-occurrences facts.a₀ (chain_of s.next limit k) facts.member-chain in
      let home = resized-home p.entry new p.differs t ys p.steps k (reached_head r) (reached-not-1 r) o facts.a₀ on refl in
      let member : Member facts.a₀ (chain_of t.anodes.next limit k) = rw (resized_anodes p.entry new p.differs t ys p.steps k (reached_head r) (reached-not-1 r) o) facts.member-chain in
      rw (← home) (block_on t.anodes k facts.a₀ member (resized-count p.entry new p.differs t ys p.steps k (reached_head r) (reached-not-1 r) o facts.a₀ on ∙ facts.block_facts.one))

  -- a block of a chain is a data block of that disk
  of_chain : (h : ℕ) → Head s.next s.block h → (y : ℕ) → 0 < occurrences y (blocks_of t.anodes h) → DataBlock (disk_at img t) y
  of_chain h head = chain_block (disk_at img t) (disk-good image (resized-table p.entry new p.differs t ys p.steps).table) h (resized_head p.entry new p.differs t ys p.steps h head)

  -- and so are all that are filled
  filled_data : (y : ℕ) → 0 < occurrences y filled → DataBlock (disk_at img t) y
  filled_data y q = elim (less? 0 (occurrences y us)) [
    | inl l ↦ of_chain e.anode facts.head y (rw (resized-file p.entry new p.differs t ys p.steps) l)
    | inr l ↦ elim (one_at_cases place_now y) [
      | inl i ↦ rw (← i.0) (of_chain k (reached_head p.entry.directory) place_now place_on)
      | inr i ↦ absurd (omega (arith, q, l, i.1, occurrences-append y us (place_now ∷ []), occurrences-cons y place_now [], occurrences-nil y))
    ]
  ]

  -- nothing else is stored
  stores_kept : Kept (λ y. occurrences y filled ≡ 0) (with_table img t) resized_now
  stores_kept = rw image_is (spread-kept (with_table img t) filled (file_new ++ home_new) (le_of_eq (sym filled_long)))

  -- it is the disk with the table
  pub resized-disk : DiskWith (disk_at img t) t.anodes (new_image img (resize_change img (table_of img) e new) t ys)
  resized-disk = disk_then (disk-stored image (resized-table p.entry new p.differs t ys p.steps).table) stores_kept (not_among filled filled_data)
