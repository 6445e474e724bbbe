-- The image that a safe remove leaves: the directory's block, in its new place, has the entry's gap closed; every other block of a chain but 1's is as it was, and every chain but those of 1 and of the entry. It is sound.
use Rattle.std.specs.Prelude.{ℕ, ◌+◌, ◌*◌, ◌/◌, ◌%◌, ◌≤◌, ◌<◌, ◌≡◌, ◌≢◌, take}
use Rattle.std.proofs.Math.Path.{sym, ap}
use Rattle.std.proofs.Common.{◌∙◌, inl, inr, arith}
use mathlib.Core.List.{List, [], ◌∷◌, append-nil}
use Rattle.std.proofs.Math.ListN.{length, length-take}
use Rattle.std.proofs.Math.Seq.{take-append-le, take_all}
use Rattle.disk.specs.Blocks.{block_of}
use Rattle.rules.specs.Counting.{occurrences, gather}
use Rattle.rules.specs.Anodes.{Anodes, limit, anodes_of}
use Rattle.rules.specs.Chains.{chain_of, blocks_of}
use Rattle.rules.specs.Walk.{Entered}
use Rattle.rules.specs.Plans.{Slotted, table_of, planned}
use Rattle.rules.specs.Table.{with_table}
use Rattle.rules.specs.Changes.{spread, entry_closed}
use Rattle.laws.specs.Sums.{one_at_cases, one_at_other}
use Rattle.laws.specs.Bags.{occurrences-nil, occurrences-cons, occurrences-append}
use Rattle.laws.specs.Heads.{Head}
use Rattle.laws.specs.Space.{head_1}
use Rattle.laws.specs.Members.{member-occurrences}
use Rattle.laws.specs.ChainGone.{gone_alike, gone-chain}
use Rattle.frames.specs.Kept.{Kept}
use Rattle.frames.specs.DisjointBlocks.{DataBlock, chain_block, chains_apart}
use Rattle.frames.specs.StoredBlocks.{spread-kept}
use Rattle.frames.specs.StoredBytes.{gather-spread, BlocksKept}
use Rattle.change_laws.specs.Image.{AcceptedWhole, AcceptedImage, accepted_whole, DiskWith, disk_at, TableFor, disk_long, disk-good, stored-kept, disk-stored, disk_then, not_among}
use Rattle.change_laws.specs.Reached.{EntryIn, EntryFacts, entry-facts, block_entry, block_on, reached_head, reached-not-1, not_itself}
use Rattle.change_laws.specs.Gap.{length-closed}
use Rattle.safe_rules.specs.SafePlans.{SafeChange, remove_change, safe_steps}
use Rattle.safe_rules.specs.SafeWrites.{new_image}
use Rattle.safe_laws.specs.OwnChanges.{remove_own}
use Rattle.safe_laws.specs.LeftImage.{free, left-kept}
use Rattle.safe_laws.specs.RelocatedEntries.{MovedChain, relocated_head, relocated-chain}
use Rattle.safe_laws.specs.SafeRemoved.{zeroed, zeroed-good, zeroed-gone, d, moved, removed-table, removed_shift}

module _ {img : List ℕ} {k : ℕ} {e : Entered} (m : EntryIn img k e) (t : Slotted) (ys : List ℕ) (plan : safe_steps img (remove_change img (table_of img) e) ≡ planned t ys) where
  abbrev s : Anodes
  s = anodes_of img

  abbrev c : SafeChange
  c = remove_change img (table_of img) e

  abbrev image : AcceptedImage img
  image = m.directory.image

  w : AcceptedWhole img
  w = accepted_whole image

  abbrev facts : EntryFacts img k e
  facts = entry-facts m

  -- the new place of the block
  abbrev pub new_place : ℕ
  new_place = (moved m t ys plan).z

  -- the table may be stored
  pub table : TableFor img t (removed-table m t ys plan).hd' (removed-table m t ys plan).sd'
  table = (removed-table m t ys plan).table

  -- ---- the chains

  module _ (h : ℕ) (head : Head s.next s.block h) (h1 : h ≢ 1) (o : h ≢ e.anode) where
    -- a chain stays while that of the entry is zeroed
    head_zeroed : Head (zeroed m).next (zeroed m).block h
    head_zeroed = (zeroed-gone m).stays h o head

    -- and stays to the end
    pub left_head : Head t.anodes.next t.anodes.block h
    left_head = relocated_head (zeroed-good m) (moved m t ys plan) table.good (removed_shift m t ys plan) h head_zeroed h1

    -- it is the same but for the moved block
    pub left-chain : MovedChain (anodes_of img) t.anodes (entry-facts m).a₀ new_place h
    left-chain =
        let l = relocated-chain (zeroed-good m) (moved m t ys plan) table.good (removed_shift m t ys plan) h head_zeroed h1 in
        let same = gone-chain w.good (zeroed-good m) e.anode (zeroed-gone m) h h1 o head in
        let like = gone_alike w.good (zeroed-good m) e.anode (zeroed-gone m) h h1 o head in
        record {
          same_anodes = l.same_anodes ∙ same;
          same_counts = λ b p. l.same_counts b (rw same p) ∙ (like b p).same_count;
          same_blocks = λ b p n. l.same_blocks b (rw same p) n ∙ (like b p).same_block;
          own_block = λ p. l.own_block (rw same p);
        }

  -- that of the entry's directory has the new place
  home_on : 0 < occurrences facts.a₀ (chain_of s.next limit k)
  home_on = member-occurrences facts.a₀ (chain_of s.next limit k) facts.member-chain

  -- so is that of the directory
  home-chain : MovedChain (anodes_of img) t.anodes (entry-facts m).a₀ new_place k
  home-chain = left-chain k (reached_head m.directory) (reached-not-1 m.directory) (not_itself m.directory facts)

  -- the new place is on it
  place_on : 0 < occurrences new_place (blocks_of t.anodes k)
  place_on = rw (home-chain.own_block home_on) at (block_on t.anodes k facts.a₀ (rw home-chain.same_anodes facts.member-chain) (home-chain.same_counts facts.a₀ home_on ∙ facts.block_facts.one))

  -- and so is a data block
  place_data : DataBlock (disk_at img t) new_place
  place_data = chain_block (disk_at img t) (disk-good image table) k (left_head k (reached_head m.directory) (reached-not-1 m.directory) (not_itself m.directory facts)) new_place place_on

  -- ---- the stores

  abbrev j : List ℕ
  j = new_image img c t ys

  -- the block with the gap closed
  abbrev closed : List ℕ
  closed = entry_closed (block_of img (e.start / 512)) (e.start % 512)

  -- the new place is the first block taken
  taken-first : take (c.takes + length c.changing) ys ≡ new_place ∷ []
  unfolding remove_change
  taken-first =
      let l = d m t ys plan in
      let one = (moved m t ys plan).are in
      ap (take 1) l.are ∙ take-append-le 1 l.xs l.us (omega (arith, ap length one)) ∙ take_all 1 l.xs (omega (arith, ap length one)) ∙ one

  -- it is the only block that the bytes land in
  among : (x : ℕ) → 0 < occurrences x (new_place ∷ []) → DataBlock (disk_at img t) x
  among x p = elim (one_at_cases new_place x) [
    | inl i ↦ rw (← i.0) place_data
    | inr i ↦ absurd (omega (arith, p, i.1, occurrences-cons x new_place [], occurrences-nil x))
  ]

  -- they land there alone
  stores_kept : Kept (λ x. occurrences x (new_place ∷ []) ≡ 0) (with_table img t) (new_image img c t ys)
  unfolding new_image
  stores_kept = rw (← taken-first) (spread-kept (with_table img t) (take (c.takes + length c.changing) ys) c.bytes
      (omega (arith, (remove_own m).bytes_long, length-take (c.takes + length c.changing) ys)))

  -- the disk has the new anodes
  pub removed-disk : DiskWith (disk_at img t) t.anodes (new_image img (remove_change img (table_of img) e) t ys)
  removed-disk = disk_then (disk-stored image table) stores_kept (not_among (new_place ∷ []) among)

  -- the new place has the block with the gap closed
  pub removed_block : block_of (new_image img (remove_change img (table_of img) e) t ys) new_place ≡ entry_closed (block_of img (e.start / 512)) (e.start % 512)
  unfolding new_image remove_change gather
  removed_block =
      ap (λ (l : List ℕ). block_of (spread (with_table img t) l closed) new_place) taken-first
      ∙ sym (append-nil (block_of (spread (with_table img t) (new_place ∷ []) closed) new_place))
      ∙ gather-spread (with_table img t) (new_place ∷ []) closed (length-closed (block_entry facts)) inside once
    where
      inside : (x : ℕ) → 0 < occurrences x (new_place ∷ []) → x * 512 + 512 ≤ length (with_table img t)
      inside x p = omega (arith, (among x p).inside, disk_long image table, (stored-kept image table).length-kept)

      once : (x : ℕ) → occurrences x (new_place ∷ []) ≤ 1
      once x = elim (one_at_cases new_place x) [
        | inl i ↦ omega (arith, i.1, occurrences-cons x new_place [], occurrences-nil x)
        | inr i ↦ omega (arith, i.1, occurrences-cons x new_place [], occurrences-nil x)
      ]

  -- every block of a chain but 1's is as it was
  pub removed-kept : (h : ℕ) → Head s.next s.block h → h ≢ 1 → BlocksKept img (new_image img (remove_change img (table_of img) e) t ys) (anodes_of img) h
  removed-kept h head h1 x q = (left-kept image (remove_own m) t ys plan).block_kept x (omega (
    arith,
    occurrences-append x ys (2 ∷ []),
    occurrences-cons x 2 [],
    occurrences-nil x,
    free image (remove_own m) t ys plan x,
    chains_apart w.good h 1 head (head_1 w.good) h1 x q,
    one_at_other 2 x (λ i. omega (arith, i, (chain_block img w.good h head x q).above)),
  ))
