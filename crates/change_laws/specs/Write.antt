-- A write into a file of an accepted image: the image is accepted again, its directories and other files are the same, and the file has the bytes.
use Rattle.std.specs.Prelude.{ℕ, ◌+◌, ◌≤◌, ◌≡◌, ◌≢◌, false, length, take}
use Rattle.std.proofs.Math.Path.{ap}
use mathlib.Core.List.{List, [], ◌∷◌}
use Rattle.endian.specs.Bytes.{stored}
use Rattle.endian.proofs.Laws.{take-stored}
use Rattle.rules.specs.Counting.{occurrences}
use Rattle.rules.specs.Anodes.{Anodes, limit, anodes_of}
use Rattle.rules.specs.Chains.{chain_of, blocks_of}
use Rattle.rules.specs.Walk.{Dir, root, Entered, entries_in, is_block_of, items_for, items_at, items_by, twins, items_of, done, walk_of, dirs_in, reached_dirs}
use Rattle.rules.specs.Lookup.{entries_of, bytes_of, contents}
use Rattle.rules.specs.Changes.{written}
use Rattle.laws.specs.Members.{Member, gather_congr}
use Rattle.laws.specs.Walks.{walk_same}
use Rattle.frames.specs.Kept.{Kept}
use Rattle.frames.specs.DisjointBlocks.{chains_apart}
use Rattle.frames.specs.StoredBytes.{BlocksKept, written-kept, bytes_of-written, bytes_of-written_other}
use Rattle.change_laws.specs.Image.{WholeOn, AcceptedWhole, head_in, side_in, AcceptedImage, StillAccepted, accepted_whole, accepted-walk, accepted_right, DiskWith, disk_own, not_among, disk_then, whole_accepted, ReachedDir}
use Rattle.change_laws.specs.SameItems.{whole_same}
use Rattle.change_laws.specs.EntryBytes.{entry_bytes}
use Rattle.change_laws.specs.KeptChains.{same-chain_own, block_same, entries_same, entry-bytes-same}
use Rattle.change_laws.specs.Reached.{EntryIn, EntryFacts, member-reached, reached_head, entry-facts, entry_data, not-file}

-- ---- the image after the write

module _ {img : List ℕ} {h : ℕ} {e : Entered} (m : EntryIn img h e) (file : e.dir ≡ false) (offset : ℕ) (bytes : List ℕ) where
  abbrev s : Anodes
  s = anodes_of img

  -- the image that a write leaves
  abbrev j : List ℕ
  j = written img s e offset bytes

  abbrev image : AcceptedImage img
  image = m.directory.image

  w : AcceptedWhole img
  w = accepted_whole image

  facts : EntryFacts img h e
  facts = entry-facts m

  kept : Kept (λ y. occurrences y (blocks_of s e.anode) ≡ 0) img j
  kept = written-kept img w.good e facts.head offset bytes

  pub written-disk : DiskWith img s j
  written-disk = disk_then (disk_own img) kept (not_among (blocks_of s e.anode) (entry_data m))

  -- no block of a reached directory is written
  dir_kept : {k : ℕ} → ReachedDir img k → BlocksKept img j s k
  dir_kept {k} r y q = kept.block_kept y (chains_apart w.good k e.anode (reached_head r) facts.head (not-file r facts file) y q)

  -- every directory has the entries that it had
  pub written_entries : {k : ℕ} → ReachedDir img k → entries_of j s k ≡ entries_of img s k
  written_entries {k} r = entries_same r j (dir_kept r) (same-chain_own s k)

  -- the bytes of their entries too
  pub written-bytes : {k : ℕ} {f : Entered} → EntryIn img k f → entry_bytes j f.start ≡ entry_bytes img f.start
  written-bytes n = entry-bytes-same n.directory j (dir_kept n.directory) n

  same-items : (d : Dir) → Member d (reached_dirs img s) → items_by (entries_in j) (is_block_of j) s d ≡ items_by (entries_in img) (is_block_of img) s d
  unfolding items_by items_for entries_in is_block_of
  same-items d in_tree =
      let r = member-reached image d in_tree in
      gather_congr (items_at (entries_in j) (is_block_of j) s d) (items_at (entries_in img) (is_block_of img) s d) (chain_of s.next limit d.head) (λ a on.
      rw (block_same r j (dir_kept r) a on))

  same-walk : walk_of j s ≡ done (reached_dirs img s)
  unfolding walk_of items_of
  same-walk = walk_same (items_of img s) (items_of j s) limit (root ∷ []) [] (reached_dirs img s) (accepted-walk image) (λ d in_tree. ap (twins []) (same-items d in_tree))

  -- the same directories are reached
  pub written-dirs : reached_dirs j s ≡ reached_dirs img s
  unfolding reached_dirs
  written-dirs = ap dirs_in same-walk

  still_whole : WholeOn img j s (head_in img) (side_in img) (reached_dirs img s)
  still_whole = whole_same w (entries_in j) (is_block_of j) same-items

  -- what a write leaves of an accepted image is accepted
  pub write_accepted : StillAccepted image j
  write_accepted = whole_accepted written-disk still_whole (accepted_right image)

  -- ---- what the files hold

  -- the file has the bytes that were written, and else those that it had
  pub contents-written : offset + length bytes ≤ e.size → contents j s e ≡ stored (contents img s e) offset bytes
  unfolding contents
  contents-written l = rw (bytes_of-written img w.good e facts.head offset bytes) (take-stored e.size (bytes_of img s e.anode) offset bytes l)

  -- every other file has the bytes that it had
  pub contents-written_other : {k : ℕ} {f : Entered} → EntryIn img k f → f.anode ≢ e.anode → contents j s f ≡ contents img s f
  unfolding contents
  contents-written_other {f = f} n o = ap (take f.size) (bytes_of-written_other img w.good e facts.head offset bytes f.anode (entry-facts n).head o)
