-- The image that a write leaves, in the file's old blocks or in new ones, holds the new tree: the file has the bytes that were written, and else those that it had; all else is as it was.
use Rattle.std.specs.Prelude.{ℕ, ◌+◌, ◌/◌, ◌%◌, ◌≤◌, ◌≡◌, refl, ◌≢◌, false, List, length, take}
use Rattle.std.proofs.Common.{sym, ap₂, ◌∙◌}
use Rattle.std.proofs.Math.Path.{ap}
use Rattle.std.proofs.Math.Option.{Option, none, some}
use Rattle.endian.specs.Bytes.{stored}
use Rattle.endian.proofs.Laws.{take-stored}
use Rattle.disk.specs.Blocks.{block_of}
use Rattle.rules.specs.Anodes.{Anodes, anodes_of}
use Rattle.rules.specs.Walk.{Entered}
use Rattle.rules.specs.Lookup.{entry_named, of_entry, bytes_of, contents}
use Rattle.rules.specs.Plans.{Slotted, table_of, planned}
use Rattle.laws.specs.Heads.{Head}
use Rattle.frames.specs.StoredBytes.{BlocksKept}
use Rattle.change_laws.specs.Image.{ReachedDir}
use Rattle.change_laws.specs.KeptChains.{SameChain, block_same, entries_same, contents-same}
use Rattle.change_laws.specs.Reached.{EntryIn, entry-facts, entry-not-1, reached_head, reached-not-1, not-file}
use Rattle.paths.specs.Facts.{Facts, facts_in, facts_of}
use Rattle.safe_rules.specs.SafePlans.{write_change, safe_steps}
use Rattle.safe_rules.specs.SafeWrites.{new_image}
use Rattle.safe_rules.specs.SafeCalls.{safe_write}
use Rattle.safe_laws.specs.Claims.{with_contents, facts_after, tree_after, NewTree}
use Rattle.safe_laws.specs.ChangedEntry.{changed_tree}
use Rattle.safe_laws.specs.SafeWritten.{written-disk, written-bytes, written-kept, written-chain}

-- an entry that is found is the one that is found
own_entry : (o : Option Entered) → o ≡ of_entry o (λ x. some x) none
own_entry none = refl
own_entry (some x) = refl

-- a file's facts
pub file-facts : (img : List ℕ) (e : Entered) → e.dir ≡ false → facts_of img e ≡ facts_in (block_of img (e.start / 512)) (e.start % 512) e.size (contents img (anodes_of img) e)
unfolding facts_of
file-facts img e file = rw file refl

-- and its bytes
pub file-bytes : (img : List ℕ) (e : Entered) → e.dir ≡ false → (facts_of img e).bytes ≡ contents img (anodes_of img) e
unfolding facts_in
file-bytes img e file = ap (λ (f : Facts). f.bytes) (file-facts img e file)

-- a file's facts with other bytes
file-with : (img : List ℕ) (e : Entered) → e.dir ≡ false → (l : List ℕ) → with_contents (facts_of img e) (facts_of img e).size l ≡ facts_in (block_of img (e.start / 512)) (e.start % 512) e.size l
unfolding facts_in with_contents
file-with img e file l = ap (λ (f : Facts). with_contents f f.size l) (file-facts img e file)

-- j has the anodes t: every chain but 1's and that of the file e is as it was, with the bytes of its blocks, and in that of e these bytes are written
pub record FileWritten (img j : List ℕ) (t : Anodes) (e : Entered) (offset : ℕ) (bytes : List ℕ) : Type 0 where
  pub anodes : anodes_of j ≡ t
  pub chains : (h : ℕ) → Head (anodes_of img).next (anodes_of img).block h → h ≢ 1 → h ≢ e.anode → SameChain (anodes_of img) t h
  pub kept : (h : ℕ) → Head (anodes_of img).next (anodes_of img).block h → h ≢ 1 → h ≢ e.anode → BlocksKept img j (anodes_of img) h
  pub bytes-now : bytes_of j t e.anode ≡ stored (bytes_of img (anodes_of img) e.anode) offset bytes

-- the bytes in the blocks of the file
pub bytes-there : {img j : List ℕ} {t : Anodes} {e : Entered} {offset : ℕ} {bytes : List ℕ} → FileWritten img j t e offset bytes → bytes_of j (anodes_of j) e.anode ≡ stored (bytes_of img (anodes_of img) e.anode) offset bytes
bytes-there {j = j} {e = e} l = ap (λ (a : Anodes). bytes_of j a e.anode) l.anodes ∙ l.bytes-now

module _ {img j : List ℕ} {t : Anodes} {k : ℕ} {e : Entered} {offset : ℕ} {bytes : List ℕ} (l : FileWritten img j t e offset bytes) (m : EntryIn img k e) (file : e.dir ≡ false) where
  -- the old anodes
  abbrev s : Anodes
  s = anodes_of img

  -- a reached directory has the blocks that it had
  dir_kept : (h : ℕ) → ReachedDir img h → BlocksKept img j (anodes_of img) h
  dir_kept h r = l.kept h (reached_head r) (reached-not-1 r) (not-file r (entry-facts m) file)

  -- and the entries
  named-same : (h : ℕ) → ReachedDir img h → (name : List ℕ) → entry_named j t h name ≡ of_entry (entry_named img s h name) (λ x. some x) none
  unfolding entry_named
  named-same h r name = rw (entries_same r j (dir_kept h r) (l.chains h (reached_head r) (reached-not-1 r) (not-file r (entry-facts m) file))) (own_entry (entry_named img s h name))

  -- the block in which an entry stands
  entry_block_lem : (h : ℕ) (x : Entered) → EntryIn img h x → block_of j (x.start / 512) ≡ block_of img (x.start / 512)
  entry_block_lem h x n = let f = entry-facts n in rw f.in_block_lem (block_same n.directory j (dir_kept h n.directory) f.a₀ f.member-chain)

  -- another file's contents are the same
  other_contents : (h : ℕ) (x : Entered) → EntryIn img h x → x.anode ≢ e.anode → contents j (anodes_of j) x ≡ contents img s x
  other_contents h x n o = let f = entry-facts n in
      ap (λ (a : Anodes). contents j a x) l.anodes ∙ contents-same img j x (l.chains x.anode f.head (entry-not-1 f) o) (l.kept x.anode f.head (entry-not-1 f) o)

  -- so another entry's facts are the same
  other_facts : (h : ℕ) (x : Entered) → EntryIn img h x → x.anode ≢ e.anode → facts_of j x ≡ facts_of img x
  unfolding facts_of
  other_facts h x n o = rw (entry_block_lem h x n, other_contents h x n o)

  -- the file has the new bytes
  contents-now : offset + length bytes ≤ e.size → contents j (anodes_of j) e ≡ stored (contents img s e) offset bytes
  unfolding contents
  contents-now within = ap (take e.size) (bytes-there l) ∙ take-stored e.size (bytes_of img s e.anode) offset bytes within

  -- so its facts are the new ones
  own_facts : offset + length bytes ≤ e.size → facts_of j e ≡ with_contents (facts_of img e) (facts_of img e).size (stored (facts_of img e).bytes offset bytes)
  own_facts within =
      file-facts j e file
      ∙ ap₂ (λ (b : List ℕ) (l : List ℕ). facts_in b (e.start % 512) e.size l) (entry_block_lem k e m) (contents-now within)
      ∙ sym (file-with img e file (stored (contents img s e) offset bytes))
      ∙ ap (λ (l : List ℕ). with_contents (facts_of img e) (facts_of img e).size (stored l offset bytes)) (sym (file-bytes img e file))

  -- THE NEW TREE OF A WRITE
  pub file_tree : (name : List ℕ) → entry_named img (anodes_of img) k name ≡ some e → offset + length bytes ≤ e.size → NewTree img (safe_write k name offset bytes) j
  unfolding tree_after facts_after
  file_tree name found within = changed_tree m.directory.image j l.anodes (λ x. x) (λ x. (refl, refl)) named-same m.directory name found
      (λ f. with_contents f f.size (stored f.bytes offset bytes)) other_facts (own_facts within)

-- the image that a safe write leaves
module _ {img : List ℕ} {k : ℕ} {e : Entered} (m : EntryIn img k e) (file : e.dir ≡ false) (offset : ℕ) (bytes : List ℕ) (t : Slotted) (ys : List ℕ) (plan : safe_steps img (write_change img (table_of img) e offset bytes) ≡ planned t ys) where
  -- the file is written in new blocks, and nothing else is changed
  pub written-anew : FileWritten img (new_image img (write_change img (table_of img) e offset bytes) t ys) t.anodes e offset bytes
  written-anew = record {
    anodes = (written-disk m file offset bytes t ys plan).anodes;
    chains = written-chain m file offset bytes t ys plan;
    kept = λ h head h1 o. written-kept m file offset bytes t ys plan h head h1;
    bytes-now = written-bytes m file offset bytes t ys plan;
  }

  -- THE NEW TREE OF A SAFE WRITE
  pub written_tree : (name : List ℕ) → entry_named img (anodes_of img) k name ≡ some e → offset + length bytes ≤ e.size → NewTree img (safe_write k name offset bytes) (new_image img (write_change img (table_of img) e offset bytes) t ys)
  written_tree = file_tree written-anew m file
