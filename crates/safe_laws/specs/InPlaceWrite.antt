-- The image that a write in place leaves: the file is written in its own blocks, and nothing else is changed. So it holds the new tree.
use Rattle.std.specs.Prelude.{ℕ, ◌+◌, ◌≤◌, ◌≡◌, false, List, length}
use Rattle.std.proofs.Math.Option.{some}
use Rattle.rules.specs.Anodes.{anodes_of}
use Rattle.rules.specs.Walk.{Entered}
use Rattle.rules.specs.Lookup.{entry_named}
use Rattle.rules.specs.Changes.{written}
use Rattle.frames.specs.DisjointBlocks.{chains_apart}
use Rattle.frames.specs.StoredBytes as Bytes
use Rattle.change_laws.specs.Image.{AcceptedWhole, accepted_whole}
use Rattle.change_laws.specs.KeptChains.{same-chain_own}
use Rattle.change_laws.specs.Reached.{EntryIn, EntryFacts, entry-facts}
use Rattle.change_laws.specs.Write.{written-disk}
use Rattle.safe_rules.specs.SafeCalls.{safe_write}
use Rattle.safe_laws.specs.Claims.{NewTree}
use Rattle.safe_laws.specs.WrittenTree.{FileWritten, file_tree}

module _ {img : List ℕ} {k : ℕ} {e : Entered} (m : EntryIn img k e) (file : e.dir ≡ false) (offset : ℕ) (bytes : List ℕ) where
  -- the accepted image
  w : AcceptedWhole img
  w = accepted_whole m.directory.image

  -- what is known of the file
  facts : EntryFacts img k e
  facts = entry-facts m

  -- the file is written where it is
  pub written-here : FileWritten img (written img (anodes_of img) e offset bytes) (anodes_of img) e offset bytes
  written-here = record {
    anodes = (written-disk m file offset bytes).anodes;
    chains = λ h head h1 o. same-chain_own (anodes_of img) h;
    kept = λ h head h1 o y q. (Bytes.written-kept img w.good e facts.head offset bytes).block_kept y (chains_apart w.good h e.anode head facts.head o y q);
    bytes-now = Bytes.bytes_of-written img w.good e facts.head offset bytes;
  }

  -- THE NEW TREE OF A WRITE IN PLACE
  pub write_tree : (name : List ℕ) → entry_named img (anodes_of img) k name ≡ some e → offset + length bytes ≤ e.size → NewTree img (safe_write k name offset bytes) (written img (anodes_of img) e offset bytes)
  write_tree = file_tree written-here m file
