-- What the own steps of a change leave that takes a file's blocks anew and changes no directory block.
use Rattle.std.specs.Prelude.{ℕ, ◌≡◌, List, [], ◌++◌}
use Rattle.std.proofs.Common.{ap, append-nil, arith}
use Rattle.disk.specs.Root.{slot_of}
use Rattle.rules.specs.Counting.{occurrences}
use Rattle.rules.specs.Anodes.{anodes_of}
use Rattle.rules.specs.Chains.{system_owns, blocks_of}
use Rattle.rules.specs.Walk.{Entered}
use Rattle.rules.specs.Accepted.{disk_size, last_reserved}
use Rattle.rules.specs.Plans.{Slotted, table_of, planned}
use Rattle.laws.specs.Space.{good-same}
use Rattle.laws.specs.Moves.{Shift}
use Rattle.laws.specs.FixedSlots.{start_owned}
use Rattle.change_laws.specs.Image.{accepted_whole, head_in, side_in}
use Rattle.change_laws.specs.Reached.{EntryIn, entry-facts, entry_data}
use Rattle.safe_rules.specs.SafePlans.{SafeChange, taken_anew}
use Rattle.safe_laws.specs.OwnChanges.{chain_holds}
use Rattle.safe_laws.specs.Limbo.{OwnLeft}
use Rattle.safe_laws.specs.Anew.{AnewTaken, taken-anew}

module _ {img : List ℕ} {k : ℕ} {e : Entered} (m : EntryIn img k e) (n : ℕ) (r : Slotted) (xs : List ℕ) where
  -- a file of an accepted image has taken its blocks anew
  pub file-anew : taken_anew e.anode n (table_of img) ≡ planned r xs → AnewTaken (disk_size img) (last_reserved img) (table_of img) (system_owns img) (head_in img) e.anode n r xs
  file-anew q =
      let facts = entry-facts m in
      taken-anew (table_of img) (system_owns img) (head_in img) (side_in img) (accepted_whole m.directory.image).good e.anode facts.from_6 facts.head (start_owned (slot_of img)) n r xs q

  module _ (c : SafeChange) (old : c.old ≡ blocks_of (anodes_of img) e.anode) (none : c.changing ≡ []) where
    -- the change's old blocks are those that its chain had
    old-chain : (x : ℕ) → occurrences x (c.old ++ c.changing) ≡ occurrences x (blocks_of (anodes_of img) e.anode)
    old-chain x = rw (old, none) (ap (occurrences x) (append-nil (blocks_of (anodes_of img) e.anode)))

    -- that is what is left
    pub anew-left : AnewTaken (disk_size img) (last_reserved img) (table_of img) (system_owns img) (head_in img) e.anode n r xs → OwnLeft img c r
    anew-left anew = record {
      hd' = anew.hd';
      sd' = anew.sd';
      good = good-same anew.good (λ x. omega (arith, old-chain x, chain_holds m x));
      inside = λ x p. (entry_data m x (rw (old-chain x) at p)).below;
    }

    -- and from the image to it only the free list and the file's chain are touched
    pub anew_shift : (anew : AnewTaken (disk_size img) (last_reserved img) (table_of img) (system_owns img) (head_in img) e.anode n r xs) → Shift (anodes_of img) (head_in img) r.anodes (anew-left anew).hd' 1 e.anode
    unfolding anew-left
    anew_shift anew = anew.shift
