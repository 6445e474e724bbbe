-- A formatted image passes 1 to 5.
use Rattle.std.specs.Prelude.{ℕ, ◌+◌, ◌≤◌, ◌<◌, ◌≡◌, false, not, List, eqb, length}
use Rattle.std.proofs.Math.Path.{ap}
use Rattle.std.proofs.Common.{◌∙◌, arith, le-ltb, ne_eqb}
use Rattle.std.proofs.Math.Logic.{inl, inr}
use Rattle.std.proofs.lemmas.Bool.{lt-leb}
use Rattle.disk.specs.Blocks.{block_of}
use Rattle.disk.specs.Root.{slot_of}
use Rattle.disk.specs.AnodeBlocks.{anode_mark, anode_header_in}
use Rattle.disk.specs.declared.Root.{Root}
use Rattle.disk.specs.declared.AnodeHeader.{AnodeHeader}
use Rattle.disk.proofs.Store.{anode_header_in-put_anode}
use Rattle.rules.specs.Anodes.{limit}
use Rattle.rules.specs.Accepted.{disk_size, wrong_size, short_tables, wrong_type, last_reserved, wrong_root, wrong_slot, wrong_slots}
use Rattle.rules.specs.Format.{first_anodes, empty_anode_block, anode_block, formatted}
use Rattle.counting.specs.Laws.{none_or, none-and, any_below-all}
use Rattle.laws.specs.Tests.{less?, same}
use Rattle.laws.specs.NewAnodeBlock.{header_made, anode_header_in-empty_anode_block}
use Rattle.format.proofs.Parts.{anode_block_both}
use Rattle.format.proofs.Laws.{Taken, length-formatted, root_in-formatted, slot_of-formatted_some, slot_of-formatted-none, block_of-formatted_anodes}

head_first : (b : List ℕ) (n last k : ℕ) → anode_header_in (first_anodes b n last k) ≡ anode_header_in b
unfolding first_anodes
head_first b n last k = simp anode_header_in-put_anode

head_block : (n last k s : ℕ) → anode_header_in (anode_block n last k s) ≡ header_made s
head_block n last k s = anode_block_both n last k (λ b. anode_header_in b ≡ header_made s) s (head_first (empty_anode_block s) n last k ∙ anode_header_in-empty_anode_block s) (anode_header_in-empty_anode_block s)

module _ (img : List ℕ) (last k : ℕ) (name : List ℕ) (day minute tick protection : ℕ) where
  abbrev disk : List ℕ
  disk = formatted img last k name day minute tick protection

  pub disk_size_lem : disk_size disk ≡ disk_size img
  unfolding disk_size
  disk_size_lem = rw (length-formatted img last k name day minute tick protection)

  pub size_right : wrong_size img ≡ false → wrong_size disk ≡ false
  unfolding wrong_size disk_size
  size_right size = rw (length-formatted img last k name day minute tick protection) size

  pub tables_long : (blocks anodes : ℕ) → disk_size img ≤ blocks → limit ≤ anodes → short_tables disk blocks anodes ≡ false
  unfolding short_tables
  tables_long blocks anodes b a = none_or _ _ (le-ltb blocks (disk_size disk) (rw disk_size_lem b)) (le-ltb anodes limit a)

  module _ (args : Taken img last k name) where
    pub type_right : wrong_type disk ≡ false
    unfolding wrong_type
    type_right = rw (root_in-formatted img last k name day minute tick protection args)

    pub last_is : last_reserved disk ≡ last
    unfolding last_reserved
    last_is = ap (λ (r : Root). r.last.0) (root_in-formatted img last k name day minute tick protection args)

    pub root_right : wrong_root disk ≡ false
    unfolding wrong_root
    root_right = rw (root_in-formatted img last k name day minute tick protection args, last_is, disk_size_lem)
        (none_or _ _ (le-ltb last 2 (omega (arith, args))) (none_or _ _ (lt-leb (disk_size img) last args.there)
        (none_or _ _ (ne_eqb (length name) 0 (omega (arith, args))) (le-ltb 31 (length name) args.short))))

    slot_right : (s : ℕ) → s < 42 → wrong_slot disk s ≡ false
    unfolding wrong_slot
    slot_right s l = elim (less? s k) [
      | inl h ↦ (let head : anode_header_in (block_of disk (3 + s)) ≡ header_made s
          = ap anode_header_in (block_of-formatted_anodes img last k name day minute tick protection args s h) ∙ head_block (disk_size img) last k s in
          rw (slot_of-formatted_some img last k name day minute tick protection args s h)
          (none-and (not (eqb (3 + s) 0)) _ (λ e. none_or _ _ (le-ltb (3 + s) 3 (omega arith))
          (none_or _ _ (lt-leb (disk_size disk) (3 + s) (omega (arith, args, disk_size_lem)))
          (none_or _ _ (same _ anode_mark (ap (λ (a : AnodeHeader). a.mark) head)) (same _ s (ap (λ (a : AnodeHeader). a.sequence) head)))))))
      | inr h ↦ rw (slot_of-formatted-none img last k name day minute tick protection args s h)
    ]

    pub slots_right : wrong_slots disk ≡ false
    unfolding wrong_slots
    slots_right =
        let first : slot_of disk 0 ≡ 3 = slot_of-formatted_some img last k name day minute tick protection args 0 (omega (arith, args)) in
        none_or _ _ (ne_eqb (slot_of disk 0) 0 (λ z. omega arith)) (any_below-all (wrong_slot disk) 42 slot_right)
