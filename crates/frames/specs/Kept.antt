-- What an image keeps that has another's length and some of its blocks.
use Prim.Native.Nat.{ℕ, zero, suc, ◌<◌}
use Rattle.std.specs.Prelude.{◌≡◌, refl, ◌≢◌, length}
use Rattle.std.proofs.Common.{sym, ◌∙◌, inl, inr, arith}
use Rattle.std.proofs.Math.Path.{ap, fun_ext}
use mathlib.Core.List.{List}
use Rattle.disk.specs.Blocks.{block_of}
use Rattle.disk.specs.Root.{root_in, slot_of}
use Rattle.disk.specs.AnodeBlocks.{anode_header_in, anodes_in, anode_slots, listed}
use Rattle.disk.specs.declared.Anode.{Anode}
use Rattle.rules.specs.Anodes.{anodes_of}
use Rattle.rules.specs.Chains.{one_if_holds, system_by, system_owns}
use Rattle.rules.specs.Walk.{Dir, entries_in, is_block_of}
use Rattle.rules.specs.Accepted.{disk_size, wrong_size, short_tables, wrong_type, last_reserved, wrong_root, wrong_slot, wrong_slots}
use Rattle.counting.specs.Laws.{any_below-same}
use Rattle.laws.specs.Tests.{same?}
use Rattle.laws.specs.Sums.{sum_congr}

-- no slot holds block b
abbrev pub Unheld : List ℕ → ℕ → Type 0
Unheld img b = (s : ℕ) → slot_of img s ≢ 0 → slot_of img s ≢ b

-- j has the length of img, and the blocks for which `on` holds
pub record Kept (on : ℕ → Type 0) (img j : List ℕ) : Type 0 where
  pub length-kept : length j ≡ length img
  pub block_kept : (d : ℕ) → on d → block_of j d ≡ block_of img d

-- and the heads of its anode blocks
pub record HeadsKept (on : ℕ → Type 0) (img j : List ℕ) : Type 0 where
  pub kept : Kept on img j
  pub heads_kept : (s : ℕ) → slot_of img s ≢ 0 → anode_header_in (block_of j (slot_of img s)) ≡ anode_header_in (block_of img (slot_of img s))

pub kept-all : {on : ℕ → Type 0} (img : List ℕ) → Kept on img img
kept-all img = record { length-kept = refl; block_kept = λ d o. refl }

-- two stores, each of which keeps what the whole is to keep
pub kept_both : {on first second : ℕ → Type 0} {img i j : List ℕ} → ((d : ℕ) → on d → first d) → ((d : ℕ) → on d → second d)
    → Kept first img i → Kept second i j → Kept on img j
kept_both f g p q = record {
  length-kept = q.length-kept ∙ p.length-kept;
  block_kept = λ d o. q.block_kept d (g d o) ∙ p.block_kept d (f d o);
}

-- a slot whose block is the same has the same anodes
anodes_same : (img j : List ℕ) (s : ℕ) → (s ≢ 0 → block_of j s ≡ block_of img s) → anodes_in j s ≡ anodes_in img s
unfolding anodes_in
anodes_same img j zero e = refl
anodes_same img j (suc b) e = rw (e (omega arith))

module _ {on : ℕ → Type 0} {img j : List ℕ} (k : Kept on img j) where
  pub disk_size-kept : disk_size j ≡ disk_size img
  unfolding disk_size
  disk_size-kept = rw k.length-kept

  pub wrong_size-kept : wrong_size j ≡ wrong_size img
  unfolding wrong_size
  wrong_size-kept = rw (k.length-kept, disk_size-kept)

  pub short_tables-kept : (blocks anodes : ℕ) → short_tables j blocks anodes ≡ short_tables img blocks anodes
  unfolding short_tables
  short_tables-kept blocks anodes = rw disk_size-kept

  -- a directory block
  pub entries_in-kept : (y : ℕ) → on y → entries_in j y ≡ entries_in img y
  unfolding entries_in
  entries_in-kept y o = rw (k.block_kept y o)

  pub is_block_of-kept : (d : Dir) (y : ℕ) → on y → is_block_of j d y ≡ is_block_of img d y
  unfolding is_block_of
  is_block_of-kept d y o = rw (k.block_kept y o)

  -- the root block
  module _ (root : on 2) where
    pub slot_of-kept : (s : ℕ) → slot_of j s ≡ slot_of img s
    unfolding slot_of
    slot_of-kept s = rw (k.block_kept 2 root)

    pub unheld_kept : (b : ℕ) → Unheld img b → Unheld j b
    unheld_kept b o s u e = o s (λ z. u (slot_of-kept s ∙ z)) (sym (slot_of-kept s) ∙ e)

    pub last_reserved-kept : last_reserved j ≡ last_reserved img
    unfolding last_reserved
    last_reserved-kept = ap (λ (b : List ℕ). (root_in b).last.0) (k.block_kept 2 root)

    pub wrong_type-kept : wrong_type j ≡ wrong_type img
    unfolding wrong_type
    wrong_type-kept = rw (k.block_kept 2 root)

    pub wrong_root-kept : wrong_root j ≡ wrong_root img
    unfolding wrong_root
    wrong_root-kept = rw (k.block_kept 2 root, last_reserved-kept, disk_size-kept)

    pub system_owns-kept : system_owns j ≡ system_owns img
    unfolding system_by one_if_holds
    system_owns-kept = fun_ext (λ x. rw (sum_congr (one_if_holds (slot_of j) x) (one_if_holds (slot_of img) x) 42 (λ s l. rw (slot_of-kept s))))

    -- the anode blocks
    module _ (slots : (s : ℕ) → slot_of img s ≢ 0 → on (slot_of img s)) where
      anode_slots-kept : anode_slots j ≡ anode_slots img
      unfolding anode_slots
      anode_slots-kept = ap (λ (f : ℕ → List Anode). listed f 0 42) (fun_ext (λ s. rw (slot_of-kept s) (anodes_same img j (slot_of img s) (λ u. k.block_kept (slot_of img s) (slots s u)))))

      pub anodes_of-kept : anodes_of j ≡ anodes_of img
      unfolding anodes_of
      anodes_of-kept = rw anode_slots-kept

-- the heads of the anode blocks
pub wrong_slots-kept : {on : ℕ → Type 0} {img j : List ℕ} → HeadsKept on img j → on 2 → wrong_slots j ≡ wrong_slots img
unfolding wrong_slots wrong_slot
wrong_slots-kept {img = img} {j = j} w root = rw (slot_of-kept w.kept root 0, any_below-same (wrong_slot j) (wrong_slot img) 42 each)
  where
    each : (s : ℕ) → s < 42 → wrong_slot j s ≡ wrong_slot img s
    each s l = elim (same? (slot_of img s) 0) [
      | inl z ↦ rw (slot_of-kept w.kept root s, z)
      | inr u ↦ rw (slot_of-kept w.kept root s, disk_size-kept w.kept, w.heads_kept s u)
    ]
