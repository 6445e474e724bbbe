-- The new blocks of a done safe change are whole blocks of the image, the anode blocks may be stored in theirs, and the blocks of the old directories stay.
use Prim.Native.Nat.{ℕ, ◌+◌, ◌*◌, ◌/◌, ◌≤◌, ◌<◌}
use mathlib.Core.Path.{◌≡◌, sym, ap, ◌∙◌}
use mathlib.Core.Logic.{◌≢◌, inl, inr}
use mathlib.Core.List.{List, [], ◌∷◌, ◌++◌}
use native.Mathlib.Omega.{arith}
use lib.ListN.{length}
use Rattle.disk.specs.Blocks.{block_of}
use Rattle.disk.specs.Root.{slot_of}
use Rattle.rules.specs.Counting.{occurrences}
use Rattle.rules.specs.Anodes.{anodes_of}
use Rattle.rules.specs.Chains.{one_if_holds, blocks_of}
use Rattle.rules.specs.Walk.{Entered}
use Rattle.rules.specs.Accepted.{disk_size, last_reserved}
use Rattle.rules.specs.Plans.{Slotted, planned}
use Rattle.rules.specs.Table.{with_slot_table, with_table}
use Rattle.laws.specs.Tests.{same?, less?, not_above}
use Rattle.laws.specs.Sums.{one_at_some, sum-member}
use Rattle.laws.specs.Bags.{occurrences-nil, occurrences-cons, occurrences-append}
use Rattle.laws.specs.Chains.{Inside}
use Rattle.laws.specs.Acceptance.{size_bounds}
use Rattle.laws.specs.TestsPassed.{slot_low, right_slot}
use Rattle.frames.specs.Kept.{Kept, Unheld}
use Rattle.frames.specs.StoredSlots.{block_inside, slots_stored, table_kept}
use Rattle.change_laws.specs.Image.{AcceptedImage, image-passed, accepted_slots, accepted_right, ReachedDir}
use Rattle.change_laws.specs.Reached.{EntryIn, entry-facts, block_data, block_on, reached_head, reached-not-1}
use Rattle.safe_rules.specs.SafePlans.{SafeChange, slot_blocks, old_blocks, safe_steps}
use Rattle.safe_rules.specs.SafeWrites.{new_image}
use Rattle.safe_laws.specs.AllTaken.{OwnSteps, takes_first}
use Rattle.safe_laws.specs.Crash.{spared}
use Rattle.safe_laws.specs.OldBlocks.{system_high}
use Rattle.safe_laws.specs.NewSlots.{slots_order}
use Rattle.safe_laws.specs.LeftTable.{DoneSteps}
use Rattle.safe_laws.specs.LeftImage.{holds_own, back_slots, free, data_block, slots_held, slot_taken, slots_for, left-kept}
use Rattle.safe_stores.specs.Stored.{TableMoves}

module _ {img : List ℕ} (image : AcceptedImage img) {left : ℕ → Type 0} {c : SafeChange} (own : OwnSteps img left c) (t : Slotted) (ys : List ℕ) (plan : safe_steps img c ≡ planned t ys) where
  -- the disk has at least five blocks, so a root
  rooted : 2 < disk_size img
  rooted = omega (arith, (size_bounds img (image-passed image).size_right).0)

  -- which is a whole block
  pub root_inside : 1536 ≤ length img
  root_inside = let w = block_inside img 2 rooted in omega (arith, w)

  -- each block written is a whole block
  pub written_inside : (y : ℕ) → 0 < occurrences y (ys ++ (2 ∷ [])) → y * 512 + 512 ≤ length img
  written_inside y p = elim (less? 0 (occurrences y ys)) [
    | inl q ↦ (data_block image own t ys plan y q).inside
    | inr q ↦ (let e = one_at_some 2 y (omega (arith, p, q, occurrences-append y ys (2 ∷ []), occurrences-cons y 2 [], occurrences-nil y)) in block_inside img y (omega (arith, e, rooted)))
  ]

  -- of the image left too
  pub list_inside : Inside (new_image img c t ys) (ys ++ (2 ∷ []))
  list_inside y p = omega (arith, written_inside y p, (left-kept image own t ys plan).length-kept)

  -- and each that a slot holds
  pub slot_inside : (k : ℕ) → t.slots k * 512 + 512 ≤ length img
  slot_inside k = elim (same? (t.slots k) 0) [
    | inl z ↦ (let w = block_inside img 0 (omega (arith, rooted)) in omega (arith, z, w))
    | inr u ↦ (data_block image own t ys plan (t.slots k) (slot_taken image own t ys plan k u)).inside
  ]

  -- an empty slot stays so
  stays_empty : (k : ℕ) → slot_of img k ≡ 0 → t.slots k ≡ slot_of img k
  stays_empty k z = (slots_held image own t ys plan).empty k z ∙ sym z

  -- a slot that holds another block than before is in use
  now_used : (k : ℕ) → t.slots k ≢ slot_of img k → t.slots k ≢ 0
  now_used k o z = (slots_held image own t ys plan).used k (λ e. o (z ∙ sym e)) z

  -- no block taken is an old anode block
  not-old : (k l : ℕ) → t.slots k ≢ 0 → slot_of img l ≢ t.slots k
  not-old k l u e =
      let y = t.slots k in
      let taken = slot_taken image own t ys plan k u in
      let b = data_block image own t ys plan y taken in
      let old : slot_of img l ≢ 0 = λ z. u (sym e ∙ z) in
      omega (
        arith,
        (spared image (new_image img c t ys) ys (free image own t ys plan) (left-kept image own t ys plan) y taken).not_system,
        system_high (slot_of img) y b.above,
        sum-member (one_if_holds (slot_of img) y) l 42 (slot_low img l old),
        holds_own (slot_of img) y l old e,
      )

  -- THE ANODE TABLE MAY BE STORED in its new blocks
  pub table_moves : TableMoves img t.slots
  table_moves = (
    slots_for image own t ys plan,
    record {
      used = λ k o z. o (stays_empty k z);
      old-placed = λ k u. let b = right_slot img (accepted_slots image) k u in (b.above, b.below);
      new-placed = λ k o. let b = data_block image own t ys plan (t.slots k) (slot_taken image own t ys plan k (now_used k o)) in (b.above, b.below);
      apart = λ k l o. not-old k l (now_used k o);
    },
  )

  -- the anode blocks are taken behind the others, slot by slot
  pub slots_taken : (d : DoneSteps img c t ys) → d.us ≡ slot_blocks t.slots 42
  slots_taken d =
      slots_order d.r d.s d.us ((takes_first image own).done d.r d.xs d.first).0.good d.slots
      ∙ ap (λ (f : ℕ → ℕ). slot_blocks f 42) (sym (back_slots (last_reserved img) (old_blocks img c) d.s t d.gs d.back))

  -- ---- the old blocks

  -- a block of a reached directory is no new one
  pub chain-old : {k : ℕ} → ReachedDir img k → (x : ℕ) → 0 < occurrences x (blocks_of (anodes_of img) k) → occurrences x ys ≡ 0
  chain-old {k} r x on = not_above (occurrences x ys) (λ p.
      omega (arith, on, (spared image (new_image img c t ys) ys (free image own t ys plan) (left-kept image own t ys plan) x p).not-chain k (reached_head r) (reached-not-1 r)))

  -- the image with the table stored has the old one's other blocks
  rest-kept : Kept (λ b. (b ≢ 2) × Unheld (with_slot_table img t.slots) b) img (with_table img t)
  rest-kept = table_kept img (accepted_right image) t (slots_for image own t ys plan)

  -- and its length
  pub table-length : length (with_table img t) ≡ length img
  table-length = rest-kept.length-kept

  -- so each block but the new ones and the root is as it was
  pub table_keeps : (x : ℕ) → x ≢ 2 → occurrences x ys ≡ 0 → block_of (with_table img t) x ≡ block_of img x
  table_keeps x o z = rest-kept.block_kept x (
    o,
    λ k u e.
        let is = ap (λ (f : ℕ → ℕ). f k) (slots_stored img (accepted_right image) t.slots (slots_for image own t ys plan)) in
        omega (arith, z, slot_taken image own t ys plan k (λ q. u (is ∙ q)), ap (λ (v : ℕ). occurrences v ys) (sym is ∙ e)),
  )

  -- ---- the block of an entry

  module _ {k : ℕ} {e : Entered} (m : EntryIn img k e) where
    -- it is no new one
    pub entry_old : occurrences (e.start / 512) ys ≡ 0
    entry_old =
        let f = entry-facts m in
        chain-old m.directory (e.start / 512) (omega (arith, ap (λ (x : ℕ). occurrences x (blocks_of (anodes_of img) k)) f.in_block_lem, block_on (anodes_of img) k f.a₀ f.member-chain f.block_facts.one))

    -- so it is as it was
    pub entry_stays : block_of (with_table img t) (e.start / 512) ≡ block_of img (e.start / 512)
    entry_stays = table_keeps (e.start / 512) (λ i. omega (arith, i, (block_data (entry-facts m)).above)) entry_old
