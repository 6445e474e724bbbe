-- The table that a safe resize to another size leaves: the file's blocks are new, its directory's block has a new place, and of all else only the free list is touched. Its directories are whole again.
use Prim.Native.Nat.{ℕ, ◌+◌, ◌/◌, ◌<◌}
use Rattle.std.specs.Prelude.{◌≡◌, ◌≢◌, Bool, false, take}
use Rattle.std.proofs.Math.Path.{refl, sym, ap}
use Rattle.std.proofs.Common.{◌∙◌, inl, inr, arith, eq-eqb, ne_eqb}
use mathlib.Core.List.{List, [], ◌∷◌, ◌++◌, map}
use Rattle.std.proofs.Math.ListN.{length, length-append}
use Rattle.std.proofs.Math.Seq.{take_at}
use Rattle.rules.specs.Counting.{one_at, occurrences}
use Rattle.rules.specs.Anodes.{Anodes, limit, exists_by, anodes_of}
use Rattle.rules.specs.Chains.{chain_of, system_owns, blocks_of, block_count}
use Rattle.rules.specs.Walk.{Dir, Entered, entries_in, is_block_of, blocks_for, reached_dirs}
use Rattle.rules.specs.Accepted.{disk_size, last_reserved}
use Rattle.rules.specs.Plans.{Slotted, table_of, planned, ◌and_then◌}
use Rattle.laws.specs.Tests.{same?, less?}
use Rattle.laws.specs.Sums.{one_at_cases}
use Rattle.laws.specs.Bags.{occurrences-nil, occurrences-cons, occurrences-append}
use Rattle.laws.specs.Heads.{Head, head_while}
use Rattle.laws.specs.Held.{held}
use Rattle.laws.specs.Ownership.{handed}
use Rattle.laws.specs.Space.{Alike, good-same, on_chain_lem}
use Rattle.laws.specs.Moves.{with_these, Shift, shift_trans, shift_into}
use Rattle.laws.specs.Members.{Member}
use Rattle.laws.specs.Frame.{shift_alike, shift_chain}
use Rattle.laws.specs.ChainBlocks.{extent, length-blocks_of, kept-blocks, shift_blocks}
use Rattle.laws.specs.Whole.{Whole, change_file, blocks-moved, change_free}
use Rattle.change_laws.specs.Image.{AcceptedWhole, AcceptedImage, accepted_whole, head_in, WholeWith, disk_at, disk_whole}
use Rattle.change_laws.specs.Reached.{EntryIn, EntryFacts, entry-facts, entry_data, entry-not-1, block_data, member-reached, reached_head, reached-not-1, not-file}
use Rattle.change_laws.specs.Resize.{resized_entry, resized_it, resized_other, resized_fields}
use Rattle.safe_rules.specs.SafePlans.{SafeChange, relocated, all_relocated, taken_anew, resize_change, safe_steps}
use Rattle.safe_laws.specs.OwnChanges.{home-left, resize_own, chain_holds}
use Rattle.safe_laws.specs.Relocated.{none-relocated, one-relocated, BlockMoved, block_moved}
use Rattle.safe_laws.specs.Limbo.{OwnLeft, LeavesGood}
use Rattle.safe_laws.specs.LeftTable.{DoneSteps, LeftTable, done_steps, left-table}
use Rattle.safe_laws.specs.Anew.{AnewTaken}
use Rattle.safe_laws.specs.AnewLeft.{file-anew, anew-left}

-- the own steps of a resize to another size: first the file's blocks are taken anew, q behind them, then the block of its entry has a new place
record ResizeFirst {img : List ℕ} {k : ℕ} {e : Entered} (m : EntryIn img k e) (new : ℕ) (r : Slotted) (xs : List ℕ) : Type 0 where
  q : Slotted
  us : List ℕ
  vs : List ℕ
  are : xs ≡ us ++ vs
  anew : AnewTaken (disk_size img) (last_reserved img) (table_of img) (system_owns img) (head_in img) e.anode (blocks_for new) q us
  home_block : q.anodes.block (entry-facts m).a₀ ≡ e.start / 512
  moved : BlockMoved (disk_size img) (last_reserved img) q (λ x. system_owns img x + held limit (head_in img) (anodes_of img).count (anodes_of img).block e.anode x) anew.hd' (entry-facts m).a₀ r vs

module _ {img : List ℕ} {k : ℕ} {e : Entered} (m : EntryIn img k e) (new : ℕ) where
  module _ (differs : e.size ≢ new) (r : Slotted) (xs : List ℕ) (first : (resize_change img (table_of img) e new).steps and_then all_relocated (resize_change img (table_of img) e new).changing ≡ planned r xs) where
    -- the own steps of a resize to another size
    resize_first : ResizeFirst m new r xs
    unfolding resize_change
    resize_first =
        let s = anodes_of img in
        let facts = entry-facts m in
        let (q, us, vs, taken, moves, are) = one-relocated (taken_anew e.anode (blocks_for new) (table_of img)) (e.start / 512) r xs (rw (ne_eqb e.size new differs) at first) in
        let anew = file-anew m (blocks_for new) q us taken in
        let (u, one, other) = home-left m in
        let alike = anew.shift.apart facts.a₀ u one other in
        let home : q.anodes.block facts.a₀ ≡ e.start / 512 = alike.same_block ∙ sym facts.in_block_lem in
        record {
          q = q;
          us = us;
          vs = vs;
          are = are;
          anew = anew;
          home_block = home;
          moved = block_moved q (λ x. system_owns img x + held limit (head_in img) s.count s.block e.anode x) anew.hd' anew.sd' anew.good facts.a₀ (alike.same_count ∙ facts.block_facts.one)
              (λ z. one (sym (anew.shift.same_hd facts.a₀ u one other) ∙ z)) r vs (ap (λ (y : ℕ). relocated y q) home ∙ moves);
        }

    -- its old blocks are those of the file's chain and that block
    old_are : (x : ℕ) → occurrences x ((resize_change img (table_of img) e new).old ++ (resize_change img (table_of img) e new).changing) ≡ occurrences x (blocks_of (anodes_of img) e.anode) + one_at (e.start / 512) x
    unfolding resize_change
    old_are x = rw (ne_eqb e.size new differs) (omega (arith, occurrences-append x (blocks_of (anodes_of img) e.anode) (e.start / 512 ∷ []), occurrences-cons x (e.start / 512) [], occurrences-nil x))

    -- what they leave
    other_size : OwnLeft img (resize_change img (table_of img) e new) r
    other_size =
        let f = resize_first in
        record {
          hd' = f.moved.hd';
          sd' = f.moved.sd';
          good = good-same f.moved.good (λ x. omega (arith, old_are x, chain_holds m x, occurrences-cons x (f.q.anodes.block (entry-facts m).a₀) [], occurrences-nil x, ap (λ (y : ℕ). one_at y x) f.home_block));
          inside = λ x p. elim (less? 0 (occurrences x (blocks_of (anodes_of img) e.anode))) [
            | inl l ↦ (entry_data m x l).below
            | inr l ↦ elim (one_at_cases (e.start / 512) x) [ inl i ↦ omega (arith, i.0, (block_data (entry-facts m)).below) | inr i ↦ absurd (omega (arith, p, l, i.1, old_are x)) ]
          ];
        }

  -- at the size that the file has no directory block changes
  same_size : e.size ≡ new → LeavesGood img (resize_change img (table_of img) e new)
  unfolding resize_change
  same_size same r xs first = anew-left m (blocks_for new) r xs (resize_change img (table_of img) e new) refl (rw (eq-eqb e.size new same))
      (file-anew m (blocks_for new) r xs (none-relocated (taken_anew e.anode (blocks_for new) (table_of img)) r xs (rw (eq-eqb e.size new same) at first)))

  -- WHAT THE OWN STEPS OF A RESIZE LEAVE
  pub resize_leaves : LeavesGood img (resize_change img (table_of img) e new)
  resize_leaves r xs first = elim (same? e.size new) [ inl same ↦ same_size same r xs first | inr differs ↦ other_size differs r xs first ]

module _ {img : List ℕ} {k : ℕ} {e : Entered} (m : EntryIn img k e) (new : ℕ) (differs : e.size ≢ new) (t : Slotted) (ys : List ℕ) (plan : safe_steps img (resize_change img (table_of img) e new) ≡ planned t ys) where
  abbrev s : Anodes
  s = anodes_of img

  abbrev c : SafeChange
  c = resize_change img (table_of img) e new

  abbrev image : AcceptedImage img
  image = m.directory.image

  w : AcceptedWhole img
  w = accepted_whole image

  abbrev facts : EntryFacts img k e
  facts = entry-facts m

  -- ---- the steps

  pub d : DoneSteps img (resize_change img (table_of img) e new) t ys
  d = done_steps image (resize_own m new) t ys plan

  -- the first of them
  abbrev f : ResizeFirst m new d.r d.xs
  f = resize_first m new differs d.r d.xs d.first

  -- the state behind the file's takes
  abbrev q : Slotted
  q = f.q

  -- the file's blocks are taken anew
  abbrev anew : AnewTaken (disk_size img) (last_reserved img) (table_of img) (system_owns img) (head_in img) e.anode (blocks_for new) f.q f.us
  anew = f.anew

  -- then the directory's block has a new place
  abbrev moved : BlockMoved (disk_size img) (last_reserved img) f.q (λ x. system_owns img x + held limit (head_in img) (anodes_of img).count (anodes_of img).block e.anode x) f.anew.hd' (entry-facts m).a₀ d.r f.vs
  moved = f.moved

  -- the file's new blocks, and the new place of the directory block
  pub file_blocks : List ℕ
  file_blocks = f.us

  pub new_place : ℕ
  new_place = moved.z

  -- what they leave
  pub own_left : OwnLeft img (resize_change img (table_of img) e new) d.r
  own_left = resize_leaves m new d.r d.xs d.first

  -- THE TABLE THAT IS LEFT
  pub resized-table : LeftTable img d.r own_left.hd' t
  resized-table = left-table image (resize_own m new) t ys plan d own_left

  -- ---- the chains

  -- up to where the directory block's new place is out of the free list, only that list and the file's chain are touched
  before : Shift s (head_in img) moved.between moved.hd' 1 e.anode
  before = shift_trans {hd'' = moved.hd'} anew.shift (shift_into moved.out 1 e.anode (inl refl) (inl refl))

  -- an anode is in use with the block in its new place where it was
  used : (a : ℕ) → moved.between.block a ≢ 0 → d.r.anodes.block a ≢ 0
  used a u z = elim (same? a facts.a₀) [ inl i ↦ moved.some_block (sym moved.own ∙ ap d.r.anodes.block (sym i) ∙ z) | inr i ↦ u (sym (moved.others a i) ∙ z) ]

  -- and was where it is
  was : (a : ℕ) → d.r.anodes.block a ≢ 0 → moved.between.block a ≢ 0
  was a v z = elim (same? a facts.a₀) [
    | inl i ↦ (let (u, one, other) = home-left m in u (sym (before.apart facts.a₀ u one other).same_block ∙ ap moved.between.block (sym i) ∙ z))
    | inr i ↦ v (moved.others a i ∙ z)
  ]

  -- a head stays one
  still : (h : ℕ) → Head s.next s.block h → Head d.r.anodes.next d.r.anodes.block h
  still h i = let j = before.stays h i in rw moved.next (head_while j (used h j.in_use))

  -- and so with all steps done
  pub resized_head : (h : ℕ) → Head (anodes_of img).next (anodes_of img).block h → Head t.anodes.next t.anodes.block h
  resized_head h i = resized-table.shift.stays h (still h i)

  -- a chain that is not the file's has the anodes that it had
  module _ (h : ℕ) (head : Head (anodes_of img).next (anodes_of img).block h) (h1 : h ≢ 1) (other : h ≢ e.anode) where
    -- before the block moves
    chain-before : chain_of moved.between.next limit h ≡ chain_of s.next limit h
    chain-before = shift_chain w.good moved.out-good before h head h1 other

    -- after it has moved
    chain-after : chain_of d.r.anodes.next limit h ≡ chain_of s.next limit h
    chain-after = ap (λ (f : ℕ → ℕ). chain_of f limit h) moved.next ∙ chain-before

    -- and with all steps done
    pub resized_anodes : chain_of t.anodes.next limit h ≡ chain_of (anodes_of img).next limit h
    resized_anodes = shift_chain own_left.good resized-table.table.good resized-table.shift h (still h head) h1 h1 ∙ chain-after

    -- with their extents, but that of the moved block
    module _ (a : ℕ) (on : 0 < occurrences a (chain_of (anodes_of img).next limit h)) where
      -- before the block moves
      alike_before : Alike s moved.between a
      alike_before = shift_alike w.good moved.out-good before h head h1 other a on

      -- since it has moved
      alike_after : Alike d.r.anodes t.anodes a
      alike_after = shift_alike own_left.good resized-table.table.good resized-table.shift h (still h head) h1 h1 a (rw chain-after on)

      -- every anode has its count
      pub resized-count : t.anodes.count a ≡ (anodes_of img).count a
      resized-count = alike_after.same_count ∙ moved.count a ∙ alike_before.same_count

      -- another anode has its block
      pub resized_block : a ≢ facts.a₀ → t.anodes.block a ≡ (anodes_of img).block a
      resized_block o = alike_after.same_block ∙ moved.others a o ∙ alike_before.same_block

      -- that of the moved block has the new place
      pub resized-home : a ≡ facts.a₀ → t.anodes.block a ≡ new_place
      unfolding new_place
      resized-home i = alike_after.same_block ∙ ap d.r.anodes.block i ∙ moved.own

  -- the anode of the moved block is not on the file's chain
  file_off : (a : ℕ) → 0 < occurrences a (chain_of moved.between.next limit e.anode) → a ≢ facts.a₀
  file_off a on i = let (u, one, other) = home-left m in
      other (sym (before.same_hd facts.a₀ u one other) ∙ ap moved.hd' (sym i) ∙ (on_chain_lem moved.out-good e.anode (before.stays e.anode facts.head) a on).0)

  -- the file's blocks before the directory block moves
  file-between : blocks_of moved.between e.anode ≡ f.us
  file-between = let o = entry-not-1 facts in shift_blocks anew.good moved.out-good moved.out e.anode (anew.shift.stays e.anode facts.head) o o ∙ anew.chain

  -- the file's blocks are those taken first
  pub resized-file : blocks_of t.anodes e.anode ≡ file_blocks
  unfolding extent file_blocks
  resized-file = let o = entry-not-1 facts in
      shift_blocks own_left.good resized-table.table.good resized-table.shift e.anode (still e.anode facts.head) o o
      ∙ kept-blocks moved.between d.r.anodes e.anode (ap (λ (f : ℕ → ℕ). chain_of f limit e.anode) moved.next) (λ a on. rw (moved.others a (file_off a on), moved.count a))
      ∙ file-between

  -- as many as the new size asks for
  pub resized_many : length file_blocks ≡ blocks_for new
  unfolding file_blocks
  resized_many = anew.many

  -- and the directory block's place is taken next
  pub resized-taken : take (c.takes + length c.changing) ys ≡ file_blocks ++ (new_place ∷ [])
  unfolding resize_change file_blocks new_place
  resized-taken = rw (ne_eqb e.size new differs)
      (let first_two : d.xs ≡ f.us ++ (moved.z ∷ []) = f.are ∙ ap (λ (l : List ℕ). f.us ++ l) moved.are in
      ap (take (blocks_for new + 1)) d.are
      ∙ take_at d.xs d.us (blocks_for new + 1) (ap length first_two ∙ length-append f.us (moved.z ∷ []) ∙ ap (λ (n : ℕ). n + 1) resized_many) ∙ first_two)

  -- ---- the directories

  abbrev dirs : List Dir
  dirs = reached_dirs img (anodes_of img)

  -- whole again, where the entries of each block of a directory are those that it had, the file's with its new size, but for what ψ changes
  module _ (file : e.dir ≡ false) (ψ : Entered → Entered) (keeps : (x : Entered) → ((ψ x).broken ≡ x.broken) × ((ψ x).dir ≡ x.dir) × ((ψ x).anode ≡ x.anode) × ((ψ x).name ≡ x.name) × ((ψ x).size ≡ x.size))
      (entries' : ℕ → List Entered) (marked' : Dir → ℕ → Bool)
      (there : (b : Dir) → Member b (reached_dirs img (anodes_of img)) → (a : ℕ) → 0 < occurrences a (chain_of (anodes_of img).next limit b.head) →
      (entries' (t.anodes.block a) ≡ map ψ (map (resized_entry e.anode new) (entries_in img ((anodes_of img).block a)))) × (marked' b (t.anodes.block a) ≡ is_block_of img b ((anodes_of img).block a))) where
    -- the file's chain has the blocks of the new size
    count-between : block_count moved.between e.anode ≡ blocks_for new
    unfolding file_blocks
    count-between = sym (length-blocks_of moved.between e.anode) ∙ ap length file-between ∙ resized_many

    -- whole before the directory block moves
    sizes_whole : Whole (exists_by q.slots) (disk_size img) (last_reserved img) moved.between (handed (λ x. system_owns img x + held limit (head_in img) s.count s.block e.anode x) 1 moved.z) moved.hd' moved.sd' (λ y. map (resized_entry e.anode new) (entries_in img y)) (is_block_of img) dirs
    sizes_whole = change_file w e.anode (facts.file file) moved.out-good before (resized_entry e.anode new) (λ y. map (resized_entry e.anode new) (entries_in img y)) (is_block_of img)
        (record { keeps = resized_fields e.anode new; other = λ x n. ap (λ (y : Entered). y.size) (resized_other e.anode new x n); there = λ a i q r. (refl, λ b. refl) })
        (λ x i. count-between ∙ sym (ap (λ (y : Entered). blocks_for y.size) (resized_it e.anode new x i)))

    -- and after it has moved
    moved_whole : Whole (exists_by d.r.slots) (disk_size img) (last_reserved img) d.r.anodes (with_these (system_owns img) (c.old ++ c.changing)) own_left.hd' own_left.sd' entries' marked' dirs
    moved_whole = blocks-moved sizes_whole own_left.good moved.next moved.count used was ψ keeps entries' marked' (λ b in_tree a on one. at_block b in_tree a on)
      where
        at_block : (b : Dir) → Member b dirs → (a : ℕ) → 0 < occurrences a (chain_of moved.between.next limit b.head) →
            (entries' (d.r.anodes.block a) ≡ map ψ (map (resized_entry e.anode new) (entries_in img (moved.between.block a)))) × (marked' b (d.r.anodes.block a) ≡ is_block_of img b (moved.between.block a))
        at_block b in_tree a on =
            let r = member-reached image b in_tree in
            let o = not-file r facts file in
            let on' : 0 < occurrences a (chain_of s.next limit b.head) = rw (chain-before b.head (reached_head r) (reached-not-1 r) o) at on in
            rw ((alike_before b.head (reached_head r) (reached-not-1 r) o a on').same_block, ← (alike_after b.head (reached_head r) (reached-not-1 r) o a on').same_block) (there b in_tree a on')

    -- THE DIRECTORIES ARE WHOLE
    pub resized_whole : WholeWith (disk_at img t) t.anodes resized-table.hd' resized-table.sd' entries' marked' (reached_dirs img (anodes_of img))
    resized_whole = disk_whole image resized-table.table (change_free moved_whole resized-table.table.good resized-table.shift)
