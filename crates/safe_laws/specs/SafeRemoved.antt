-- The table that a safe remove leaves: the entry's chain is gone, its directory's block has a new place, and of all else only the free list is touched.
use Rattle.std.specs.Prelude.{ℕ, ◌+◌, ◌/◌, ◌≡◌, ◌≢◌}
use Rattle.std.proofs.Common.{sym, ap, ◌∙◌, inl, inr, arith}
use mathlib.Core.List.{List, [], ◌∷◌, ◌++◌}
use Rattle.rules.specs.Counting.{one_at, occurrences}
use Rattle.rules.specs.Anodes.{Anodes, limit, anodes_of, exists}
use Rattle.rules.specs.Chains.{system_owns, blocks_of}
use Rattle.rules.specs.Walk.{Entered}
use Rattle.rules.specs.Accepted.{disk_size, last_reserved}
use Rattle.rules.specs.Plans.{Slotted, table_of, planned, ◌and_then◌}
use Rattle.rules.specs.Space.{on_chain, dropped}
use Rattle.laws.specs.Tests.{less?}
use Rattle.laws.specs.Sums.{one_at_cases}
use Rattle.laws.specs.Bags.{occurrences-nil, occurrences-cons, occurrences-append}
use Rattle.laws.specs.LinkChanges.{without}
use Rattle.laws.specs.Held.{held}
use Rattle.laws.specs.Space.{Alike, Good, good-same}
use Rattle.laws.specs.Plans.{planned_same}
use Rattle.laws.specs.Moves.{Shift}
use Rattle.laws.specs.ChainGone.{Gone}
use Rattle.change_laws.specs.Image.{AcceptedWhole, AcceptedImage, accepted_whole, head_in, side_in}
use Rattle.change_laws.specs.Reached.{EntryIn, EntryFacts, entry-facts, entry_data, block_data}
use Rattle.safe_rules.specs.SafePlans.{relocated, all_relocated, chain_zeroed, remove_change, safe_steps}
use Rattle.safe_laws.specs.Cleared.{cleared-good, cleared-gone, cleared_stays, cleared_alike}
use Rattle.safe_laws.specs.OwnChanges.{home-left, remove_own, chain_holds}
use Rattle.safe_laws.specs.Relocated.{one-relocated, BlockMoved, block_moved}
use Rattle.safe_laws.specs.Limbo.{LeavesGood}
use Rattle.safe_laws.specs.LeftTable.{DoneSteps, LeftTable, done_steps, left-table}

module _ {img : List ℕ} {k : ℕ} {e : Entered} (m : EntryIn img k e) where
  abbrev s : Anodes
  s = anodes_of img

  abbrev image : AcceptedImage img
  image = m.directory.image

  w : AcceptedWhole img
  w = accepted_whole image

  abbrev facts : EntryFacts img k e
  facts = entry-facts m

  -- ---- first its chain is zeroed

  -- the anodes then, and what they are headed by
  abbrev pub zeroed : Anodes
  zeroed = dropped limit (anodes_of img) e.anode

  -- the heads of the chains then
  abbrev pub hd_zeroed : ℕ → ℕ
  hd_zeroed = without (on_chain limit (anodes_of img) e.anode) (head_in img)

  -- and of the sides of the free list
  abbrev pub sd_zeroed : ℕ → ℕ
  sd_zeroed = without (on_chain limit (anodes_of img) e.anode) (side_in img)

  -- the blocks of its chain beside the system's
  abbrev pub limbo : ℕ → ℕ
  limbo x = system_owns img x + held limit (head_in img) (anodes_of img).count (anodes_of img).block e.anode x

  -- that state is good
  pub zeroed-good : Good limit (exists img) (disk_size img) (last_reserved img) zeroed limbo hd_zeroed sd_zeroed
  zeroed-good = cleared-good w.good e.anode facts.from_6 facts.head

  -- and the chain is gone
  pub zeroed-gone : Gone (anodes_of img) (head_in img) zeroed e.anode
  zeroed-gone = cleared-gone w.good e.anode facts.from_6 facts.head

  -- the anode of the entry's directory is left alone
  pub home_alike : Alike (anodes_of img) zeroed (entry-facts m).a₀
  home_alike = let (u, one, other) = home-left m in cleared_alike w.good e.anode facts.from_6 facts.head facts.a₀ other

  -- it is not on the free list
  pub home_away : hd_zeroed (entry-facts m).a₀ ≢ 1
  home_away z = let (u, one, other) = home-left m in one (sym (cleared_stays w.good e.anode facts.from_6 facts.head (head_in img) facts.a₀ other) ∙ z)

  -- it has the block of the entry
  pub home_block : zeroed.block (entry-facts m).a₀ ≡ e.start / 512
  home_block = home_alike.same_block ∙ sym facts.in_block_lem

  -- and that block alone
  pub home-one : zeroed.count (entry-facts m).a₀ ≡ 1
  home-one = home_alike.same_count ∙ facts.block_facts.one

  -- ---- then the block of the entry has a new place

  -- the state behind the zeroing
  abbrev q : Slotted
  q = chain_zeroed (table_of img) e.anode

  module _ (r : Slotted) (xs : List ℕ) (first : (remove_change img (table_of img) e).steps and_then all_relocated (remove_change img (table_of img) e).changing ≡ planned r xs) where
    -- the own steps zero the chain and move the block
    both_steps : planned q [] and_then all_relocated (e.start / 512 ∷ []) ≡ planned r xs
    unfolding remove_change
    both_steps = first

    -- so the move takes the blocks that they take
    block_steps : relocated (e.start / 512) q ≡ planned r xs
    block_steps =
        let (u, us, vs, f, g, i) = one-relocated (planned q []) (e.start / 512) r xs both_steps in
        let (same, none) = planned_same q u [] us f in
        ap (relocated (e.start / 512)) same ∙ g ∙ ap (planned r) (sym (i ∙ ap (λ (l : List ℕ). l ++ vs) none))

    -- so the block has a new place
    home-moved : BlockMoved (disk_size img) (last_reserved img) (chain_zeroed (table_of img) e.anode) limbo hd_zeroed (entry-facts m).a₀ r xs
    home-moved = block_moved q limbo hd_zeroed sd_zeroed zeroed-good facts.a₀ home-one home_away r xs (ap (λ (y : ℕ). relocated y q) home_block ∙ block_steps)

  -- the old blocks are those of the chain and that block
  old_are : (x : ℕ) → occurrences x ((remove_change img (table_of img) e).old ++ (remove_change img (table_of img) e).changing) ≡ occurrences x (blocks_of s e.anode) + one_at (e.start / 512) x
  unfolding remove_change
  old_are x = omega (arith, occurrences-append x (blocks_of s e.anode) (e.start / 512 ∷ []), occurrences-cons x (e.start / 512) [], occurrences-nil x)

  -- WHAT THE OWN STEPS LEAVE
  pub remove_leaves : LeavesGood img (remove_change img (table_of img) e)
  remove_leaves r xs first =
      let moved = home-moved r xs first in
      record {
        hd' = moved.hd';
        sd' = moved.sd';
        good = good-same moved.good (λ x. omega (arith, old_are x, chain_holds m x, occurrences-cons x (zeroed.block facts.a₀) [], occurrences-nil x, ap (λ (y : ℕ). one_at y x) home_block));
        inside = λ x p. elim (less? 0 (occurrences x (blocks_of s e.anode))) [
          | inl l ↦ (entry_data m x l).below
          | inr l ↦ elim (one_at_cases (e.start / 512) x) [ inl i ↦ omega (arith, i.0, (block_data facts).below) | inr i ↦ absurd (omega (arith, p, l, i.1, old_are x)) ]
        ];
      }

  -- ---- and the rest follows

  module _ (t : Slotted) (ys : List ℕ) (plan : safe_steps img (remove_change img (table_of img) e) ≡ planned t ys) where
    -- the steps of the plan
    pub d : DoneSteps img (remove_change img (table_of img) e) t ys
    d = done_steps image (remove_own m) t ys plan

    -- the first of them move the block
    pub moved : BlockMoved (disk_size img) (last_reserved img) (chain_zeroed (table_of img) e.anode) limbo hd_zeroed (entry-facts m).a₀ d.r d.xs
    moved = home-moved d.r d.xs d.first

    -- THE TABLE THAT IS LEFT
    pub removed-table : LeftTable img d.r (remove_leaves d.r d.xs d.first).hd' t
    removed-table = left-table image (remove_own m) t ys plan d (remove_leaves d.r d.xs d.first)

    -- since the block has moved only the free list is touched
    pub removed_shift : Shift d.r.anodes moved.hd' t.anodes removed-table.hd' 1 1
    unfolding remove_leaves moved
    removed_shift = removed-table.shift
