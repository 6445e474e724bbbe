-- The image that a removal in place leaves holds the new tree too: its directory block stays where it is, with the gap closed.
use Rattle.std.specs.Prelude.{ℕ, ◌/◌, ◌≡◌, true, List, []}
use Rattle.std.proofs.Common.{sym, ap, ◌∙◌}
use Rattle.std.proofs.Math.Option.{some}
use Rattle.rules.specs.Anodes.{Anodes, anodes_of}
use Rattle.rules.specs.Walk.{Entered}
use Rattle.rules.specs.Lookup.{entries_of, entry_named, contents}
use Rattle.rules.specs.Plans.{Slotted}
use Rattle.rules.specs.Changes.{removed_image}
use Rattle.change_laws.specs.Reached.{block_on, reached_head, reached-not-1, dir_block}
use Rattle.change_laws.specs.PlannedChange.{facts, off_anode}
use Rattle.change_laws.specs.RemoveStores.{PlannedRemove, others_same, other_data, removed-disk, kept_data, block_left}
use Rattle.change_laws.specs.RemoveEffects.{contents-kept}
use Rattle.safe_rules.specs.SafeCalls.{safe_remove}
use Rattle.safe_laws.specs.Claims.{NewTree}
use Rattle.safe_laws.specs.RelocatedEntries.{chain_stays}
use Rattle.safe_laws.specs.RemovedTree.{EntryClosed, closed_tree}

module _ {img : List ℕ} {e : Entered} {u : Slotted} {ys : List ℕ} (p : PlannedRemove img e u ys) where
  abbrev s : Anodes
  s = anodes_of img

  -- the gap is closed in the old place, and nothing else is changed
  in_place_closed : EntryClosed img (removed_image img e u) u.anodes p.entry (e.start / 512)
  in_place_closed = record {
    anodes = (removed-disk p).anodes;
    chains = λ k r o. chain_stays (others_same p k (reached_head r) (reached-not-1 r) o) (facts p).a₀ (e.start / 512) (sym (facts p).in_block_lem);
    blocks-kept = λ k r o a on n. let one = (dir_block r a on).one in
        (kept_data p).block_kept (s.block a) (other_data p k (reached_head r) (reached-not-1 r) o (s.block a) (block_on s k a on one), off_anode p a one n);
    block_now = block_left p;
    files = λ k x n file o. ap (λ (c : Anodes). contents (removed_image img e u) c x) (sym (removed-disk p).anodes) ∙ contents-kept p n file o;
  }

  -- THE NEW TREE OF A REMOVAL IN PLACE
  pub in_place_tree : (e.dir ≡ true → entries_of img (anodes_of img) e.anode ≡ []) → (name : List ℕ) → entry_named img (anodes_of img) p.home name ≡ some e → NewTree img (safe_remove p.home name) (removed_image img e u)
  in_place_tree empty name found = closed_tree in_place_closed empty name found
