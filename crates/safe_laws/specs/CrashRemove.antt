-- THE CRASH THEOREM of a safe remove, whole.
use Rattle.std.specs.Prelude.{ℕ, ◌≡◌, refl, true, false, List, [], ◌∷◌, length}
use Rattle.std.proofs.Common.{sym, subst, ◌∙◌, true≢false}
use Rattle.std.proofs.Math.Option.{Option, some}
use Rattle.rules.specs.Anodes.{Anodes, anodes_of}
use Rattle.rules.specs.Walk.{Entered}
use Rattle.rules.specs.Accepted.{check_answer}
use Rattle.rules.specs.Lookup.{no_directory, entries_of, entry_named, of_entry, nth, is_there, not_empty, not_empty_dir}
use Rattle.rules.specs.Plans.{Slotted, table_of, planned}
use Rattle.rules.specs.Calls.{remove_refusal}
use Rattle.laws.specs.Space.{on_chain_lem}
use Rattle.change_laws.specs.Answers.{removable_found}
use Rattle.change_laws.specs.Image.{AcceptedImage, accepted_whole}
use Rattle.change_laws.specs.KeptChains.{block_same, contents-same}
use Rattle.change_laws.specs.Reached.{EntryIn, entry-facts, entry-not-1, reached_head, reached-not-1, not-file}
use Rattle.paths.specs.Reached.{found_in}
use Rattle.safe_rules.specs.SafePlans.{remove_change, safe_steps}
use Rattle.safe_rules.specs.SafeWrites.{new_image}
use Rattle.safe_rules.specs.SafeCalls.{safe_remove, safe_refusal, missing_entry, safe_change, safe_outcome}
use Rattle.safe_laws.specs.Claims.{CrashSafe}
use Rattle.safe_laws.specs.Theorems.{search-passed}
use Rattle.safe_laws.specs.CrashTheorem.{LeftRight, passed, crash_but_left}
use Rattle.safe_laws.specs.RelocatedEntries.{chain_unmoved}
use Rattle.safe_laws.specs.RemovedImage.{new_place, left-chain, removed-disk, removed_block, removed-kept}
use Rattle.safe_laws.specs.RemovedSound.{removed_sound}
use Rattle.safe_laws.specs.RemovedTree.{EntryClosed, closed_tree}

-- a directory that may go has no entry
pub none_below : (img : List ℕ) (s : Anodes) (e : Entered) → not_empty_dir img s (some e) ≡ false → e.dir ≡ true → entries_of img s e.anode ≡ []
unfolding not_empty nth
none_below img s e may dir = go (entries_of img s e.anode) (rw dir at may)
  where
    go : (l : List Entered) → is_there (nth l 0) ≡ false → l ≡ []
    go [] q = refl
    go (x ∷ l) q = absurd (true≢false q)

-- the image that a safe remove leaves has the gap closed in the new place of the block, and nothing else changed
removed-closed : {img : List ℕ} {k : ℕ} {e : Entered} (m : EntryIn img k e) (t : Slotted) (ys : List ℕ) (plan : safe_steps img (remove_change img (table_of img) e) ≡ planned t ys) →
    EntryClosed img (new_image img (remove_change img (table_of img) e) t ys) t.anodes m (new_place m t ys plan)
removed-closed {img} {k} {e} m t ys plan = record {
  anodes = (removed-disk m t ys plan).anodes;
  chains = λ h r o. left-chain m t ys plan h (reached_head r) (reached-not-1 r) o;
  blocks-kept = λ h r o a on n. block_same r (new_image img (remove_change img (table_of img) e) t ys) (removed-kept m t ys plan h (reached_head r) (reached-not-1 r)) a on;
  block_now = removed_block m t ys plan;
  files = λ h x n file o. let f = entry-facts n in
      contents-same img (new_image img (remove_change img (table_of img) e) t ys) x
      (chain_unmoved (left-chain m t ys plan x.anode f.head (entry-not-1 f) o)
      (λ p. not-file m.directory f file (sym (entry-facts m).block_facts.on_chain_lem ∙ (on_chain_lem (accepted_whole m.directory.image).good x.anode f.head (entry-facts m).a₀ p).0)))
      (removed-kept m t ys plan x.anode f.head (entry-not-1 f));
}

-- the image that its plan leaves is sound, with the new tree
remove_right : {img : List ℕ} → AcceptedImage img → (h : ℕ) (name : List ℕ) → safe_refusal img (safe_remove h name) ≡ 0 → LeftRight img (safe_remove h name) (safe_change img (safe_remove h name))
unfolding remove_refusal
remove_right {img} image h name z =
    let (reached, (e, named)) = search-passed (no_directory img (anodes_of img) h) (entry_named img (anodes_of img) h name) _ z in
    let (there, may) = removable_found img (anodes_of img) h name e named z in
    let m = found_in (record { image = image; reached = reached }) name e named in
    let empty = none_below img (anodes_of img) e may in
    subst (λ (o : Option Entered). LeftRight img (safe_remove h name) (of_entry o (λ x. remove_change img (table_of img) x) missing_entry)) (sym named)
    (λ t ys plan. (removed_sound m t ys plan empty, closed_tree (removed-closed m t ys plan) empty name named))

-- THE CRASH THEOREM OF A SAFE REMOVE
pub crash_remove : (img blocks anodes buffer : List ℕ) (h : ℕ) (name : List ℕ) → check_answer img (length blocks) (length anodes) ≡ 0 →
    (safe_outcome img blocks anodes buffer (safe_remove h name)).answer ≡ 0 → CrashSafe img (safe_remove h name) (safe_outcome img blocks anodes buffer (safe_remove h name))
crash_remove img blocks anodes buffer h name ok done =
    let call = safe_remove h name in
    crash_but_left img blocks anodes buffer call ok done
    (remove_right (record { blocks = length blocks; anodes = length anodes; accepted = ok }) h name (passed img blocks anodes buffer call ok done))
