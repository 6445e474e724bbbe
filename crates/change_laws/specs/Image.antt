-- From the check's answer to the whole accepted state, and back for an image of a disk that passes 1 to 5: that of the image, or the same with other slots.
use Rattle.std.specs.Prelude.{ℕ, ◌+◌, ◌≤◌, ◌<◌, ◌≡◌, refl, ◌≢◌, Bool, false, ◌&&◌, List, [], ◌∷◌, map, leb, length}
use Rattle.std.proofs.Common.{sym, ◌∙◌}
use Rattle.std.proofs.Math.Path.{ap}
use native.Mathlib.Omega.{arith}
use Rattle.std.proofs.Math.Dec.{eqb}
use borrow.Author.Tests.{leb-true, ne_eqb, eqb-true, eqb-false}
use Rattle.disk.specs.Root.{slot_of}
use Rattle.disk.specs.AnodeBlocks.{anode_header_in}
use Rattle.rules.specs.Counting.{one_at, sum_list, occurrences, gather}
use Rattle.rules.specs.Anodes.{Anodes, limit, exists_by, exists, anodes_of}
use Rattle.rules.specs.Chains.{one_if_head, head_of, cut, system_by, system_owns}
use Rattle.rules.specs.Walk.{Dir, Entered, Item, root, entries_in, is_block_of, items_by, items_of, Walk, fault, done, walk, walk_of, fault_in, dirs_in, reached, reached_dirs, naming}
use Rattle.rules.specs.Accepted.{disk_size, last_reserved, wrong_slots, unnamed, unnamed_chain, check_answer}
use Rattle.rules.specs.Lookup.{no_directory}
use Rattle.rules.specs.Plans.{Slotted}
use Rattle.rules.specs.Table.{with_slot_table, with_table}
use Rattle.counting.specs.Laws.{none-and, any_below-all}
use Rattle.laws.specs.Tests.{not_above}
use Rattle.laws.specs.Bags.{list_mono, map-sum}
use Rattle.laws.specs.Items.{below, named_in, subs-named, headed}
use Rattle.laws.specs.Each.{gather_congr_each}
use Rattle.laws.specs.Apart.{walked_lone, walked_plain}
use Rattle.laws.specs.Trees.{heads_once, tree_one}
use Rattle.laws.specs.Space.{Good, good-same}
use Rattle.laws.specs.Moves.{with_these, SlotsGrew}
use Rattle.laws.specs.Passes.{passes_of}
use Rattle.laws.specs.Whole.{Whole, whole_good, head_counts, counts_head}
use Rattle.laws.specs.Accepted.{Accepted, named_range, whole_of, accepted_of}
use Rattle.laws.specs.Acceptance.{Passed, passed_of, passed-accepted, Tested, passes_tested}
use Rattle.laws.specs.Damage.{Faulted, walk_faulted}
use Rattle.laws.specs.OneOwner.{reading, naming-sum, passes, accepted-one_owner, good}
use Rattle.frames.specs.Kept.{Kept, HeadsKept, kept-all, kept_both, disk_size-kept, wrong_size-kept, short_tables-kept, slot_of-kept, last_reserved-kept, wrong_type-kept, wrong_root-kept, system_owns-kept, anodes_of-kept, wrong_slots-kept}
use Rattle.frames.specs.StoredAnodes.{AnodesStored, root_unheld, with_anodes-stored, anodes_of-with_anodes}
use Rattle.frames.specs.StoredSlots.{SlotsFor, RightDisk, slots_kept, slots_stored, slots_size, slots_last, slots_right, table_kept, grown_slots}
use Rattle.frames.specs.DisjointBlocks.{DataBlock}

-- what the laws ask of anodes t on the disk of img, and of their blocks
abbrev pub GoodOn : List ℕ → Anodes → (ℕ → ℕ) → (ℕ → ℕ) → Type 0
GoodOn img t hd sd = Good limit (exists img) (disk_size img) (last_reserved img) t (system_owns img) hd sd

-- and of directories whose blocks have these entries and marks
abbrev pub WholeWith : List ℕ → Anodes → (ℕ → ℕ) → (ℕ → ℕ) → (ℕ → List Entered) → (Dir → ℕ → Bool) → List Dir → Type 0
WholeWith img t hd sd entries marked dirs = Whole (exists img) (disk_size img) (last_reserved img) t (system_owns img) hd sd entries marked dirs

-- and of the directories of j, an image of that disk
abbrev pub WholeOn : List ℕ → List ℕ → Anodes → (ℕ → ℕ) → (ℕ → ℕ) → List Dir → Type 0
WholeOn img j t hd sd dirs = WholeWith img t hd sd (entries_in j) (is_block_of j) dirs

-- the head of an anode's chain
abbrev pub head_in : List ℕ → ℕ → ℕ
head_in img = head_of limit (anodes_of img).next (anodes_of img).block

-- the head of an anode's side of the free list
abbrev pub side_in : List ℕ → ℕ → ℕ
side_in img = head_of limit (cut (anodes_of img).next) (anodes_of img).block

-- the whole state of an accepted image: its anodes, their heads, and the reached directories
abbrev pub AcceptedWhole : List ℕ → Type 0
AcceptedWhole img = WholeOn img img (anodes_of img) (head_in img) (side_in img) (reached_dirs img (anodes_of img))

-- the anodes and directories of j, an image of the disk of img, pass 6 to 17
abbrev AcceptedOn : List ℕ → List ℕ → List Dir → Type 0
AcceptedOn img j dirs = Accepted (exists img) (disk_size img) (last_reserved img) (anodes_of j) (system_owns img) (entries_in j) (is_block_of j) dirs

-- a walk answers 0 where it is done, and only there
walk-done : (w : Walk) → Faulted w → fault_in w ≡ 0 → w ≡ done (dirs_in w)
walk-done (fault n) p z = absurd (omega (arith, p.0, z))
walk-done (done ds) p z = refl

-- a walk that is done met no twins: it is the walk over the items as they stand
plain_walk : (img : List ℕ) (s : Anodes) (Q : List Dir) → walk_of img s ≡ done Q → walk (items_by (entries_in img) (is_block_of img) s) limit (root ∷ []) [] ≡ done Q
unfolding walk_of items_of
plain_walk img s Q e = walked_plain (items_by (entries_in img) (is_block_of img) s) limit (root ∷ []) [] Q e

-- and what is reached are these
reached_plain : (img : List ℕ) (s : Anodes) → walk_of img s ≡ done (reached_dirs img s) → reached img s ≡ gather (items_by (entries_in img) (is_block_of img) s) (reached_dirs img s)
unfolding reached walk_of items_of
reached_plain img s e =
    gather_congr_each (items_of img s) (items_by (entries_in img) (is_block_of img) s) (reached_dirs img s) (walked_lone (items_by (entries_in img) (is_block_of img) s) limit (root ∷ []) [] (reached_dirs img s) e)

-- how often reached entries name an anode, directory by directory
naming_is : (img : List ℕ) (s : Anodes) (x : ℕ) → walk_of img s ≡ done (reached_dirs img s) → naming img s x ≡ sum_list (named_in (items_by (entries_in img) (is_block_of img) s) x) (reached_dirs img s)
unfolding naming
naming_is img s x e = ap (λ (l : List Item). occurrences x (map (λ i. i.anode) l)) (reached_plain img s e) ∙ naming-sum (items_by (entries_in img) (is_block_of img) s) x (reached_dirs img s)

-- ---- an accepted image

-- the check answers 0, lent tables of these lengths
pub record AcceptedImage (img : List ℕ) : Type 0 where
  pub blocks : ℕ
  pub anodes : ℕ
  pub accepted : check_answer img blocks anodes ≡ 0

-- lent the same tables, the check accepts j too
abbrev pub StillAccepted : {img : List ℕ} → AcceptedImage img → List ℕ → Type 0
StillAccepted a j = check_answer j a.blocks a.anodes ≡ 0

-- tables as long as 2 asks
abbrev pub accepted_own : (img : List ℕ) → check_answer img (disk_size img) limit ≡ 0 → AcceptedImage img
accepted_own img e = record { blocks = disk_size img; anodes = limit; accepted = e }

module _ {img : List ℕ} (a : AcceptedImage img) where
  pub image-passed : Passed img a.blocks a.anodes
  image-passed = passed_of img a.blocks a.anodes a.accepted

  pub accepted_slots : wrong_slots img ≡ false
  accepted_slots = image-passed.slots_right

  pub accepted-walk : walk_of img (anodes_of img) ≡ done (reached_dirs img (anodes_of img))
  unfolding reached_dirs
  accepted-walk = walk-done (walk_of img (anodes_of img)) (walk_faulted img (anodes_of img)) image-passed.walked

  -- the walk over the items as they stand, and what is reached
  pub accepted_plain : walk (items_by (entries_in img) (is_block_of img) (anodes_of img)) limit (root ∷ []) [] ≡ done (reached_dirs img (anodes_of img))
  accepted_plain = plain_walk img (anodes_of img) (reached_dirs img (anodes_of img)) accepted-walk

  pub accepted-reached : reached img (anodes_of img) ≡ gather (items_by (entries_in img) (is_block_of img) (anodes_of img)) (reached_dirs img (anodes_of img))
  accepted-reached = reached_plain img (anodes_of img) accepted-walk

  accepted_state : AcceptedOn img img (reached_dirs img (anodes_of img))
  unfolding walk_of items_of
  accepted_state = record {
    reading = reading img a.blocks a.anodes image-passed;
    passes = passes img a.blocks a.anodes image-passed;
    walked = accepted-walk;
    all_named = λ x l d. omega (
      arith,
      naming_is img (anodes_of img) x accepted-walk,
      (accepted-one_owner img a.blocks a.anodes a.accepted).named_once x (head_counts (good img a.blocks a.anodes image-passed) x d) l,
    );
  }

  -- an accepted image has the whole state
  pub accepted_whole : AcceptedWhole img
  accepted_whole = whole_of accepted_state

  -- it passes 1 to 5
  pub accepted_right : RightDisk img a.blocks a.anodes
  accepted_right =
      let p = image-passed in
      record { size_right = p.size_right; tables_long = p.tables_long; type_right = p.type_right; root_right = p.root_right; slots_right = p.slots_right }

-- ---- the same disk

-- j has the length of img, its root block and the heads of its anode blocks
abbrev pub SameDisk : List ℕ → List ℕ → Type 0
SameDisk img j = HeadsKept (λ d. d ≡ 2) img j

same-stored : {img j : List ℕ} → wrong_slots img ≡ false → AnodesStored img j → SameDisk img j
same-stored {img} right w = record {
  kept = record { length-kept = w.kept.length-kept; block_kept = λ d o. w.kept.block_kept d (rw o (root_unheld img right)) };
  heads_kept = w.heads_kept;
}

-- j is the same disk, with the anodes t
pub record DiskWith (img : List ℕ) (t : Anodes) (j : List ℕ) : Type 0 where
  pub same : SameDisk img j
  pub anodes : anodes_of j ≡ t

pub disk_own : (img : List ℕ) → DiskWith img (anodes_of img) img
disk_own img = record { same = record { kept = kept-all img; heads_kept = λ s u. refl }; anodes = refl }

-- ---- the disk with other slots

-- the disk of img with the slots of t
abbrev pub disk_at : List ℕ → Slotted → List ℕ
disk_at img t = with_slot_table img t.slots

-- t may be stored in img: its slots may stand there, and its anodes are good with them
pub record TableFor (img : List ℕ) (t : Slotted) (hd sd : ℕ → ℕ) : Type 0 where
  pub slots_for : SlotsFor img t.slots
  pub good : Good limit (exists_by t.slots) (disk_size img) (last_reserved img) t.anodes (system_by t.slots) hd sd

-- where slots have grown by the blocks of gs and the anodes are good, the system having those too
pub table-grown : {img : List ℕ} → AcceptedImage img → {t : Slotted} {hd sd : ℕ → ℕ} (gs : List ℕ) → Good limit (exists_by t.slots) (disk_size img) (last_reserved img) t.anodes (with_these (system_owns img) gs) hd sd →
    ((x : ℕ) → system_by t.slots x ≡ system_owns img x + occurrences x gs) → SlotsGrew (disk_size img) (slot_of img) t.slots → TableFor img t hd sd
table-grown {img} a {t} gs g got grew = let good = good-same g got in record { slots_for = grown_slots img t.slots (accepted_slots a) good grew; good = good }

-- a table stored in an accepted image
module _ {img : List ℕ} (a : AcceptedImage img) {t : Slotted} {hd sd : ℕ → ℕ} (p : TableFor img t hd sd) where
  -- the disk with its slots passes 1 to 5
  pub disk_right : RightDisk (disk_at img t) a.blocks a.anodes
  disk_right = slots_right img (accepted_right a) t.slots p.slots_for

  pub disk_long : length (disk_at img t) ≡ length img
  disk_long = (slots_kept img (accepted_right a) t.slots p.slots_for).length-kept

  pub disk_size_lem : disk_size (disk_at img t) ≡ disk_size img
  disk_size_lem = slots_size img (accepted_right a) t.slots p.slots_for

  pub disk-last : last_reserved (disk_at img t) ≡ last_reserved img
  disk-last = slots_last img (accepted_right a) t.slots p.slots_for

  pub disk_slots : slot_of (disk_at img t) ≡ t.slots
  disk_slots = slots_stored img (accepted_right a) t.slots p.slots_for

  -- its anodes are good there
  pub disk-good : GoodOn (disk_at img t) t.anodes hd sd
  disk-good = rw (disk_slots, disk_size_lem, disk-last) p.good

  -- and a whole state of its anodes is one of that disk
  pub disk_whole : {ex : ℕ → Bool} {system hd' sd' : ℕ → ℕ} {entries : ℕ → List Entered} {marked : Dir → ℕ → Bool} {dirs : List Dir} → Whole ex (disk_size img) (last_reserved img) t.anodes system hd' sd' entries marked dirs →
      WholeWith (disk_at img t) t.anodes hd sd entries marked dirs
  disk_whole w = rw (disk_slots, disk_size_lem, disk-last) (whole_good p.good w)

  -- the data blocks of that disk are those of img
  pub stored-kept : Kept (DataBlock (disk_at img t)) img (with_table img t)
  stored-kept =
      let k = table_kept img (accepted_right a) t p.slots_for in
      record { length-kept = k.length-kept; block_kept = λ d o. k.block_kept d (λ e. omega (arith, e, o.above), o.unheld) }

  -- and the image with the table is that disk with its anodes
  pub disk-stored : DiskWith (disk_at img t) t.anodes (with_table img t)
  unfolding with_table
  disk-stored =
      let right = disk_right.slots_right in
      record { same = same-stored right (with_anodes-stored (disk_at img t) right t.anodes); anodes = anodes_of-with_anodes (disk_at img t) right t.anodes (passes_of disk-good).0 }

-- what is no data block is not one of some data blocks
pub not-one : {img : List ℕ} {b : ℕ} → DataBlock img b → (y : ℕ) → (DataBlock img y → ⊥) → y ≢ b
not-one d y n e = n (rw e d)

pub not_among : {img : List ℕ} (ys : List ℕ) → ((y : ℕ) → 0 < occurrences y ys → DataBlock img y) → (y : ℕ) → (DataBlock img y → ⊥) → occurrences y ys ≡ 0
not_among ys d y n = not_above (occurrences y ys) (λ p. n (d y p))

-- stores that keep all but data blocks
module _ {img i j : List ℕ} {t : Anodes} {on : ℕ → Type 0} (d : DiskWith img t i) (k : Kept on i j) (others : (y : ℕ) → (DataBlock img y → ⊥) → on y) where
  root_on : on 2
  root_on = others 2 (λ b. omega (arith, b.above))

  slot_on : (s : ℕ) → slot_of img s ≢ 0 → on (slot_of img s)
  slot_on s u = others (slot_of img s) (λ b. b.unheld s u refl)

  pub disk_then : DiskWith img t j
  disk_then = record {
    same = record {
      kept = kept_both (λ b o. o) (λ b o. rw o root_on) d.same.kept k;
      heads_kept = λ s u. ap anode_header_in (k.block_kept (slot_of img s) (slot_on s u)) ∙ d.same.heads_kept s u;
    };
    anodes = anodes_of-kept k root_on (λ s u. let e = slot_of-kept d.same.kept refl s in rw e (slot_on s (λ z. u (e ∙ z)))) ∙ d.anodes;
  }

-- ---- back to the check's answer

module _ {img j : List ℕ} {t : Anodes} (d : DiskWith img t j) {hd sd : ℕ → ℕ} {dirs : List Dir} (left : WholeOn img j t hd sd dirs) where
  w : WholeOn img j (anodes_of j) hd sd dirs
  w = rw d.anodes left

  found : (Q : List Dir) × AcceptedOn img j Q
  found = accepted_of w

  walk-found : walk_of j (anodes_of j) ≡ done found.0
  unfolding walk_of items_of
  walk-found = found.1.walked

  reached_are : reached_dirs j (anodes_of j) ≡ found.0
  unfolding reached_dirs
  reached_are = ap dirs_in walk-found

  pub reached-sum : (f : Dir → ℕ) → sum_list f (reached_dirs j (anodes_of j)) ≡ sum_list f dirs
  reached-sum f = rw reached_are (tree_one (items_by (entries_in j) (is_block_of j) (anodes_of j)) root found.0 dirs (whole_of found.1).tree w.tree f)

  none-unnamed : (x : ℕ) → x < limit → unnamed_chain j (anodes_of j) x ≡ false
  unfolding unnamed_chain unnamed
  none-unnamed x l =
      none-and (leb 6 x) (eqb (one_if_head limit (anodes_of j).next (anodes_of j).block x) 1 && eqb (naming j (anodes_of j) x) 0) (λ p.
      none-and (eqb (one_if_head limit (anodes_of j).next (anodes_of j).block x) 1) (eqb (naming j (anodes_of j) x) 0) (λ q.
      ne_eqb (naming j (anodes_of j) x) 0 (λ z. omega (
        arith,
        z,
        naming_is j (anodes_of j) x (rw reached_are walk-found),
        ap (sum_list (named_in (items_by (entries_in j) (is_block_of j) (anodes_of j)) x)) reached_are,
        found.1.all_named x (leb-true 6 x p) (counts_head w.good x (eqb-true _ _ q)),
      ))))

  tested : Tested (anodes_of j) (disk_size img) (last_reserved img) (system_owns img)
  tested =
      let r = found.1.reading in
      passes_tested (anodes_of j) (disk_size img) (last_reserved img) (system_owns img) (λ a z. (r.present.free-none a z, r.view.free-end a z)) found.1.passes

  -- an image with a whole state, of a disk that passes 1 to 5, is accepted
  pub whole_accepted : {blocks anodes : ℕ} → RightDisk img blocks anodes → check_answer j blocks anodes ≡ 0
  whole_accepted {blocks} {anodes} r =
      let k = d.same.kept in
      passed-accepted j blocks anodes (record {
        size_right = wrong_size-kept k ∙ r.size_right;
        tables_long = short_tables-kept k blocks anodes ∙ r.tables_long;
        type_right = wrong_type-kept k refl ∙ r.type_right;
        root_right = wrong_root-kept k refl ∙ r.root_right;
        slots_right = wrong_slots-kept d.same refl ∙ r.slots_right;
        tested = rw (disk_size-kept k, last_reserved-kept k refl, system_owns-kept k refl) tested;
        walked = ap fault_in walk-found;
        all_named = any_below-all (unnamed_chain j (anodes_of j)) limit none-unnamed;
      })

-- ---- reached directories

module _ {ex : ℕ → Bool} {n last : ℕ} {s : Anodes} {system hd sd : ℕ → ℕ} {entries : ℕ → List Entered} {marked : Dir → ℕ → Bool} {dirs : List Dir}
    (w : Whole ex n last s system hd sd entries marked dirs) (h : ℕ) where
  -- a directory of an accepted state is the root's or named
  pub headed-named : headed h dirs ≤ one_at 5 h + sum_list (named_in (items_by entries marked s) h) dirs
  headed-named =
      let items = items_by entries marked s in
      omega (arith, w.tree.exact (λ d. one_at d.head h), list_mono (below items (λ d. one_at d.head h)) (named_in items h) dirs (subs-named items h))

  -- no two of them have one head
  headed_once : headed h dirs ≤ 1
  headed_once = heads_once (items_by entries marked s) root limit (omega arith) (named_range w.good entries marked) dirs w.tree.exact w.tree.faultless w.tree.once h

module _ (img : List ℕ) (s : Anodes) (h : ℕ) where
  headed-occurrences : occurrences h (map (λ d. d.head) (reached_dirs img s)) ≡ headed h (reached_dirs img s)
  unfolding occurrences
  headed-occurrences = map-sum (λ d. d.head) (λ y. one_at y h) (reached_dirs img s)

  pub headed-reached : 0 < headed h (reached_dirs img s) → no_directory img s h ≡ false
  unfolding no_directory
  headed-reached p = ne_eqb (occurrences h (map (λ d. d.head) (reached_dirs img s))) 0 (λ z. omega (arith, p, z, headed-occurrences))

  pub reached_some : no_directory img s h ≡ false → 0 < headed h (reached_dirs img s)
  unfolding no_directory
  reached_some n = omega (arith, headed-occurrences, eqb-false (occurrences h (map (λ d. d.head) (reached_dirs img s))) 0 n)

-- as many with one head in both images
pub headed-same : (img j : List ℕ) (s t : Anodes) (h : ℕ) → headed h (reached_dirs j t) ≡ headed h (reached_dirs img s) → no_directory j t h ≡ no_directory img s h
unfolding no_directory
headed-same img j s t h e = ap (λ (n : ℕ). eqb n 0) (headed-occurrences j t h ∙ e ∙ sym (headed-occurrences img s h))

-- h heads a reached directory of an accepted image
pub record ReachedDir (img : List ℕ) (h : ℕ) : Type 0 where
  pub image : AcceptedImage img
  pub reached : no_directory img (anodes_of img) h ≡ false

pub reached-headed : {img : List ℕ} {h : ℕ} → ReachedDir img h → headed h (reached_dirs img (anodes_of img)) ≡ 1
reached-headed {img} {h} r = omega (arith, headed_once (accepted_whole r.image) h, reached_some img (anodes_of img) h r.reached)
