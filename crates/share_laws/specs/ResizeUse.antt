-- What a resize makes of the blocks that are used in the directories of an accepted image.
use Rattle.std.specs.Prelude.{ℕ, ◌+◌, ◌-◌, ◌*◌, ◌≤◌, ◌≡◌, refl, Bool, true, false, List, ◌∷◌}
use Rattle.std.proofs.Common.{sym, ◌∙◌, inl, inr}
use Rattle.std.proofs.Math.Path.{ap}
use Rattle.std.proofs.Math.Bool.{cond}
use native.Mathlib.Omega.{arith}
use Rattle.rules.specs.Counting.{one_at, sum_list}
use Rattle.rules.specs.Anodes.{Anodes, anodes_of}
use Rattle.rules.specs.Chains.{block_count}
use Rattle.rules.specs.Walk.{Dir, Entered, blocks_for}
use Rattle.rules.specs.Lookup.{entries_of}
use Rattle.rules.specs.Plans.{Slotted}
use Rattle.rules.specs.Changes.{resized_image}
use Rattle.laws.specs.Tests.{same?}
use Rattle.laws.specs.Sums.{one_at_cases, one_at-same}
use Rattle.laws.specs.Bags.{list_add, list_append, list_cons, list_mono, list_scale}
use Rattle.laws.specs.Whole.{blocks-count}
use Rattle.laws.specs.Members.{Member, member-sum, member_congr}
use Rattle.frames.specs.Kept.{disk_size-kept}
use Rattle.change_laws.specs.Image.{AcceptedImage, disk_right, disk_size_lem, whole_accepted, reached-sum, ReachedDir, reached-headed}
use Rattle.change_laws.specs.Reached.{EntryIn, entry-facts, entry-not-1, member-reached}
use Rattle.change_laws.specs.NewSize.{sized}
use Rattle.change_laws.specs.PlannedChange.{image, facts}
use Rattle.change_laws.specs.ResizeStores.{PlannedResize, steps, table, others_left, dir_same, resized-disk, resized-sum}
use Rattle.change_laws.specs.Resize.{still_whole}
use Rattle.change_laws.specs.ResizeEntries.{resized-reached, entries_resized_other, entries_resized}
use Rattle.share_rules.specs.Shares.{lies_in, blocks_at, used_in}
use Rattle.share_laws.specs.Parents.{parent-sum, reached_once}
use Rattle.share_laws.specs.KeptWays.{IsReached, walked_dirs, SameParents, lies_kept, lying_changed}
use Rattle.share_laws.specs.ChangedUse.{ChangedUse, chain-count, names-its}

module _ {img : List ℕ} {e : Entered} {new : ℕ} {u : Slotted} {ys : List ℕ} (p : PlannedResize img e new u ys) where
  abbrev s : Anodes
  s = anodes_of img

  abbrev t : Anodes
  t = u.anodes

  abbrev j : List ℕ
  j = resized_image img s e new u ys

  -- the blocks that the file had, and those that it has
  abbrev old : ℕ
  old = block_count s e.anode

  abbrev now : ℕ
  now = blocks_for new

  left-image : AcceptedImage j
  left-image = record { blocks = (image p).blocks; anodes = (image p).anodes; accepted = whole_accepted (resized-disk p) (still_whole p) (disk_right (image p) (table p)) }

  -- ---- the directories

  same-reached : (x : ℕ) → IsReached img x → IsReached j x
  same-reached x r = rw (resized-disk p).anodes (resized-reached p x ∙ r)

  sums_same : (f : Dir → ℕ) → sum_list f (walked_dirs j) ≡ sum_list f (walked_dirs img)
  sums_same f = reached-sum (resized-disk p) (still_whole p) f

  same_parents : SameParents img j
  same_parents x a b =
      parent-sum x (walked_dirs j) (reached_once left-image x) ∙ sums_same (λ d. one_at d.head x * d.parent) ∙ sym (parent-sum x (walked_dirs img) (reached_once (image p) x))

  -- ---- the entries

  home_entries : (F : Bool → ℕ → ℕ) → Member e (entries_of img s p.home) → sum_list (λ c. F c.dir c.anode) (entries_of j t p.home) ≡ sum_list (λ c. F c.dir c.anode) (entries_of img s p.home)
  home_entries F (before, behind, parted) =
      let f : Entered → ℕ = λ c. F c.dir c.anode in
      omega (
        arith,
        ap (sum_list f) (entries_resized p before behind parted),
        list_append f before (sized new e ∷ behind),
        list_cons f (sized new e) behind,
        ap (sum_list f) parted,
        list_append f before (e ∷ behind),
        list_cons f e behind,
      )

  same_entries : (F : Bool → ℕ → ℕ) (x : ℕ) → IsReached img x → sum_list (λ c. F c.dir c.anode) (entries_of j t x) ≡ sum_list (λ c. F c.dir c.anode) (entries_of img s x)
  same_entries F x r = elim (same? x p.home) [
    | inl i ↦ rw i (home_entries F p.entry.member)
    | inr i ↦ ap (sum_list (λ c. F c.dir c.anode)) (entries_resized_other p (record { image = image p; reached = r }) i)
  ]

  its-count : block_count t e.anode ≡ now
  its-count = sym (blocks-count (table p).good e.anode ((steps p).moves.shift.stays e.anode (facts p).head)) ∙ (steps p).has

  -- 1 where a file's entry names the chain
  abbrev its : Entered → ℕ
  its c = cond c.dir 0 (one_at c.anode e.anode)

  one_entry : (x : ℕ) (c : Entered) → EntryIn img x c → cond c.dir 0 (block_count t c.anode) + its c * old ≡ cond c.dir 0 (block_count s c.anode) + its c * now
  one_entry x c m = go c.dir
    where
      go : (b : Bool) → cond b 0 (block_count t c.anode) + cond b 0 (one_at c.anode e.anode) * old ≡ cond b 0 (block_count s c.anode) + cond b 0 (one_at c.anode e.anode) * now
      go true = omega arith
      go false = elim (one_at_cases c.anode e.anode) [
        | inl q ↦ rw q.1 (omega (arith, ap (block_count t) q.0, ap (block_count s) q.0, its-count))
        | inr q ↦ (let f = entry-facts m in rw q.1 (omega (arith, chain-count ((others_left p).same_chains c.anode f.head (entry-not-1 f) q.0))))
      ]

  -- once in its own directory
  its_once : (x : ℕ) → IsReached img x → sum_list its (entries_of img s x) ≡ one_at x p.home
  its_once x r =
      let few = list_mono its (λ c. one_at c.anode e.anode) (entries_of img s x) (λ c. le c.dir (one_at c.anode e.anode)) in
      elim (one_at_cases x p.home) [
        | inl q ↦ omega (
          arith,
          few,
          names-its (image p) p.entry x r,
          q.1,
          ap (λ (h : ℕ). sum_list its (entries_of img s h)) q.0,
          member-sum its e (entries_of img s p.home) p.entry.member,
          ap (λ (b : Bool). cond b 0 (one_at e.anode e.anode)) p.plan.file,
          one_at-same e.anode e.anode refl,
        )
        | inr q ↦ omega (arith, few, names-its (image p) p.entry x r, q.1)
      ]
    where
      le : (b : Bool) (k : ℕ) → cond b 0 k ≤ k
      le true k = omega arith
      le false k = omega arith

  -- ---- the blocks of a directory and of its files

  changed-at : (x : ℕ) → IsReached img x → blocks_at j t x + one_at x p.home * old ≡ blocks_at img s x + one_at x p.home * now
  unfolding blocks_at
  changed-at x r =
      let there : ReachedDir img x = record { image = image p; reached = r } in
      let l = entries_of img s x in
      omega (
        arith,
        chain-count (dir_same p there),
        same_entries (λ b a. cond b 0 (block_count t a)) x r,
        member_congr (λ c. cond c.dir 0 (block_count t c.anode) + its c * old) (λ c. cond c.dir 0 (block_count s c.anode) + its c * now) l (λ c m. one_entry x c (record { directory = there; member = m })),
        list_add (λ (c : Entered). cond c.dir 0 (block_count t c.anode)) (λ c. its c * old) l,
        list_add (λ (c : Entered). cond c.dir 0 (block_count s c.anode)) (λ c. its c * now) l,
        list_scale its old l,
        list_scale its now l,
        ap (λ (k : ℕ). k * old) (its_once x r),
        ap (λ (k : ℕ). k * now) (its_once x r),
      )

  changed_used : (top : ℕ) → used_in j (anodes_of j) top + cond (lies_in (walked_dirs img) top p.home) old 0 ≡ used_in img s top + cond (lies_in (walked_dirs img) top p.home) now 0
  unfolding used_in
  changed_used top =
      let D = walked_dirs img in
      let reach : (d : Dir) → Member d D → IsReached img d.head = λ d m. (member-reached (image p) d m).reached in
      ap (λ (k : ℕ). k + cond (lies_in D top p.home) old 0) (sums_same (λ d. cond (lies_in (walked_dirs j) top d.head) (blocks_at j (anodes_of j) d.head) 0))
      ∙ lying_changed D p.home old now (lies_in D top) (lies_in (walked_dirs j) top) (blocks_at img s) (blocks_at j (anodes_of j)) (reached-headed p.entry.directory)
      (λ d m. lies_kept (image p) left-image same_parents top d.head (reach d m) (same-reached d.head (reach d m)))
      (λ d m. rw (resized-disk p).anodes (changed-at d.head (reach d m)))

  -- the difference counts
  pub resize_use : ChangedUse img (resized_image img (anodes_of img) e new u ys) p.home (blocks_for new - block_count (anodes_of img) e.anode) (block_count (anodes_of img) e.anode - blocks_for new)
  resize_use = record {
    image' = left-image;
    same_size = disk_size-kept (resized-disk p).same.kept ∙ disk_size_lem (image p) (table p);
    parents = same_parents;
    used = λ top a b. less (lies_in (walked_dirs img) top p.home) (used_in j (anodes_of j) top) (used_in img s top) (changed_used top);
    paid = omega (arith, resized-sum p);
  }
    where
      less : (b : Bool) (x y : ℕ) → x + cond b old 0 ≡ y + cond b now 0 → x + cond b (old - now) 0 ≡ y + cond b (now - old) 0
      less true x y q = omega arith
      less false x y q = q
