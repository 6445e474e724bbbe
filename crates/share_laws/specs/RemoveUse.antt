-- What a removal makes of the blocks that are used in the directories of an accepted image.
use Rattle.std.specs.Prelude.{ℕ, ◌+◌, ◌*◌, ◌/◌, ◌%◌, ◌<◌, ◌≡◌, ◌≢◌, Bool, List, ◌∷◌, map, eqb, get_or}
use Rattle.std.proofs.Math.Path.{refl, ap}
use Rattle.std.proofs.Common.{sym, ◌∙◌, true≢false, eq-eqb, ne_eqb}
use Rattle.std.proofs.Math.Logic.{inl, inr}
use Rattle.std.proofs.Math.Bool.{true, false, cond}
use native.Mathlib.Omega.{arith}
use Rattle.disk.specs.Blocks.{block_of}
use Rattle.rules.specs.Counting.{one_at, sum_list}
use Rattle.rules.specs.Anodes.{Anodes, limit, anodes_of}
use Rattle.rules.specs.Chains.{block_count}
use Rattle.rules.specs.Walk.{Dir, Entered}
use Rattle.rules.specs.Lookup.{no_directory, entries_of, not_empty}
use Rattle.rules.specs.Plans.{Slotted}
use Rattle.rules.specs.Changes.{parent_of, removed_image}
use Rattle.laws.specs.Tests.{same?, not_above}
use Rattle.laws.specs.Sums.{one_at_cases, one_at-same, one_at_some, sum_congr}
use Rattle.laws.specs.Bags.{list_nil, list_append, list_cons, list_congr, list_some, map-sum}
use Rattle.laws.specs.Items.{headed}
use Rattle.laws.specs.Members.{Member, member-sum, member_congr}
use Rattle.frames.specs.Kept.{disk_size-kept}
use Rattle.change_laws.specs.Image.{AcceptedImage, disk_size_lem, reached-sum, headed-reached, ReachedDir, reached-headed}
use Rattle.change_laws.specs.Reached.{EntryIn, entry-facts, entry-not-1, member-reached, reached_head, reached-not-1, not-file}
use Rattle.change_laws.specs.PlannedChange.{image, facts}
use Rattle.change_laws.specs.RemoveStores.{PlannedRemove, goes, others_same, table, removed-disk, removed-sum}
use Rattle.change_laws.specs.Remove.{no_entry, left_whole, planned_accepted}
use Rattle.change_laws.specs.RemoveEffects.{entries_kept, reached-kept, removed_unreached}
use Rattle.change_laws.specs.RemovedEntry.{moved_down, entry_gone}
use Rattle.change_laws.specs.Gap.{lowered}
use Rattle.paths.specs.Reached.{sub-reached}
use Rattle.share_rules.specs.Shares.{lies_in, blocks_at, used_in}
use Rattle.share_laws.specs.Parents.{root-parent, parent-entry, entry-parent}
use Rattle.share_laws.specs.Ways.{sub_lies}
use Rattle.share_laws.specs.KeptWays.{IsReached, walked_dirs, SameParents, lies_kept, head_sum, one-changed, lying_changed}
use Rattle.share_laws.specs.ChangedUse.{ChangedUse, chain-count}

module _ {img : List ℕ} {e : Entered} {u : Slotted} {ys : List ℕ} (p : PlannedRemove img e u ys) (empty : e.dir ≡ true → not_empty img (anodes_of img) e ≡ false) where
  abbrev s : Anodes
  s = anodes_of img

  abbrev t : Anodes
  t = u.anodes

  abbrev j : List ℕ
  j = removed_image img e u

  -- the chain that goes
  abbrev gone : ℕ
  gone = e.anode

  left-image : AcceptedImage j
  left-image = record { blocks = (image p).blocks; anodes = (image p).anodes; accepted = planned_accepted p empty }

  -- ---- what is reached

  not-gone : (x : ℕ) → IsReached j x → x ≢ gone
  not-gone x r i = true≢false (sym (removed_unreached p empty) ∙ ap (no_directory j (anodes_of j)) (sym i) ∙ r)

  was-reached : (x : ℕ) → IsReached j x → IsReached img x
  was-reached x r = sym (reached-kept p empty x (not-gone x r)) ∙ r

  still_reached : (x : ℕ) → x ≢ gone → IsReached img x → IsReached j x
  still_reached x o r = reached-kept p empty x o ∙ r

  same-headed : (x : ℕ) → x ≢ gone → headed x (walked_dirs j) ≡ headed x (walked_dirs img)
  same-headed x o = let l = left_whole p empty in reached-sum (removed-disk p) l.1 (λ d. one_at d.head x) ∙ l.2 x o

  none-headed : headed gone (walked_dirs j) ≡ 0
  none-headed = not_above (headed gone (walked_dirs j)) (λ q. true≢false (sym (removed_unreached p empty) ∙ headed-reached j (anodes_of j) gone q))

  -- a sum over the directories that are left
  sums_left : (f : ℕ → ℕ) → sum_list (λ d. f d.head) (walked_dirs j) ≡ sum_list (λ d. cond (eqb d.head gone) 0 (f d.head)) (walked_dirs img)
  sums_left f =
      head_sum left-image f
      ∙ sum_congr (λ x. headed x (walked_dirs j) * f x) (λ x. headed x (walked_dirs img) * cond (eqb x gone) 0 (f x)) limit (λ x l. each x)
      ∙ sym (head_sum (image p) (λ x. cond (eqb x gone) 0 (f x)))
    where
      each : (x : ℕ) → headed x (walked_dirs j) * f x ≡ headed x (walked_dirs img) * cond (eqb x gone) 0 (f x)
      each x = elim (same? x gone) [
        | inl i ↦ rw (eq-eqb x gone i) (omega (arith, ap (λ (k : ℕ). k * f x) (ap (λ (y : ℕ). headed y (walked_dirs j)) i ∙ none-headed)))
        | inr i ↦ rw (ne_eqb x gone i) (ap (λ (k : ℕ). k * f x) (same-headed x i))
      ]

  -- ---- the entries

  moved-names : (c : Entered) → ((moved_down img e c).dir ≡ c.dir) × ((moved_down img e c).anode ≡ c.anode)
  unfolding moved_down
  moved-names c = go (eqb (c.start / 512) (e.start / 512)) (get_or (block_of img (e.start / 512)) (e.start % 512) 0)
    where
      go : (b : Bool) (k : ℕ) → ((cond b (lowered k c) c).dir ≡ c.dir) × ((cond b (lowered k c) c).anode ≡ c.anode)
      go true k = (refl, refl)
      go false k = (refl, refl)

  entries_less : (F : Bool → ℕ → ℕ) (x : ℕ) → IsReached j x →
      sum_list (λ c. F c.dir c.anode) (entries_of j (anodes_of j) x) + one_at x p.home * F e.dir gone ≡ sum_list (λ c. F c.dir c.anode) (entries_of img s x)
  entries_less F x r =
      let f : Entered → ℕ = λ c. F c.dir c.anode in
      elim (one_at_cases x p.home) [
        | inl q ↦ (let g = entry_gone p in
            rw (q.1, q.0) (omega (
              arith,
              ap (sum_list f) g.are,
              list_append f g.before (map (moved_down img e) g.behind),
              map-sum (moved_down img e) f g.behind,
              list_congr (λ c. f (moved_down img e c)) f g.behind (λ c. rw ((moved-names c).0, (moved-names c).1)),
              ap (sum_list f) g.were,
              list_append f g.before (e ∷ g.behind),
              list_cons f e g.behind,
            )))
        | inr q ↦ rw q.1 (omega (arith, ap (sum_list f) (entries_kept p (record { image = image p; reached = was-reached x r }) q.0 (not-gone x r))))
      ]

  -- ---- the parents

  same_parents : SameParents img j
  same_parents x a b = elim (same? x 5) [
    | inl i ↦ rw i (root-parent left-image ∙ sym (root-parent (image p)))
    | inr i ↦ (let F : Bool → ℕ → ℕ = λ d y. cond d (one_at y x) 0 in
        let up = parent_of (walked_dirs j) x in
        let (c, m, dir, is) = parent-entry left-image (record { image = left-image; reached = b }) i in
        let here : F c.dir c.anode ≡ 1 = rw dir (one_at-same c.anode x is) in
        let some : 0 < sum_list (λ (c : Entered). F c.dir c.anode) (entries_of img s up) = omega (arith, here, member-sum (λ (c : Entered). F c.dir c.anode) c (entries_of j (anodes_of j) up) m.member, entries_less F up m.directory.reached) in
        from_entry up (was-reached up m.directory.reached) some)
  ]
    where
      named : (d : Bool) (y : ℕ) → 0 < cond d (one_at y x) 0 → (d ≡ true) × (y ≡ x)
      named true y q = (refl, one_at_some y x q)
      named false y q = absurd (omega arith)

      from_entry : (up : ℕ) → IsReached img up → 0 < sum_list (λ c. cond c.dir (one_at c.anode x) 0) (entries_of img s up) → up ≡ parent_of (walked_dirs img) x
      from_entry up r q =
          let (c, n, k) = list_some (λ (c : Entered). cond c.dir (one_at c.anode x) 0) (entries_of img s up) q in
          let (dir, is) = named c.dir c.anode k in
          let m : EntryIn img up c = record { directory = record { image = image p; reached = r }; member = n } in
          sym (ap (parent_of (walked_dirs img)) (sym is) ∙ entry-parent (image p) m dir)

  -- ---- the chains

  same-file : (x : ℕ) → IsReached j x → (c : Entered) → Member c (entries_of j (anodes_of j) x) → block_count (anodes_of j) c.anode ≡ block_count s c.anode
  same-file x r c n =
      let m : EntryIn j x c = record { directory = record { image = left-image; reached = r }; member = n } in
      let f = entry-facts m in
      let (other, head) = (goes p).gone.was c.anode (rw (removed-disk p).anodes at f.head) in
      rw (removed-disk p).anodes (chain-count (others_same p c.anode head (entry-not-1 f) other))

  changed-at : (x : ℕ) → IsReached j x → blocks_at j (anodes_of j) x + one_at x p.home * cond e.dir 0 (block_count s gone) ≡ blocks_at img s x
  unfolding blocks_at
  changed-at x r =
      let there : ReachedDir img x = record { image = image p; reached = was-reached x r } in
      let own : block_count (anodes_of j) x ≡ block_count s x = rw (removed-disk p).anodes (chain-count (others_same p x (reached_head there) (reached-not-1 there) (not-gone x r))) in
      omega (
        arith,
        own,
        member_congr (λ c. cond c.dir 0 (block_count (anodes_of j) c.anode)) (λ c. cond c.dir 0 (block_count s c.anode)) (entries_of j (anodes_of j) x) (λ c n. ap (λ (k : ℕ). cond c.dir 0 k) (same-file x r c n)),
        entries_less (λ b a. cond b 0 (block_count s a)) x r,
      )

  -- ---- what is used

  module _ (top : ℕ) (top_there : IsReached j top) where
    abbrev D : List Dir
    D = walked_dirs img

    abbrev weight : ℕ → ℕ
    weight x = cond (lies_in (walked_dirs j) top x) (blocks_at j (anodes_of j) x) 0

    abbrev before : ℕ → ℕ
    before x = cond (lies_in D top x) (blocks_at img s x) 0

    reach : (d : Dir) → Member d D → IsReached img d.head
    reach d m = (member-reached (image p) d m).reached

    same_lies : (x : ℕ) → x ≢ gone → IsReached img x → lies_in (walked_dirs j) top x ≡ lies_in D top x
    same_lies x o r = lies_kept (image p) left-image same_parents top x r (still_reached x o r)

    -- a file goes
    file_used : e.dir ≡ false → used_in j (anodes_of j) top + cond (lies_in D top p.home) (block_count s gone) 0 ≡ used_in img s top
    unfolding used_in
    file_used file =
        let off : (d : Dir) → Member d D → d.head ≢ gone = λ d m. not-file (member-reached (image p) d m) (facts p) file in
        omega (
          arith,
          sums_left weight,
          member_congr (λ d. cond (eqb d.head gone) 0 (weight d.head)) (λ d. weight d.head) D (λ d m. rw (ne_eqb d.head gone (off d m))),
          lying_changed D p.home (block_count s gone) 0 (lies_in D top) (lies_in (walked_dirs j) top) (blocks_at img s) (blocks_at j (anodes_of j)) (reached-headed p.entry.directory)
              (λ d m. same_lies d.head (off d m) (reach d m))
              (λ d m. omega (arith, changed-at d.head (still_reached d.head (off d m) (reach d m)), ap (λ (b : Bool). one_at d.head p.home * cond b 0 (block_count s gone)) file)),
          none (lies_in D top p.home),
        )
      where
        none : (l : Bool) → cond {A = ℕ} l 0 0 ≡ 0
        none true = refl
        none false = refl

    -- an empty directory goes
    dir_there : e.dir ≡ true → ReachedDir img gone
    dir_there d = sub-reached p.entry d

    gone_lies : e.dir ≡ true → lies_in D top gone ≡ lies_in D top p.home
    gone_lies d = sub_lies (image p) p.entry d top (λ i. not-gone top top_there (sym i))

    gone_at : e.dir ≡ true → blocks_at img s gone ≡ block_count s gone
    unfolding blocks_at
    gone_at d = omega (arith, ap (sum_list (λ (c : Entered). cond c.dir 0 (block_count s c.anode))) (no_entry p empty d), list_nil (λ (c : Entered). cond c.dir 0 (block_count s c.anode)))

    dir_used : e.dir ≡ true → used_in j (anodes_of j) top + cond (lies_in D top p.home) (block_count s gone) 0 ≡ used_in img s top
    unfolding used_in
    dir_used dir = omega (
      arith,
      sums_left weight,
      one-changed D gone (cond (lies_in D top p.home) (block_count s gone) 0) 0 (λ x. cond (eqb x gone) 0 (weight x)) before (reached-headed (dir_there dir)) (λ d m. at d.head (reach d m)),
    )
      where
        at : (x : ℕ) → IsReached img x → cond (eqb x gone) 0 (weight x) + one_at x gone * cond (lies_in D top p.home) (block_count s gone) 0 ≡ before x + one_at x gone * 0
        at x r = elim (one_at_cases x gone) [
          | inl c ↦ rw (eq-eqb x gone c.0, c.1, c.0, gone_lies dir, gone_at dir) (omega arith)
          | inr c ↦ rw (ne_eqb x gone c.0, c.1, same_lies x c.0 r, same x c.0 r) (omega arith)
        ]
          where
            same : (x : ℕ) → x ≢ gone → IsReached img x → blocks_at j (anodes_of j) x ≡ blocks_at img s x
            same x o r = omega (arith, changed-at x (still_reached x o r), ap (λ (b : Bool). one_at x p.home * cond b 0 (block_count s gone)) dir)

    changed_used : used_in j (anodes_of j) top + cond (lies_in D top p.home) (block_count s gone) 0 ≡ used_in img s top
    changed_used = go e.dir refl
      where
        go : (b : Bool) → e.dir ≡ b → used_in j (anodes_of j) top + cond (lies_in D top p.home) (block_count s gone) 0 ≡ used_in img s top
        go true d = dir_used d
        go false d = file_used d

  -- all blocks of the chain go back
  pub remove_use : ChangedUse img (removed_image img e u) p.home 0 (block_count (anodes_of img) e.anode)
  remove_use = record {
    image' = left-image;
    same_size = disk_size-kept (removed-disk p).same.kept ∙ disk_size_lem (image p) (table p);
    parents = same_parents;
    used = λ top a b. omega (arith, changed_used top b, none (lies_in (walked_dirs img) top p.home));
    paid = omega (arith, removed-sum p);
  }
    where
      none : (l : Bool) → cond {A = ℕ} l 0 0 ≡ 0
      none true = refl
      none false = refl

  -- every other directory is still reached
  pub removed_keeps : (x : ℕ) → x ≢ e.anode → IsReached img x → IsReached (removed_image img e u) x
  removed_keeps = still_reached
