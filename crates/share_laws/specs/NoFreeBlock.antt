-- Without growth, a call that needs no more blocks than are free is not refused with 27.
use Prim.Native.Nat.{ℕ, ◌+◌, ◌-◌, ◌≤◌}
use Rattle.std.specs.Prelude.{◌≡◌, ◌≢◌, Bool, cond, eqb, length}
use Rattle.std.proofs.Math.Path.{refl}
use Rattle.std.proofs.Common.{sym, le-leb}
use Rattle.std.proofs.Math.Logic.{inl, inr}
use Rattle.std.proofs.Math.Bool.{true, false}
use mathlib.Core.List.{List, []}
use Rattle.std.proofs.Math.Option.{Option}
use native.Mathlib.Omega.{arith}
use Rattle.std.proofs.lemmas.Bool.{lt-leb}
use Rattle.disk.specs.Root.{slot_of}
use Rattle.rules.specs.Counting.{changed}
use Rattle.rules.specs.Anodes.{limit, exists_by, anodes_of}
use Rattle.rules.specs.Chains.{block_count, system_owns}
use Rattle.rules.specs.Walk.{Entered, entries_in, is_block_of, blocks_for}
use Rattle.rules.specs.Accepted.{disk_size, last_reserved}
use Rattle.rules.specs.Plans.{Slotted, table_of, Plan, refused, planned, no_growth}
use Rattle.rules.specs.Space.{rewritten, lowest_free, with_spare}
use Rattle.rules.specs.Changes.{left, left_by, NewEntry, new_entry, no_room, room_for, head_made, needed_block, made_in, made_image, made, resize_plan, resized_image, resized}
use Rattle.rules.specs.Totals.{free_blocks}
use Rattle.laws.specs.Tests.{less?, not_above}
use Rattle.laws.specs.Sums.{one_at-same}
use Rattle.laws.specs.Bags.{pigeonhole}
use Rattle.laws.specs.Heads.{Head}
use Rattle.laws.specs.Blocks.{blocks, blocks_fresh}
use Rattle.laws.specs.Space.{Good}
use Rattle.laws.specs.Owners.{full_used}
use Rattle.laws.specs.Plans.{planned_same, planned≢refused}
use Rattle.laws.specs.Moves.{with_these, none_grows}
use Rattle.laws.specs.Take.{StartOwned, take-moved}
use Rattle.laws.specs.FixedSlots.{start_owned, none-grown, spare_slots, take_slots, taken-sum}
use Rattle.laws.specs.Spare.{spare-moved}
use Rattle.laws.specs.Whole.{change_free}
use Rattle.laws.specs.Make.{contents_unchanged, fresh_orphan, fresh_stays}
use Rattle.laws.specs.RefusedSteps.{spare_refused, take-27_exactly}
use Rattle.laws.specs.RefusedTakes.{takes_within}
use Rattle.laws.specs.RefusedRuns.{runs_refused}
use Rattle.change_laws.specs.Image.{AcceptedImage, AcceptedWhole, head_in, side_in, accepted_whole, ReachedDir}
use Rattle.change_laws.specs.Reached.{EntryIn, entry-facts, entry-not-1, reached_head, reached-not-1}
use Rattle.change_laws.specs.Totals.{free-count}
use Rattle.change_laws.specs.PlannedChange.{left_cases}
use Rattle.change_laws.specs.Remove.{remove_answers}
use Rattle.share_rules.specs.SharedCalls.{SharedCall, shared_read, shared_list, shared_make, shared_resize, shared_write, shared_remove, unshared_refusal, unshared_left, make_needs, resize_needs, blocks_needed}
use Rattle.share_laws.specs.PassedCalls.{passed_parent, passed_entry, make_passed, resize_passed, span_passed, remove_passed}

-- ---- a directory takes a block where it needs one

-- one that is free is found
needed_27 : {n last : ℕ} (s : Slotted) {system hd sd : ℕ → ℕ} → Good limit (exists_by s.slots) n last s.anodes system hd sd → (h : ℕ) (needed : Bool) → cond needed 1 0 ≤ blocks limit hd s.anodes.count 1 →
    needed_block no_growth needed h s ≢ refused 27
unfolding needed_block
needed_27 s g h true l e = omega (arith, l, (take-27_exactly g no_growth s.slots true h).0 e)
needed_27 s g h false l e = planned≢refused s [] 27 e

module _ {n last : ℕ} (s : Slotted) (system hd sd : ℕ → ℕ) (start : StartOwned system) (g : Good limit (exists_by s.slots) n last s.anodes system hd sd) (h : ℕ) where
  -- and taken
  needed_taken : h ≢ 1 → Head s.anodes.next s.anodes.block h → (needed : Bool) (t : Slotted) (ys : List ℕ) → needed_block no_growth needed h s ≡ planned t ys →
      (hd' : ℕ → ℕ) × (sd' : ℕ → ℕ) × (system' : ℕ → ℕ) × Good limit (exists_by t.slots) n last t.anodes system' hd' sd' × (blocks limit hd' t.anodes.count 1 + cond needed 1 0 ≡ blocks limit hd s.anodes.count 1)
  unfolding needed_block
  needed_taken h1 d true t ys e =
      let (gs, m, one) = take-moved (none_grows limit n last) start g h d h1 true t ys e in
      (m.hd', m.sd', with_these system gs, m.good, omega (arith, one, taken-sum m h1 (take_slots limit true h s t ys e)))
  needed_taken h1 d false t ys e = let p = planned_same s t [] ys e in rw (sym p.0) (hd, sd, system, g, omega arith)

-- ---- a make

module _ {img : List ℕ} {h : ℕ} (r : ReachedDir img h) (new : NewEntry) where
  abbrev S : Slotted
  S = table_of img

  abbrev n : ℕ
  n = disk_size img

  abbrev last : ℕ
  last = last_reserved img

  w : AcceptedWhole img
  w = accepted_whole r.image

  abbrev room : Option ℕ
  room = room_for img (anodes_of img) h new

  -- from a state with an anode to be had
  module _ (q : Slotted) (xs : List ℕ) (spares : with_spare limit no_growth S ≡ planned q xs) where
    abbrev f : ℕ
    f = lowest_free limit (exists_by q.slots) q.anodes

    abbrev begun : Slotted
    begun = head_made q f

    -- the new head begins with no block, the free ones are those of before, and the parent is there
    begun_state : (hd sd system : ℕ → ℕ) × StartOwned system × Good limit (exists_by begun.slots) n last begun.anodes system hd sd × (f ≢ 1) × Head begun.anodes.next begun.anodes.block f × (h ≢ 1)
        × Head begun.anodes.next begun.anodes.block h × (blocks limit hd begun.anodes.count 1 ≡ free_blocks (anodes_of img))
    unfolding rewritten
    begun_state =
        let (gs, v, free, nothing) = spare-moved (none_grows limit n last) (start_owned (slot_of img)) w.good q xs spares in
        let whole = change_free w v.good v.shift in
        let u = free.is_free in
        let o = fresh_orphan whole f free.below u (entries_in img) (is_block_of img) (contents_unchanged q.anodes v.hd' (entries_in img) (is_block_of img)) in
        let got = none-grown v (spare_slots limit S q xs spares) in
        let empty : q.anodes.count f ≡ 0 = not_above (q.anodes.count f) (λ p. full_used v.good f p u.unused) in
        let d = v.shift.stays h (reached_head r) in (
          changed v.hd' f f,
          changed v.sd' f f,
          with_these (system_owns img) gs,
          (λ x l. omega (arith, start_owned (slot_of img) x l)),
          o.good,
          (λ e. omega (arith, u.from_6, e)),
          o.head,
          reached-not-1 r,
          fresh_stays whole f free.below u h d,
          omega (
            arith,
            blocks_fresh limit v.hd' q.anodes.count f f 0 free.below empty 1,
            rw (one_at-same 1 1 refl) at (v.moved 1),
            pigeonhole gs 0 (λ x l. got x) (λ x. omega (arith, got x)),
            free-count w.good,
          ),
        )

  -- no step meets 27
  make_27 : make_needs img h new ≤ free_blocks (anodes_of img) → (made no_growth img (table_of img) h new).answer ≢ 27
  unfolding made make_needs
  make_27 enough = sparing (with_spare limit no_growth S) refl
    where
      first : Slotted → ℕ
      first q = lowest_free limit (exists_by q.slots) q.anodes

      sparing : (p : Plan Slotted) → with_spare limit no_growth S ≡ p → (left_by p img (λ q xs. made_in no_growth img (anodes_of img) h new room q (first q))).answer ≢ 27
      sparing (refused k) e = λ i. omega (arith, i, spare_refused limit no_growth S k e)
      sparing (planned q xs) e = owning (needed_block no_growth new.dir (first q) (head_made q (first q))) refl
        where
          owning : (p : Plan Slotted) → needed_block no_growth new.dir (first q) (head_made q (first q)) ≡ p →
              (left_by p img (λ t ys. left_by (needed_block no_growth (no_room room) h t) img (λ u zs. left 0 (made_image img (anodes_of img) h new (first q) room ys u zs)))).answer ≢ 27
          owning (refused k) b = λ i.
              let (hd, sd, system, start, g, f1, df, h1, dh, free) = begun_state q xs e in
              needed_27 (head_made q (first q)) g (first q) new.dir (omega (arith, enough, free)) (rw i at b)
          owning (planned t ys) b = taking (needed_block no_growth (no_room room) h t) refl
            where
              taking : (p : Plan Slotted) → needed_block no_growth (no_room room) h t ≡ p → (left_by p img (λ u zs. left 0 (made_image img (anodes_of img) h new (first q) room ys u zs))).answer ≢ 27
              taking (planned u zs) c i = omega (arith, i)
              taking (refused k) c i =
                  let (hd, sd, system, start, g, f1, df, h1, dh, free) = begun_state q xs e in
                  let (hd', sd', system', good, sum) = needed_taken (head_made q (first q)) system hd sd start g (first q) f1 df new.dir t ys b in
                  needed_27 t good h (no_room room) (omega (arith, enough, free, sum)) (rw i at c)

-- ---- a resize and a removal

module _ {img : List ℕ} {h : ℕ} {e : Entered} (m : EntryIn img h e) where
  -- the takes of a resize stay within the free blocks, and giving back is refused with 28 alone
  resize_27 : (new : ℕ) → blocks_for new - block_count (anodes_of img) e.anode ≤ free_blocks (anodes_of img) → (resized no_growth img (table_of img) e new).answer ≢ 27
  unfolding resized resize_plan
  resize_27 new enough =
      let s = anodes_of img in
      let f = entry-facts m in
      let g = (accepted_whole m.directory.image).good in
      left_cases (λ l. l.answer ≢ 27) img (resized_image img s e new) (resize_plan no_growth (last_reserved img) (table_of img) e.anode (blocks_for new))
      (λ k q i. elim (less? (blocks_for new) (block_count s e.anode)) [
        | inl l ↦ omega (arith, i, runs_refused limit no_growth (last_reserved img) (block_count s e.anode - blocks_for new) e.anode k (table_of img) (rw (lt-leb (block_count s e.anode) (blocks_for new) l) at q))
        | inr l ↦ takes_within false e.anode (entry-not-1 f) (table_of img) (system_owns img) (head_in img) (side_in img) (start_owned (slot_of img)) g f.head (blocks_for new - block_count s e.anode) (omega (arith, enough, free-count g))
            (rw (le-leb (block_count s e.anode) (blocks_for new) l, i) at q)
      ])
      (λ t ys q i. omega (arith, i))

-- ENOUGH FREE BLOCKS, NO 27
pub steps_27 : {img : List ℕ} → AcceptedImage img → (call : SharedCall) → unshared_refusal img call ≡ 0 → blocks_needed img call ≤ free_blocks (anodes_of img) → (unshared_left no_growth img call).answer ≢ 27
unfolding resize_needs
steps_27 image (shared_read h name offset out) z enough = λ i. omega (arith, i)
steps_27 image (shared_list h place) z enough = λ i. omega (arith, i)
steps_27 {img} image (shared_make h type name comment day minute tick protection) z enough =
    make_27 (passed_parent image (make_passed img h type name comment z)) (new_entry (eqb type 2) name comment day minute tick protection) enough
steps_27 {img} image (shared_resize h name new) z enough = let (p, file) = resize_passed img h name z in rw p.is (resize_27 (passed_entry image p) new (rw p.is at enough))
steps_27 {img} image (shared_write h name offset bytes) z enough = let (p, file, fits) = span_passed img h name offset (length bytes) z in rw p.is (λ i. omega (arith, i))
steps_27 {img} image (shared_remove h name) z enough =
    let (p, empty) = remove_passed img h name z in
    rw p.is (λ i. elim (remove_answers (none_grows limit (disk_size img) (last_reserved img)) (passed_entry image p)) [ inl q ↦ omega (arith, i, q) | inr q ↦ omega (arith, i, q) ])
