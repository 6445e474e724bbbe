-- A run that is given, and what is then carried to the next.
use Prim.Native.Nat.{ℕ, suc, ◌+◌, ◌-◌, ◌≤◌, ◌<◌}
use mathlib.Core.Path.{◌≡◌, refl, sym, ap, ◌∙◌}
use mathlib.Core.Logic.{◌≢◌, ◌⊎◌, inl, inr}
use mathlib.Core.Bool.{Bool, true, false, cond, not, ◌&&◌}
use mathlib.Core.List.{List, ◌∷◌, ◌++◌}
use native.Mathlib.Omega.{arith}
use native.Mathlib.Numerals.{add-one}
use lib.Dec.{eqb, ltb}
use lib.ListN.{length, get_or, take}
use borrow.Author.Tests.{eq-eqb, ne_eqb, lt-ltb, le-ltb}
use Rattle.std.specs.Prelude.{Result, Ok, Err}
use Rattle.disk.specs.declared.BlockNo.{BlockNo}
use Rattle.disk.specs.declared.Refusal.{Refusal}
use Rattle.disk.specs.Refusals.{number_of}
use Rattle.rules.specs.Counting.{sum_list, occurrences, last_of, changed}
use Rattle.rules.specs.Anodes.{Anodes, limit, exists_by}
use Rattle.rules.specs.Chains.{chain_of, cut, side, block_count}
use Rattle.rules.specs.Plans.{Slotted, slotted, refused, planned, after, ◌and_then◌, at_slots, Growth, no_growth, regrown}
use Rattle.rules.specs.Space.{rewritten, unlinked, without_run, without_tail, tail_start, run_length, found, last_extent, side_of, side_end, join_with, join, move_back, release, give_run, give_runs}
use Rattle.laws.specs.Tests.{same?, less?}
use Rattle.laws.specs.Sums.{changed-same, changed_other}
use Rattle.laws.specs.Bags.{list_cons, occurrences-append, kept-sum}
use Rattle.laws.specs.LinkChanges.{first, second, third}
use Rattle.laws.specs.Chains.{length_run}
use Rattle.laws.specs.Ownership.{handed}
use Rattle.laws.specs.Heads.{Head}
use Rattle.laws.specs.Space.{Good, on_chain_lem}
use Rattle.laws.specs.Sides.{SideHead}
use Rattle.laws.specs.Owners.{full_used, full_inside, full-0}
use Rattle.laws.specs.Searches.{FoundIn, found_after}
use Rattle.laws.specs.Moves.{Grows, RunOut, Moved, with_these}
use Rattle.laws.specs.Whole.{blocks-count}
use Rattle.laws.specs.Plans.{then_stop, slots_planned, afresh-done, afresh_fixed}
use Rattle.laws.specs.Leaving.{run-unlinked, without_run_cases}
use Rattle.laws.specs.Frame.{shift_alike, shift_chain}
use Rattle.laws.specs.ChainBlocks.{stands_once, unlinked-chain}
use Rattle.laws.specs.Give.{Released, released_moved, given-found, side_above, side-up_to, side_of_head, side-end_used, side-end_head}
use Rattle.laws.specs.GiveRuns.{give_cases, NextRun, runs_next, next_fits, tail-out, run_released, moved-left}
use Rattle.laws.specs.SideEnds.{side-kept, Spare, CameTo, came_join, came_with, came_end, came_other}
use Rattle.laws.specs.Carried.{end_after}
use Rattle.laws.specs.RefusedRuns.{back_done, done-not}
use Rattle.placing.specs.Steps.{UnlessMoved}
use Rattle.placing.specs.States.{GoodState, Ready}
use Rattle.placing.proofs.Found.{found_at}
use Rattle.giving_runs.specs.declared.Run.{Run}
use Rattle.giving_runs.specs.declared.Going.{Going}
use Rattle.giving_runs.specs.Runs.{last_full, anode_before, run_to, Picked, Carries, RunOff, GivenGrown, Turns}
use Rattle.giving_runs.proofs.Afresh.{joining, joins_afresh}
use Rattle.giving_runs.proofs.Picking.{FullAt, full-found, one_more, last-at, before_is}

-- ---- one run, by the tests of the code

-- another anode than x keeps its blocks where x loses some
pub other_kept : (s : Anodes) (kept p x d b z : ℕ) → z ≢ x → ((without_run s kept p x d b).count z ≡ s.count z) × ((without_run s kept p x d b).block z ≡ s.block z)
unfolding rewritten unlinked
other_kept s kept p x d b z n = elim (without_run_cases s kept p x d b) [
  | first c ↦ rw c.1 (changed_other s.count x (s.count x - d) z n, changed_other s.block x b z n)
  | second c ↦ rw c.2 (changed_other s.count x 0 z n, changed_other s.block x 65535 z n)
  | third c ↦ rw c.2 (changed_other s.count x 0 z n, changed_other s.block x 0 z n)
]

-- the run from y is out and t is left
module _ (ex : ℕ → Bool) (s : Anodes) (h p x d z : ℕ) (t : Anodes) (b y : ℕ) (left : t ≡ without_run s h p x d b) (start : b ≡ s.block x) (tail : y ≡ tail_start s x d) (whole along : Bool)
    (is_whole : whole ≡ eqb (s.count x) d) (is_along : along ≡ (whole && not (eqb x h))) where
  -- what the code has tested
  test : (eqb (s.count x) d && not (eqb x h)) ≡ along
  test = ap (λ (i : Bool). i && not (eqb x h)) (sym is_whole) ∙ sym is_along

  -- it goes with its anode
  pub goes_with : along ≡ true → join_with x z d y t ≡ run_to ex h p x d z s
  unfolding run_to without_tail
  goes_with e = let q = test ∙ e in rw (q, left, start, tail)

  -- or without
  pub goes-without : along ≡ false → join 3444 z d y ex t ≡ run_to ex h p x d z s
  unfolding run_to without_tail
  goes-without e = let q = test ∙ e in rw (q, left, start, tail)

-- refused, it is out of the chain and nothing else has changed
pub stays_out : (s : Anodes) (h p x d : ℕ) (t : Anodes) (b : ℕ) → t ≡ without_run s h p x d b → b ≡ s.block x → (r : Result BlockNo Refusal) (t' : Anodes) → UnlessMoved r t t' → UnlessMoved r (without_tail s h p x d) t'
unfolding without_tail
stays_out s h p x d t b left start r t' u = rw (← start, ← left) u

-- ---- the end of a side

-- the anode behind z, if there is one, else z
pub end_is : (next : ℕ → ℕ) (z r : ℕ) → ((next z ≡ 0) × (r ≡ z)) ⊎ ((next z ≢ 0) × (r ≡ next z)) → r ≡ end_after next z
unfolding end_after
end_is next z r (inl c) = rw (eq-eqb (next z) 0 c.0) c.1
end_is next z r (inr c) = rw (ne_eqb (next z) 0 c.0) c.1

-- ---- a turn: what is carried, the last anode with a block, its run, and what is left

module _ (last : ℕ) (s : Anodes) (slots : ℕ → ℕ) (h : ℕ) (chain : List ℕ) (g : Going) (some : 0 < g.left) (c : Carries last h chain g (slotted s slots)) where
  -- the state is good
  abbrev good : Good limit (exists_by slots) c.ready.0.n last s c.ready.0.system c.ready.0.hd c.ready.0.sd
  good = c.ready.0.good

  -- its sums fit
  pub fits_all : (a : ℕ) → 0 < s.count a → s.block a + s.count a ≤ 65535
  fits_all a full = omega (arith, full_inside good a full, c.ready.0.small)

  -- the place that the search finds has a block
  place_full : FullAt s.count chain g.at c.rest (last_full s.count chain g.at)
  unfolding block_count
  place_full =
      let blocks : 0 < sum_list s.count (chain_of s.next 3444 h) = omega (arith, some, c.enough) in
      full-found s.count chain g.at c.rest (omega (arith, c.inside, c.room)) c.empty (rw c.listed at blocks)

  -- the anode that is picked has a block
  pub picked_full : 0 < s.count (get_or chain (last_full s.count chain g.at) 0)
  picked_full = place_full.full

  module _ (i x p d b : ℕ) (place_is : i ≡ last_full s.count chain g.at) (anode_is : x ≡ get_or chain i 0) (before_it : p ≡ anode_before chain i)
      (length_is : d ≡ run_length last g.left (s.count x) (s.block x)) (first_is : b ≡ tail_start s x d) where
    -- the anodes without the run
    abbrev wt : Anodes
    wt = without_tail s h p x d

    -- the same of the place i
    place : FullAt s.count chain g.at c.rest i
    place = rw place_is place_full

    -- its anode x has a block
    full : 0 < s.count x
    full = rw anode_is place.full

    -- the chain, with x in its place
    split : chain_of s.next 3444 h ≡ take i chain ++ (x ∷ place.post)
    split = c.listed ∙ place.parts ∙ ap (λ (j : ℕ). take i chain ++ (j ∷ place.post)) (sym anode_is)

    -- x is the last anode with a block, and p stands before it
    is_last : last_extent s.count 0 (chain_of s.next 3444 h) ≡ found p x
    is_last = ap (last_extent s.count 0) split ∙ last-at s.count 0 (take i chain) x place.post full place.empty
        ∙ ap (λ (q : ℕ). found q x) (before_is chain i (omega (arith, place.below, c.inside, c.room)) ∙ sym before_it)

    -- so the run is the next
    next_run : NextRun 3444 last h g.left (slotted s slots) p x d
    next_run = record { some = some; is_last = is_last; length_is = length_is }

    -- no longer than its extent
    few : d ≤ s.count x
    few = (next_fits next_run).2

    -- how many blocks go
    run_some : (0 < d) × (d ≤ g.left) × (i < 3444)
    run_some = ((next_fits next_run).0, (next_fits next_run).1, omega (arith, place.below, c.inside))

    -- they are on the disk
    run_ends : b + d ≤ 65535
    run_ends = omega (arith, first_is, few, fits_all x full)

    -- x stands on the chain
    at_x : FoundIn s.count s.next h (chain_of s.next 3444 h) 0 p x
    at_x = given-found good h c.ready.1.0 p x is_last

    -- the run is in hand
    abbrev out : RunOut limit (exists_by slots) c.ready.0.n last s c.ready.0.system c.ready.0.hd h d (tail_start s x d) (without_tail s h p x d)
    out = tail-out good h c.ready.1.0 c.ready.1.1 p x d is_last few

    -- both sides are the same without the run
    kept-side : (m : ℕ) → SideHead m → side 3444 (without_tail s h p x d) m ≡ side 3444 s m
    kept-side = side-kept good (without_tail s h p x d) (λ a u q. (out.shift.apart a u (λ e. c.ready.1.1 (sym e ∙ q)) (λ e. c.ready.1.1 (sym e ∙ q))).same_next)

    -- the chain without the run
    left_out : (rest : List ℕ) × (chain_of (without_tail s h p x d).next 3444 h ≡ take (cond (eqb (s.count x) d) i (i + 1)) chain ++ rest) × (sum_list (without_tail s h p x d).count rest ≡ 0)
    unfolding without_tail rewritten
    left_out = elim (without_run_cases s h p x d (s.block x)) [
      | first q ↦ rw (q.1, ne_eqb (s.count x) d q.0, add-one i) (place.post, split ∙ ap (λ (j : ℕ). take i chain ++ (j ∷ place.post)) anode_is ∙ sym (one_more chain i place.post (omega (arith, place.below, c.inside, c.room))), none_else (s.count x - d))
      | second q ↦ rw (q.2, eq-eqb (s.count x) d q.0) (x ∷ place.post, split, list_cons (changed s.count x 0) x place.post ∙ rw (changed-same s.count x 0, none_else 0))
      | third q ↦ rw (q.2, eq-eqb (s.count x) d q.0) (place.post, unlinked-chain good h c.ready.1.0 x (take i chain) place.post split p (found_after at_x q.1) (full-0 good x full) q.1, unfold unlinked in none_else 0)
    ]
      where
        none_else : (v : ℕ) → sum_list (changed s.count x v) place.post ≡ 0
        none_else v = kept-sum s.count (changed s.count x v) place.post
            (λ a q. changed_other s.count x v a (λ e. omega (arith, q, ap (λ (j : ℕ). occurrences j place.post) e, (stands_once good h c.ready.1.0 x (take i chain) place.post split).1)))
            ∙ place.empty

    -- the state without the run
    run_off : GoodState last (slotted (without_tail s h p x d) slots)
    run_off = record {
      n = c.ready.0.n;
      system = handed c.ready.0.system d (tail_start s x d);
      hd = out.hd';
      sd = out.sd';
      small = c.ready.0.small;
      start = λ w l. omega (arith, c.ready.0.start w l);
      good = out.good;
    }

    -- a refusal stops all
    turn_stops : (growth : Growth) (j : ℕ) → give_run 3444 growth last h p x d (slotted s slots) ≡ refused j → (f : ℕ) → give_runs 3444 growth last (suc f) g.left h (slotted s slots) ≡ refused j
    turn_stops growth j e f = runs_next 3444 growth last h g.left (slotted s slots) p x d next_run f ∙ then_stop (give_run 3444 growth last h p x d (slotted s slots)) (give_runs 3444 growth last f (g.left - d) h) j e

    -- the run is given, where slots may grow, and t is left
    module _ (growth : Growth) (grows : Grows limit c.ready.0.n last growth) (t : Slotted) (ys : List ℕ) (gives : give_run 3444 growth last h p x d (slotted s slots) ≡ planned t ys) where
      -- the runs are this one and the rest
      turn_goes : (f : ℕ) → give_runs 3444 growth last (suc f) g.left h (slotted s slots) ≡ after ys (give_runs 3444 growth last f (g.left - d) h t)
      unfolding ◌and_then◌
      turn_goes f = runs_next 3444 growth last h g.left (slotted s slots) p x d next_run f ∙ rw (gives, ◌and_then◌)

      -- from there it has gone to the free list
      back : Released limit c.ready.0.n last (slotted (without_tail s h p x d) slots) c.ready.0.system (tail-out good h c.ready.1.0 c.ready.1.1 p x d is_last few).hd' d (tail_start s x d) t ys
      back = run_released grows (slotted s slots) c.ready.0.start good h c.ready.1.0 c.ready.1.1 p x d is_last few (next_fits next_run).3 t ys gives

      -- so from the chain to the free list
      moved : Moved limit c.ready.0.n last (slotted s slots) c.ready.0.system c.ready.0.hd h 1 h ys back.gs t
      moved = released_moved {s = slotted s slots} (tail-out good h c.ready.1.0 c.ready.1.1 p x d is_last few) back

      -- h still heads its chain
      stays : Head t.anodes.next t.anodes.block h
      stays = moved.shift.stays h c.ready.1.0

      -- in a good state
      turn_ready : Ready last t h
      turn_ready = (
        record { n = c.ready.0.n; system = with_these c.ready.0.system back.gs; hd = moved.hd'; sd = moved.sd'; small = c.ready.0.small; start = λ w l. omega (arith, c.ready.0.start w l); good = moved.good },
        (stays, c.ready.1.1),
      )

      -- with so many blocks less
      turn_count : block_count s h ≡ block_count t.anodes h + d
      turn_count = omega (
        arith,
        moved-left grows h c.ready.1.1 moved,
        ap length back.handed_are ∙ length_run (tail_start s x d) d,
        blocks-count good h c.ready.1.0,
        blocks-count moved.good h stays,
      )

      -- growth touches the free list alone, so the chain is the one without the run
      same-chain : chain_of t.anodes.next 3444 h ≡ chain_of (without_tail s h p x d).next 3444 h
      same-chain = shift_chain out.good back.good back.shift h (out.shift.stays h c.ready.1.0) c.ready.1.1 c.ready.1.1

      -- and what lies behind the part that has blocks still has none
      same_counts : (rest : List ℕ) (front : List ℕ) → chain_of (without_tail s h p x d).next 3444 h ≡ front ++ rest → sum_list t.anodes.count rest ≡ sum_list (without_tail s h p x d).count rest
      same_counts rest front e = kept-sum wt.count t.anodes.count rest (λ a q. (shift_alike out.good back.good back.shift h (out.shift.stays h c.ready.1.0) c.ready.1.1 c.ready.1.1 a (rw e (omega (arith, q, occurrences-append a front rest)))).same_count)

      -- what is carried to the next turn, the last anodes of both sides known
      turn_carries : (r : Going) → r.left ≡ g.left - d → r.at ≡ cond (eqb (s.count x) d) i (i + 1) → r.upper.0 ≡ last_of 1 (side 3444 t.anodes 1) → r.lower.0 ≡ last_of 2 (side 3444 t.anodes 2) → Carries last h chain r t
      turn_carries r left at upper lower = record {
        ready = turn_ready;
        enough = omega (arith, left, turn_count, c.enough, (next_fits next_run).1);
        room = c.room;
        inside = omega (arith, at, next_place, place.below, c.inside);
        rest = left_out.0;
        listed = same-chain ∙ left_out.1 ∙ ap (λ (k : ℕ). take k chain ++ left_out.0) (sym at);
        empty = same_counts left_out.0 (take (cond (eqb (s.count x) d) i (i + 1)) chain) left_out.1 ∙ left_out.2;
        upper_end = upper;
        lower_end = lower;
      }
        where
          next_place : cond (eqb (s.count x) d) i (i + 1) ≤ i + 1
          next_place = elim (same? (s.count x) d) [ inl q ↦ rw (eq-eqb (s.count x) d q) (omega arith) | inr q ↦ rw (ne_eqb (s.count x) d q) (omega arith) ]

    -- ---- at fixed slots it goes to the carried end z of its side

    module _ (z : ℕ) (is_end : z ≡ cond (ltb last b) g.upper.0 g.lower.0) where
      -- which is the end of the rules
      z-end : z ≡ side_end 3444 last s (tail_start s x d)
      unfolding side_end side_of
      z-end = is_end ∙ rw (← first_is) (go (ltb last b))
        where
          go : (v : Bool) → cond v g.upper.0 g.lower.0 ≡ last_of (cond v 1 2) (side 3444 s (cond v 1 2))
          go true = c.upper_end
          go false = c.lower_end

      -- which is the end without the run, too
      z-out : z ≡ side_end 3444 last (without_tail s h p x d) (tail_start s x d)
      unfolding side_end
      z-out = z-end ∙ ap (last_of (side_of last (tail_start s x d))) (sym (kept-side (side_of last (tail_start s x d)) (side_of_head last (tail_start s x d))))

      -- what the code asks of it
      run_fits : (p < 3444) × (x < 3444) × (z < 3444) × (z ≢ x) × (d ≤ s.count x) × (b + d ≤ 65535) × (0 < s.count z → s.block z + s.count z ≤ 65535)
      run_fits =
          let w = found_at good s.next (λ a q. refl) p x at_x in (
            w.0,
            w.1,
            good.linked.view.below z (λ q. side-end_used good (tail_start s x d) (rw z-end at q)),
            λ e. c.ready.1.1 (sym (on_chain_lem good h c.ready.1.0 x at_x.on).0 ∙ ap c.ready.0.hd (sym e ∙ z-end) ∙ side-end_head good (tail_start s x d)),
            few,
            run_ends,
            fits_all z,
          )

      -- a run that goes with its anode goes to z
      with_own : move_back 3444 last x d (tail_start s x d) (slotted (without_tail s h p x d) slots) ≡ at_slots slots (join_with x z d (tail_start s x d) (without_tail s h p x d))
      unfolding move_back
      with_own = ap (λ (j : ℕ). at_slots slots (join_with x j d (tail_start s x d) wt)) (sym z-out)

      -- and so does one that goes without
      with_other : joining last d (tail_start s x d) (exists_by slots) (without_tail s h p x d) ≡ join 3444 z d (tail_start s x d) (exists_by slots) (without_tail s h p x d)
      with_other = ap (λ (j : ℕ). join 3444 j d (tail_start s x d) (exists_by slots) wt) (sym z-out)

      module _ (growth : Growth) where
        -- done at these slots, it is the run of the rules
        run-done : (t : Anodes) (ys : List ℕ) → run_to (exists_by slots) h p x d z s ≡ planned t ys → give_run 3444 growth last h p x d (slotted s slots) ≡ planned (slotted t slots) ys
        unfolding give_run run_to release at_slots
        run-done t ys e = go (eqb (s.count x) d && not (eqb x h)) e
          where
            go : (v : Bool) → cond v (join_with x z d (tail_start s x d) wt) (join 3444 z d (tail_start s x d) (exists_by slots) wt) ≡ planned t ys →
                cond v (move_back 3444 last x d (tail_start s x d) (slotted wt slots)) (release 3444 growth last d (tail_start s x d) (slotted wt slots)) ≡ planned (slotted t slots) ys
            go true e = with_own ∙ rw (e, at_slots)
            go false e = afresh-done growth (joining last d (tail_start s x d)) (slotted wt slots) t ys (with_other ∙ e)

        -- refused at these slots, it is made afresh on what the growth leaves
        run_stuck : (j : ℕ) → run_to (exists_by slots) h p x d z s ≡ refused j → give_run 3444 growth last h p x d (slotted s slots) ≡ regrown (joining last d b) 28 (growth (slotted (without_tail s h p x d) slots))
        unfolding give_run run_to at_slots
        run_stuck j e = rw first_is (go (eqb (s.count x) d && not (eqb x h)) e)
          where
            go : (v : Bool) → cond v (join_with x z d (tail_start s x d) wt) (join 3444 z d (tail_start s x d) (exists_by slots) wt) ≡ refused j →
                cond v (move_back 3444 last x d (tail_start s x d) (slotted wt slots)) (release 3444 growth last d (tail_start s x d) (slotted wt slots)) ≡ regrown (joining last d (tail_start s x d)) 28 (growth (slotted wt slots))
            go true e = absurd (done-not (move_back 3444 last x d (tail_start s x d) (slotted wt slots)) (back_done 3444 last x d (tail_start s x d) (slotted wt slots)) j (with_own ∙ rw (e, at_slots)))
            go false e = joins_afresh last d (tail_start s x d) growth (slotted wt slots) j (with_other ∙ e)

      -- it is done and t is left
      module _ (t : Anodes) (ys : List ℕ) (done : run_to (exists_by slots) h p x d z s ≡ planned t ys) where
        -- an anode that goes along is unlinked
        spare : s.count x ≡ d → x ≢ h → Spare limit (without_tail s h p x d) x
        unfolding without_tail unlinked
        spare all xh = record {
          below = good.linked.view.below x (full_used good x full);
          not-0 = full-0 good x full;
          not-2 = λ e. c.ready.1.1 (sym (on_chain_lem good h c.ready.1.0 x at_x.on).0 ∙ ap c.ready.0.hd e ∙ good.two_on);
          unused = rw (run-unlinked s h p x d (s.block x) all xh) (changed-same s.block x 0);
        }

        -- the run has come to the end of its side
        came : CameTo limit (without_tail s h p x d) (side_end 3444 last (without_tail s h p x d) (tail_start s x d)) t
        unfolding move_back release
        came =
            let y = tail_start s x d in
            let gives = run-done no_growth t ys done in
            elim (give_cases 3444 no_growth last h p x d (slotted s slots)) [
              | inl q ↦ came_with wt (side_end 3444 last wt y) d y t ys x (spare q.0 q.1) (slots_planned slots (join_with x (side_end 3444 last wt y) d y wt) (slotted t slots) ys (sym q.2 ∙ gives)).0
              | inr q ↦ came_join wt (side_end 3444 last wt y) d y t ys (exists_by slots) (slots_planned slots (joining last d y (exists_by slots) wt) (slotted t slots) ys (sym (afresh_fixed (joining last d y) (slotted wt slots)) ∙ sym q.1 ∙ gives)).0
            ]

        -- its side ends in the anode behind z, if there is one now
        end_moves : (m : ℕ) → SideHead m → m ≡ side_of last (tail_start s x d) → last_of m (side 3444 t m) ≡ end_after (cut t.next) (last_of m (side 3444 s m))
        unfolding side_end
        end_moves m o e = end_is (cut t.next) (last_of m (side 3444 wt m)) (last_of m (side 3444 t m)) (came_end out.good m o t (rw e came)) ∙ ap (λ (l : List ℕ). end_after (cut t.next) (last_of m l)) (kept-side m o)

        -- the other side ends where it did
        end_stays : (m : ℕ) → SideHead m → m ≢ side_of last (tail_start s x d) → last_of m (side 3444 t m) ≡ last_of m (side 3444 s m)
        unfolding side_end
        end_stays m o e = ap (last_of m) (came_other out.good (side_of last (tail_start s x d)) (side_of_head last (tail_start s x d)) t came m o e ∙ kept-side m o)

        -- the last anodes of both sides then
        ends_after : (cond (ltb last b) (end_after (cut t.next) g.upper.0) g.upper.0 ≡ last_of 1 (side 3444 t 1)) × (cond (ltb last b) g.lower.0 (end_after (cut t.next) g.lower.0) ≡ last_of 2 (side 3444 t 2))
        ends_after = elim (less? last b) [
          | inl l ↦ (let m = side_above last (tail_start s x d) (rw first_is at l) in
              rw (lt-ltb last b l) (
                ap (end_after (cut t.next)) c.upper_end ∙ sym (end_moves 1 (inl refl) (sym m)),
                c.lower_end ∙ sym (end_stays 2 (inr refl) (λ e. omega (arith, e, m))),
              ))
          | inr l ↦ (let m = side-up_to last (tail_start s x d) (rw first_is at l) in
              rw (le-ltb last b l) (
                c.upper_end ∙ sym (end_stays 1 (inl refl) (λ e. omega (arith, e, m))),
                ap (end_after (cut t.next)) c.lower_end ∙ sym (end_moves 2 (inr refl) (sym m)),
              ))
        ]

-- the same of a run as the code picks it
module _ (last : ℕ) (s : Anodes) (slots : ℕ → ℕ) (h : ℕ) (chain : List ℕ) (g : Going) (some : 0 < g.left) (c : Carries last h chain g (slotted s slots)) (r : Run) (k : Picked last g.left s chain g.at r) where
  -- how many blocks go, and from which place
  pub picked_some : (0 < r.length) × (r.length ≤ g.left) × (r.place < 3444)
  picked_some = run_some last s slots h chain g some c r.place r.anode.0 r.before.0 r.length r.first.0 k.place_is k.anode_is k.before_is k.length_is k.first_is

  -- the state t once it is out
  pub picked_off : (t : Anodes) → t ≡ without_tail s h r.before.0 r.anode.0 r.length → RunOff last g r (slotted t slots)
  picked_off t e = record {
    state = rw e (run_off last s slots h chain g some c r.place r.anode.0 r.before.0 r.length r.first.0 k.place_is k.anode_is k.before_is k.length_is k.first_is);
    inside = run_ends last s slots h chain g some c r.place r.anode.0 r.before.0 r.length r.first.0 k.place_is k.anode_is k.before_is k.length_is k.first_is;
    fits = picked_some.1;
    placed = picked_some.2;
  }

  -- given, it leaves what is carried to the next
  module _ (growth : Growth) (grows : (n : ℕ) → Grows limit n last growth) (t : Slotted) (ys : List ℕ) (gives : give_run 3444 growth last h r.before.0 r.anode.0 r.length (slotted s slots) ≡ planned t ys) where
    -- what is carried then, the last anodes of both sides known
    picked_next : (r' : Going) → r'.left ≡ g.left - r.length → r'.at ≡ cond r.whole r.place (r.place + 1) → r'.upper.0 ≡ last_of 1 (side 3444 t.anodes 1) → r'.lower.0 ≡ last_of 2 (side 3444 t.anodes 2) →
        Turns (Ok r') growth last h chain g.left (slotted s slots) t
    picked_next r' left at upper lower = (
      omega (arith, left, picked_some.0, picked_some.1),
      turn_carries last s slots h chain g some c r.place r.anode.0 r.before.0 r.length r.first.0 k.place_is k.anode_is k.before_is k.length_is k.first_is growth (grows c.ready.0.n) t ys gives r' left
          (at ∙ ap (λ (w : Bool). cond w r.place (r.place + 1)) k.whole_is) upper lower,
      (
        ys,
        λ f. turn_goes last s slots h chain g some c r.place r.anode.0 r.before.0 r.length r.first.0 k.place_is k.anode_is k.before_is k.length_is k.first_is growth (grows c.ready.0.n) t ys gives f
            ∙ ap (λ (n : ℕ). after ys (give_runs 3444 growth last f n h t)) (sym left),
      ),
    )

  -- at fixed slots, to the carried end z
  module _ (z : ℕ) (is_end : z ≡ cond (ltb last r.first.0) g.upper.0 g.lower.0) where
    -- its anodes are in the tables, and its sums fit
    pub picked_fits : (r.before.0 < 3444) × (r.anode.0 < 3444) × (z < 3444) × (z ≢ r.anode.0) × (r.length ≤ s.count r.anode.0) × (r.first.0 + r.length ≤ 65535) × (0 < s.count z → s.block z + s.count z ≤ 65535)
    picked_fits = run_fits last s slots h chain g some c r.place r.anode.0 r.before.0 r.length r.first.0 k.place_is k.anode_is k.before_is k.length_is k.first_is z is_end

    module _ (growth : Growth) (grows : (n : ℕ) → Grows limit n last growth) where
      -- done
      pub picked_goes : (t : Anodes) (ys : List ℕ) → run_to (exists_by slots) h r.before.0 r.anode.0 r.length z s ≡ planned t ys → (r' : Going) → r'.left ≡ g.left - r.length → r'.at ≡ cond r.whole r.place (r.place + 1) →
          r'.upper.0 ≡ cond (ltb last r.first.0) (end_after (cut t.next) g.upper.0) g.upper.0 → r'.lower.0 ≡ cond (ltb last r.first.0) g.lower.0 (end_after (cut t.next) g.lower.0) →
          Turns (Ok r') growth last h chain g.left (slotted s slots) (slotted t slots)
      picked_goes t ys e r' left at upper lower =
          let ends = ends_after last s slots h chain g some c r.place r.anode.0 r.before.0 r.length r.first.0 k.place_is k.anode_is k.before_is k.length_is k.first_is z is_end t ys e in
          picked_next growth grows (slotted t slots) ys
          (run-done last s slots h chain g some c r.place r.anode.0 r.before.0 r.length r.first.0 k.place_is k.anode_is k.before_is k.length_is k.first_is z is_end growth t ys e)
          r' left at (upper ∙ ends.0) (lower ∙ ends.1)

      -- refused, it is out and u is left, and then what is made of it where slots may grow
      pub picked_grown : (j : ℕ) → run_to (exists_by slots) h r.before.0 r.anode.0 r.length z s ≡ refused j → (u : Anodes) → u ≡ without_tail s h r.before.0 r.anode.0 r.length → (turn : Result Going Refusal) (t : Slotted) →
          GivenGrown turn g r t (regrown (joining last r.length r.first.0) 28 (growth (slotted u slots))) → Turns turn growth last h chain g.left (slotted s slots) t
      picked_grown j e u out turn t w = go turn w
        where
          again : give_run 3444 growth last h r.before.0 r.anode.0 r.length (slotted s slots) ≡ regrown (joining last r.length r.first.0) 28 (growth (slotted u slots))
          again = run_stuck last s slots h chain g some c r.place r.anode.0 r.before.0 r.length r.first.0 k.place_is k.anode_is k.before_is k.length_is k.first_is z is_end growth j e
              ∙ ap (λ (i : Anodes). regrown (joining last r.length r.first.0) 28 (growth (slotted i slots))) (sym out)

          go : (turn : Result Going Refusal) → GivenGrown turn g r t (regrown (joining last r.length r.first.0) 28 (growth (slotted u slots))) → Turns turn growth last h chain g.left (slotted s slots) t
          go (Ok g') w = picked_next growth grows t w.0.0 (again ∙ w.0.1) g' w.1 w.2 w.3 w.4
          go (Err why) w = turn_stops last s slots h chain g some c r.place r.anode.0 r.before.0 r.length r.first.0 k.place_is k.anode_is k.before_is k.length_is k.first_is growth (number_of why) (again ∙ w)
