-- A block that goes back to the carried end of its side, and what is carried then.
use Prim.Native.Nat.{ℕ, ◌+◌, ◌≤◌, ◌<◌}
use mathlib.Core.Path.{◌≡◌, refl, sym, ap, ◌∙◌}
use mathlib.Core.Logic.{◌≢◌, inl, inr}
use mathlib.Core.Bool.{cond}
use mathlib.Core.List.{List, [], ◌∷◌, ◌++◌}
use native.Mathlib.Omega.{arith}
use lib.Dec.{ltb}
use borrow.Author.Tests.{lt-ltb, le-ltb}
use Rattle.std.specs.Prelude.{Result, Ok, Err}
use Rattle.disk.specs.declared.BlockNo.{BlockNo}
use Rattle.disk.specs.declared.Refusal.{Refusal}
use Rattle.disk.specs.Refusals.{number_of}
use Rattle.rules.specs.Counting.{last_of}
use Rattle.rules.specs.Anodes.{Anodes, limit, exists_by}
use Rattle.rules.specs.Chains.{run, cut, side}
use Rattle.rules.specs.Plans.{Slotted, slotted, Plan, refused, planned, after, ◌and_then◌, at_slots, no_growth}
use Rattle.rules.specs.Space.{side_of, side_end, join, release}
use Rattle.laws.specs.Tests.{less?}
use Rattle.laws.specs.Sums.{one_at-same}
use Rattle.laws.specs.Bags.{occurrences-cons}
use Rattle.laws.specs.Ownership.{covers_one}
use Rattle.laws.specs.Space.{good-same}
use Rattle.laws.specs.Sides.{SideHead}
use Rattle.laws.specs.Owners.{full_inside}
use Rattle.laws.specs.Plans.{after_none, after_both, then_stop, afresh_fixed}
use Rattle.laws.specs.Moves.{with_these, none_grows}
use Rattle.laws.specs.Give.{side_above, side-up_to, side_of_head, side-end_used, released}
use Rattle.laws.specs.FixedSlots.{none_got, release_slots}
use Rattle.laws.specs.SideEnds.{CameTo, came_join, came_end, came_other}
use Rattle.laws.specs.Carried.{end_after}
use Rattle.safe_rules.specs.SafePlans.{given_back}
use Rattle.placing.specs.Steps.{step_plan, EndsIn}
use Rattle.giving_runs.proofs.Turning.{end_is}
use Rattle.giving_back.specs.declared.Ends.{Ends}
use Rattle.giving_back.specs.Backs.{InLimbo, EndsOf, Backs}

-- ---- one block

module _ (last y : ℕ) (ys : List ℕ) (s : Anodes) (slots : ℕ → ℕ) (ends : Ends) (are : EndsOf ends (slotted s slots)) (g : InLimbo last (y ∷ ys) (slotted s slots)) (z : ℕ) (is_end : z ≡ cond (ltb last y) ends.upper.0 ends.lower.0) where
  -- the carried end is that of the block's side
  end-found : z ≡ side_end limit last s y
  unfolding side_end
  end-found = elim (less? last y) [
    | inl l ↦ is_end ∙ rw (lt-ltb last y l) are.0 ∙ ap (λ (m : ℕ). last_of m (side limit s m)) (sym (side_above last y l))
    | inr l ↦ is_end ∙ rw (le-ltb last y l) are.1 ∙ ap (λ (m : ℕ). last_of m (side limit s m)) (sym (side-up_to last y l))
  ]

  in_disk : (y ≢ 0) × (y < g.n)
  in_disk = g.inside y (omega (arith, occurrences-cons y y ys, one_at-same y y refl))

  -- it is in the tables, and its sums fit
  pub end_fits : (z < 3444) × (0 < s.count z → s.block z + s.count z ≤ 65535) × (y + 1 ≤ 65535)
  end_fits = (
    g.good.linked.view.below z (λ q. side-end_used g.good y (rw end-found at q)),
    λ full. omega (arith, full_inside g.good z full, g.small),
    omega (arith, in_disk, g.small),
  )

  -- the rules' give-back is the join to the carried end
  join_is : release limit no_growth last 1 y (slotted s slots) ≡ at_slots slots (join limit z 1 y (exists_by slots) s)
  unfolding release
  join_is = afresh_fixed (λ ex t. join limit (side_end limit last t y) 1 y ex t) (slotted s slots) ∙ ap (λ (e : ℕ). at_slots slots (join limit e 1 y (exists_by slots) s)) (sym end-found)

  module _ (step : Result BlockNo Refusal) (t : Anodes) (plan : step_plan step 1 t ≡ join limit z 1 y (exists_by slots) s) where
    -- refused, so is the give-back
    pub back_stops : (why : Refusal) → step ≡ Err why → release limit no_growth last 1 y (slotted s slots) ≡ refused (number_of why)
    unfolding at_slots
    back_stops why e = join_is ∙ ap (at_slots slots) (sym plan ∙ ap (λ (i : Result BlockNo Refusal). step_plan i 1 t) e)

    module _ (b : BlockNo) (done : step ≡ Ok b) where
      joined : join limit z 1 y (exists_by slots) s ≡ planned t (run b.0 1)
      joined = sym plan ∙ ap (λ (i : Result BlockNo Refusal). step_plan i 1 t) done

      came : CameTo limit s (side_end limit last s y) t
      came = rw (← end-found) (came_join s z 1 y t (run b.0 1) (exists_by slots) joined)

      -- its side ends in the anode behind z, if there is one now
      end_moves : (m : ℕ) → SideHead m → m ≡ side_of last y → last_of m (side limit t m) ≡ end_after (cut t.next) (last_of m (side limit s m))
      unfolding side_end
      end_moves m o e = end_is (cut t.next) (last_of m (side limit s m)) (last_of m (side limit t m)) (came_end g.good m o t (rw e came))

      -- the other side ends where it did
      end_stays : (m : ℕ) → SideHead m → m ≢ side_of last y → last_of m (side limit t m) ≡ last_of m (side limit s m)
      unfolding side_end
      end_stays m o e = ap (last_of m) (came_other g.good (side_of last y) (side_of_head last y) t came m o e)

      -- done, with the ends of both sides then
      pub back-goes : (after : Ends) → after.upper.0 ≡ cond (ltb last y) (end_after (cut t.next) ends.upper.0) ends.upper.0 → after.lower.0 ≡ cond (ltb last y) ends.lower.0 (end_after (cut t.next) ends.lower.0) →
          Backs (Ok after) last y (slotted s slots) (slotted t slots)
      unfolding at_slots
      back-goes after up low = ((run b.0 1, join_is ∙ ap (at_slots slots) joined), ends_then)
        where
          ends_then : EndsOf after (slotted t slots)
          ends_then = elim (less? last y) [
            | inl l ↦ (let m = side_above last y l in (
              up ∙ rw (lt-ltb last y l) (ap (end_after (cut t.next)) are.0 ∙ sym (end_moves 1 (inl refl) (sym m))),
              low ∙ rw (lt-ltb last y l) (are.1 ∙ sym (end_stays 2 (inr refl) (λ e. omega (arith, e, m)))),
            ))
            | inr l ↦ (let m = side-up_to last y l in (
              up ∙ rw (le-ltb last y l) (are.0 ∙ sym (end_stays 1 (inl refl) (λ e. omega (arith, e, m)))),
              low ∙ rw (le-ltb last y l) (ap (end_after (cut t.next)) are.1 ∙ sym (end_moves 2 (inr refl) (sym m))),
            ))
          ]

-- ---- one after the other

-- the state that a give-back leaves
limbo_next : (last y : ℕ) (ys : List ℕ) (s t : Slotted) (zs : List ℕ) → InLimbo last (y ∷ ys) s → release limit no_growth last 1 y s ≡ planned t zs → InLimbo last ys t
limbo_next last y ys s t zs g e =
    let (y0, yn) = g.inside y (omega (arith, occurrences-cons y y ys, one_at-same y y refl)) in
    let w = released (none_grows limit g.n last) {r = s} {system = with_these g.system ys} (λ x l. omega (arith, g.start x l)) 1 y
    (good-same g.good (λ x. omega (arith, occurrences-cons x y ys, covers_one y x))) y0 (omega (arith, yn)) (λ l. omega (arith, l)) t zs e in
    let none = none_got s.slots t.slots w.gs w.system_got (release_slots limit last 1 y s t zs e) in
    record {
      n = g.n;
      system = g.system;
      hd = w.hd';
      sd = w.sd';
      small = g.small;
      start = g.start;
      inside = λ x l. g.inside x (omega (arith, l, occurrences-cons x y ys));
      good = good-same w.good (λ x. omega (arith, none x));
    }

-- of the blocks zs some have gone back, and s is left with ys still to go
pub record GoesBack (last : ℕ) (zs : List ℕ) (start : Slotted) (ys : List ℕ) (ends : Ends) (s : Slotted) : Type 0 where
  pub limbo : InLimbo last ys s
  pub ends_of : EndsOf ends s
  pub gone : List ℕ
  pub rest : given_back last zs start ≡ after gone (given_back last ys s)

pub goes_first : (last : ℕ) (zs : List ℕ) (start : Slotted) (ends : Ends) (ys : List ℕ) → zs ≡ ys → InLimbo last zs start → EndsOf ends start → GoesBack last zs start ys ends start
goes_first last zs start ends ys e g are = rw (← e) (record { limbo = g; ends_of = are; gone = []; rest = sym (after_none (given_back last zs start)) })

-- what is still to go, said otherwise
pub goes_as : {last : ℕ} {zs : List ℕ} {start : Slotted} {ys : List ℕ} {ends : Ends} {s : Slotted} → GoesBack last zs start ys ends s → (xs : List ℕ) → ys ≡ xs → GoesBack last zs start xs ends s
goes_as g xs e = rw e at g

module _ {last : ℕ} {zs : List ℕ} {start : Slotted} {y : ℕ} {ys : List ℕ} {ends : Ends} {s : Slotted} (g : GoesBack last zs start (y ∷ ys) ends s) where
  one-back : given_back last (y ∷ ys) s ≡ release limit no_growth last 1 y s and_then given_back last ys
  unfolding given_back
  one-back = refl

  module _ (t : Slotted) where
    pub goes_next : (after' : Ends) → Backs (Ok after') last y s t → GoesBack last zs start ys after' t
    unfolding ◌and_then◌
    goes_next after' w =
        let ((us, q), are) = w in
        record {
          limbo = limbo_next last y ys s t us g.limbo q;
          ends_of = are;
          gone = g.gone ++ us;
          rest = g.rest ∙ ap (after g.gone) (one-back ∙ ap (λ (p : Plan Slotted). p and_then given_back last ys) q) ∙ after_both g.gone us (given_back last ys t);
        }

    pub goes_stop : (why : Refusal) → Backs (Err why) last y s t → given_back last zs start ≡ refused (number_of why)
    unfolding after
    goes_stop why q =
        g.rest ∙ ap (after g.gone) (one-back ∙ then_stop (release limit no_growth last 1 y s) (given_back last ys) (number_of why) q)

pub goes-all : {last : ℕ} {zs : List ℕ} {start : Slotted} {ys : List ℕ} {ends : Ends} {s : Slotted} → GoesBack last zs start ys ends s → ys ≡ [] → EndsIn (Ok tt) s (given_back last zs start)
unfolding given_back after
goes-all {last} {zs} {start} {ys} {ends} {s} g e = (g.gone ++ [], g.rest ∙ ap (λ (l : List ℕ). after g.gone (given_back last l s)) e)
