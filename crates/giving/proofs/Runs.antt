-- Blocks of a chain go back run by run: the chain in a table, the runs up to a turn, and the end of a removal.
use Prim.Native.Nat.{ℕ, zero, suc, ◌+◌, ◌-◌, ◌≤◌, ◌<◌}
use mathlib.Core.Path.{◌≡◌, refl, sym, ap, ◌∙◌}
use mathlib.Core.Logic.{◌≢◌, inl, inr}
use mathlib.Core.Bool.{false}
use mathlib.Core.List.{List, [], ◌∷◌, ◌++◌, append-nil, append_assoc}
use native.Mathlib.Omega.{arith}
use native.Mathlib.Numerals.{add-one}
use lib.Dec.{leb, leb→le}
use lib.ListN.{length, get_or, set, take}
use lib.Seq.{take-suc-set}
use borrow.Author.Tests.{eq-eqb, ne_eqb}
use Rattle.std.specs.Prelude.{Ok, Err}
use Rattle.disk.specs.declared.Refusal.{Refusal}
use Rattle.disk.specs.Refusals.{number_of}
use Rattle.rules.specs.Counting.{occurrences, last_of}
use Rattle.rules.specs.Anodes.{Anodes, limit, exists_by}
use Rattle.rules.specs.Chains.{chain_of, run, cut, side, block_count}
use Rattle.rules.specs.Plans.{Slotted, slotted, Plan, refused, planned, after, ◌and_then◌, at_slots, Growth}
use Rattle.rules.specs.Space.{lower_run, side_of, side_end, join_with, on_chain, dropped, move_back, head_back, before_head, give_runs, give_blocks, give_all}
use Rattle.laws.specs.Tests.{less?, T_false}
use Rattle.laws.specs.Bags.{list_nil}
use Rattle.laws.specs.Space.{Good, on_chain_lem}
use Rattle.laws.specs.Owners.{full_inside}
use Rattle.laws.specs.Moves.{Grows, with_these}
use Rattle.laws.specs.Whole.{blocks-count}
use Rattle.laws.specs.Plans.{after_none, after_both, then_stop}
use Rattle.laws.specs.Give.{side_of_head, side-end_used, side-end_head}
use Rattle.laws.specs.GiveRuns.{runs_moved}
use Rattle.laws.specs.ChainGone.{lower_most, head_counted}
use Rattle.laws.specs.SideEnds.{side-kept}
use Rattle.anodes.specs.Loaded.{anodes_from}
use Rattle.placing.specs.States.{Ready}
use Rattle.giving_runs.specs.declared.Going.{Going}
use Rattle.giving_runs.specs.Runs.{Carries, Turns}

-- ---- the chain in a table

-- one more anode is listed
pub listed_more : (l : List ℕ) (n a : ℕ) (rest : List ℕ) → n < length l → take (n + 1) (set l n a) ++ rest ≡ take n l ++ (a ∷ rest)
listed_more l n a rest h = rw (add-one n, take-suc-set l n a h) (append_assoc (take n l) (a ∷ []) rest)

-- ---- the runs up to a turn

-- the runs of the chain of h, where slots may grow, have come to s with the rest of the whole plan to go
pub record RunsGo (growth : Growth) (last h : ℕ) (chain : List ℕ) (whole : Plan Slotted) (g : Going) (s : Slotted) : Type 0 where
  pub carries : Carries last h chain g s
  pub fuel : ℕ
  pub enough : g.left ≤ fuel
  pub done : List ℕ
  pub same : after done (give_runs 3444 growth last fuel g.left h s) ≡ whole

-- at first all is to go
pub go_first : (growth : Growth) (last h : ℕ) (chain : List ℕ) (k : ℕ) (g : Going) (s : Anodes) (slots : ℕ → ℕ) → Ready last (slotted s slots) h → k ≤ block_count s h → length chain ≡ 3444 → g.left ≡ k → g.at ≤ 3444 →
    take g.at chain ≡ chain_of s.next 3444 h → g.upper.0 ≡ last_of 1 (chain_of (cut s.next) 3444 1) → g.lower.0 ≡ last_of 2 (chain_of (cut s.next) 3444 2) →
    RunsGo growth last h chain (give_blocks 3444 growth last k h (slotted s slots)) g (slotted s slots)
unfolding give_blocks side
go_first growth last h chain k g s slots ready fits room left inside listed upper lower = record {
  carries = record {
    ready = ready;
    enough = omega (arith, fits, left);
    room = room;
    inside = inside;
    rest = [];
    listed = sym listed ∙ sym (append-nil (take g.at chain));
    empty = list_nil s.count;
    upper_end = upper;
    lower_end = lower;
  };
  fuel = k;
  enough = omega (arith, left);
  done = [];
  same = after_none (give_runs 3444 growth last k g.left h (slotted s slots)) ∙ ap (λ (i : ℕ). give_runs 3444 growth last k i h (slotted s slots)) left;
}

runs_none : (growth : Growth) (last f h : ℕ) (s : Slotted) → give_runs 3444 growth last f 0 h s ≡ planned s []
unfolding give_runs
runs_none growth last zero h s = refl
runs_none growth last (suc f) h s = refl

module _ {growth : Growth} {last h : ℕ} {chain : List ℕ} {whole : Plan Slotted} {g : Going} {s : Slotted} (r : RunsGo growth last h chain whole g s) where
  -- nothing is left to go
  pub go_done : g.left ≡ 0 → (ys : List ℕ) × (whole ≡ planned s ys)
  unfolding after
  go_done e = (r.done, sym r.same ∙ ap (after r.done) (ap (λ (k : ℕ). give_runs 3444 growth last r.fuel k h s) e ∙ runs_none growth last r.fuel h s) ∙ ap (planned s) (append-nil r.done))

  module _ (some : 0 < g.left) (t : Slotted) where
    more : r.fuel ≡ suc (r.fuel - 1)
    more = omega (arith, some, r.enough)

    -- a turn is refused
    pub go_stop : (why : Refusal) → Turns (Err why) growth last h chain g.left s t → whole ≡ refused (number_of why)
    unfolding after
    go_stop why w = sym r.same ∙ ap (after r.done) (ap (λ (f : ℕ). give_runs 3444 growth last f g.left h s) more ∙ w (r.fuel - 1))

    -- a turn is done
    pub go_next : (g' : Going) → Turns (Ok g') growth last h chain g.left s t → RunsGo growth last h chain whole g' t
    go_next g' w = record {
      carries = w.1;
      fuel = r.fuel - 1;
      enough = omega (arith, w.0, r.enough);
      done = r.done ++ w.2.0;
      same = sym (after_both r.done w.2.0 (give_runs 3444 growth last (r.fuel - 1) g'.left h t))
          ∙ ap (after r.done) (sym (ap (λ (f : ℕ). give_runs 3444 growth last f g.left h s) more ∙ w.2.1 (r.fuel - 1))) ∙ r.same;
    }

-- ---- the end of a removal

module _ (last : ℕ) (s : Anodes) (slots : ℕ → ℕ) (h : ℕ) (ready : Ready last (slotted s slots) h) where
  abbrev good : Good limit (exists_by slots) ready.0.n last s ready.0.system ready.0.hd ready.0.sd
  good = ready.0.good

  -- an anode of the free list is not on the chain
  off_chain : (a : ℕ) → ready.0.hd a ≡ 1 → on_chain 3444 s h a ≡ false
  unfolding on_chain
  off_chain a e = T_false (leb 1 (occurrences a (chain_of s.next 3444 h))) (λ t. ready.1.1 (sym (on_chain_lem good h ready.1.0 a (leb→le 1 (occurrences a (chain_of s.next 3444 h)) t)).0 ∙ e))

  -- and is the same once that is zeroed
  kept : (a : ℕ) → ready.0.hd a ≡ 1 → ((dropped 3444 s h).count a ≡ s.count a) × ((dropped 3444 s h).block a ≡ s.block a) × ((dropped 3444 s h).next a ≡ s.next a)
  unfolding dropped
  kept a e = let q = off_chain a e in (rw q, rw q, rw q)

  -- the head is in the tables
  pub head_below : h < 3444
  head_below = good.linked.view.below h ready.1.0.in_use

  -- the head's blocks are on the disk
  pub head_fits : 0 < s.count h → s.block h + s.count h ≤ 65535
  head_fits full = omega (arith, full_inside good h full, ready.0.small)

  -- and so is their end, also where it has none
  pub head_end : (k b : ℕ) → k ≡ s.count h → b ≡ s.block h → b ≤ 65535 → b + k ≤ 65535
  head_end k b ks bs few = elim (less? 0 k) [ inl l ↦ omega (arith, ks, bs, head_fits (omega (arith, ks, l))) | inr l ↦ omega (arith, l, few) ]

  -- some of the chain's blocks
  pub lower_some : lower_run last (s.count h) (s.block h) ≤ block_count s h
  unfolding block_count
  lower_some = omega (arith, lower_most last (s.count h) (s.block h), head_counted good h ready.1.0)

  -- the end z of the side of the head's run, in other tables where the chain is zeroed
  module _ (c f n : List ℕ) (left : anodes_from c f n ≡ dropped 3444 s h) (b m z : ℕ) (start : m ≡ side_of last b) (end : z ≡ last_of m (chain_of (cut (λ a. get_or n a 0)) 3444 m)) where
    is_end : z ≡ side_end 3444 last (dropped 3444 s h) b
    unfolding side_end side anodes_from
    is_end = end ∙ ap (λ (t : Anodes). last_of m (chain_of (cut t.next) 3444 m)) left ∙ rw start

    same_end : z ≡ side_end 3444 last s b
    unfolding side_end
    same_end = is_end ∙ ap (last_of (side_of last b)) (side-kept good (dropped 3444 s h) (λ a u q. (kept a q).2) (side_of last b) (side_of_head last b))

    on_list : ready.0.hd z ≡ 1
    on_list = rw same_end (side-end_head good b)

    -- it is in the tables
    pub end_below : z < 3444
    end_below = good.linked.view.below z (λ q. side-end_used good b (rw same_end at q))

    -- its sums fit
    pub end_fits : 0 < get_or c z 0 → get_or f z 0 + get_or c z 0 ≤ 65535
    unfolding anodes_from
    end_fits l =
        let k = ap (λ (t : Anodes). t.count z) left ∙ (kept z on_list).0 in
        let e = ap (λ (t : Anodes). t.block z) left ∙ (kept z on_list).1 in
        rw (k, e) (omega (arith, full_inside good z (rw k at l), ready.0.small))

    -- the head's run goes there with the head
    pub head_goes : (k : ℕ) → k ≡ s.count h → b ≡ s.block h → k ≢ 0 → (t : Anodes) → planned t (run b k) ≡ join_with h z k b (anodes_from c f n) → (w : ℕ → ℕ) → head_back 3444 last h (slotted s w) ≡ planned (slotted t w) (run b k)
    unfolding head_back move_back at_slots
    head_goes k ks bs k0 t e w = rw (← ks, ne_eqb k 0 k0, ← bs, ← is_end, ← left, ← e)

  -- a head without a run is zeroed with the rest
  pub head_none : s.count h ≡ 0 → (t : Anodes) → t ≡ dropped 3444 s h → (w : ℕ → ℕ) → head_back 3444 last h (slotted s w) ≡ planned (slotted t w) []
  unfolding head_back
  head_none e t left w = rw (eq-eqb (s.count h) 0 e, left)

  -- ---- the whole chain

  module _ (growth : Growth) where
    -- blocks that have gone back leave a good state
    pub blocks_ready : ((n : ℕ) → Grows limit n last growth) → (k : ℕ) (t : Slotted) (ys : List ℕ) → k ≤ block_count s h → give_blocks 3444 growth last k h (slotted s slots) ≡ planned t ys → Ready last t h
    blocks_ready grows k t ys few e =
        let (gs, w, long) = runs_moved (grows ready.0.n) h ready.1.1 k t ys (slotted s slots) ready.0.system ready.0.hd ready.0.sd ready.0.start good ready.1.0 (rw (blocks-count good h ready.1.0) few) e in
        (record { n = ready.0.n; system = with_these ready.0.system gs; hd = w.hd'; sd = w.sd'; small = ready.0.small; start = λ y l. omega (arith, ready.0.start y l); good = w.good }, (w.shift.stays h ready.1.0, ready.1.1))

    module _ (k : ℕ) (is : k ≡ block_count s h - lower_run last (s.count h) (s.block h)) where
      before_is : before_head 3444 last s h ≡ k
      unfolding before_head block_count
      before_is = sym is

      -- refused before the head
      pub all_stop : (j : ℕ) → give_blocks 3444 growth last k h (slotted s slots) ≡ refused j → give_all 3444 growth last h (slotted s slots) ≡ refused j
      unfolding give_all
      all_stop j e = rw before_is (then_stop (give_blocks 3444 growth last k h (slotted s slots)) (head_back 3444 last h) j e)

      -- done, and then the head
      pub all_done : (t r : Slotted) (ys zs : List ℕ) → give_blocks 3444 growth last k h (slotted s slots) ≡ planned t ys → head_back 3444 last h t ≡ planned r zs → give_all 3444 growth last h (slotted s slots) ≡ planned r (ys ++ zs)
      unfolding give_all ◌and_then◌ after
      all_done t r ys zs e b = rw (before_is, e, ◌and_then◌, b, after)
