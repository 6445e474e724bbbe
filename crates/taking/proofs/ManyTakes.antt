-- Takes one after the other: each leaves to the next what holds then.
use Prim.Native.Nat.{ℕ, ◌+◌}
use mathlib.Core.Path.{◌≡◌, refl, sym, ap, ◌∙◌}
use mathlib.Core.Bool.{Bool, true, false, not}
use Rattle.std.specs.Prelude.{Result, Ok, Err}
use Rattle.std.specs.Bool.{then_some}
use mathlib.Core.List.{List, [], ◌++◌, append-nil}
use native.Mathlib.Omega.{arith}
use lib.Dec.{eqb}
use borrow.Author.Tests.{eq-eqb}
use Rattle.disk.specs.declared.Refusal.{Refusal}
use Rattle.rules.specs.Anodes.{Anodes, exists_by}
use Rattle.rules.specs.Plans.{Slotted, slotted, Plan, refused, planned, after, Growth}
use Rattle.rules.specs.Space.{found, without_first, free_extent, chain_end, put, take_block, take_many}
use Rattle.laws.specs.Plans.{after_none, after_both, repeated-zero, repeated_next, repeated_stop}
use Rattle.laws.specs.Carried.{end_after}
use Rattle.growing.specs.Grown.{growth_if}
use Rattle.searches.specs.declared.Extent.{Extent}
use Rattle.taking.specs.declared.Taking.{Taking}
use Rattle.taking.specs.Extents.{extent_left}
use Rattle.taking.specs.Turns.{TakenGrown, TakeCarries, TakeTurns}
use Rattle.taking.proofs.OneTake.{taken_ready, taken-end, taken, taken-extent}

-- ---- a take with what is carried

module _ {last h : ℕ} {t : Taking} {s : Slotted} (c : TakeCarries last h t s) where
  -- it leaves a good state, and the chain ends in the anode that is carried on
  done_so : (b : Bool) (g : Taking) (r : Slotted) (ys : List ℕ) → take_block 3444 (growth_if b) false h s ≡ planned r ys → g.end.0 ≡ end_after r.anodes.next t.end.0 →
      extent_left g.more r.anodes ≡ free_extent 3444 false r.anodes → TakeTurns (Ok g) (growth_if b) last h s r
  done_so b g r ys q e extent = (
    record {
      ready = taken_ready b c.ready false r ys q;
      ends = e ∙ ap (end_after r.anodes.next) c.ends ∙ sym (taken-end b c.ready false r ys q);
      extent = extent;
    },
    (ys, q),
  )

  -- the first block of an extent is put at these slots
  pub turn_done : (b : Bool) (x : Extent) → free_extent 3444 false s.anodes ≡ found x.before.0 x.anode.0 → (r : Anodes) (ys : List ℕ) →
      put 3444 false (chain_end 3444 s.anodes h) (s.anodes.block x.anode.0) (exists_by s.slots) (without_first s.anodes x.before.0 x.anode.0) ≡ planned r ys → (g : Taking) → g.end.0 ≡ end_after r.next t.end.0 →
      (more : Bool) → not (eqb (s.anodes.count x.anode.0) 1) ≡ more → g.more ≡ then_some more x → TakeTurns (Ok g) (growth_if b) last h s (slotted r s.slots)
  turn_done b x f r ys q g e true more j = done_so b g (slotted r s.slots) ys (taken c.ready false x.before.0 x.anode.0 f b r ys q) e
      (rw j (sym (taken-extent c.ready false x.before.0 x.anode.0 f r ys q (λ o. let k : not true ≡ true = rw (eq-eqb (s.anodes.count x.anode.0) 1 o) at more in cc))))
  turn_done b x f r ys q g e false more j = done_so b g (slotted r s.slots) ys (taken c.ready false x.before.0 x.anode.0 f b r ys q) e (rw j refl)

  -- or on what growth leaves, if there is any
  pub turn_grown : (b : Bool) (plan : Plan Slotted) → take_block 3444 (growth_if b) false h s ≡ plan → (turn : Result Taking Refusal) (r : Slotted) → TakenGrown turn t.end.0 r plan → TakeTurns turn (growth_if b) last h s r
  turn_grown b plan is (Ok g) r w = done_so b g r w.0.0 (is ∙ w.0.1) w.1 (rw w.2 refl)
  turn_grown b plan is (Err why) r w = is ∙ w

-- ---- many takes

-- takes for the chain of h have come to s with `left` of the whole plan to go, and carry t
pub record TakeRun (growth : Growth) (h : ℕ) (whole : Plan Slotted) (left : ℕ) (t : Taking) (s : Slotted) : Type 0 where
  pub last : ℕ
  pub carries : TakeCarries last h t s
  pub done : List ℕ
  pub same : after done (take_many 3444 growth false left h s) ≡ whole

-- before the first
pub run-first : (growth : Growth) {last h : ℕ} (k left : ℕ) {t : Taking} {s : Slotted} → left ≡ k → TakeCarries last h t s → TakeRun growth h (take_many 3444 growth false k h s) left t s
run-first growth {last} {h} k left {t} {s} e c = record { last = last; carries = c; done = []; same = rw e (after_none (take_many 3444 growth false k h s)) }

module _ {growth : Growth} {h : ℕ} {whole : Plan Slotted} {left : ℕ} {t : Taking} {s : Slotted} (r : TakeRun growth h whole left t s) where
  -- after the last
  pub run-done : left ≡ 0 → (ys : List ℕ) × (whole ≡ planned s ys)
  unfolding after take_many
  run-done e = (r.done, sym (rw (e, repeated-zero (take_block 3444 growth false h) s) at r.same) ∙ ap (planned s) (append-nil r.done))

  module _ (rest : ℕ) (some : left ≡ rest + 1) where
    -- a refused take stops them
    pub run_stop : (why : ℕ) → take_block 3444 growth false h s ≡ refused why → whole ≡ refused why
    unfolding after take_many
    run_stop why stops = sym (rw (repeated_stop (take_block 3444 growth false h) left rest (omega arith) s why stops) at r.same)

    -- a take that is done leaves the rest
    pub run_next : (g : Taking) (q : Slotted) → TakeTurns (Ok g) growth r.last h s q → TakeRun growth h whole rest g q
    unfolding take_many
    run_next g q goes =
        let (c, (ys, f)) = goes in
        record {
          last = r.last;
          carries = c;
          done = r.done ++ ys;
          same = sym (after_both r.done ys (take_many 3444 growth false rest h q)) ∙ ap (after r.done) (sym (repeated_next (take_block 3444 growth false h) left rest (omega arith) s q ys f)) ∙ r.same;
        }
