-- Steps that take free blocks: the state behind them is good, the free list has lost exactly the blocks taken, and with as many free as are to be taken the only refusal is 28.
use Rattle.std.specs.Prelude.{ℕ, ◌+◌, ◌≤◌, ◌≡◌, refl, ◌≢◌, Bool, true, List, [], ◌∷◌, ◌++◌, length}
use Rattle.std.proofs.Common.{sym, ap, ◌∙◌, inl, inr, arith, length-append}
use Rattle.rules.specs.Counting.{one_at, occurrences}
use Rattle.rules.specs.Anodes.{Anodes, limit, exists_by}
use Rattle.rules.specs.Plans.{Slotted, Plan, refused, planned, ◌and_then◌, no_growth}
use Rattle.rules.specs.Space.{Found, nowhere, found, free_extent, take_many}
use Rattle.rules.specs.Growth.{slot_from}
use Rattle.laws.specs.Sums.{one_at-same, one_at_other}
use Rattle.laws.specs.Bags.{occurrences-nil, occurrences-cons, occurrences-append}
use Rattle.laws.specs.Heads.{Head}
use Rattle.laws.specs.Blocks.{blocks}
use Rattle.laws.specs.Held.{held}
use Rattle.laws.specs.Space.{Alike, alike_trans, Good}
use Rattle.laws.specs.Plans.{refused≢planned, planned≢refused, planned_same, then_planned, then_refused}
use Rattle.laws.specs.Moves.{with_these, none_grows, Moved}
use Rattle.laws.specs.Take.{StartOwned}
use Rattle.laws.specs.FixedSlots.{none-grown, taken-sum, takes_slots}
use Rattle.laws.specs.Resize.{takes_moved}
use Rattle.laws.specs.RefusedSteps.{takes_refused}
use Rattle.laws.specs.RefusedTakes.{none_left, nowhere_exactly, takes_within}
use Rattle.safe_rules.specs.SafePlans.{block_from, relocated, reslotted}
use Rattle.safe_laws.specs.NewPlaces.{owner_is, place_out, relocate_good, relocate_fewer, relocate_lost, reslot_good, reslot_fewer, reslot_lost}

-- the blocks of the free list, and how often it holds one
abbrev pub free_count : Slotted → (ℕ → ℕ) → ℕ
free_count s hd = blocks limit hd s.anodes.count 1

abbrev pub free_holds : Slotted → (ℕ → ℕ) → ℕ → ℕ
free_holds s hd x = held limit hd s.anodes.count s.anodes.block 1 x

-- an anode of s that is neither the free list's nor of the chain of h
abbrev pub Elsewhere : Anodes → (ℕ → ℕ) → ℕ → ℕ → Type 0
Elsewhere s hd h a = (s.block a ≢ 0) × (hd a ≢ 1) × (hd a ≢ h)

-- on a disk of n blocks
module _ (n last : ℕ) where
  -- from s to t the free list has lost the blocks of ys, and an anode for which `left` holds was left alone
  pub record Took (s : Slotted) (system hd : ℕ → ℕ) (left : ℕ → Type 0) (ys : List ℕ) (t : Slotted) : Type 0 where
    pub system' : ℕ → ℕ
    pub hd' : ℕ → ℕ
    pub sd' : ℕ → ℕ
    pub good : Good limit (exists_by t.slots) n last t.anodes system' hd' sd'
    pub more : (x : ℕ) → system x ≤ system' x
    pub fewer : free_count t hd' + length ys ≡ free_count s hd
    pub lost : (x : ℕ) → free_holds t hd' x + occurrences x ys ≡ free_holds s hd x
    pub alone : (a : ℕ) → left a → Alike s.anodes t.anodes a × (hd' a ≡ hd a)

  -- a plan that takes k blocks, from s on
  pub record TakesBlocks (s : Slotted) (system hd : ℕ → ℕ) (left : ℕ → Type 0) (plan : Plan Slotted) (k : ℕ) : Type 0 where
    pub done : (t : Slotted) (ys : List ℕ) → plan ≡ planned t ys → Took s system hd left ys t × (length ys ≡ k)
    pub stops : (j : ℕ) → plan ≡ refused j → k ≤ free_count s hd → j ≡ 28

module _ {n last : ℕ} where
  -- no step
  pub took_none : {s : Slotted} {system hd sd : ℕ → ℕ} {left : ℕ → Type 0} → Good limit (exists_by s.slots) n last s.anodes system hd sd → Took n last s system hd left [] s
  took_none {s} {system} {hd} {sd} g = record {
    system' = system;
    hd' = hd;
    sd' = sd;
    good = g;
    more = λ x. omega arith;
    fewer = omega arith;
    lost = λ x. omega (arith, occurrences-nil x);
    alone = λ a l. (record { same_count = refl; same_block = refl; same_next = refl }, refl);
  }

  -- the state and the blocks written in another way
  took_is : {s t r : Slotted} {system hd : ℕ → ℕ} {left : ℕ → Type 0} {ys zs : List ℕ} → t ≡ r → zs ≡ ys → Took n last s system hd left ys t → Took n last s system hd left zs r
  took_is e z w = rw (← e, z) w

  -- steps and those after them
  took_both : {s r t : Slotted} {system hd : ℕ → ℕ} {left less : ℕ → Type 0} {ys zs : List ℕ} → ((a : ℕ) → less a → left a) → (w : Took n last s system hd left ys r) → Took n last r w.system' w.hd' less zs t →
      Took n last s system hd less (ys ++ zs) t
  took_both {ys = ys} {zs} sub w v = record {
    system' = v.system';
    hd' = v.hd';
    sd' = v.sd';
    good = v.good;
    more = λ x. omega (arith, w.more x, v.more x);
    fewer = omega (arith, w.fewer, v.fewer, length-append ys zs);
    lost = λ x. omega (arith, w.lost x, v.lost x, occurrences-append x ys zs);
    alone = λ a l. let p = w.alone a (sub a l) in let q = v.alone a l in (alike_trans p.0 q.0, q.1 ∙ p.1);
  }

  -- a plan, and another on what it leaves, which leaves no other anodes alone
  pub takes_then : {s : Slotted} {system hd : ℕ → ℕ} {left less : ℕ → Type 0} (p : Plan Slotted) (f : Slotted → Plan Slotted) {k m : ℕ} → ((a : ℕ) → less a → left a) → TakesBlocks n last s system hd left p k →
      ((r : Slotted) (ys : List ℕ) → p ≡ planned r ys → (w : Took n last s system hd left ys r) → TakesBlocks n last r w.system' w.hd' less (f r) m) → TakesBlocks n last s system hd less (p and_then f) (k + m)
  takes_then p f {k} {m} sub w next = record {
    done = λ t zs e.
        let (r, ys, xs, i, j, z) = then_planned p f t zs e in
        let (v, l) = w.done r ys i in
        let (u, o) = (next r ys i v).done t xs j in
        (took_is refl z (took_both sub v u), ap length z ∙ length-append ys xs ∙ omega (arith, l, o));
    stops = λ j e enough. elim (then_refused p f j e) [
      | inl q ↦ w.stops j q (omega (arith, enough))
      | inr (r, ys, i, q) ↦ (let (v, l) = w.done r ys i in (next r ys i v).stops j q (omega (arith, enough, v.fewer, l)))
    ];
  }

  -- a plan that is done for nothing
  pub takes_planned : {s t : Slotted} {system hd : ℕ → ℕ} {left : ℕ → Type 0} → Took n last s system hd left [] t → TakesBlocks n last s system hd left (planned t []) 0
  takes_planned {t = t} w = record {
    done = λ r ys e. let q = planned_same t r [] ys e in (took_is q.0 q.1 w, ap length q.1);
    stops = λ j e enough. absurd (planned≢refused t [] j e);
  }

  -- fewer anodes are asked for
  pub takes_less : {s : Slotted} {system hd : ℕ → ℕ} {left less : ℕ → Type 0} {plan : Plan Slotted} {k : ℕ} → ((a : ℕ) → less a → left a) → TakesBlocks n last s system hd left plan k → TakesBlocks n last s system hd less plan k
  takes_less f w = record {
    done = λ t ys e. let q = w.done t ys e in (
      record {
        system' = q.0.system';
        hd' = q.0.hd';
        sd' = q.0.sd';
        good = q.0.good;
        more = q.0.more;
        fewer = q.0.fewer;
        lost = q.0.lost;
        alone = λ a l. q.0.alone a (f a l);
      },
      q.1,
    );
    stops = w.stops;
  }

  -- a plan on a state to which no step was needed
  pub takes_from : {s u : Slotted} {system hd : ℕ → ℕ} {left less : ℕ → Type 0} {plan : Plan Slotted} {k : ℕ} → ((a : ℕ) → less a → left a) → (w : Took n last s system hd left [] u) → TakesBlocks n last u w.system' w.hd' less plan k →
      TakesBlocks n last s system hd less plan k
  takes_from sub w v = record { done = λ t ys e. let q = v.done t ys e in (took_both sub w q.0, q.1); stops = λ j e enough. v.stops j e (omega (arith, enough, w.fewer)) }

  -- another way of writing it
  pub takes_is : {s : Slotted} {system hd : ℕ → ℕ} {left : ℕ → Type 0} {p q : Plan Slotted} {k m : ℕ} → p ≡ q → k ≡ m → TakesBlocks n last s system hd left q m → TakesBlocks n last s system hd left p k
  takes_is e z w = rw (e, z) w

  -- ---- blocks that come to the chain of h

  module _ (s : Slotted) (system hd sd : ℕ → ℕ) (start : StartOwned system) (g : Good limit (exists_by s.slots) n last s.anodes system hd sd) (h : ℕ) (h1 : h ≢ 1) (d : Head s.anodes.next s.anodes.block h) where
    pub moved_took : (t : Slotted) (ys gs : List ℕ) → Moved limit n last s system hd 1 h h ys gs t → t.slots ≡ s.slots → Took n last s system hd (Elsewhere s.anodes hd h) ys t
    moved_took t ys gs w same = record {
      system' = with_these system gs;
      hd' = w.hd';
      sd' = w.sd';
      good = w.good;
      more = λ x. omega arith;
      fewer = taken-sum w h1 same;
      lost = λ x. omega (arith, none-grown w same x, rw (one_at-same 1 1 refl, one_at_other h 1 h1) at (w.passed 1 x));
      alone = λ a l. (w.shift.apart a l.0 l.1 l.2, w.shift.same_hd a l.0 l.1 l.2);
    }

    -- k takes
    pub takes_many : (dir : Bool) (k : ℕ) → TakesBlocks n last s system hd (Elsewhere s.anodes hd h) (take_many limit no_growth dir k h s) k
    takes_many dir k = record {
      done = λ t ys e. let (gs, w, l) = takes_moved (none_grows limit n last) k h h1 dir t ys s system hd sd start g d e in (moved_took t ys gs w (takes_slots limit dir k h s t ys e), l);
      stops = λ j e enough. elim (takes_refused limit no_growth dir k h j s e) [ inl q ↦ absurd (takes_within dir h h1 s system hd sd start g d k enough (rw q at e)) | inr q ↦ q ];
    }

  -- ---- blocks that take a new place

  module _ (s : Slotted) (system hd sd : ℕ → ℕ) (g : Good limit (exists_by s.slots) n last s.anodes system hd sd) where
    -- nobody is asked for
    abbrev Nobody : ℕ → Type 0
    Nobody a = ⊥

    -- with a free block there, one is found
    found_some : free_extent limit true s.anodes ≡ nowhere → 1 ≤ free_count s hd → ⊥
    found_some e l = omega (arith, l, (none_left s system hd sd g).1 ((nowhere_exactly s system hd sd g true).0 e))

    -- a step that takes the first free block: 27 where there is none
    one_place : (step : Plan Slotted) (to : ℕ → ℕ → Slotted) → (free_extent limit true s.anodes ≡ nowhere → step ≡ refused 27) →
        ((p x : ℕ) → free_extent limit true s.anodes ≡ found p x → step ≡ planned (to p x) (s.anodes.block x ∷ [])) →
        ((p x : ℕ) → free_extent limit true s.anodes ≡ found p x → Took n last s system hd Nobody (s.anodes.block x ∷ []) (to p x)) → TakesBlocks n last s system hd Nobody step 1
    one_place step to none some took = go (free_extent limit true s.anodes) refl
      where
        go : (c : Found) → free_extent limit true s.anodes ≡ c → TakesBlocks n last s system hd Nobody step 1
        go nowhere e = record { done = λ t ys q. absurd (refused≢planned 27 t ys (sym (none e) ∙ q)); stops = λ j q enough. absurd (found_some e enough) }
        go (found p x) e = record {
          done = λ t ys q. let f = planned_same (to p x) t (s.anodes.block x ∷ []) ys (sym (some p x e) ∙ q) in
              (took_is f.0 f.1 (took p x e), ap length f.1);
          stops = λ j q enough. absurd (planned≢refused (to p x) (s.anodes.block x ∷ []) j (sym (some p x e) ∙ q));
        }

    one_lost : (t : Slotted) (hd' : ℕ → ℕ) (z : ℕ) → ((y : ℕ) → free_holds t hd' y + one_at z y ≡ free_holds s hd y) → (y : ℕ) → free_holds t hd' y + occurrences y (z ∷ []) ≡ free_holds s hd y
    one_lost t hd' z e y = omega (arith, e y, occurrences-cons y z [], occurrences-nil y)

    -- the one block of anode a, which is not the free list's
    pub takes_relocated : (a : ℕ) → s.anodes.count a ≡ 1 → hd a ≢ 1 → TakesBlocks n last s system hd (λ b. ⊥) (relocated (s.anodes.block a) s) 1
    unfolding relocated
    takes_relocated a one away = one_place (relocated (s.anodes.block a) s) (block_from s a) (λ e. rw (e, relocated)) (λ p x e. rw (e, relocated, owner_is g a one)) (λ p x e. record {
      system' = λ y. system y + one_at (s.anodes.block a) y;
      hd' = (place_out s g p x e).hd';
      sd' = (place_out s g p x e).sd';
      good = unfold block_from in relocate_good s g p x e a one away;
      more = λ y. omega arith;
      fewer = relocate_fewer s g p x e a one away;
      lost = one_lost (block_from s a p x) (place_out s g p x e).hd' (s.anodes.block x) (relocate_lost s g p x e a one away);
      alone = λ b l. absurd l;
    })

    -- the block of a slot in use
    pub takes_reslotted : (k : ℕ) → s.slots k ≢ 0 → TakesBlocks n last s system hd (λ b. ⊥) (reslotted k s) 1
    unfolding reslotted
    takes_reslotted k used = one_place (reslotted k s) (slot_from s k) (λ e. rw (e, reslotted)) (λ p x e. rw (e, reslotted)) (λ p x e. record {
      system' = λ y. system y + one_at (s.anodes.block x) y;
      hd' = (place_out s g p x e).hd';
      sd' = (place_out s g p x e).sd';
      good = reslot_good s g p x e k used;
      more = λ y. omega arith;
      fewer = reslot_fewer s g p x e k used;
      lost = one_lost (slot_from s k p x) (place_out s g p x e).hd' (s.anodes.block x) (reslot_lost s g p x e k used);
      alone = λ b l. absurd l;
    })
