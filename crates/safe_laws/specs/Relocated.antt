-- The one block of an anode takes a new place: first a free block is out of the free list, then the anode has it; the old one is in nobody's chain.
use Rattle.std.specs.Prelude.{ℕ, ◌≡◌, ◌≢◌}
use Rattle.std.proofs.Math.Path.{refl, sym, ap}
use Rattle.std.proofs.Common.{◌∙◌, arith}
use Rattle.std.proofs.Math.Logic.{inl, inr}
use Rattle.std.proofs.Math.Bool.{true}
use mathlib.Core.List.{List, [], ◌∷◌, ◌++◌, append-nil}
use Rattle.rules.specs.Anodes.{Anodes, limit, exists_by}
use Rattle.rules.specs.Plans.{Slotted, Plan, refused, planned, ◌and_then◌}
use Rattle.rules.specs.Space.{Found, nowhere, found, free_extent, without_first, rewritten}
use Rattle.laws.specs.Tests.{same?}
use Rattle.laws.specs.Sums.{changed-same, changed_other}
use Rattle.laws.specs.Bags.{occurrences-nil, occurrences-cons}
use Rattle.laws.specs.Ownership.{handed}
use Rattle.laws.specs.Owners.{full_used}
use Rattle.laws.specs.Space.{Good, good-same}
use Rattle.laws.specs.Plans.{refused≢planned, planned_same, then_planned}
use Rattle.laws.specs.Moves.{with_these, Shift}
use Rattle.safe_rules.specs.SafePlans.{owner_of, block_from, relocated, all_relocated}
use Rattle.safe_laws.specs.NewPlaces.{owner_is, place_out, place_some, relocate_good}

-- where no directory block moves
pub none-relocated : (p : Plan Slotted) (r : Slotted) (xs : List ℕ) → p and_then all_relocated [] ≡ planned r xs → p ≡ planned r xs
unfolding all_relocated
none-relocated p r xs e =
    let (q, us, vs, f, g, i) = then_planned p (all_relocated []) r xs e in
    let (same, none) = planned_same q r [] vs g in
    f ∙ ap (λ (q : Slotted). planned q us) same ∙ ap (λ (l : List ℕ). planned r l) (sym (i ∙ ap (λ (l : List ℕ). us ++ l) none ∙ append-nil us))

-- and where one does
pub one-relocated : (p : Plan Slotted) (y : ℕ) (r : Slotted) (xs : List ℕ) → p and_then all_relocated (y ∷ []) ≡ planned r xs →
    (q : Slotted) × (us : List ℕ) × (vs : List ℕ) × (p ≡ planned q us) × (relocated y q ≡ planned r vs) × (xs ≡ us ++ vs)
unfolding all_relocated
one-relocated p y r xs e = let (q, us, vs, f, g, i) = then_planned p (all_relocated (y ∷ [])) r xs e in (q, us, vs, f, none-relocated (relocated y q) r vs g, i)

-- from s to r anode a has the block z for its old one
pub record BlockMoved (n last : ℕ) (s : Slotted) (system hd : ℕ → ℕ) (a : ℕ) (r : Slotted) (ys : List ℕ) : Type 0 where
  pub z : ℕ
  pub some_block : z ≢ 0
  pub are : ys ≡ z ∷ []
  -- first z is out of the free list
  pub between : Anodes
  pub hd' : ℕ → ℕ
  pub sd' : ℕ → ℕ
  pub out-good : Good limit (exists_by s.slots) n last between (handed system 1 z) hd' sd'
  pub out : Shift s.anodes hd between hd' 1 1
  -- then it is the anode's
  pub good : Good limit (exists_by r.slots) n last r.anodes (with_these system (s.anodes.block a ∷ [])) hd' sd'
  pub slots : r.slots ≡ s.slots
  pub next : r.anodes.next ≡ between.next
  pub count : (b : ℕ) → r.anodes.count b ≡ between.count b
  pub own : r.anodes.block a ≡ z
  pub others : (b : ℕ) → b ≢ a → r.anodes.block b ≡ between.block b

module _ {n last : ℕ} (s : Slotted) (system hd sd : ℕ → ℕ) (g : Good limit (exists_by s.slots) n last s.anodes system hd sd) (a : ℕ) (one : s.anodes.count a ≡ 1) (away : hd a ≢ 1) where
  moved_to : (p x : ℕ) → free_extent limit true s.anodes ≡ found p x → BlockMoved n last s system hd a (block_from s a p x) (s.anodes.block x ∷ [])
  unfolding block_from rewritten
  moved_to p x q =
      let o = place_out s g p x q in
      let b = without_first s.anodes p x in
      let z = s.anodes.block x in
      let still : b.count a ≡ 1 = (o.shift.apart a (full_used g a (omega (arith, one))) away away).same_count ∙ one in
      record {
        z = z;
        some_block = place_some s g p x q;
        are = refl;
        between = b;
        hd' = o.hd';
        sd' = o.sd';
        out-good = o.good;
        out = o.shift;
        good = good-same (relocate_good s g p x q a one away) (λ y. omega (arith, occurrences-cons y (s.anodes.block a) [], occurrences-nil y));
        slots = refl;
        next = refl;
        count = λ c. elim (same? c a) [ inl e ↦ rw e (changed-same b.count a 1 ∙ sym still) | inr e ↦ changed_other b.count a 1 c e ];
        own = changed-same b.block a z;
        others = λ c e. changed_other b.block a z c e;
      }

  -- THE BLOCK RELOCATED
  pub block_moved : (r : Slotted) (ys : List ℕ) → relocated (s.anodes.block a) s ≡ planned r ys → BlockMoved n last s system hd a r ys
  unfolding relocated
  block_moved r ys e = go (free_extent limit true s.anodes) refl e
    where
      go : (c : Found) → free_extent limit true s.anodes ≡ c → elim c [ nowhere ↦ refused 27 | found p x ↦ planned (block_from s (owner_of s.anodes (s.anodes.block a)) p x) (s.anodes.block x ∷ []) ] ≡ planned r ys → BlockMoved n last s system hd a r ys
      go nowhere q e = absurd (refused≢planned 27 r ys e)
      go (found p x) q e =
          let (same, are) = planned_same (block_from s (owner_of s.anodes (s.anodes.block a)) p x) r (s.anodes.block x ∷ []) ys e in
          let its : block_from s a p x ≡ r = ap (λ (b : ℕ). block_from s b p x) (sym (owner_is g a one)) ∙ same in
          rw (← its, are) (moved_to p x q)
