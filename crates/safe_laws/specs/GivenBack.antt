-- The old blocks go back one by one: each joins the free list, the state is good, and no other chain is touched.
use Rattle.std.specs.Prelude.{ℕ, ◌<◌, ◌≡◌, refl, ◌≢◌}
use mathlib.Core.List.{List, [], ◌∷◌}
use Rattle.std.proofs.Common.{arith}
use Rattle.rules.specs.Counting.{occurrences}
use Rattle.rules.specs.Anodes.{limit, exists_by}
use Rattle.rules.specs.Plans.{Slotted, planned, no_growth}
use Rattle.rules.specs.Space.{release}
use Rattle.laws.specs.Sums.{one_at-same}
use Rattle.laws.specs.Bags.{occurrences-nil, occurrences-cons}
use Rattle.laws.specs.Ownership.{covers_one}
use Rattle.laws.specs.Space.{Good, good-same}
use Rattle.laws.specs.Plans.{planned_same, then_planned}
use Rattle.laws.specs.Moves.{with_these, none_grows, Shift, shift_none, shift_trans}
use Rattle.laws.specs.Take.{StartOwned}
use Rattle.laws.specs.Give.{released}
use Rattle.laws.specs.FixedSlots.{none_got, release_slots}
use Rattle.safe_rules.specs.SafePlans.{given_back}

-- from s to t blocks that were nobody's have come to the free list: t is good with the system's blocks alone
pub record GaveBack (n last : ℕ) (s : Slotted) (system hd : ℕ → ℕ) (t : Slotted) : Type 0 where
  pub hd' : ℕ → ℕ
  pub sd' : ℕ → ℕ
  pub good : Good limit (exists_by t.slots) n last t.anodes system hd' sd'
  pub shift : Shift s.anodes hd t.anodes hd' 1 1

module _ {n last : ℕ} where
  -- THE OLD BLOCKS GIVEN BACK
  pub given_back_lem : (ys : List ℕ) (s t : Slotted) (zs : List ℕ) (system hd sd : ℕ → ℕ) → StartOwned system → Good limit (exists_by s.slots) n last s.anodes (with_these system ys) hd sd →
      ((x : ℕ) → 0 < occurrences x ys → (x ≢ 0) × (x < n)) → given_back last ys s ≡ planned t zs → GaveBack n last s system hd t
  unfolding given_back
  given_back_lem [] s t zs system hd sd start g inside e =
      let (same, are) = planned_same s t [] zs e in
      rw (← same) (record { hd' = hd; sd' = sd; good = good-same g (λ x. omega (arith, occurrences-nil x)); shift = shift_none s.anodes hd 1 1 })
  given_back_lem (y ∷ ys) s t zs system hd sd start g inside e =
      let (r, xs, us, p, q, i) = then_planned (release limit no_growth last 1 y s) (given_back last ys) t zs e in
      let (y0, yn) = inside y (omega (arith, occurrences-cons y y ys, one_at-same y y refl)) in
      let w = released (none_grows limit n last) {r = s} {system = with_these system ys} (λ x l. omega (arith, start x l)) 1 y
      (good-same g (λ x. omega (arith, occurrences-cons x y ys, covers_one y x))) y0 (omega (arith, yn)) (λ l. omega (arith, l)) r xs p in
      let none = none_got s.slots r.slots w.gs w.system_got (release_slots limit last 1 y s r xs p) in
      let v = given_back_lem ys r t us system w.hd' w.sd' start (good-same w.good (λ x. omega (arith, none x))) (λ x l. inside x (omega (arith, l, occurrences-cons x y ys))) q in
      record { hd' = v.hd'; sd' = v.sd'; good = v.good; shift = shift_trans {hd'' = v.hd'} w.shift v.shift }
