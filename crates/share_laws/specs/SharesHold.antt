-- 02, No. 9: a done call leaves every party within its share. Its own use grows by what it needs and shrinks by what it gives back, the others' stays; anode blocks come only by a keeper's call, which ends within its share.
use Prim.Native.Nat.{ℕ, zero, suc, ◌+◌, ◌≤◌}
use Rattle.std.specs.Prelude.{◌≡◌, refl, ◌≢◌, ◌⊎◌, Bool, true, false, cond, not, ◌||◌, List, eqb, length}
use Rattle.std.proofs.Math.Path.{sym}
use Rattle.std.proofs.Common.{ap, ◌∙◌, true≢false, arith}
use Rattle.std.proofs.Math.Logic.{inl, inr}
use borrow.Author.Tests.{eq-eqb, eqb-true, ne_eqb, not-false}
use Rattle.rules.specs.Anodes.{Anodes, limit, anodes_of}
use Rattle.rules.specs.Walk.{reached_dirs}
use Rattle.rules.specs.Accepted.{disk_size, last_reserved}
use Rattle.rules.specs.Lookup.{no_directory}
use Rattle.rules.specs.Totals.{free_blocks, anode_blocks}
use Rattle.rules.specs.Plans.{Growth}
use Rattle.rules.specs.Changes.{parent_of}
use Rattle.counting.specs.Laws.{neither}
use Rattle.laws.specs.Tests.{same?}
use Rattle.laws.specs.Moves.{Grows}
use Rattle.change_laws.specs.Image.{AcceptedImage, ReachedDir}
use Rattle.share_rules.specs.Shares.{Shares, lies_in, used_in, used_else, used_by, share_of, over_share, wrong_tops, unfit, party_of, not_own}
use Rattle.share_rules.specs.SharedCalls.{SharedCall, shared_read, shared_list, shared_make, shared_resize, shared_write, shared_remove, named_directory, unshared_left, names_top, removes_top, blocks_needed, shared_answer, growth_for, shared_outcome}
use Rattle.share_laws.specs.LetPass.{LetPass, let_pass, check_passed}
use Rattle.share_laws.specs.Accepted.{growth_grows, shared_cases, shared_refused}
use Rattle.share_laws.specs.Fitting.{not_over, within_share, Fitting, fitting_of, fitting-fit, TwoTops, tops_of, top_reached, reached_top, one_party, disjoint_use}
use Rattle.share_laws.specs.Never27.{growth_cases}
use Rattle.share_laws.specs.KeptWays.{IsReached, walked_dirs}
use Rattle.share_laws.specs.CallUse.{blocks_given, RemovesDir, call_use, call_keeps, pool_fixed}

-- what a done shared call leaves
pub record DoneUse (img j : List ℕ) (party : ℕ) (sh : Shares) (call : SharedCall) : Type 0 where
  -- the party's own use afterwards, with what it gave back, is that of before, with what it needed and the anode blocks that came
  pub own_use : used_by j (anodes_of j) sh party + blocks_given img call + anode_blocks img ≡ used_by img (anodes_of img) sh party + blocks_needed img call + anode_blocks j
  -- the others' use stays
  pub others_use : (q : ℕ) → q ≤ 2 → q ≢ party → used_by j (anodes_of j) sh q ≡ used_by img (anodes_of img) sh q
  -- anode blocks stay, or a keeper's call that ends within its share brought them
  pub pool : (anode_blocks j ≡ anode_blocks img) ⊎ ((party ≡ 0) × (over_share j (anodes_of j) sh 0 0 ≡ false))
  -- the shares fit
  pub still_fit : unfit j (anodes_of j) sh ≡ false

-- a call that removes no top directory removes neither
pub not_top : (img : List ℕ) (sh : Shares) (call : SharedCall) → removes_top img sh call ≡ false → (x : ℕ) → (x ≡ sh.first) ⊎ (x ≡ sh.second) → RemovesDir img call x → ⊥
unfolding names_top
not_top img sh (shared_read h name offset out) e x is r = r
not_top img sh (shared_list h place) e x is r = r
not_top img sh (shared_make h type name comment day minute tick protection) e x is r = r
not_top img sh (shared_resize h name new) e x is r = r
not_top img sh (shared_write h name offset bytes) e x is r = r
not_top img sh (shared_remove h name) e x is (c, named, dir, at) =
    let q : (eqb c.anode sh.first || eqb c.anode sh.second) ≡ false = rw (named, dir) at e in
    let n = neither (eqb c.anode sh.first) (eqb c.anode sh.second) q in
    elim is [
      | inl i ↦ true≢false (sym (eq-eqb c.anode sh.first (at ∙ i)) ∙ n.0)
      | inr i ↦ true≢false (sym (eq-eqb c.anode sh.second (at ∙ i)) ∙ n.1)
    ]

-- whose a directory is, by the two tops that it may lie in
whose : (a b : Bool) (party : ℕ) → (a ≡ true → b ≡ true → ⊥) → cond a 1 (cond b 2 0) ≡ party →
    ((party ≡ 0) × (a ≡ false) × (b ≡ false)) ⊎ (((party ≡ 1) × (a ≡ true) × (b ≡ false)) ⊎ ((party ≡ 2) × (a ≡ false) × (b ≡ true)))
whose true true party apart e = absurd (apart refl refl)
whose true false party apart e = inr (inl (sym e, refl, refl))
whose false true party apart e = inr (inr (sym e, refl, refl))
whose false false party apart e = inl (sym e, refl, refl)

-- the directory is reached, and the party's
pub party_directory : (img : List ℕ) (s : Anodes) (party : ℕ) (sh : Shares) (h : ℕ) → not_own img s party sh h ≡ false → (no_directory img s h ≡ false) × (party_of (reached_dirs img s) sh h ≡ party)
unfolding not_own
party_directory img s party sh h e =
    let n = neither (no_directory img s h) (not (eqb (party_of (reached_dirs img s) sh h) party)) e in
    (n.0, eqb-true (party_of (reached_dirs img s) sh h) party (not-false _ n.1))

module _ {img : List ℕ} (image : AcceptedImage img) (party : ℕ) (sh : Shares) (call : SharedCall) (p : LetPass img party sh call) {growth : Growth} (grows : Grows limit (disk_size img) (last_reserved img) growth)
    (done : (unshared_left growth img call).answer ≡ 0) where
  abbrev s : Anodes
  s = anodes_of img

  abbrev j : List ℕ
  j = (unshared_left growth img call).image

  abbrev t : Anodes
  t = anodes_of j

  abbrev need : ℕ
  need = blocks_needed img call

  abbrev given : ℕ
  given = blocks_given img call

  fit : Fitting img s sh
  fit = fitting_of img s sh p.fit

  two : TwoTops img s sh
  two = tops_of img s sh fit.tops

  abbrev in1 : Bool
  in1 = lies_in (walked_dirs img) sh.first (named_directory call)

  abbrev in2 : Bool
  in2 = lies_in (walked_dirs img) sh.second (named_directory call)

  -- a top is still one
  top_kept : (x : ℕ) → (x ≡ sh.first) ⊎ (x ≡ sh.second) → ReachedDir img x × (parent_of (walked_dirs img) x ≡ 5) → IsReached j x × (parent_of (walked_dirs j) x ≡ 5)
  top_kept x is (r, up) =
      let still = call_keeps image grows call p.no_other x (not_top img sh call p.no_top x is) r.reached in
      (still, (call_use image grows call p.no_other done).parents x r.reached still ∙ up)

  first-kept : IsReached j sh.first × (parent_of (walked_dirs j) sh.first ≡ 5)
  first-kept = top_kept sh.first (inl refl) (top_reached image sh.first two.first_top)

  second_kept : IsReached j sh.second × (parent_of (walked_dirs j) sh.second ≡ 5)
  second_kept = top_kept sh.second (inr refl) (top_reached image sh.second two.second_top)

  left-image : AcceptedImage j
  left-image = (call_use image grows call p.no_other done).image'

  two-left : TwoTops j t sh
  two-left = record {
    first_top = reached_top left-image (record { image = left-image; reached = first-kept.0 }) first-kept.1;
    second_top = reached_top left-image (record { image = left-image; reached = second_kept.0 }) second_kept.1;
    differ = two.differ;
  }

  right_tops : wrong_tops j t sh ≡ false
  unfolding wrong_tops
  right_tops = rw (two-left.first_top, two-left.second_top, ne_eqb sh.first sh.second two.differ)

  -- the sums
  first_used : used_in j t sh.first + cond in1 given 0 ≡ used_in img s sh.first + cond in1 need 0
  first_used = (call_use image grows call p.no_other done).used sh.first (top_reached image sh.first two.first_top).0.reached first-kept.0

  second_used : used_in j t sh.second + cond in2 given 0 ≡ used_in img s sh.second + cond in2 need 0
  second_used = (call_use image grows call p.no_other done).used sh.second (top_reached image sh.second two.second_top).0.reached second_kept.0

  paid : free_blocks t + anode_blocks j + need ≡ free_blocks s + anode_blocks img + given
  paid = (call_use image grows call p.no_other done).paid

  same_size : disk_size j ≡ disk_size img
  same_size = (call_use image grows call p.no_other done).same_size

  -- what is used afterwards, by whose directory it is
  record Sums : Type 0 where
    own_sum : used_by j t sh party + given + anode_blocks img ≡ used_by img s sh party + need + anode_blocks j
    others_sum : (q : ℕ) → q ≤ 2 → q ≢ party → used_by j t sh q ≡ used_by img s sh q
    first_fits : used_in j t sh.first ≤ sh.first_share
    second_fits : used_in j t sh.second ≤ sh.second_share
    all-fits : sh.first_share + sh.second_share + used_else j t sh ≤ disk_size j

  module _ (pool : (anode_blocks j ≡ anode_blocks img) ⊎ ((party ≡ 0) × (over_share j t sh 0 0 ≡ false))) where
    -- all else, where the two parties' uses and the free blocks are these
    keeper_sums : party ≡ 0 → in1 ≡ false → in2 ≡ false → Sums
    unfolding used_by share_of used_else
    keeper_sums is a b =
        let u1 : used_in j t sh.first + 0 ≡ used_in img s sh.first + 0 = rw a at first_used in
        let u2 : used_in j t sh.second + 0 ≡ used_in img s sh.second + 0 = rw b at second_used in
        let before = disjoint_use image sh two in
        let after = disjoint_use left-image sh two-left in
        let within = rw is at (not_over img s sh party need p.within) in
        let sum : used_else j t sh + given + anode_blocks img ≡ used_else img s sh + need + anode_blocks j = omega (arith, u1, u2, paid, same_size, before, after) in
        record {
          own_sum = rw is sum;
          others_sum = λ q l o. others q l (λ i. o (i ∙ sym is)) u1 u2;
          first_fits = omega (arith, u1, fit.first_within);
          second_fits = omega (arith, u2, fit.second_within);
          all-fits = elim pool [
            | inl stay ↦ omega (arith, stay, sum, within, same_size, fit.all_fit)
            | inr grown ↦ omega (arith, not_over j t sh 0 0 grown.1, same_size, fit.all_fit)
          ];
        }
      where
        others : (q : ℕ) → q ≤ 2 → q ≢ 0 → used_in j t sh.first + 0 ≡ used_in img s sh.first + 0 → used_in j t sh.second + 0 ≡ used_in img s sh.second + 0 → used_by j t sh q ≡ used_by img s sh q
        others zero l o u1 u2 = absurd (o refl)
        others (suc zero) l o u1 u2 = omega (arith, u1)
        others (suc (suc q)) l o u1 u2 = omega (arith, u2)

    -- no pool grows by a party's call
    party_fixed : party ≢ 0 → anode_blocks j ≡ anode_blocks img
    party_fixed o = elim pool [ inl stay ↦ stay | inr grown ↦ absurd (o grown.0) ]

    first_sums : party ≡ 1 → in1 ≡ true → in2 ≡ false → Sums
    unfolding used_by share_of used_else
    first_sums is a b =
        let u1 : used_in j t sh.first + given ≡ used_in img s sh.first + need = rw a at first_used in
        let u2 : used_in j t sh.second + 0 ≡ used_in img s sh.second + 0 = rw b at second_used in
        let before = disjoint_use image sh two in
        let after = disjoint_use left-image sh two-left in
        let stay = party_fixed (λ i. omega (arith, i, is)) in
        let within = rw is at (not_over img s sh party need p.within) in
        let else_same : used_else j t sh ≡ used_else img s sh = omega (arith, u1, u2, paid, stay, same_size, before, after) in
        record {
          own_sum = rw is (omega (arith, u1, stay));
          others_sum = λ q l o. others q l (λ i. o (i ∙ sym is)) else_same u2;
          first_fits = omega (arith, u1, within);
          second_fits = omega (arith, u2, fit.second_within);
          all-fits = omega (arith, else_same, same_size, fit.all_fit);
        }
      where
        others : (q : ℕ) → q ≤ 2 → q ≢ 1 → used_else j t sh ≡ used_else img s sh → used_in j t sh.second + 0 ≡ used_in img s sh.second + 0 → used_by j t sh q ≡ used_by img s sh q
        others zero l o same u2 = same
        others (suc zero) l o same u2 = absurd (o refl)
        others (suc (suc q)) l o same u2 = omega (arith, u2)

    second_sums : party ≡ 2 → in1 ≡ false → in2 ≡ true → Sums
    unfolding used_by share_of used_else
    second_sums is a b =
        let u1 : used_in j t sh.first + 0 ≡ used_in img s sh.first + 0 = rw a at first_used in
        let u2 : used_in j t sh.second + given ≡ used_in img s sh.second + need = rw b at second_used in
        let before = disjoint_use image sh two in
        let after = disjoint_use left-image sh two-left in
        let stay = party_fixed (λ i. omega (arith, i, is)) in
        let within = rw is at (not_over img s sh party need p.within) in
        let else_same : used_else j t sh ≡ used_else img s sh = omega (arith, u1, u2, paid, stay, same_size, before, after) in
        record {
          own_sum = rw is (omega (arith, u2, stay));
          others_sum = λ q l o. others q l (λ i. o (i ∙ sym is)) else_same u1;
          first_fits = omega (arith, u1, fit.first_within);
          second_fits = omega (arith, u2, within);
          all-fits = omega (arith, else_same, same_size, fit.all_fit);
        }
      where
        others : (q : ℕ) → q ≤ 2 → q ≢ 2 → used_else j t sh ≡ used_else img s sh → used_in j t sh.first + 0 ≡ used_in img s sh.first + 0 → used_by j t sh q ≡ used_by img s sh q
        others zero l o same u1 = same
        others (suc zero) l o same u1 = omega (arith, u1)
        others (suc (suc q)) l o same u1 = absurd (o (omega (arith, l)))

    sums : Sums
    unfolding party_of
    sums =
        let own = (party_directory img s party sh (named_directory call) p.own).1 in
        elim (whose in1 in2 party (one_party image sh two (named_directory call)) own) [
          | inl (is, a, b) ↦ keeper_sums is a b
          | inr (inl (is, a, b)) ↦ first_sums is a b
          | inr (inr (is, a, b)) ↦ second_sums is a b
        ]

    pub done_use : DoneUse img (unshared_left growth img call).image party sh call
    done_use = record {
      own_use = sums.own_sum;
      others_use = sums.others_sum;
      pool = pool;
      still_fit = fitting-fit j t sh (record { tops = right_tops; first_within = sums.first_fits; second_within = sums.second_fits; all_fit = sums.all-fits });
    }

-- ---- the shared call

-- where shares fit, every party is within its own
each_within : (img : List ℕ) (s : Anodes) (sh : Shares) → Fitting img s sh → (q : ℕ) → over_share img s sh q 0 ≡ false
unfolding used_by share_of
each_within img s sh f zero = within_share img s sh 0 0 (omega (arith, f.all_fit))
each_within img s sh f (suc zero) = within_share img s sh 1 0 (omega (arith, f.first_within))
each_within img s sh f (suc (suc q)) = within_share img s sh (suc (suc q)) 0 (omega (arith, f.second_within))

module _ (img blocks anodes : List ℕ) (party : ℕ) (sh : Shares) (call : SharedCall) where
  -- where its tests let it pass and its steps are done
  steps_use : shared_answer img blocks anodes party sh call ≡ 0 → (unshared_left (growth_for img party sh call) img call).answer ≡ 0 → DoneUse img (unshared_left (growth_for img party sh call) img call).image party sh call
  steps_use e done =
      let p = let_pass img blocks anodes party sh call e in
      let image : AcceptedImage img = record { blocks = length blocks; anodes = length anodes; accepted = check_passed img blocks anodes party sh call e } in
      done_use image party sh call p (growth_grows (disk_size img) (last_reserved img) img party sh call) done
      (growth_cases (λ g. (anode_blocks (unshared_left g img call).image ≡ anode_blocks img) ⊎ ((party ≡ 0) × (over_share (unshared_left g img call).image (anodes_of (unshared_left g img call).image) sh 0 0 ≡ false))) img party sh call
      (λ keeper answered within. inr (keeper, within)) (inl (pool_fixed image call p.no_other)))

  -- A DONE CALL: its party's use, the others', the anode blocks, and shares that fit still
  pub shared_use : (shared_outcome img blocks anodes party sh call).answer ≡ 0 → DoneUse img (shared_outcome img blocks anodes party sh call).image party sh call
  shared_use = shared_cases img blocks anodes party sh call (λ l. l.answer ≡ 0 → DoneUse img l.image party sh call) (λ k e d. absurd (omega (arith, d))) steps_use

  -- SHARES HOLD: shares that fit do so after every call
  pub shares_hold : unfit img (anodes_of img) sh ≡ false → unfit (shared_outcome img blocks anodes party sh call).image (anodes_of (shared_outcome img blocks anodes party sh call).image) sh ≡ false
  shares_hold fit = go (same? (shared_outcome img blocks anodes party sh call).answer 0)
    where
      go : ((shared_outcome img blocks anodes party sh call).answer ≡ 0) ⊎ ((shared_outcome img blocks anodes party sh call).answer ≢ 0) →
          unfit (shared_outcome img blocks anodes party sh call).image (anodes_of (shared_outcome img blocks anodes party sh call).image) sh ≡ false
      go (inl d) = (shared_use d).still_fit
      go (inr d) = rw (shared_refused img blocks anodes party sh call d) fit

  -- EVERY PARTY IS WITHIN ITS SHARE after a done call
  pub all_within : (shared_outcome img blocks anodes party sh call).answer ≡ 0 → (q : ℕ) → over_share (shared_outcome img blocks anodes party sh call).image (anodes_of (shared_outcome img blocks anodes party sh call).image) sh q 0 ≡ false
  all_within d q =
      let j = (shared_outcome img blocks anodes party sh call).image in
      each_within j (anodes_of j) sh (fitting_of j (anodes_of j) sh (shared_use d).still_fit) q

  -- A DONE CALL WITHOUT GROWTH: the own use afterwards and the blocks given back are the own use before and the blocks needed
  pub exact_use : (shared_outcome img blocks anodes party sh call).answer ≡ 0 → anode_blocks (shared_outcome img blocks anodes party sh call).image ≡ anode_blocks img →
      used_by (shared_outcome img blocks anodes party sh call).image (anodes_of (shared_outcome img blocks anodes party sh call).image) sh party + blocks_given img call ≡ used_by img (anodes_of img) sh party + blocks_needed img call
  exact_use d fixed = omega (arith, (shared_use d).own_use, fixed)

  -- THE POOL GROWS only by a keeper's call that ends within its share
  pub grown_by_keeper : anode_blocks (shared_outcome img blocks anodes party sh call).image ≢ anode_blocks img →
      (party ≡ 0) × (over_share (shared_outcome img blocks anodes party sh call).image (anodes_of (shared_outcome img blocks anodes party sh call).image) sh 0 0 ≡ false)
  grown_by_keeper more = elim (same? (shared_outcome img blocks anodes party sh call).answer 0) [
    | inl d ↦ elim (shared_use d).pool [ inl fixed ↦ absurd (more fixed) | inr keeper ↦ keeper ]
    | inr d ↦ absurd (more (ap anode_blocks (shared_refused img blocks anodes party sh call d)))
  ]
