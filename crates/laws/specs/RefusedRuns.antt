-- When giving back is refused, and with which number: with 28 alone, exactly if a run that needs an anode joins nothing and none can be had.
use Prim.Native.Nat.{ℕ, zero, suc, ◌+◌, ◌-◌, ◌≤◌, ◌<◌}
use Rattle.std.specs.Prelude.{◌≡◌, ◌≢◌, ◌⊎◌, ◌↔◌, false}
use Rattle.std.proofs.Math.Path.{refl, ap, subst}
use Rattle.std.proofs.Common.{sym, ◌∙◌, arith}
use Rattle.std.proofs.Math.Logic.{inl, inr}
use mathlib.Core.List.{List, [], ◌∷◌, ◌++◌}
use Rattle.rules.specs.Anodes.{Anodes, exists_by}
use Rattle.rules.specs.Chains.{chain_of, run}
use Rattle.rules.specs.Plans.{Slotted, slotted, Plan, refused, planned, ◌and_then◌, at_slots, Growth, no_growth}
use Rattle.rules.specs.Counting.{sum_list, occurrences}
use Rattle.rules.specs.Space.{rewritten, inserted_after, unlinked, crosses, upper_run, lower_run, without_tail, tail_start, Found, nowhere, found, last_extent, side_end, run_length, dropped, join_with, move_back, head_back, before_head, give_run, give_runs, give_blocks, give_all}
use Rattle.laws.specs.Tests.{eqb_cases}
use Rattle.laws.specs.Sums.{one_at_other, changed_other}
use Rattle.laws.specs.Bags.{list_cons, occurrences-cons, occurrences-append, occurrences-here, occurrences-member}
use Rattle.laws.specs.Members.{member-sum}
use Rattle.laws.specs.Leaving.{run-unlinked}
use Rattle.laws.specs.Heads.{Head}
use Rattle.laws.specs.Space.{Good}
use Rattle.laws.specs.Owners.{full-0}
use Rattle.laws.specs.Searches.{FoundIn, found_after, last_extent_split}
use Rattle.laws.specs.Plans.{planned≢refused, then_refused, then_stop, then_stops}
use Rattle.laws.specs.Moves.{with_these, Grows}
use Rattle.laws.specs.Arriving.{JoinsNone, fills, ends, starts, behind, join_cases}
use Rattle.laws.specs.Take.{StartOwned}
use Rattle.laws.specs.Give.{given-found}
use Rattle.laws.specs.GiveRuns.{run_cases, give_cases, tail-out, run_released, give_run-moved, NextRun, Meets, now, later, runs_next, next_fits, meets_moved}
use Rattle.laws.specs.Frame.{shift_alike, shift_chain}
use Rattle.laws.specs.ChainBlocks.{stands_once, unlinked-chain}
use Rattle.laws.specs.ChainGone.{head_first, head_alone, Before, before-first, run-before}
use Rattle.laws.specs.RefusedSteps.{Spares, NoAnode, release_refused, release-28_exactly}

-- ---- what needs no anode is never refused

-- a plan that is done
abbrev pub Done : {X : Type 0} → Plan X → Type 0
Done {X} p = (t : X) × (ys : List ℕ) × (p ≡ planned t ys)

-- it is not refused
pub done-not : {X : Type 0} (p : Plan X) → Done p → (k : ℕ) → p ≡ refused k → ⊥
done-not p (t, ys, e) k f = planned≢refused t ys k (sym e ∙ f)

-- a run that goes back with an anode
pub back_done : (A last x c b : ℕ) (s : Slotted) → Done (move_back A last x c b s)
unfolding move_back join_with at_slots
back_done A last x c b s =
    let z = side_end A last s.anodes b in
    let at : (t : Anodes) → join_with x z c b s.anodes ≡ planned t (run b c) → Done (move_back A last x c b s) = λ t e. (slotted t s.slots, run b c, rw (e, at_slots)) in
    elim (join_cases s.anodes z c b (planned (inserted_after s.anodes z x c b) (run b c))) [
      | fills q ↦ at (rewritten s.anodes z c b) q.2
      | ends q ↦ at (rewritten s.anodes z (s.anodes.count z + c) (s.anodes.block z)) q.3
      | starts q ↦ at (rewritten s.anodes z (s.anodes.count z + c) b) q.3
      | behind q ↦ at (inserted_after s.anodes z x c b) q.1
    ]

-- the end of a removal
pub head_done : (A last h : ℕ) (s : Slotted) → Done (head_back A last h s)
unfolding head_back
head_done A last h s =
    let t = slotted (dropped A s.anodes h) s.slots in
    let c = s.anodes.count h in
    let b = s.anodes.block h in
    elim (eqb_cases c 0 (planned t []) (move_back A last h c b t)) [
      | inl q ↦ (t, [], q.1)
      | inr q ↦ (let (r, ys, e) = back_done A last h c b t in (r, ys, q.1 ∙ e))
    ]

-- ---- a run of the chain

module _ (A : ℕ) (growth : Growth) (last : ℕ) where
  -- a run in hand can join nothing, and no anode can be had
  abbrev pub RunStuck : ℕ → ℕ → Slotted → Type 0
  RunStuck c b s = JoinsNone s.anodes (side_end A last s.anodes b) c b × NoAnode A growth s

  -- the next run needs an anode, as a cut piece, an upper part or the run of a head that stays, and is stuck
  pub record GiveStuck (h j : ℕ) (r : Slotted) : Type 0 where
    pub p : ℕ
    pub x : ℕ
    pub d : ℕ
    pub next_run : NextRun A last h j r p x d
    pub needs : (d < r.anodes.count x) ⊎ (x ≡ h)
    pub stuck : RunStuck d (tail_start r.anodes x d) (slotted (without_tail r.anodes h p x d) r.slots)

  module _ (h p x d : ℕ) (s : Slotted) where
    -- a run is refused with 28 alone
    pub run_refused : (k : ℕ) → give_run A growth last h p x d s ≡ refused k → k ≡ 28
    run_refused k e = elim (give_cases A growth last h p x d s) [
      | inl c ↦ absurd (done-not (move_back A last x d (tail_start s.anodes x d) (slotted (without_tail s.anodes h p x d) s.slots)) (back_done A last x d _ _) k (sym c.2 ∙ e))
      | inr c ↦ release_refused A growth last d _ _ k (sym c.1 ∙ e)
    ]

    -- exactly if it needs an anode and is stuck
    pub run-28_exactly : Spares A growth (slotted (without_tail s.anodes h p x d) s.slots) → d ≤ s.anodes.count x → (k : ℕ) →
        (give_run A growth last h p x d s ≡ refused k)
        ↔ ((k ≡ 28) × ((d < s.anodes.count x) ⊎ (x ≡ h)) × RunStuck d (tail_start s.anodes x d) (slotted (without_tail s.anodes h p x d) s.slots))
    run-28_exactly spares most k =
        let t = slotted (without_tail s.anodes h p x d) s.slots in
        let b = tail_start s.anodes x d in
        let r = release-28_exactly A growth last d b t spares k in
        elim (give_cases A growth last h p x d s) [
          | inl c ↦ (
            λ e. absurd (done-not (move_back A last x d b t) (back_done A last x d b t) k (sym c.2 ∙ e)),
            λ n. absurd (elim n.1 [ inl l ↦ omega (arith, l, c.0) | inr i ↦ c.1 i ]),
          )
          | inr c ↦ (
            λ e. (let q = r.0 (sym c.1 ∙ e) in (q.0, elim c.0 [ inl i ↦ inl (omega (arith, most, i)) | inr i ↦ inr i ], (q.1, q.2))),
            λ n. c.1 ∙ r.1 (n.0, n.2.0, n.2.1),
          )
        ]

  -- ---- run by run

  -- it comes to a run that is refused with i
  abbrev Stops : ℕ → ℕ → ℕ → Slotted → Type 0
  Stops h i k s = (j : ℕ) × (r : Slotted) × (zs : List ℕ) × (p : ℕ) × (x : ℕ) × (d : ℕ) × Meets A growth last h k s j r zs × NextRun A last h j r p x d × (give_run A growth last h p x d r ≡ refused i)

  -- giving back that is refused does
  refused_stops : (f k h i : ℕ) (s : Slotted) → give_runs A growth last f k h s ≡ refused i → Stops h i k s
  unfolding give_runs
  refused_stops zero k h i s e = absurd (planned≢refused s [] i e)
  refused_stops (suc f) zero h i s e = absurd (planned≢refused s [] i e)
  refused_stops (suc f) (suc k) h i s e = go (last_extent s.anodes.count 0 (chain_of s.anodes.next A h)) refl (λ k' t. refused_stops f k' h i t) e
    where
      size : ℕ → ℕ
      size x = run_length last (suc k) (s.anodes.count x) (s.anodes.block x)

      go : (o : Found) → last_extent s.anodes.count 0 (chain_of s.anodes.next A h) ≡ o → ((k' : ℕ) (t : Slotted) → give_runs A growth last f k' h t ≡ refused i → Stops h i k' t) →
          ◌≡◌ {A = Plan Slotted} (elim o [ nowhere ↦ planned s [] | found p x ↦ (give_run A growth last h p x (size x) s and_then give_runs A growth last f (suc k - size x) h) ]) (refused i) → Stops h i (suc k) s
      go nowhere o rest e = absurd (planned≢refused s [] i e)
      go (found p x) o rest e =
          let next : NextRun A last h (suc k) s p x (size x) = record { some = omega arith; is_last = o; length_is = refl } in
          elim (then_refused (give_run A growth last h p x (size x) s) (give_runs A growth last f (suc k - size x) h) i e) [
            | inl q ↦ (suc k, s, [], p, x, size x, now, next, q)
            | inr (t, ys, q, z) ↦ (let (j, r, zs, p', x', d', m, n, b) = rest (suc k - size x) t z in (j, r, ys ++ zs, p', x', d', later p x (size x) ys next q m, n, b))
          ]

  -- and giving back that comes to such a run is refused
  stops_refused : (h i : ℕ) {k j : ℕ} {s r : Slotted} {zs : List ℕ} → Meets A growth last h k s j r zs → (p x d : ℕ) → NextRun A last h j r p x d → give_run A growth last h p x d r ≡ refused i → (f : ℕ) → k ≤ f →
      give_runs A growth last f k h s ≡ refused i
  stops_refused h i (now {k} {s}) p x d next e zero l = absurd (omega (arith, l, next.some))
  stops_refused h i (now {k} {s}) p x d next e (suc f) l = runs_next A growth last h k s p x d next f ∙ then_stop (give_run A growth last h p x d s) (give_runs A growth last f (k - d) h) i e
  stops_refused h i (later p' x' d' ys first gives m) p x d next e zero l = absurd (omega (arith, l, first.some))
  stops_refused h i (later {k} {j} {s} {t} {r} {zs} p' x' d' ys first gives m) p x d next e (suc f) l =
      runs_next A growth last h k s p' x' d' first f
      ∙ then_stops (give_run A growth last h p' x' d' s) (give_runs A growth last f (k - d') h) t ys i gives (stops_refused h i m p x d next e f (omega (arith, l, (next_fits first).0)))

  -- giving back is refused with 28 alone
  pub runs_refused : (k h i : ℕ) (s : Slotted) → give_blocks A growth last k h s ≡ refused i → i ≡ 28
  unfolding give_blocks
  runs_refused k h i s e = let (j, r, zs, p, x, d, m, next, q) = refused_stops k k h i s e in run_refused h p x d r i q

  -- exactly if a run that it comes to is stuck, where slots that grow give an anode
  pub runs_28_exactly : (k h : ℕ) (s : Slotted) →
      ((j : ℕ) (r : Slotted) (zs : List ℕ) (p x d : ℕ) → Meets A growth last h k s j r zs → NextRun A last h j r p x d → Spares A growth (slotted (without_tail r.anodes h p x d) r.slots)) → (i : ℕ) →
      (give_blocks A growth last k h s ≡ refused i) ↔ ((i ≡ 28) × ((j : ℕ) × (r : Slotted) × (zs : List ℕ) × Meets A growth last h k s j r zs × GiveStuck h j r))
  unfolding give_blocks
  runs_28_exactly k h s spares i = (
    λ e. (let (j, r, zs, p, x, d, m, next, q) = refused_stops k k h i s e in
        let g = (run-28_exactly h p x d r (spares j r zs p x d m next) (next_fits next).2 i).0 q in
        (g.0, (j, r, zs, m, record { p = p; x = x; d = d; next_run = next; needs = g.1; stuck = g.2 }))),
    λ (is, (j, r, zs, m, g)). stops_refused h i m g.p g.x g.d g.next_run
        ((run-28_exactly h g.p g.x g.d r (spares j r zs g.p g.x g.d m g.next_run) (next_fits g.next_run).2 i).1 (is, g.needs, g.stuck)) k (omega arith),
  )

  -- ---- a whole chain

  -- it is refused exactly as what goes back before its head; the head's run needs nothing
  pub all_refused_as : (h i : ℕ) (s : Slotted) → (give_all A growth last h s ≡ refused i) ↔ (give_blocks A growth last (before_head A last s.anodes h) h s ≡ refused i)
  unfolding give_all
  all_refused_as h i s =
      let first = give_blocks A growth last (before_head A last s.anodes h) h s in (
        λ e. elim (then_refused first (head_back A last h) i e) [ inl q ↦ q | inr (r, ys, q, f) ↦ absurd (done-not (head_back A last h r) (head_done A last h r) i f) ],
        λ e. then_stop first (head_back A last h) i e,
      )

  -- so with 28 alone
  pub all_refused : (h i : ℕ) (s : Slotted) → give_all A growth last h s ≡ refused i → i ≡ 28
  all_refused h i s e = runs_refused (before_head A last s.anodes h) h i s ((all_refused_as h i s).0 e)

-- ---- in good states

-- where slots grow from a good state, an anode is free
abbrev pub AlwaysSpares : ℕ → ℕ → ℕ → Growth → Type 0
AlwaysSpares A n last growth = (s : Slotted) (system hd sd : ℕ → ℕ) → StartOwned system → Good A (exists_by s.slots) n last s.anodes system hd sd → Spares A growth s

-- no growth has it for nothing
pub none_spares : (A n last : ℕ) → AlwaysSpares A n last no_growth
none_spares A n last s system hd sd start g r e = absurd (let z : ◌≡◌ {A = ℕ} 0 1 = cc in omega arith)

module _ {A n last : ℕ} {growth : Growth} (grows : Grows A n last growth) (always : AlwaysSpares A n last growth) (h : ℕ) (h1 : h ≢ 1) (s : Slotted) (system hd sd : ℕ → ℕ) (start : StartOwned system)
    (g : Good A (exists_by s.slots) n last s.anodes system hd sd) (dh : Head s.anodes.next s.anodes.block h) where
  -- GIVE BACK k blocks: refused, and with 28, exactly if a run that it comes to needs an anode and is stuck, anodes zeroed before counted
  pub give_blocks-28_exactly : (k i : ℕ) → (give_blocks A growth last k h s ≡ refused i) ↔ ((i ≡ 28) × ((j : ℕ) × (r : Slotted) × (zs : List ℕ) × Meets A growth last h k s j r zs × GiveStuck A growth last h j r))
  give_blocks-28_exactly k = runs_28_exactly A growth last k h s (λ j r zs p x d m next.
      let (gs, w, len) = meets_moved grows h h1 m system hd sd start g dh in
      let out = tail-out w.good h (w.shift.stays h dh) h1 p x d next.is_last (next_fits next).2 in
      always (slotted (without_tail r.anodes h p x d) r.slots) _ out.hd' out.sd' (λ y l. omega (arith, start y l)) out.good)

  -- GIVE BACK the whole chain: the same of what goes before its head
  pub give_all-28_exactly : (i : ℕ) →
      (give_all A growth last h s ≡ refused i) ↔ ((i ≡ 28) × ((j : ℕ) × (r : Slotted) × (zs : List ℕ) × Meets A growth last h (before_head A last s.anodes h) s j r zs × GiveStuck A growth last h j r))
  give_all-28_exactly i =
      let a = all_refused_as A growth last h i s in
      let b = give_blocks-28_exactly (before_head A last s.anodes h) i in
      (λ e. b.0 (a.0 e), λ n. a.1 (b.1 n))

-- ---- a chain of which no extent crosses last reserved

-- none does
abbrev pub NoneCrosses : ℕ → ℕ → ℕ → Anodes → Type 0
NoneCrosses A last h s = (a : ℕ) → 0 < occurrences a (chain_of s.next A h) → crosses last (s.count a) (s.block a) ≡ false

-- an extent that does not cross is one run
uncrossed : (last c b : ℕ) → crosses last c b ≡ false → (upper_run last c b ≡ c) × (lower_run last c b ≡ c)
unfolding upper_run lower_run
uncrossed last c b e = (rw e, rw e)

module _ {A n last : ℕ} {growth : Growth} (grows : Grows A n last growth) (h : ℕ) (h1 : h ≢ 1) where
  module _ (s : Slotted) {system hd sd : ℕ → ℕ} (start : StartOwned system) (g : Good A (exists_by s.slots) n last s.anodes system hd sd) (dh : Head s.anodes.next s.anodes.block h)
      {k p x d : ℕ} (next : NextRun A last h k s p x d) (before : Before A last h k s) (none : NoneCrosses A last h s.anodes) where
    is_found : FoundIn s.anodes.count s.anodes.next h (chain_of s.anodes.next A h) 0 p x
    is_found = given-found g h dh p x next.is_last

    head_lower : lower_run last (s.anodes.count h) (s.anodes.block h) ≡ s.anodes.count h
    head_lower = let (l, e) = head_first g h dh in (uncrossed last (s.anodes.count h) (s.anodes.block h) (none h (rw e (occurrences-here h l)))).1

    -- before the head's run, what goes is the whole extent of another anode
    not_head : x ≢ h
    not_head e = omega (arith, next.some, before, head_lower, head_alone g h dh p (next.is_last ∙ ap (found p) e))

    enough : s.anodes.count x ≤ k
    enough =
        let (l, e) = head_first g h dh in
        let on : 0 < occurrences x l = omega (arith, is_found.on, ap (occurrences x) e, occurrences-cons x h l, one_at_other h x (λ i. not_head (sym i))) in
        omega (arith, before, head_lower, ap (sum_list s.anodes.count) e, list_cons s.anodes.count h l, member-sum s.anodes.count x l (occurrences-member x l on))

    whole : s.anodes.count x ≡ d
    whole =
        let c = s.anodes.count x in
        let b = s.anodes.block x in
        let upper = (uncrossed last c b (none x is_found.on)).0 in
        elim (run_cases last k c b) [ inl q ↦ omega (arith, next.length_is, q.0, q.1, upper, enough) | inr q ↦ omega (arith, next.length_is, q.1, upper) ]

    -- so it is not refused
    run-done : (i : ℕ) → give_run A growth last h p x d s ≡ refused i → ⊥
    run-done i e = elim (give_cases A growth last h p x d s) [
      | inl c ↦ done-not (move_back A last x d (tail_start s.anodes x d) (slotted (without_tail s.anodes h p x d) s.slots)) (back_done A last x d _ _) i (sym c.2 ∙ e)
      | inr c ↦ elim c.0 [ inl j ↦ j whole | inr j ↦ not_head j ]
    ]

    -- and the others stay as they are
    run_uncrossed : (t : Slotted) (ys : List ℕ) → give_run A growth last h p x d s ≡ planned t ys → NoneCrosses A last h t.anodes
    unfolding without_tail unlinked
    run_uncrossed t ys gives a on =
        let (some, few, most, one) = next_fits next in
        let out = tail-out g h dh h1 p x d next.is_last most in
        let back = run_released grows s start g h dh h1 p x d next.is_last most one t ys gives in
        let there = out.shift.stays h dh in
        let r = without_tail s.anodes h p x d in
        let on_r : 0 < occurrences a (chain_of r.next A h) = rw (← (shift_chain out.good back.good back.shift h there h1 h1)) on in
        let same = shift_alike out.good back.good back.shift h there h1 h1 a on_r in
        let is : r ≡ unlinked s.anodes p x = run-unlinked s.anodes h p x d (s.anodes.block x) whole not_head in
        let (pre, post, parted, empty) = last_extent_split s.anodes.count 0 (chain_of s.anodes.next A h) p x next.is_last in
        let once = stands_once g h dh x pre post parted in
        let chain = unlinked-chain g h dh x pre post parted p (found_after is_found not_head) (full-0 g x is_found.full) not_head in
        let left : 0 < occurrences a (pre ++ post) = subst (λ (l : List ℕ). 0 < occurrences a l) (ap (λ (u : Anodes). chain_of u.next A h) is ∙ chain) on_r in
        let apart : a ≢ x = λ e. omega (arith, left, occurrences-append a pre post, ap (λ (y : ℕ). occurrences y pre) e, ap (λ (y : ℕ). occurrences y post) e, once.0, once.1) in
        let count_is : t.anodes.count a ≡ s.anodes.count a = same.same_count ∙ ap (λ (u : Anodes). u.count a) is ∙ changed_other s.anodes.count x 0 a apart in
        let block_is : t.anodes.block a ≡ s.anodes.block a = same.same_block ∙ ap (λ (u : Anodes). u.block a) is ∙ changed_other s.anodes.block x 0 a apart in
        rw (count_is, block_is) (none a (omega (arith, left, occurrences-append a pre post, ap (occurrences a) parted, occurrences-append a pre (x ∷ post), occurrences-cons a x post)))

  meets_done : {k j : ℕ} {s r : Slotted} {zs : List ℕ} → Meets A growth last h k s j r zs → (system hd sd : ℕ → ℕ) → StartOwned system → Good A (exists_by s.slots) n last s.anodes system hd sd →
      Head s.anodes.next s.anodes.block h → Before A last h k s → NoneCrosses A last h s.anodes → {p x d : ℕ} → NextRun A last h j r p x d → (i : ℕ) → give_run A growth last h p x d r ≡ refused i → ⊥
  meets_done {s = s} now system hd sd start g dh before none next i e = run-done s start g dh next before none i e
  meets_done (later {k} {j} {s} {t} {r} {zs} p x d ys first gives m) system hd sd start g dh before none next i e =
      let (some, few, most, one) = next_fits first in
      let (gs, w, is) = give_run-moved grows start g h dh h1 p x d first.is_last some most one t ys gives in
      meets_done m (with_these system gs) w.hd' w.sd' (λ x l. omega (arith, start x l)) w.good (w.shift.stays h dh) (run-before grows h h1 s start g dh first t ys gives before)
      (run_uncrossed s start g dh first before none t ys gives) next i e

  -- a removal of it is never refused
  pub uncrossed_done : (s : Slotted) (system hd sd : ℕ → ℕ) → StartOwned system → Good A (exists_by s.slots) n last s.anodes system hd sd → Head s.anodes.next s.anodes.block h →
      NoneCrosses A last h s.anodes → (i : ℕ) → give_all A growth last h s ≢ refused i
  unfolding give_blocks
  uncrossed_done s system hd sd start g dh none i e =
      let k = before_head A last s.anodes h in
      let (j, r, zs, p, x, d, m, next, q) = refused_stops A growth last k k h i s ((all_refused_as A growth last h i s).0 e) in
      meets_done m system hd sd start g dh (before-first s g h dh) none next i q
