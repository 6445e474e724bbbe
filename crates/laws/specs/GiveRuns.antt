-- Blocks of a chain go back run by run: a run that goes back with its anode, a run of the chain, and all of them.
use Rattle.std.specs.Prelude.{ℕ, zero, suc, ◌+◌, ◌-◌, ◌≤◌, ◌<◌, ◌≡◌, refl, ◌≢◌, ◌⊎◌, Bool, true, false, not, ◌&&◌, List, [], ◌++◌, T, eqb, leb, ltb, length}
use Rattle.std.proofs.Common.{sym, ◌∙◌, subst, arith, eqb→eq, leb→le, le→leb, ltb→lt, lt→ltb, length-append}
use Rattle.std.proofs.Math.Path.{ap}
use Rattle.std.proofs.Math.Logic.{inl, inr}
use Rattle.rules.specs.Anodes.{Anodes, exists_by}
use Rattle.rules.specs.Chains.{chain_of, run}
use Rattle.rules.specs.Plans.{Slotted, slotted, Plan, planned, Growth, ◌and_then◌}
use Rattle.rules.specs.Space.{unlinked, inserted_after, without_tail, tail_start, crosses, upper_run, lower_run, run_length, Found, nowhere, found, last_extent, side_end, join_with, move_back, release, give_run, give_runs, give_blocks}
use Rattle.laws.specs.Tests.{same?, less?, cond_cases, both, and, other, eq→eqb}
use Rattle.laws.specs.Sums.{one_at-same, one_at_other, changed-same}
use Rattle.laws.specs.Bags.{occurrences-nil}
use Rattle.laws.specs.Chains.{length_run}
use Rattle.laws.specs.Ownership.{handed}
use Rattle.laws.specs.Heads.{Head}
use Rattle.laws.specs.Blocks.{blocks}
use Rattle.laws.specs.Space.{Good, good-same, FreeAnode, on_chain_lem}
use Rattle.laws.specs.Owners.{full_used, full_inside, blocks-chain}
use Rattle.laws.specs.Searches.{FoundIn, found_after, last_extent-none, last_extent-full}
use Rattle.laws.specs.Plans.{planned_same, then_planned, slots_planned}
use Rattle.laws.specs.Moves.{with_these, slots_stay, Grows, RunOut, RunIn, Moved, moved_none, moved-after}
use Rattle.laws.specs.Leaving.{full-6, run-unlinked}
use Rattle.laws.specs.Arriving.{inserted_in, joins_in, placed_by}
use Rattle.laws.specs.Take.{StartOwned}
use Rattle.laws.specs.Give.{without_tail-out, OneSide, side-end-0, side-end_used, side-end_high, side-end_low, side-end_head, Released, released, released_moved, given-found}

-- ---- how long a run is

-- an extent crosses last reserved and has an upper and a lower run, or it is one run
pub crosses_cases : (last c b : ℕ) →
    ((b ≤ last) × (last + 1 < b + c) × (upper_run last c b ≡ b + c - (last + 1)) × (lower_run last c b ≡ last + 1 - b))
    ⊎ (OneSide last c b × (upper_run last c b ≡ c) × (lower_run last c b ≡ c))
unfolding upper_run lower_run crosses
crosses_cases last c b = elim (cond_cases (leb b last && ltb (last + 1) (b + c)) (b + c - (last + 1)) c) [
  | inl h ↦ (let q = both (leb b last) (ltb (last + 1) (b + c)) h.0 in
      inl (leb→le b last q.0, ltb→lt (last + 1) (b + c) q.1, h.1, elim (cond_cases (leb b last && ltb (last + 1) (b + c)) (last + 1 - b) c) [ inl i ↦ i.1 | inr i ↦ absurd (i.0 h.0) ]))
  | inr h ↦ inr (
    λ l. elim (less? (last + 1) (b + c)) [ inl m ↦ absurd (h.0 (and (leb b last) (ltb (last + 1) (b + c)) (le→leb b last l) (lt→ltb (last + 1) (b + c) m))) | inr m ↦ m ],
    h.1,
    elim (cond_cases (leb b last && ltb (last + 1) (b + c)) (last + 1 - b) c) [ inl i ↦ absurd (h.0 i.0) | inr i ↦ i.1 ],
  )
]

-- a run is all that is to go, or the upper run
pub run_cases : (last k c b : ℕ) → ((k ≤ upper_run last c b) × (run_length last k c b ≡ k)) ⊎ ((upper_run last c b < k) × (run_length last k c b ≡ upper_run last c b))
unfolding run_length
run_cases last k c b = elim (cond_cases (leb k (upper_run last c b)) k (upper_run last c b)) [
  | inl h ↦ inl (leb→le k (upper_run last c b) h.0, h.1)
  | inr h ↦ inr (elim (less? (upper_run last c b) k) [ inl l ↦ l | inr l ↦ absurd (h.0 (le→leb k (upper_run last c b) l)) ], h.1)
]

-- the upper run of an extent that has a block has one
pub upper_some : (last c b : ℕ) → 0 < c → 0 < upper_run last c b
upper_some last c b some = elim (crosses_cases last c b) [ inl h ↦ omega (arith, h.1, h.2) | inr h ↦ omega (arith, h.1) ]

-- and no more than the extent
pub upper_most : (last c b : ℕ) → upper_run last c b ≤ c
upper_most last c b = elim (crosses_cases last c b) [ inl h ↦ omega (arith, h.0, h.2) | inr h ↦ omega (arith, h.1) ]

module _ (last k c b : ℕ) where
  -- so has a run
  pub run_some : 0 < k → 0 < c → 0 < run_length last k c b
  run_some k0 c0 = elim (run_cases last k c b) [ inl h ↦ omega (arith, h.1) | inr h ↦ omega (arith, h.1, upper_some last c b c0) ]

  -- it has no more than are to go
  pub run_few : run_length last k c b ≤ k
  run_few = elim (run_cases last k c b) [ inl h ↦ omega (arith, h.1) | inr h ↦ omega (arith, h.0, h.1) ]

  -- nor than the upper run
  pub run_upper : run_length last k c b ≤ upper_run last c b
  run_upper = elim (run_cases last k c b) [ inl h ↦ omega (arith, h.0, h.1) | inr h ↦ omega (arith, h.1) ]

  -- nor than the extent
  pub run-most : run_length last k c b ≤ c
  run-most = omega (arith, run_upper, upper_most last c b)

  -- and it does not cross last reserved
  pub run-one-side : OneSide last (run_length last k c b) (b + (c - run_length last k c b))
  run-one-side l = elim (crosses_cases last c b) [
    | inl h ↦ absurd (omega (arith, l, h.0, h.1, h.2, run_upper))
    | inr h ↦ omega (arith, l, h.0 (omega (arith, l)), run-most)
  ]

-- ---- a run in hand goes back with an anode

-- a run in hand joins its side, or goes there with the free anode x
back_in : {A : ℕ} {ex : ℕ → Bool} {n last : ℕ} {s : Anodes} (system : ℕ → ℕ) {hd sd : ℕ → ℕ} (c b : ℕ) → Good A ex n last s (handed system c b) hd sd → b ≢ 0 → b + c ≤ n → OneSide last c b →
    (x : ℕ) → x < A → FreeAnode ex s x → (t : Anodes) (ys : List ℕ) → join_with x (side_end A last s b) c b s ≡ planned t ys → RunIn A ex n last s system hd 1 c b t × (ys ≡ run b c)
unfolding join_with
back_in {A} {last = last} {s} system c b g b0 bn one x x_a is_free t ys e =
    let z = side_end A last s b in
    rw (side-end_head g b) at
    (joins_in system c b g b0 bn z (side-end-0 g b) (side-end_used g b) (side-end_high g b) (side-end_low g b c one) (planned (inserted_after s z x c b) (run b c)) t ys
    (λ q. placed_by system c b g b0 bn z (side-end-0 g b) (side-end_used g b) (side-end_high g b) (side-end_low g b c one) (inserted_after s z x c b) t ys q
    (inserted_in system c b g b0 bn z (side-end-0 g b) (side-end_used g b) (side-end_high g b) (side-end_low g b c one) x x_a is_free)) e)

-- a run that has come to the free list at fixed slots is released
in_released : {A n last : ℕ} {r t : Slotted} {system hd : ℕ → ℕ} {c b : ℕ} {ys : List ℕ} → RunIn A (exists_by r.slots) n last r.anodes system hd 1 c b t.anodes → t.slots ≡ r.slots → ys ≡ run b c →
    Released A n last r system hd c b t ys
in_released {r = r} w e z = record {
  gs = [];
  hd' = w.hd';
  sd' = w.sd';
  good = rw e (good-same w.good (λ y. omega (arith, occurrences-nil y)));
  shift = w.shift;
  more = λ h. omega (arith, w.more h);
  got = λ h y. rw (occurrences-nil y) (omega (arith, w.got h y));
  system_got = λ y. rw e (omega (arith, occurrences-nil y));
  slots_grew = rw e (slots_stay r.slots);
  handed_are = z;
}

-- a run in hand that goes back with the free anode x has gone to the free list, and no slot has grown
pub moved_back : {A n last : ℕ} {r : Slotted} {system hd sd : ℕ → ℕ} (c b : ℕ) → Good A (exists_by r.slots) n last r.anodes (handed system c b) hd sd → b ≢ 0 → b + c ≤ n → OneSide last c b →
    (x : ℕ) → x < A → FreeAnode (exists_by r.slots) r.anodes x → (t : Slotted) (ys : List ℕ) → move_back A last x c b r ≡ planned t ys → Released A n last r system hd c b t ys
unfolding move_back
moved_back {A} {last = last} {r} {system} c b g b0 bn one x x_a is_free t ys e =
    let q = slots_planned r.slots (join_with x (side_end A last r.anodes b) c b r.anodes) t ys e in
    let w = back_in system c b g b0 bn one x x_a is_free t.anodes ys q.0 in
    in_released w.0 q.1 w.1

-- ---- a run of the chain

-- a run goes back with its anode if it is the anode's whole extent and the anode is not the head, else it is released
pub give_cases : (A : ℕ) (growth : Growth) (last h p x d : ℕ) (s : Slotted) →
    ((s.anodes.count x ≡ d) × (x ≢ h) × (give_run A growth last h p x d s ≡ move_back A last x d (tail_start s.anodes x d) (slotted (without_tail s.anodes h p x d) s.slots)))
    ⊎ (((s.anodes.count x ≢ d) ⊎ (x ≡ h)) × (give_run A growth last h p x d s ≡ release A growth last d (tail_start s.anodes x d) (slotted (without_tail s.anodes h p x d) s.slots)))
unfolding give_run
give_cases A growth last h p x d s =
    let whole = move_back A last x d (tail_start s.anodes x d) (slotted (without_tail s.anodes h p x d) s.slots) in
    let part = release A growth last d (tail_start s.anodes x d) (slotted (without_tail s.anodes h p x d) s.slots) in
    elim (cond_cases (eqb (s.anodes.count x) d && not (eqb x h)) whole part) [
      | inl c ↦ (let q = both (eqb (s.anodes.count x) d) (not (eqb x h)) c.0 in inl (eqb→eq (s.anodes.count x) d q.0, λ e. not_both (eqb x h) q.1 (eq→eqb x h e), c.1))
      | inr c ↦ inr (
        elim (same? x h) [
          | inl e ↦ inr e
          | inr i ↦ inl (λ e. c.0 (and (eqb (s.anodes.count x) d) (not (eqb x h)) (eq→eqb (s.anodes.count x) d e) (rw (other x h i) tt)))
        ],
        c.1,
      )
    ]
  where
    not_both : (b : Bool) → T (not b) → T b → ⊥
    not_both true f t = f
    not_both false f t = t

-- the last d blocks of x, after p the last anode with a block of the chain of h
module _ {A : ℕ} {ex : ℕ → Bool} {n last : ℕ} {s : Anodes} {system hd sd : ℕ → ℕ} (g : Good A ex n last s system hd sd) (h : ℕ) (dh : Head s.next s.block h) (h1 : h ≢ 1)
    (p x d : ℕ) (e : last_extent s.count 0 (chain_of s.next A h) ≡ found p x) (few : d ≤ s.count x) where
  is_found : FoundIn s.count s.next h (chain_of s.next A h) 0 p x
  is_found = given-found g h dh p x e

  -- they are in hand
  pub tail-out : RunOut A ex n last s system hd h d (tail_start s x d) (without_tail s h p x d)
  tail-out = without_tail-out g h dh h1 p x is_found d few

  -- on the disk
  tail_inside : (tail_start s x d ≢ 0) × (tail_start s x d + d ≤ n)
  tail_inside = let u = full_used g x is_found.full in (λ z. u (omega arith), omega (arith, full_inside g x is_found.full, few))

  -- a whole extent leaves its anode, not the head, to be had
  tail-free : s.count x ≡ d → x ≢ h → (x < A) × FreeAnode ex (without_tail s h p x d) x
  unfolding without_tail unlinked
  tail-free all xh = (
    g.linked.view.below x (full_used g x is_found.full),
    rw (run-unlinked s h p x d (s.block x) all xh) (record {
      from_6 = full-6 g x is_found.full p (found_after is_found xh) (λ q. h1 (sym (on_chain_lem g h dh x is_found.on).0 ∙ ap hd q ∙ g.two_on));
      unused = changed-same s.block x 0;
      there = g.present.exist x (full_used g x is_found.full);
    }),
  )

-- they have gone to the free list
pub run_released : {A n last : ℕ} {growth : Growth} → Grows A n last growth → (s : Slotted) {system hd sd : ℕ → ℕ} → StartOwned system → (g : Good A (exists_by s.slots) n last s.anodes system hd sd) → (h : ℕ) →
    (dh : Head s.anodes.next s.anodes.block h) → (h1 : h ≢ 1) → (p x d : ℕ) → (e : last_extent s.anodes.count 0 (chain_of s.anodes.next A h) ≡ found p x) → (few : d ≤ s.anodes.count x) →
    OneSide last d (tail_start s.anodes x d) → (t : Slotted) (ys : List ℕ) → give_run A growth last h p x d s ≡ planned t ys →
    Released A n last (slotted (without_tail s.anodes h p x d) s.slots) system (tail-out g h dh h1 p x d e few).hd' d (tail_start s.anodes x d) t ys
run_released {A} {last = last} {growth} grows s start g h dh h1 p x d e few one t ys gives =
    let y = tail_start s.anodes x d in
    let out = tail-out g h dh h1 p x d e few in
    let (y0, yn) = tail_inside g h dh h1 p x d e few in
    elim (give_cases A growth last h p x d s) [
      | inl c ↦ (let (below, is_free) = tail-free g h dh h1 p x d e few c.0 c.1 in moved_back d y out.good y0 yn one x below is_free t ys (sym c.2 ∙ gives))
      | inr c ↦ released grows start d y out.good y0 yn one t ys (sym c.1 ∙ gives)
    ]

-- a run of the chain of h has gone to the free list
pub give_run-moved : {A n last : ℕ} {growth : Growth} → Grows A n last growth → {s : Slotted} {system hd sd : ℕ → ℕ} → StartOwned system → Good A (exists_by s.slots) n last s.anodes system hd sd → (h : ℕ) →
    Head s.anodes.next s.anodes.block h → h ≢ 1 → (p x d : ℕ) → last_extent s.anodes.count 0 (chain_of s.anodes.next A h) ≡ found p x → 0 < d → d ≤ s.anodes.count x →
    OneSide last d (tail_start s.anodes x d) → (t : Slotted) (ys : List ℕ) → give_run A growth last h p x d s ≡ planned t ys →
    (gs : List ℕ) × Moved A n last s system hd h 1 h ys gs t × (ys ≡ run (tail_start s.anodes x d) d)
give_run-moved grows {s} start g h dh h1 p x d e some few one t ys gives =
    let w = run_released grows s start g h dh h1 p x d e few one t ys gives in
    (w.gs, released_moved (tail-out g h dh h1 p x d e few) w, w.handed_are)

-- ---- run by run

-- the next run of the k blocks of the chain of h that are to go: the last d of x, after p
pub record NextRun (A last h k : ℕ) (s : Slotted) (p x d : ℕ) : Type 0 where
  pub some : 0 < k
  pub is_last : last_extent s.anodes.count 0 (chain_of s.anodes.next A h) ≡ found p x
  pub length_is : d ≡ run_length last k (s.anodes.count x) (s.anodes.block x)

-- giving back k blocks of the chain of h from s comes to r, with j to go, and those of zs have gone back
pub data Meets (A : ℕ) (growth : Growth) (last h : ℕ) : ℕ → Slotted → ℕ → Slotted → List ℕ → Type 0 where
  now : {k : ℕ} {s : Slotted} → Meets A growth last h k s k s []
  later : {k j : ℕ} {s t r : Slotted} {zs : List ℕ} (p x d : ℕ) (ys : List ℕ) → NextRun A last h k s p x d → give_run A growth last h p x d s ≡ planned t ys → Meets A growth last h (k - d) t j r zs → Meets A growth last h k s j r (ys ++ zs)

-- giving back goes on with the next run
pub runs_next : (A : ℕ) (growth : Growth) (last h k : ℕ) (s : Slotted) (p x d : ℕ) → NextRun A last h k s p x d → (f : ℕ) →
    give_runs A growth last (suc f) k h s ≡ (give_run A growth last h p x d s and_then give_runs A growth last f (k - d) h)
unfolding give_runs
runs_next A growth last h zero s p x d next f = absurd (omega (arith, next.some))
runs_next A growth last h (suc k) s p x d next f = rw (next.is_last, next.length_is, give_runs)

-- giving back that is done comes to its end: no block is to go, or none is left
pub runs_meet : (A : ℕ) (growth : Growth) (last f k h : ℕ) → k ≤ f → (s t : Slotted) (zs : List ℕ) → give_runs A growth last f k h s ≡ planned t zs →
    (j : ℕ) × Meets A growth last h k s j t zs × ((j ≡ 0) ⊎ (last_extent t.anodes.count 0 (chain_of t.anodes.next A h) ≡ nowhere))
unfolding give_runs
runs_meet A growth last zero k h l s t zs e = let q = planned_same s t [] zs e in rw (← q.0, q.1) (k, now, inl (omega (arith, l)))
runs_meet A growth last (suc f) zero h l s t zs e = let q = planned_same s t [] zs e in rw (← q.0, q.1) (0, now, inl refl)
runs_meet A growth last (suc f) (suc k) h l s t zs e = go (last_extent s.anodes.count 0 (chain_of s.anodes.next A h)) refl (λ k' m r xs. runs_meet A growth last f k' h m r t xs) e
  where
    size : ℕ → ℕ
    size x = run_length last (suc k) (s.anodes.count x) (s.anodes.block x)

    go : (o : Found) → last_extent s.anodes.count 0 (chain_of s.anodes.next A h) ≡ o →
        ((k' : ℕ) → k' ≤ f → (r : Slotted) (xs : List ℕ) → give_runs A growth last f k' h r ≡ planned t xs →
        (j : ℕ) × Meets A growth last h k' r j t xs × ((j ≡ 0) ⊎ (last_extent t.anodes.count 0 (chain_of t.anodes.next A h) ≡ nowhere))) →
        ◌≡◌ {A = Plan Slotted} (elim o [ nowhere ↦ planned s [] | found p x ↦ (give_run A growth last h p x (size x) s and_then give_runs A growth last f (suc k - size x) h) ]) (planned t zs) →
        (j : ℕ) × Meets A growth last h (suc k) s j t zs × ((j ≡ 0) ⊎ (last_extent t.anodes.count 0 (chain_of t.anodes.next A h) ≡ nowhere))
    go nowhere o rest e = let q = planned_same s t [] zs e in rw (← q.0, q.1) (suc k, now, inr o)
    go (found p x) o rest e =
        let (r, ys, xs, q, i, z) = then_planned (give_run A growth last h p x (size x) s) (give_runs A growth last f (suc k - size x) h) t zs e in
        let less : suc k - size x ≤ f = omega (arith, l, run_some last (suc k) (s.anodes.count x) (s.anodes.block x) (omega arith) (last_extent-full s.anodes.count 0 (chain_of s.anodes.next A h) p x o)) in
        let (j, m, end) = rest (suc k - size x) less r xs i in
        (j, subst (Meets A growth last h (suc k) s j t) (sym z) (later p x (size x) ys (record { some = omega arith; is_last = o; length_is = refl }) q m), end)

-- what a run must be: some blocks of its extent, up to its end, on one side
pub next_fits : {A last h k : ℕ} {s : Slotted} {p x d : ℕ} → NextRun A last h k s p x d → (0 < d) × (d ≤ k) × (d ≤ s.anodes.count x) × OneSide last d (tail_start s.anodes x d)
next_fits {A} {last} {h} {k} {s} {p} {x} {d} n =
    let c = s.anodes.count x in
    let b = s.anodes.block x in (
      rw n.length_is (run_some last k c b n.some (last_extent-full s.anodes.count 0 (chain_of s.anodes.next A h) p x n.is_last)),
      rw n.length_is (run_few last k c b),
      rw n.length_is (run-most last k c b),
      rw n.length_is (run-one-side last k c b),
    )

module _ {A n last : ℕ} {growth : Growth} (grows : Grows A n last growth) (h : ℕ) (h1 : h ≢ 1) where
  -- the runs that have gone back have gone from the chain of h to the free list
  pub meets_moved : {k j : ℕ} {s r : Slotted} {zs : List ℕ} → Meets A growth last h k s j r zs → (system hd sd : ℕ → ℕ) → StartOwned system → Good A (exists_by s.slots) n last s.anodes system hd sd →
      Head s.anodes.next s.anodes.block h → (gs : List ℕ) × Moved A n last s system hd h 1 h zs gs r × (length zs + j ≡ k)
  meets_moved now system hd sd start g dh = ([], moved_none g h 1 h, omega arith)
  meets_moved (later {k} {j} {s} {t} {r} {zs} p x d ys next gives m) system hd sd start g dh =
      let (some, few, most, one) = next_fits next in
      let (gs, w, e) = give_run-moved grows start g h dh h1 p x d next.is_last some most one t ys gives in
      let (hs, v, rest) = meets_moved m (with_these system gs) w.hd' w.sd' (λ x l. omega (arith, start x l)) w.good (w.shift.stays h dh) in
      (gs ++ hs, moved-after w v refl, omega (arith, few, rest, length-append ys zs, ap length e ∙ length_run (tail_start s.anodes x d) d))

  -- what the chain of h has left when blocks of it have gone
  pub moved-left : {s t : Slotted} {system hd : ℕ → ℕ} {ys gs : List ℕ} → (w : Moved A n last s system hd h 1 h ys gs t) → blocks A w.hd' t.anodes.count h + length ys ≡ blocks A hd s.anodes.count h
  moved-left w = omega (arith, rw (one_at-same h h refl, one_at_other 1 h (λ e. h1 (sym e))) at (w.moved h))

  -- k blocks of the chain of h, that has as many, have gone to the free list
  pub runs_moved : (k : ℕ) (t : Slotted) (zs : List ℕ) (s : Slotted) (system hd sd : ℕ → ℕ) → StartOwned system → Good A (exists_by s.slots) n last s.anodes system hd sd → Head s.anodes.next s.anodes.block h →
      k ≤ blocks A hd s.anodes.count h → give_blocks A growth last k h s ≡ planned t zs → (gs : List ℕ) × Moved A n last s system hd h 1 h zs gs t × (length zs ≡ k)
  unfolding give_blocks
  runs_moved k t zs s system hd sd start g dh few e =
      let (j, m, end) = runs_meet A growth last k k h (omega arith) s t zs e in
      let (gs, w, len) = meets_moved m system hd sd start g dh in
      let none : j ≡ 0 = elim end [
        | inl z ↦ z
        | inr z ↦ omega (arith, few, len, moved-left w, blocks-chain w.good h (w.shift.stays h dh), last_extent-none t.anodes.count 0 (chain_of t.anodes.next A h) z)
      ] in
      (gs, w, omega (arith, len, none))
