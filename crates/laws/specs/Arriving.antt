-- The run of c blocks from b, in hand, comes to the chain of the anode z: z gains it, or a fresh anode after z.
use Rattle.std.specs.Prelude.{ℕ, ◌+◌, ◌*◌, ◌≤◌, ◌<◌, ◌≡◌, ◌≢◌, ◌⊎◌, Bool, List, [], eqb}
use Rattle.std.proofs.Math.Path.{refl, ap}
use Rattle.std.proofs.Common.{sym, ◌∙◌, arith, lt→ltb}
use Rattle.std.proofs.Math.Logic.{inl, inr}
use Rattle.std.proofs.Math.Bool.{true, false, cond}
use Rattle.std.proofs.Math.Dec.{ltb, eqb→eq, ltb→lt}
use Rattle.rules.specs.Counting.{one_at, least, changed}
use Rattle.rules.specs.Anodes.{Anodes}
use Rattle.rules.specs.Chains.{one_if_covers, run}
use Rattle.rules.specs.Plans.{Plan, refused, planned}
use Rattle.rules.specs.Space.{rewritten, inserted_after, fill_or, grow_or, grow_before_or, join_or, free, lowest_free, append, need_anode, put, join}
use Rattle.laws.specs.Tests.{cond_cases, eq→eqb}
use Rattle.laws.specs.Sums.{changed_other, least_cases}
use Rattle.laws.specs.Ownership.{covers_none, covers_join, handed}
use Rattle.laws.specs.LinkChanges.{Which, first, second, third, insert_after, insert_after_cases}
use Rattle.laws.specs.HeadChanges.{insert_head_was}
use Rattle.laws.specs.Blocks.{blocks_rewrite, blocks_fresh}
use Rattle.laws.specs.Held.{held_rewrite, held_fresh}
use Rattle.laws.specs.Space.{Good, FreeAnode, free_is, free-has, rewrite_good, insert_good}
use Rattle.laws.specs.Plans.{refused≢planned, planned_same}
use Rattle.laws.specs.Owners.{self_headed}
use Rattle.laws.specs.Moves.{rewrite_shift, RunIn}

-- the taker's last anode z cannot have block y: it has blocks, and directory blocks (dir) get an anode of their own or y is not its end
abbrev pub NeedsAnode : Bool → Anodes → ℕ → ℕ → Type 0
NeedsAnode dir s z y = (s.count z ≢ 0) × ((dir ≡ true) ⊎ (s.block z + s.count z ≢ y))

-- the last anode z of the side of a run cannot have it: z is anode 1, or it has blocks and the run neither follows its end nor precedes its start
abbrev pub JoinsNone : Anodes → ℕ → ℕ → ℕ → Type 0
JoinsNone s z c b = (z ≡ 1) ⊎ ((s.count z ≢ 0) × (s.block z + s.count z ≢ b) × (b + c ≢ s.block z))

-- no anode from 6 up is free
abbrev pub NoneFree : ℕ → (ℕ → Bool) → Anodes → Type 0
NoneFree A ex s = (a : ℕ) → a < A → FreeAnode ex s a → ⊥

-- a run and the last anode z of its side: z is filled, grows at its end or before its start, or the run goes as p says
pub data Joins (s : Anodes) (z c b : ℕ) (other : Plan Anodes) : Type 0 where
  fills : (z ≢ 1) × (s.count z ≡ 0) × (join_or s z c b other ≡ planned (rewritten s z c b) (run b c)) → Joins s z c b other
  ends : (z ≢ 1) × (s.count z ≢ 0) × (s.block z + s.count z ≡ b) × (join_or s z c b other ≡ planned (rewritten s z (s.count z + c) (s.block z)) (run b c)) → Joins s z c b other
  starts : (z ≢ 1) × (s.count z ≢ 0) × (b + c ≡ s.block z) × (join_or s z c b other ≡ planned (rewritten s z (s.count z + c) b) (run b c)) → Joins s z c b other
  behind : JoinsNone s z c b × (join_or s z c b other ≡ other) → Joins s z c b other

-- which of these a join is
pub join_cases : (s : Anodes) (z c b : ℕ) (other : Plan Anodes) → Joins s z c b other
unfolding join_or fill_or grow_or grow_before_or
join_cases s z c b other = elim (cond_cases (eqb z 1) other (fill_or s z c b (grow_or s z c b (grow_before_or s z c b other)))) [
  | inl q ↦ behind (inl (eqb→eq z 1 q.0), q.1)
  | inr q ↦ (let z1 : z ≢ 1 = λ i. q.0 (eq→eqb z 1 i) in
      elim (cond_cases (eqb (s.count z) 0) (planned (rewritten s z c b) (run b c)) (grow_or s z c b (grow_before_or s z c b other))) [
        | inl d ↦ fills (z1, eqb→eq (s.count z) 0 d.0, q.1 ∙ d.1)
        | inr d ↦ (let c0 : s.count z ≢ 0 = λ i. d.0 (eq→eqb (s.count z) 0 i) in
            elim (cond_cases (eqb (s.block z + s.count z) b) (planned (rewritten s z (s.count z + c) (s.block z)) (run b c)) (grow_before_or s z c b other)) [
              | inl f ↦ ends (z1, c0, eqb→eq (s.block z + s.count z) b f.0, q.1 ∙ d.1 ∙ f.1)
              | inr f ↦ elim (cond_cases (eqb (b + c) (s.block z)) (planned (rewritten s z (s.count z + c) b) (run b c)) other) [
                | inl i ↦ starts (z1, c0, eqb→eq (b + c) (s.block z) i.0, q.1 ∙ d.1 ∙ f.1 ∙ i.1)
                | inr i ↦ behind (inr (c0, λ e. f.0 (eq→eqb (s.block z + s.count z) b e), λ e. i.0 (eq→eqb (b + c) (s.block z) e)), q.1 ∙ d.1 ∙ f.1 ∙ i.1)
              ]
            ])
      ])
]

module _ (A : ℕ) (ex : ℕ → Bool) where
  -- the lowest free anode is one, or there is none
  pub lowest_cases : (s : Anodes) → ((ltb (lowest_free A ex s) A ≡ true) × (lowest_free A ex s < A) × FreeAnode ex s (lowest_free A ex s)) ⊎ ((ltb (lowest_free A ex s) A ≡ false) × NoneFree A ex s)
  unfolding lowest_free
  lowest_cases s = go (ltb (least (free ex s) A) A) refl
    where
      go : (t : Bool) → ltb (least (free ex s) A) A ≡ t →
          ((ltb (least (free ex s) A) A ≡ true) × (least (free ex s) A < A) × FreeAnode ex s (least (free ex s) A)) ⊎ ((ltb (least (free ex s) A) A ≡ false) × NoneFree A ex s)
      go true e = elim (least_cases (free ex s) A) [
        | inl d ↦ inl (e, d.0, free_is ex s (least (free ex s) A) d.1)
        | inr d ↦ absurd (omega (arith, ltb→lt (least (free ex s) A) A (rw e tt), d.0))
      ]
      go false e = elim (least_cases (free ex s) A) [
        | inl d ↦ absurd (rw e at (lt→ltb (least (free ex s) A) A d.0))
        | inr d ↦ inr (e, λ a l u. d.1 a l (free-has u))
      ]

  -- an append is done with a free anode, the lowest, or refused with 28 where there is none
  pub append_cases : (s : Anodes) (z c b : ℕ) →
      ((lowest_free A ex s < A) × FreeAnode ex s (lowest_free A ex s) × (append A ex s z c b ≡ planned (inserted_after s z (lowest_free A ex s) c b) (run b c)))
      ⊎ ((append A ex s z c b ≡ refused 28) × NoneFree A ex s)
  unfolding append
  append_cases s z c b = elim (lowest_cases s) [ inl l ↦ inl (l.1, l.2, rw l.0) | inr l ↦ inr (rw l.0, l.1) ]

  -- and so where an anode is needed and nothing else
  pub need_cases : (s : Anodes) →
      ((lowest_free A ex s < A) × FreeAnode ex s (lowest_free A ex s) × (need_anode A ex s ≡ planned s []))
      ⊎ ((need_anode A ex s ≡ refused 28) × NoneFree A ex s)
  unfolding need_anode
  need_cases s = elim (lowest_cases s) [ inl l ↦ inl (l.1, l.2, rw l.0) | inr l ↦ inr (rw l.0, l.1) ]

  -- block y and the taker's last anode z: z is filled, grows at its end, or y gets an anode behind it
  pub put_cases : (dir : Bool) (s : Anodes) (z y : ℕ) → Which
      ((s.count z ≡ 0) × (put A dir z y ex s ≡ planned (rewritten s z 1 y) (run y 1)))
      ((s.count z ≢ 0) × (dir ≡ false) × (s.block z + s.count z ≡ y) × (put A dir z y ex s ≡ planned (rewritten s z (s.count z + 1) (s.block z)) (run y 1)))
      (NeedsAnode dir s z y × (put A dir z y ex s ≡ append A ex s z 1 y))
  unfolding put fill_or grow_or
  put_cases dir s z y = elim (cond_cases (eqb (s.count z) 0) (planned (rewritten s z 1 y) (run y 1)) (cond dir (append A ex s z 1 y) (grow_or s z 1 y (append A ex s z 1 y)))) [
    | inl c ↦ first (eqb→eq (s.count z) 0 c.0, c.1)
    | inr c ↦ behind_it dir (λ q. c.0 (eq→eqb (s.count z) 0 q)) c.1
  ]
    where
      behind_it : (b : Bool) → s.count z ≢ 0 → put A dir z y ex s ≡ cond b (append A ex s z 1 y) (grow_or s z 1 y (append A ex s z 1 y)) → Which
          ((s.count z ≡ 0) × (put A dir z y ex s ≡ planned (rewritten s z 1 y) (run y 1)))
          ((s.count z ≢ 0) × (b ≡ false) × (s.block z + s.count z ≡ y) × (put A dir z y ex s ≡ planned (rewritten s z (s.count z + 1) (s.block z)) (run y 1)))
          (NeedsAnode b s z y × (put A dir z y ex s ≡ append A ex s z 1 y))
      behind_it true c0 e = third ((c0, inl refl), e)
      behind_it false c0 e = elim (cond_cases (eqb (s.block z + s.count z) y) (planned (rewritten s z (s.count z + 1) (s.block z)) (run y 1)) (append A ex s z 1 y)) [
        | inl d ↦ second (c0, refl, eqb→eq (s.block z + s.count z) y d.0, e ∙ d.1)
        | inr d ↦ third ((c0, inr (λ q. d.0 (eq→eqb (s.block z + s.count z) y q))), e ∙ d.1)
      ]

module _ {A : ℕ} {ex : ℕ → Bool} {n last : ℕ} {s : Anodes} (system : ℕ → ℕ) {hd sd : ℕ → ℕ} (c b : ℕ) (g : Good A ex n last s (handed system c b) hd sd) (b0 : b ≢ 0) (bn : b + c ≤ n)
    (z : ℕ) (z0 : z ≢ 0) (u : s.block z ≢ 0) (high : sd z ≡ 1 → last < b) (low : sd z ≡ 2 → b + c ≤ last + 1) where
  -- z becomes (k, y) and has gained the run
  module _ (z1 : z ≢ 1) (k y : ℕ) (e : k ≡ s.count z + c) (y0 : y ≢ 0) (gains : (x : ℕ) → one_if_covers k y x ≡ one_if_covers (s.count z) (s.block z) x + one_if_covers c b x)
      (fits : y + k ≤ n) (is_high : sd z ≡ 1 → last < y) (is_low : sd z ≡ 2 → y + k ≤ last + 1) where
    gained : RunIn A ex n last s system hd (hd z) c b (rewritten s z k y)
    unfolding rewritten
    gained = record {
      hd' = hd;
      sd' = sd;
      good = rewrite_good g z k y system u y0 z0 z1 (λ x. omega (arith, gains x)) (λ l. fits) (λ q l. is_high q) (λ q l. omega (arith, is_low q));
      shift = rewrite_shift s hd z k y u y0;
      more = λ h. omega (arith, blocks_rewrite A hd s.count z k (g.linked.view.below z u) h, ap (λ (i : ℕ). one_at (hd z) h * i) e);
      got = λ h x. omega (arith, held_rewrite A hd s.count s.block z k y (g.linked.view.below z u) h x, ap (λ (i : ℕ). one_at (hd z) h * i) (gains x));
    }

  -- an empty anode is filled
  filled : z ≢ 1 → s.count z ≡ 0 → RunIn A ex n last s system hd (hd z) c b (rewritten s z c b)
  filled z1 e = gained z1 c b (omega arith) b0 (λ x. rw e (omega (arith, covers_none (s.block z) x))) bn high low

  -- the run comes after the end of z
  ended : z ≢ 1 → s.count z ≢ 0 → s.block z + s.count z ≡ b → RunIn A ex n last s system hd (hd z) c b (rewritten s z (s.count z + c) (s.block z))
  ended z1 c0 e = gained z1 (s.count z + c) (s.block z) refl u
      (λ x. omega (arith, covers_join (s.count z) c (s.block z) (s.count z + c) b x (sym e) refl))
      (omega arith) (λ q. g.high z q (omega arith)) (λ q. omega (arith, low q))

  -- or before its start
  started : z ≢ 1 → s.count z ≢ 0 → b + c ≡ s.block z → RunIn A ex n last s system hd (hd z) c b (rewritten s z (s.count z + c) b)
  started z1 c0 e = gained z1 (s.count z + c) b refl b0
      (λ x. omega (arith, covers_join c (s.count z) b (s.count z + c) (s.block z) x (sym e) (omega arith)))
      (omega (arith, e, g.own.fits z (g.linked.view.below z u) (omega arith))) high (λ q. omega (arith, e, g.low z q (omega arith)))

  -- a free anode after z has the run
  pub inserted_in : (f : ℕ) → f < A → FreeAnode ex s f → RunIn A ex n last s system hd (hd z) c b (inserted_after s z f c b)
  unfolding inserted_after insert_after
  inserted_in f f_a i =
      let good = insert_good g z f c b system z0 u f_a i b0 (λ x. refl) (λ p. bn) (λ q l. high q) (λ q l. omega (arith, low q)) in
      let kept : (a : ℕ) → s.block a ≢ 0 → changed hd f (hd z) a ≡ hd a = λ a v. changed_other hd f (hd z) a (λ e. v (ap s.block e ∙ i.unused)) in
      record {
        hd' = changed hd f (hd z);
        sd' = changed sd f (sd z);
        good = good;
        shift = record {
          stays = λ a d. self_headed good a d.pos (kept a d.in_use ∙ g.heads.at_head a d);
          no_new = λ a d. (insert_head_was g.linked z f b u i.unused a d).1;
          apart = λ a v q j. record {
            same_count = changed_other s.count f c a (λ e. v (ap s.block e ∙ i.unused));
            same_block = changed_other s.block f b a (λ e. v (ap s.block e ∙ i.unused));
            same_next = elim (insert_after_cases s.next z f a) [ first c ↦ absurd (q (ap hd c.0)) | second c ↦ absurd (v (ap s.block c.1 ∙ i.unused)) | third c ↦ c.2 ];
          };
          same_hd = λ a v q j. kept a v;
        };
        more = λ h. omega (arith, blocks_fresh A hd s.count f (hd z) c f_a (g.present.free-none f i.unused) h);
        got = λ h x. omega (arith, held_fresh A hd s.count s.block f (hd z) c b f_a (g.present.free-none f i.unused) h x);
      }

  -- a plan for the run that is done
  pub placed_by : (r t : Anodes) (ys : List ℕ) → planned r (run b c) ≡ planned t ys → RunIn A ex n last s system hd (hd z) c b r → RunIn A ex n last s system hd (hd z) c b t × (ys ≡ run b c)
  placed_by r t ys e w = let q = planned_same r t (run b c) ys e in (rw q.0 at w, q.1)

  append_in : (t : Anodes) (ys : List ℕ) → append A ex s z c b ≡ planned t ys → RunIn A ex n last s system hd (hd z) c b t × (ys ≡ run b c)
  append_in t ys e = elim (append_cases A ex s z c b) [
    | inl q ↦ placed_by (inserted_after s z (lowest_free A ex s) c b) t ys (sym q.2 ∙ e) (inserted_in (lowest_free A ex s) q.0 q.1)
    | inr q ↦ absurd (refused≢planned 28 t ys (sym q.0 ∙ e))
  ]

  -- a join that is done: z has gained the run, or it has gone as else it was to go
  pub joins_in : (other : Plan Anodes) (t : Anodes) (ys : List ℕ) → (other ≡ planned t ys → RunIn A ex n last s system hd (hd z) c b t × (ys ≡ run b c)) → join_or s z c b other ≡ planned t ys →
      RunIn A ex n last s system hd (hd z) c b t × (ys ≡ run b c)
  joins_in other t ys rest e = elim (join_cases s z c b other) [
    | fills q ↦ placed_by (rewritten s z c b) t ys (sym q.2 ∙ e) (filled q.0 q.1)
    | ends q ↦ placed_by (rewritten s z (s.count z + c) (s.block z)) t ys (sym q.3 ∙ e) (ended q.0 q.1 q.2)
    | starts q ↦ placed_by (rewritten s z (s.count z + c) b) t ys (sym q.3 ∙ e) (started q.0 q.1 q.2)
    | behind q ↦ rest (sym q.1 ∙ e)
  ]

  pub join_in : (t : Anodes) (ys : List ℕ) → join A z c b ex s ≡ planned t ys → RunIn A ex n last s system hd (hd z) c b t × (ys ≡ run b c)
  unfolding join
  join_in t ys e = joins_in (append A ex s z c b) t ys (append_in t ys) e

module _ {A : ℕ} {ex : ℕ → Bool} {n last : ℕ} {s : Anodes} (system : ℕ → ℕ) {hd sd : ℕ → ℕ} (y : ℕ) (g : Good A ex n last s (handed system 1 y) hd sd) (y0 : y ≢ 0) (yn : y < n)
    (z : ℕ) (z0 : z ≢ 0) (u : s.block z ≢ 0) (high : sd z ≡ 1 → last < y) (low : sd z ≡ 2 → y ≤ last) where
  -- a block that is put
  pub put_in : z ≢ 1 → (dir : Bool) (t : Anodes) (ys : List ℕ) → put A dir z y ex s ≡ planned t ys → RunIn A ex n last s system hd (hd z) 1 y t × (ys ≡ run y 1)
  put_in z1 dir t ys e =
      let low' : sd z ≡ 2 → y + 1 ≤ last + 1 = λ q. omega (arith, low q) in
      elim (put_cases A ex dir s z y) [
        | first c ↦ placed_by system 1 y g y0 (omega arith) z z0 u high low' (rewritten s z 1 y) t ys (sym c.1 ∙ e) (filled system 1 y g y0 (omega arith) z z0 u high low' z1 c.0)
        | second c ↦ placed_by system 1 y g y0 (omega arith) z z0 u high low' (rewritten s z (s.count z + 1) (s.block z)) t ys (sym c.3 ∙ e) (ended system 1 y g y0 (omega arith) z z0 u high low' z1 c.0 c.2)
        | third c ↦ append_in system 1 y g y0 (omega arith) z z0 u high low' t ys (sym c.1 ∙ e)
      ]
