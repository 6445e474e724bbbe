-- The whole chain of a head goes back, as a removal has it: all but the head's run, run by run; then the chain is dropped, and the run of the head goes with the head itself.
use Rattle.std.specs.Prelude.{ℕ, ◌+◌, ◌-◌, ◌*◌, ◌≤◌, ◌<◌, ◌≡◌, ◌≢◌, Bool, List, [], ◌∷◌, ◌++◌, T, length}
use Rattle.std.proofs.Math.Path.{refl, ap, fun_ext}
use Rattle.std.proofs.Common.{sym, ◌∙◌, subst, append-nil, arith, length-append}
use Rattle.std.proofs.Math.Logic.{inl, inr}
use Rattle.std.proofs.Math.Dec.{le→leb}
use Rattle.rules.specs.Counting.{one_at, sum_list, occurrences, changed}
use Rattle.rules.specs.Anodes.{Anodes, exists_by}
use Rattle.rules.specs.Chains.{chain_of, one_if_covers, system_by}
use Rattle.rules.specs.Plans.{Slotted, slotted, planned, Growth}
use Rattle.rules.specs.Space.{rewritten, unlinked, without_tail, lower_run, run_length, found, last_extent, on_chain, dropped, move_back, head_back, before_head, give_run, give_blocks, give_all}
use Rattle.laws.specs.Tests.{same?, less?, not_above, T_true, eqb_cases}
use Rattle.laws.specs.Sums.{one_at-same, one_at_other, changed-same, changed_other, sum_congr, sum-none}
use Rattle.laws.specs.Bags.{list_cons, occurrences-here, occurrences-append}
use Rattle.laws.specs.Chains.{length_run, occurrences-run}
use Rattle.laws.specs.Ownership.{covers_none, handed}
use Rattle.laws.specs.Segments.{Chain}
use Rattle.laws.specs.Heads.{Head, head_chain}
use Rattle.laws.specs.LinkChanges.{first, second, third, without, without_cases, without_other}
use Rattle.laws.specs.HeadChanges.{drop_head_was}
use Rattle.laws.specs.Blocks.{blocks}
use Rattle.laws.specs.Held.{held}
use Rattle.laws.specs.Space.{Alike, alike_trans, Good, good-same, FreeAnode, dead_head, head_dead, dead_along, drop-good}
use Rattle.laws.specs.Owners.{full_inside, blocks-chain, blocks-none, holder}
use Rattle.laws.specs.Searches.{last_extent_split}
use Rattle.laws.specs.Plans.{planned_same, then_planned}
use Rattle.laws.specs.Moves.{Passed, Shift, shift_trans, shift_into, with_these, SlotsGrew, slots_grown_trans, Grows, RunOut, Moved}
use Rattle.laws.specs.Leaving.{run-emptied, without_run_cases, without_run-out}
use Rattle.laws.specs.Take.{StartOwned}
use Rattle.laws.specs.Give.{OneSide, released_moved}
use Rattle.laws.specs.GiveRuns.{crosses_cases, run_cases, moved_back, tail-out, run_released, NextRun, Meets, now, later, next_fits, give_run-moved, meets_moved, moved-left, runs_meet, runs_moved}
use Rattle.laws.specs.Frame.{apart_alike, apart_chain}
use Rattle.laws.specs.ChainBlocks.{stands_once}

-- ---- a chain goes

-- from s to t: h's chain is gone, and of the others only 1's is touched
pub record Gone (s : Anodes) (hd : ℕ → ℕ) (t : Anodes) (h : ℕ) : Type 0 where
  pub stays : (m : ℕ) → m ≢ h → Head s.next s.block m → Head t.next t.block m
  pub was : (m : ℕ) → Head t.next t.block m → (m ≢ h) × Head s.next s.block m
  pub apart : (a : ℕ) → s.block a ≢ 0 → hd a ≢ 1 → hd a ≢ h → Alike s t a

-- every other chain but 1's is the same
module _ {A : ℕ} {ex ex' : ℕ → Bool} {n last : ℕ} {s t : Anodes} {system system' hd sd hd' sd' : ℕ → ℕ} (g : Good A ex n last s system hd sd) (g' : Good A ex' n last t system' hd' sd')
    (h : ℕ) (gone : Gone s hd t h) (m : ℕ) (m1 : m ≢ 1) (mh : m ≢ h) (d : Head s.next s.block m) where
  -- its anodes read the same
  pub gone_alike : (a : ℕ) → 0 < occurrences a (chain_of s.next A m) → Alike s t a
  gone_alike = apart_alike g gone.apart m d m1 mh

  -- and it is the same list of anodes
  pub gone-chain : chain_of t.next A m ≡ chain_of s.next A m
  gone-chain = apart_chain g gone.apart m d m1 mh g' (gone.stays m mh d)

-- from s to t the chain of h is gone: the blocks of ys have gone from it to the free list, and those of gs from there to the system
pub record ChainGone (A n last : ℕ) (s : Slotted) (system hd : ℕ → ℕ) (h : ℕ) (ys gs : List ℕ) (t : Slotted) : Type 0 where
  pub hd' : ℕ → ℕ
  pub sd' : ℕ → ℕ
  pub good : Good A (exists_by t.slots) n last t.anodes (with_these system gs) hd' sd'
  pub gone : Gone s.anodes hd t.anodes h
  pub moved : (m : ℕ) → blocks A hd' t.anodes.count m + one_at h m * length ys + one_at 1 m * length gs ≡ blocks A hd s.anodes.count m + one_at 1 m * length ys
  pub passed : Passed A s.anodes hd t.anodes hd' h 1 ys gs
  pub system_got : (x : ℕ) → system_by t.slots x ≡ system_by s.slots x + occurrences x gs
  pub slots_grew : SlotsGrew n s.slots t.slots

module _ {A n last : ℕ} {s : Slotted} {system hd : ℕ → ℕ} {h : ℕ} {ys gs : List ℕ} {t : Slotted} (w : ChainGone A n last s system hd h ys gs t) (h1 : h ≢ 1) where
  no_head : Head t.anodes.next t.anodes.block h → ⊥
  no_head d = (w.gone.was h d).0 refl

  -- they are as many as the chain had
  pub gone-length : length ys ≡ blocks A hd s.anodes.count h
  gone-length = omega (arith, rw (one_at-same h h refl, one_at_other 1 h (λ e. h1 (sym e))) at (w.moved h), blocks-none w.good h no_head)

  -- and exactly those
  pub gone-blocks : (x : ℕ) → occurrences x ys ≡ held A hd s.anodes.count s.anodes.block h x
  gone-blocks x = omega (arith, rw (one_at-same h h refl, one_at_other 1 h (λ e. h1 (sym e))) at (w.passed h x), not_above (held A w.hd' t.anodes.count t.anodes.block h x) (λ p. no_head (holder w.good h x p)))

  -- the free blocks and those that the system got are the free ones and the chain's of before
  pub gone-sum : blocks A w.hd' t.anodes.count 1 + length gs ≡ blocks A hd s.anodes.count 1 + blocks A hd s.anodes.count h
  gone-sum = omega (arith, rw (one_at-same 1 1 refl, one_at_other h 1 h1) at (w.moved 1), gone-length)

-- ---- a chain with no block is dropped

-- after changes of the chains of 1 and h that leave h no block
module _ {A : ℕ} {ex : ℕ → Bool} {n last : ℕ} {s u : Anodes} {system hd hd' sd' : ℕ → ℕ} (g : Good A ex n last u system hd' sd') (h : ℕ) (h6 : 6 ≤ h) (d : Head s.next s.block h) (shift : Shift s hd u hd' 1 h)
    (none : blocks A hd' u.count h ≡ 0) where
  abbrev dead : ℕ → Bool
  dead = on_chain A u h

  still : Head u.next u.block h
  still = shift.stays h d

  -- no anode of the chain has a block left
  none_left : (a : ℕ) → hd' a ≡ h → u.count a ≡ 0
  unfolding blocks
  none_left a q = elim (less? a A) [
    | inl l ↦ omega (arith, sum-none (λ b. one_at (hd' b) h * u.count b) A none a l, ap (λ (k : ℕ). k * u.count a) (one_at-same (hd' a) h q))
    | inr l ↦ elim (same? (u.block a) 0) [ inl z ↦ g.present.free-none a z | inr i ↦ absurd (omega (arith, l, g.linked.view.below a i)) ]
  ]

  -- what is left is good
  pub dropped-good : Good A ex n last (dropped A u h) system (without (on_chain A u h) hd') (without (on_chain A u h) sd')
  dropped-good = drop-good g h h6 still none_left

  alive : (F : ℕ → ℕ) (a : ℕ) → hd' a ≢ h → without dead F a ≡ F a
  alive F a q = without_other dead F a (λ i. q (dead_head g h h6 still none_left a i))

  alike : (a : ℕ) → hd' a ≢ h → Alike u (dropped A u h) a
  unfolding dropped without
  alike a q = record { same_count = alive u.count a q; same_block = alive u.block a q; same_next = alive u.next a q }

  -- an anode of another chain but 1's keeps its head
  dropped_hd : (a : ℕ) → s.block a ≢ 0 → hd a ≢ 1 → hd a ≢ h → without (on_chain A u h) hd' a ≡ hd a
  dropped_hd a v q i = let e = shift.same_hd a v q i in alive hd' a (λ k. i (sym e ∙ k)) ∙ e

  -- and the chain is gone
  pub dropped-gone : Gone s hd (dropped A u h) h
  unfolding dropped without
  dropped-gone = record {
    stays = λ m q i. let j = shift.stays m i in
        record {
          pos = j.pos;
          in_use = rw (alive u.block m (λ k. q (sym (g.heads.at_head m j) ∙ k))) j.in_use;
          no_pred = λ p k. elim (without_cases dead u.next p) [ inl c ↦ j.pos (sym k ∙ c.1) | inr c ↦ j.no_pred p (sym c.1 ∙ k) ];
        };
    was = λ m i. let k = drop_head_was dead (dead_along g h h6 still none_left) m i in
        (λ q. k.0 (head_dead g h h6 still none_left m (g.heads.at_head m k.1 ∙ q)), shift.no_new m k.1);
    apart = λ a v q i. alike_trans (shift.apart a v q i) (alike a (λ k. i (sym (shift.same_hd a v q i) ∙ k)));
  }

  -- a sum over the anodes of a head, of what is nothing on the chain, is the same
  dropped-sum : (F G : ℕ → ℕ) → ((a : ℕ) → T (on_chain A u h a) → (F a ≡ 0) × (G a ≡ 0)) → ((a : ℕ) → (T (on_chain A u h a) → ⊥) → G a ≡ F a) → (m : ℕ) → blocks A (without (on_chain A u h) hd') G m ≡ blocks A hd' F m
  unfolding blocks
  dropped-sum F G both same m = sum_congr (λ a. one_at (without dead hd' a) m * G a) (λ a. one_at (hd' a) m * F a) A (λ a l. elim (without_cases dead hd' a) [
    | inl c ↦ (let z = both a c.0 in rw (z.0, z.1) (omega arith))
    | inr c ↦ rw (c.1, same a c.0) refl
  ])

  -- the blocks of every chain stay
  dropped-count : (m : ℕ) → blocks A (without (on_chain A u h) hd') (dropped A u h).count m ≡ blocks A hd' u.count m
  unfolding dropped without
  dropped-count = dropped-sum u.count (without dead u.count) (λ a t. (none_left a (dead_head g h h6 still none_left a t), rw (T_true (dead a) t))) (λ a t. without_other dead u.count a t)

  dropped-held : (m x : ℕ) → held A (without (on_chain A u h) hd') (dropped A u h).count (dropped A u h).block m x ≡ held A hd' u.count u.block m x
  unfolding dropped without held
  dropped-held m x = dropped-sum (λ a. one_if_covers (u.count a) (u.block a) x) (λ a. one_if_covers (without dead u.count a) (without dead u.block a) x)
      (λ a t. (rw (none_left a (dead_head g h h6 still none_left a t)) (covers_none (u.block a) x), rw (T_true (dead a) t) (covers_none 0 x)))
      (λ a t. rw (without_other dead u.count a t, without_other dead u.block a t)) m

-- ---- what goes back before the head

-- the lower run of an extent has no more than it
pub lower_most : (last c b : ℕ) → lower_run last c b ≤ c
lower_most last c b = elim (crosses_cases last c b) [ inl q ↦ omega (arith, q.0, q.1, q.3) | inr q ↦ omega (arith, q.2) ]

module _ {A : ℕ} {ex : ℕ → Bool} {n last : ℕ} {s : Anodes} {system hd sd : ℕ → ℕ} (g : Good A ex n last s system hd sd) (h : ℕ) (d : Head s.next s.block h) where
  -- a chain begins with its head
  pub head_first : (l : List ℕ) × (chain_of s.next A h ≡ h ∷ l)
  head_first = go (chain_of s.next A h) (head_chain g.linked h d)
    where
      go : (c : List ℕ) → Chain s.next h c → (l : List ℕ) × (c ≡ h ∷ l)
      go [] e = absurd (d.pos e)
      go (b ∷ l) e = (l, ap (λ (a : ℕ). a ∷ l) (sym e.0))

  -- so the head is in it
  pub head_on : T (on_chain A s h h)
  unfolding on_chain
  head_on = let (l, e) = head_first in le→leb 1 (occurrences h (chain_of s.next A h)) (rw e (occurrences-here h l))

  -- and it has the head's blocks among its own
  pub head_counted : s.count h ≤ sum_list s.count (chain_of s.next A h)
  head_counted = let (l, e) = head_first in omega (arith, ap (sum_list s.count) e, list_cons s.count h l)

  -- where the head is the last anode with a block, they are all
  pub head_alone : (p : ℕ) → last_extent s.count 0 (chain_of s.next A h) ≡ found p h → sum_list s.count (chain_of s.next A h) ≡ s.count h
  head_alone p e =
      let (l, is) = head_first in
      let (pre, post, parted, none) = last_extent_split s.count 0 (chain_of s.next A h) p h e in
      go l pre post is parted none (stands_once g h d h pre post parted).0
    where
      go : (l pre post : List ℕ) → chain_of s.next A h ≡ h ∷ l → chain_of s.next A h ≡ pre ++ (h ∷ post) → sum_list s.count post ≡ 0 → occurrences h pre ≡ 0 → sum_list s.count (chain_of s.next A h) ≡ s.count h
      go l [] post is parted none once = omega (arith, ap (sum_list s.count) parted, list_cons s.count h post)
      go l (b ∷ pre) post is parted none once =
          let same : b ∷ (pre ++ (h ∷ post)) ≡ h ∷ l = sym parted ∙ is in
          let e : b ≡ h = cc in
          let there : 0 < occurrences h (b ∷ pre) = rw (← e) (occurrences-here b pre) in
          absurd (omega (arith, once, there))

-- k blocks of the chain of h are to go, all but the head's lower run
abbrev pub Before : ℕ → ℕ → ℕ → ℕ → Slotted → Type 0
Before A last h k s = k + lower_run last (s.anodes.count h) (s.anodes.block h) ≡ sum_list s.anodes.count (chain_of s.anodes.next A h)

-- so it is at first
pub before-first : {A : ℕ} {ex : ℕ → Bool} {n last : ℕ} (s : Slotted) {system hd sd : ℕ → ℕ} → Good A ex n last s.anodes system hd sd → (h : ℕ) → Head s.anodes.next s.anodes.block h → Before A last h (before_head A last s.anodes h) s
unfolding before_head
before-first {last = last} s g h d = omega (arith, lower_most last (s.anodes.count h) (s.anodes.block h), head_counted g h d)

-- a run of another anode leaves the head's fields; a run of the head is its upper part, and the last that goes
before-kept : (last k c b d rest : ℕ) → d ≡ run_length last k c b → 0 < k → k + lower_run last c b ≡ c → rest + d ≡ c → (d ≢ c) × ((k - d) + lower_run last (c - d) b ≡ rest)
before-kept last k c b d rest e some before less = elim (crosses_cases last c b) [
  | inr q ↦ absurd (omega (arith, some, before, q.2))
  | inl q ↦ (
      let all : d ≡ k = elim (run_cases last k c b) [ inl r ↦ e ∙ r.1 | inr r ↦ absurd (omega (arith, r.0, before, q.0, q.1, q.2, q.3)) ] in
      let k_is : k ≡ b + c - (last + 1) = omega (arith, before, q.0, q.1, q.3) in (
        λ i. omega (arith, i, all, k_is, q.0, q.1),
        elim (crosses_cases last (c - d) b) [
          | inl r ↦ absurd (omega (arith, r.1, all, k_is, q.0, q.1))
          | inr r ↦ omega (arith, r.2, all, less, k_is)
        ],
      ))
]

module _ {A n last : ℕ} {growth : Growth} (grows : Grows A n last growth) (h : ℕ) (h1 : h ≢ 1) where
  -- the fields of h after a run, where x is not h and where it is
  tail_head : (s : Anodes) (p x d : ℕ) → x ≢ h → ((without_tail s h p x d).count h ≡ s.count h) × ((without_tail s h p x d).block h ≡ s.block h)
  unfolding without_tail rewritten unlinked
  tail_head s p x d xh = elim (without_run_cases s h p x d (s.block x)) [
    | first c ↦ rw c.1 (changed_other s.count x (s.count x - d) h (λ e. xh (sym e)), changed_other s.block x (s.block x) h (λ e. xh (sym e)))
    | second c ↦ absurd (xh c.1)
    | third c ↦ rw c.2 (changed_other s.count x 0 h (λ e. xh (sym e)), changed_other s.block x 0 h (λ e. xh (sym e)))
  ]

  tail_own : (s : Anodes) (p d : ℕ) → s.count h ≢ d → ((without_tail s h p h d).count h ≡ s.count h - d) × ((without_tail s h p h d).block h ≡ s.block h)
  unfolding without_tail rewritten
  tail_own s p d i = elim (without_run_cases s h p h d (s.block h)) [
    | first c ↦ rw c.1 (changed-same s.count h (s.count h - d), changed-same s.block h (s.block h))
    | second c ↦ absurd (i c.0)
    | third c ↦ absurd (c.1 refl)
  ]

  -- each run keeps it
  pub run-before : (s : Slotted) {system hd sd : ℕ → ℕ} → StartOwned system → Good A (exists_by s.slots) n last s.anodes system hd sd → Head s.anodes.next s.anodes.block h →
      {k p x d : ℕ} → NextRun A last h k s p x d → (t : Slotted) (ys : List ℕ) → give_run A growth last h p x d s ≡ planned t ys → Before A last h k s → Before A last h (k - d) t
  run-before s {hd = hd} start g dh {k} {p} {x} {d} next t ys gives before =
      let (some, few, most, one) = next_fits next in
      let out = tail-out g h dh h1 p x d next.is_last most in
      let back = run_released grows s start g h dh h1 p x d next.is_last most one t ys gives in
      let w = released_moved out back in
      let less : sum_list t.anodes.count (chain_of t.anodes.next A h) + d ≡ sum_list s.anodes.count (chain_of s.anodes.next A h) =
      omega (arith, moved-left grows h h1 w, blocks-chain g h dh, blocks-chain w.good h (w.shift.stays h dh), ap length back.handed_are ∙ length_run _ d) in
      let there = out.shift.stays h dh in
      let same = back.shift.apart h there.in_use (λ q. h1 (sym (out.good.heads.at_head h there) ∙ q)) (λ q. h1 (sym (out.good.heads.at_head h there) ∙ q)) in
      elim (same? x h) [
        | inr xh ↦ (let f = tail_head s.anodes p x d xh in rw (same.same_count, same.same_block, f.0, f.1) (omega (arith, before, less, few)))
        | inl xh ↦ (
            let is_last : last_extent s.anodes.count 0 (chain_of s.anodes.next A h) ≡ found p h = next.is_last ∙ ap (found p) xh in
            let alone = head_alone g h dh p is_last in
            let kept = before-kept last k (s.anodes.count h) (s.anodes.block h) d (sum_list t.anodes.count (chain_of t.anodes.next A h))
            (next.length_is ∙ ap (λ (y : ℕ). run_length last k (s.anodes.count y) (s.anodes.block y)) xh) next.some (before ∙ alone) (less ∙ alone) in
            let f = tail_own s.anodes p d (λ e. kept.0 (sym e)) in
            let count_is : t.anodes.count h ≡ s.anodes.count h - d = same.same_count ∙ ap (λ (y : ℕ). (without_tail s.anodes h p y d).count h) xh ∙ f.0 in
            let block_is : t.anodes.block h ≡ s.anodes.block h = same.same_block ∙ ap (λ (y : ℕ). (without_tail s.anodes h p y d).block h) xh ∙ f.1 in
            rw (count_is, block_is) kept.1)
      ]

  -- and so runs one after the other
  meets_before : {k j : ℕ} {s r : Slotted} {zs : List ℕ} → Meets A growth last h k s j r zs → (system hd sd : ℕ → ℕ) → StartOwned system → Good A (exists_by s.slots) n last s.anodes system hd sd →
      Head s.anodes.next s.anodes.block h → Before A last h k s → Before A last h j r
  meets_before now system hd sd start g dh before = before
  meets_before (later {k} {j} {s} {t} {r} {zs} p x d ys next gives m) system hd sd start g dh before =
      let (some, few, most, one) = next_fits next in
      let (gs, w, e) = give_run-moved grows start g h dh h1 p x d next.is_last some most one t ys gives in
      meets_before m (with_these system gs) w.hd' w.sd' (λ x l. omega (arith, start x l)) w.good (w.shift.stays h dh) (run-before s start g dh next t ys gives before)

  -- when all that goes before the head's run has gone, the head alone has blocks, on one side
  pub record HeadLeft (s : Slotted) (system hd : ℕ → ℕ) (ys gs : List ℕ) (r : Slotted) : Type 0 where
    pub moves : Moved A n last s system hd h 1 h ys gs r
    pub alone : blocks A moves.hd' r.anodes.count h ≡ r.anodes.count h
    pub one_side : OneSide last (r.anodes.count h) (r.anodes.block h)

  -- and so it is after the blocks before the head's have gone
  pub head_left : (s : Slotted) (system hd sd : ℕ → ℕ) → StartOwned system → Good A (exists_by s.slots) n last s.anodes system hd sd → Head s.anodes.next s.anodes.block h →
      (r : Slotted) (ys : List ℕ) → give_blocks A growth last (before_head A last s.anodes h) h s ≡ planned r ys → (gs : List ℕ) × HeadLeft s system hd ys gs r
  unfolding before_head give_blocks
  head_left s system hd sd start g dh r ys e =
      let k = before_head A last s.anodes h in
      let c = r.anodes.count h in
      let b = r.anodes.block h in
      let few = lower_most last (s.anodes.count h) (s.anodes.block h) in
      let (gs, w, len) = runs_moved grows h h1 k r ys s system hd sd start g dh (omega (arith, blocks-chain g h dh)) e in
      let (j, m, end) = runs_meet A growth last k k h (omega arith) s r ys e in
      let (hs, v, len') = meets_moved grows h h1 m system hd sd start g dh in
      let none : j ≡ 0 = omega (arith, len, len') in
      let before : Before A last h j r = meets_before m system hd sd start g dh (before-first s g h dh) in
      let there = w.shift.stays h dh in
      let sum = blocks-chain w.good h there in
      let all = head_counted w.good h there in (
        gs,
        record {
          moves = w;
          alone = omega (arith, none, before, sum, all, lower_most last c b);
          one_side = elim (crosses_cases last c b) [ inl q ↦ absurd (omega (arith, none, before, all, q.0, q.1, q.3)) | inr q ↦ q.0 ];
        },
      )

-- ---- the head goes

-- what is dropped with the chain need not be emptied before
dropped-emptied : (A : ℕ) (s : Anodes) (h : ℕ) → T (on_chain A s h h) → dropped A (rewritten s h 0 65535) h ≡ dropped A s h
unfolding dropped rewritten on_chain without
dropped-emptied A s h on = rw (at s.count 0, at s.block 65535) refl
  where
    at : (F : ℕ → ℕ) (v : ℕ) → without (on_chain A s h) (changed F h v) ≡ without (on_chain A s h) F
    at F v = fun_ext (λ a. elim (without_cases (on_chain A s h) F a) [
      | inl c ↦ rw (T_true (on_chain A s h a) c.0) refl
      | inr c ↦ rw (changed_other F h v a (λ e. c.0 (rw e on))) refl
    ])

module _ {A n last : ℕ} {s r : Slotted} {system hd : ℕ → ℕ} (h : ℕ) (h6 : 6 ≤ h) (d : Head s.anodes.next s.anodes.block h) {ys gs : List ℕ} (w : Moved A n last s system hd h 1 h ys gs r) where
  -- a chain that has no block left is dropped
  empty_gone : blocks A w.hd' r.anodes.count h ≡ 0 → ChainGone A n last s system hd h ys gs (slotted (dropped A r.anodes h) r.slots)
  empty_gone none = record {
    hd' = without (on_chain A r.anodes h) w.hd';
    sd' = without (on_chain A r.anodes h) w.sd';
    good = dropped-good w.good h h6 d w.shift none;
    gone = dropped-gone w.good h h6 d w.shift none;
    moved = λ m. omega (arith, dropped-count w.good h h6 d w.shift none m, w.moved m);
    passed = λ m x. omega (arith, dropped-held w.good h h6 d w.shift none m x, w.passed m x);
    system_got = w.system_got;
    slots_grew = w.slots_grew;
  }

  -- the head's run, the last that the chain has, goes back with the head
  module _ (alone : blocks A w.hd' r.anodes.count h ≡ r.anodes.count h) (one : OneSide last (r.anodes.count h) (r.anodes.block h)) (full : 0 < r.anodes.count h) where
    abbrev c : ℕ
    c = r.anodes.count h

    abbrev b : ℕ
    b = r.anodes.block h

    abbrev u : Anodes
    u = rewritten r.anodes h 0 65535

    there : Head r.anodes.next r.anodes.block h
    there = w.shift.stays h d

    -- it is in hand
    out : RunOut A (exists_by r.slots) n last r.anodes (with_these system gs) w.hd' h c b u
    out = rw (w.good.heads.at_head h there, run-emptied r.anodes h 0 h c b refl refl) at
        (without_run-out w.good h full h 0 c b b (omega arith) there.in_use (omega arith, omega arith) (λ y. let z : c - c ≡ 0 = omega arith in rw z (omega (arith, covers_none b y))) (λ e. refl) (λ e. absurd (e refl)))

    none : blocks A out.hd' u.count h ≡ 0
    none = omega (arith, rw (one_at-same h h refl) at (out.fewer h), alone)

    shift : Shift s.anodes hd u out.hd' 1 h
    shift = shift_trans w.shift (shift_into out.shift 1 h (inr refl) (inr refl))

    abbrev end : Anodes
    end = dropped A r.anodes h

    abbrev hd_end : ℕ → ℕ
    hd_end = without (on_chain A u h) out.hd'

    end_is : dropped A u h ≡ end
    end_is = dropped-emptied A r.anodes h (head_on w.good h there)

    -- the chain is dropped, and its head is an anode to be had
    end-good : Good A (exists_by r.slots) n last end (handed (with_these system gs) c b) hd_end (without (on_chain A u h) out.sd')
    end-good = rw end_is at (dropped-good out.good h h6 d shift none)

    end-free : FreeAnode (exists_by r.slots) end h
    unfolding dropped
    end-free = record { from_6 = h6; unused = rw (T_true (on_chain A r.anodes h h) (head_on w.good h there)); there = w.good.present.exist h there.in_use }

    -- and the run comes to the free list
    head_gone : (t : Slotted) (xs zs : List ℕ) → move_back A last h c b (slotted end r.slots) ≡ planned t xs → zs ≡ ys ++ xs → (hs : List ℕ) × ChainGone A n last s system hd h zs hs t
    head_gone t xs zs e z =
        let back = moved_back c b end-good there.in_use (full_inside w.good h full) one h (w.good.linked.view.below h there.in_use) end-free t xs e in
        let gone : Gone s.anodes hd end h = rw end_is at (dropped-gone out.good h h6 d shift none) in
        let count : (m : ℕ) → blocks A hd_end end.count m ≡ blocks A out.hd' u.count m = rw end_is at (dropped-count out.good h h6 d shift none) in
        let covered : (m x : ℕ) → held A hd_end end.count end.block m x ≡ held A out.hd' u.count u.block m x = rw end_is at (dropped-held out.good h h6 d shift none) in
        let long : length zs ≡ length ys + c = ap length z ∙ length-append ys xs ∙ omega (arith, ap length back.handed_are ∙ length_run b c) in
        let all : (x : ℕ) → occurrences x zs ≡ occurrences x ys + one_if_covers c b x = λ x. ap (occurrences x) z ∙ occurrences-append x ys xs ∙ omega (arith, ap (occurrences x) back.handed_are ∙ occurrences-run b c x) in
        let apart : (a : ℕ) → s.anodes.block a ≢ 0 → hd a ≢ 1 → hd a ≢ h → Alike end t.anodes a = λ a v q i.
        let k : hd_end a ≢ 1 = λ j. q (sym (dropped_hd out.good h h6 d shift none a v q i) ∙ j) in
        back.shift.apart a (rw (gone.apart a v q i).same_block v) k k in (
          gs ++ back.gs,
          record {
            hd' = back.hd';
            sd' = back.sd';
            good = good-same back.good (λ x. omega (arith, occurrences-append x gs back.gs));
            gone = record {
              stays = λ m q i. back.shift.stays m (gone.stays m q i);
              was = λ m i. gone.was m (back.shift.no_new m i);
              apart = λ a v q i. alike_trans (gone.apart a v q i) (apart a v q i);
            };
            moved = λ m. omega (
              arith,
              w.moved m,
              out.fewer m,
              count m,
              back.more m,
              ap (λ (k : ℕ). one_at h m * k) long,
              ap (λ (k : ℕ). one_at 1 m * k) long,
              ap (λ (k : ℕ). one_at 1 m * k) (length-append gs back.gs),
            );
            passed = λ m x. omega (
              arith,
              w.passed m x,
              out.lost m x,
              covered m x,
              back.got m x,
              ap (λ (k : ℕ). one_at h m * k) (all x),
              ap (λ (k : ℕ). one_at 1 m * k) (all x),
              ap (λ (k : ℕ). one_at 1 m * k) (occurrences-append x gs back.gs),
            );
            system_got = λ x. omega (arith, w.system_got x, back.system_got x, occurrences-append x gs back.gs);
            slots_grew = slots_grown_trans w.slots_grew back.slots_grew;
          },
        )

-- ---- the whole

-- the whole chain of h, from 6 up, that goes back is gone
pub all-gone : {A n last : ℕ} {growth : Growth} → Grows A n last growth → {s : Slotted} {system hd sd : ℕ → ℕ} → StartOwned system → Good A (exists_by s.slots) n last s.anodes system hd sd → (h : ℕ) → 6 ≤ h →
    Head s.anodes.next s.anodes.block h → (t : Slotted) (zs : List ℕ) → give_all A growth last h s ≡ planned t zs → (gs : List ℕ) × ChainGone A n last s system hd h zs gs t
unfolding give_all head_back
all-gone {A} {n} {last} {growth} grows {s} {system} {hd} {sd} start g h h6 d t zs e =
    let h1 : h ≢ 1 = omega arith in
    let (r, ys, xs, p, q, z) = then_planned (give_blocks A growth last (before_head A last s.anodes h) h s) (head_back A last h) t zs e in
    let (gs, l) = head_left grows h h1 s system hd sd start g d r ys p in
    let end = slotted (dropped A r.anodes h) r.slots in
    elim (eqb_cases (r.anodes.count h) 0 (planned end []) (move_back A last h (r.anodes.count h) (r.anodes.block h) end)) [
      | inl c ↦ (
          let f = planned_same end t [] xs (sym c.1 ∙ q) in
          let same : zs ≡ ys = z ∙ ap (λ (l : List ℕ). ys ++ l) f.1 ∙ append-nil ys in
          (gs, subst (λ (t : Slotted). ChainGone A n last s system hd h zs gs t) f.0 (subst (λ (l : List ℕ). ChainGone A n last s system hd h l gs end) (sym same) (empty_gone h h6 d l.moves (l.alone ∙ c.0)))))
      | inr c ↦ head_gone h h6 d l.moves l.alone l.one_side (omega (arith, c.0)) t xs zs (sym c.1 ∙ q) z
    ]
