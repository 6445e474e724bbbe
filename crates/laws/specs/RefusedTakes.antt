-- When takes one after the other are refused, and with which number: with 27 exactly if they come to a state without a free block, with 28 exactly if they come to one in which the taker needs an anode and none can be had. Without growth, takes within the free blocks never answer 27.
use Prim.Native.Nat.{ℕ, zero, suc, ◌+◌, ◌-◌, ◌≤◌, ◌<◌}
use Rattle.std.specs.Prelude.{◌≡◌, ◌≢◌, ◌↔◌, Bool, length}
use Rattle.std.proofs.Math.Path.{refl, ap}
use Rattle.std.proofs.Common.{sym, ◌∙◌}
use Rattle.std.proofs.Math.Logic.{inl, inr}
use mathlib.Core.List.{List, [], ◌++◌}
use native.Mathlib.Omega.{arith}
use Rattle.rules.specs.Counting.{sum_list}
use Rattle.rules.specs.Anodes.{Anodes, exists_by}
use Rattle.rules.specs.Chains.{chain_of}
use Rattle.rules.specs.Plans.{Slotted, slotted, Plan, refused, planned, after, repeated, Growth, no_growth}
use Rattle.rules.specs.Space.{without_first, nowhere, found, free_extent, chain_end, take_block, take_many}
use Rattle.laws.specs.Sums.{one_at-same}
use Rattle.laws.specs.Heads.{Head}
use Rattle.laws.specs.Blocks.{blocks}
use Rattle.laws.specs.Space.{Good, head_1}
use Rattle.laws.specs.Owners.{blocks-chain}
use Rattle.laws.specs.Plans.{refused_same, planned≢refused, then_refused, repeated_next, repeated_stop, repeated-none, repeated-done}
use Rattle.laws.specs.Moves.{Grows, none_grows, Moved}
use Rattle.laws.specs.FreeExtent.{extent-found, take_nowhere, take_cases}
use Rattle.laws.specs.Arriving.{NeedsAnode}
use Rattle.laws.specs.Take.{StartOwned, without_first-out}
use Rattle.laws.specs.FixedSlots.{takes_slots, taken-sum}
use Rattle.laws.specs.Resize.{takes_moved}
use Rattle.laws.specs.RefusedSteps.{Spares, NoAnode, take-28_exactly, take-27_exactly}
use Rattle.laws.specs.RefusedRuns.{AlwaysSpares}

-- ---- where a refused run of steps stops

module _ {X : Type 0} (step : X → Plan X) where
  -- a step and the steps after it are done
  one_more : (i : ℕ) (s t r : X) (ys zs : List ℕ) → step s ≡ planned t ys → repeated step i t ≡ planned r zs → repeated step (suc i) s ≡ planned r (ys ++ zs)
  unfolding after
  one_more i s t r ys zs q d = repeated_next step (suc i) i (omega arith) s t ys q ∙ ap (after ys) d

  -- the first steps of a refused run are done, and the next is refused with its number
  repeated_stops : (n k : ℕ) (s : X) → repeated step k s ≡ refused n → (i : ℕ) × (j : ℕ) × (r : X) × (zs : List ℕ) × (i + j ≡ k) × (0 < j) × (repeated step i s ≡ planned r zs) × (step r ≡ refused n)
  unfolding repeated
  repeated_stops n zero s e = absurd (planned≢refused s [] n e)
  repeated_stops n (suc k) s e = elim (then_refused (step s) (repeated step k) n e) [
    | inl q ↦ (0, suc k, s, [], omega arith, omega arith, refl, q)
    | inr (t, ys, q, f) ↦ (let (i, j, r, zs, all, some, done, stop) = repeated_stops n k t f in (suc i, j, r, ys ++ zs, omega (arith, all), some, one_more i s t r ys zs q done, stop))
  ]

  -- and a run that comes to such a step is refused
  stops_repeated : (n i j k : ℕ) (s r : X) (zs : List ℕ) → i + j ≡ k → 0 < j → repeated step i s ≡ planned r zs → step r ≡ refused n → repeated step k s ≡ refused n
  unfolding after
  stops_repeated n zero j k s r zs all some done stop = repeated_stop step k (k - 1) (omega (arith, all, some)) s n (ap step (repeated-none step s r zs done).0 ∙ stop)
  stops_repeated n (suc i) j k s r zs all some done stop =
      let (t, ys, xs, q, f, z) = repeated-done step i s r zs done in
      repeated_next step k (i + j) (omega (arith, all)) s t ys q ∙ ap (after ys) (stops_repeated n i j (i + j) t r xs refl some f stop)

-- ---- what takes come to

-- k takes for the chain of h from s come to r, with j to go: the takes before are done, and took the blocks of zs
pub record TakesMeet (A : ℕ) (growth : Growth) (dir : Bool) (h k : ℕ) (s : Slotted) (j : ℕ) (r : Slotted) (zs : List ℕ) : Type 0 where
  pub before : ℕ
  pub all : before + j ≡ k
  pub takes_done : take_many A growth dir before h s ≡ planned r zs

-- k takes are refused exactly if they come to a take that is, with its number
pub takes_stop : (A : ℕ) (growth : Growth) (dir : Bool) (h k n : ℕ) (s : Slotted) →
    (take_many A growth dir k h s ≡ refused n) ↔ ((j : ℕ) × (r : Slotted) × (zs : List ℕ) × (0 < j) × TakesMeet A growth dir h k s j r zs × (take_block A growth dir h r ≡ refused n))
unfolding take_many
takes_stop A growth dir h k n s = (
  λ e. (let (i, j, r, zs, all, some, done, stop) = repeated_stops (take_block A growth dir h) n k s e in (j, r, zs, some, record { before = i; all = all; takes_done = done }, stop)),
  λ (j, r, zs, some, m, stop). stops_repeated (take_block A growth dir h) n m.before j k s r zs m.all some m.takes_done stop,
)

-- no free block is left: the anodes of 1's chain have none
abbrev pub NoneLeft : ℕ → Anodes → Type 0
NoneLeft A s = sum_list s.count (chain_of s.next A 1) ≡ 0

-- the next take has a free block, the first of x after p, the taker's last anode cannot have it besides, and no anode can be had, one just emptied counted
pub record TakeStuck (A : ℕ) (growth : Growth) (dir : Bool) (h : ℕ) (s : Slotted) : Type 0 where
  pub p : ℕ
  pub x : ℕ
  pub first : free_extent A dir s.anodes ≡ found p x
  pub needs : NeedsAnode dir (without_first s.anodes p x) (chain_end A (without_first s.anodes p x) h) (s.anodes.block x)
  pub stuck : NoAnode A growth (slotted (without_first s.anodes p x) s.slots)

-- ---- one take, in a good state

module _ {A n last : ℕ} (s : Slotted) (system hd sd : ℕ → ℕ) (g : Good A (exists_by s.slots) n last s.anodes system hd sd) where
  -- the table of heads has no free block exactly if the chain has none
  pub none_left : (blocks A hd s.anodes.count 1 ≡ 0) ↔ NoneLeft A s.anodes
  none_left = let e = blocks-chain g 1 (head_1 g) in (λ z. sym e ∙ z, λ z. e ∙ z)

  -- the search for a free block finds nothing exactly then
  pub nowhere_exactly : (dir : Bool) → (free_extent A dir s.anodes ≡ nowhere) ↔ NoneLeft A s.anodes
  nowhere_exactly dir = (
    λ e. none_left.0 ((take-27_exactly g no_growth s.slots dir 0).0 (take_nowhere A no_growth dir 0 s e)),
    λ z. elim (take_cases A no_growth dir 0 s) [
      | inl c ↦ c.0
      | inr (p, x, q, i) ↦ (let (m, o, f) = extent-found A dir s.anodes g p x q in absurd (omega (arith, none_left.1 z, (without_first-out g m o p x f).fewer 1, one_at-same 1 1 refl)))
    ],
  )

  -- a take is refused with 28 exactly if it is stuck
  take_stuck : {growth : Growth} → AlwaysSpares A n last growth → StartOwned system → (dir : Bool) (h : ℕ) → (take_block A growth dir h s ≡ refused 28) ↔ TakeStuck A growth dir h s
  take_stuck {growth} always start dir h = (
    λ e. elim (take_cases A growth dir h s) [
      | inl c ↦ absurd (omega (arith, refused_same {X = Slotted} 27 28 (sym c.1 ∙ e)))
      | inr (p, x, q, i) ↦ (let b = (take-28_exactly A growth dir h p x s (spares p x q) q).0 e in record { p = p; x = x; first = q; needs = b.0; stuck = b.1 })
    ],
    λ t. (take-28_exactly A growth dir h t.p t.x s (spares t.p t.x t.first) t.first).1 (t.needs, t.stuck),
  )
    where
      spares : (p x : ℕ) → free_extent A dir s.anodes ≡ found p x → Spares A growth (slotted (without_first s.anodes p x) s.slots)
      spares p x q =
          let (m, o, f) = extent-found A dir s.anodes g p x q in
          let out = without_first-out g m o p x f in
          always (slotted (without_first s.anodes p x) s.slots) _ out.hd' out.sd' (λ y l. omega (arith, start y l)) out.good

-- ---- takes one after the other

module _ {A n last : ℕ} {growth : Growth} (grows : Grows A n last growth) (dir : Bool) (h : ℕ) (h1 : h ≢ 1) (s : Slotted) (system hd sd : ℕ → ℕ) (start : StartOwned system)
    (g : Good A (exists_by s.slots) n last s.anodes system hd sd) (dh : Head s.anodes.next s.anodes.block h) where
  -- a state that they come to is a good one, and each take before took one block
  pub takes_met : {k j : ℕ} {r : Slotted} {zs : List ℕ} → TakesMeet A growth dir h k s j r zs → (gs : List ℕ) × Moved A n last s system hd 1 h h zs gs r × (length zs + j ≡ k)
  takes_met {r = r} {zs} m = let (gs, w, len) = takes_moved grows m.before h h1 dir r zs s system hd sd start g dh m.takes_done in (gs, w, omega (arith, len, m.all))

  -- TAKE k blocks: refused with 27 exactly if the takes come, with some to go, to a state in which no free block is left
  pub takes_27_exactly : (k : ℕ) → (take_many A growth dir k h s ≡ refused 27) ↔ ((j : ℕ) × (r : Slotted) × (zs : List ℕ) × (0 < j) × TakesMeet A growth dir h k s j r zs × NoneLeft A r.anodes)
  takes_27_exactly k = (
    λ e. (let (j, r, zs, some, m, stop) = (takes_stop A growth dir h k 27 s).0 e in
        let (gs, w, len) = takes_met m in
        (j, r, zs, some, m, (none_left r _ w.hd' w.sd' w.good).0 ((take-27_exactly w.good growth r.slots dir h).0 stop))),
    λ (j, r, zs, some, m, none).
        let (gs, w, len) = takes_met m in
        (takes_stop A growth dir h k 27 s).1 (j, r, zs, some, m, (take-27_exactly w.good growth r.slots dir h).1 ((none_left r _ w.hd' w.sd' w.good).1 none)),
  )

  -- and with 28 exactly if they come, with some to go, to a state in which the taker needs an anode and none can be had
  pub takes_28_exactly : AlwaysSpares A n last growth → (k : ℕ) → (take_many A growth dir k h s ≡ refused 28) ↔ ((j : ℕ) × (r : Slotted) × (zs : List ℕ) × (0 < j) × TakesMeet A growth dir h k s j r zs × TakeStuck A growth dir h r)
  takes_28_exactly always k = (
    λ e. (let (j, r, zs, some, m, stop) = (takes_stop A growth dir h k 28 s).0 e in
        let (gs, w, len) = takes_met m in
        (j, r, zs, some, m, (take_stuck r _ w.hd' w.sd' w.good always (λ y l. omega (arith, start y l)) dir h).0 stop)),
    λ (j, r, zs, some, m, stuck).
        let (gs, w, len) = takes_met m in
        (takes_stop A growth dir h k 28 s).1 (j, r, zs, some, m, (take_stuck r _ w.hd' w.sd' w.good always (λ y l. omega (arith, start y l)) dir h).1 stuck),
  )

-- ---- without growth

module _ {A n last : ℕ} (dir : Bool) (h : ℕ) (h1 : h ≢ 1) (s : Slotted) (system hd sd : ℕ → ℕ) (start : StartOwned system)
    (g : Good A (exists_by s.slots) n last s.anodes system hd sd) (dh : Head s.anodes.next s.anodes.block h) where
  -- takes within the free blocks are never refused with 27
  pub takes_within : (k : ℕ) → k ≤ blocks A hd s.anodes.count 1 → take_many A no_growth dir k h s ≢ refused 27
  takes_within k few e =
      let grows = none_grows A n last in
      let (j, r, zs, some, m, none) = (takes_27_exactly grows dir h h1 s system hd sd start g dh k).0 e in
      let (gs, w, len) = takes_met grows dir h h1 s system hd sd start g dh m in
      omega (arith, few, some, len, taken-sum w h1 (takes_slots A dir m.before h s r zs m.takes_done), (none_left r _ w.hd' w.sd' w.good).1 none)
