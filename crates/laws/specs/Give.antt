-- A run that is released leaves a good state, and has gone to the free list; the last extent of a chain.
use Rattle.std.specs.Prelude.{ℕ, ◌+◌, ◌*◌, ◌≤◌, ◌<◌, ◌≡◌, refl, ◌≢◌, ◌⊎◌, Bool, List, length}
use Rattle.std.proofs.Common.{sym, ap, ◌∙◌, inl, inr, lt-ltb, le-ltb}
use native.Mathlib.Omega.{arith}
use Rattle.rules.specs.Anodes.{Anodes, exists_by}
use Rattle.rules.specs.Counting.{one_at, occurrences}
use Rattle.rules.specs.Chains.{chain_of, one_if_covers, run, system_by}
use Rattle.rules.specs.Plans.{Slotted, slotted, planned, Growth}
use Rattle.rules.specs.Space.{without_tail, tail_start, found, last_extent, side_of, side_end, join, release}
use Rattle.laws.specs.Tests.{less?}
use Rattle.laws.specs.Chains.{occurrences-run, length_run}
use Rattle.laws.specs.Ownership.{covers_none, handed}
use Rattle.laws.specs.Heads.{Head, head_chain}
use Rattle.laws.specs.Blocks.{blocks}
use Rattle.laws.specs.Held.{held}
use Rattle.laws.specs.Space.{Good, good-same, on_chain_lem}
use Rattle.laws.specs.Owners.{full_used}
use Rattle.laws.specs.Sides.{SideHead, side-free, side-last, side-last_used, side-last-0}
use Rattle.laws.specs.Searches.{FoundIn, found_after, last_extent-found}
use Rattle.laws.specs.Moves.{Shift, shift_trans, shift_into, RunOut, RunIn, with_these, Grows, SlotsGrew, InHand, Moved, hand_none, afresh_hand}
use Rattle.laws.specs.Leaving.{last-gone, without_run-out}
use Rattle.laws.specs.Arriving.{join_in}
use Rattle.laws.specs.Take.{StartOwned}

-- ---- out of the giver's chain

module _ {A : ℕ} {ex : ℕ → Bool} {n last : ℕ} {s : Anodes} {system hd sd : ℕ → ℕ} (g : Good A ex n last s system hd sd) (h : ℕ) (d : Head s.next s.block h) (h1 : h ≢ 1)
    (p x : ℕ) (f : FoundIn s.count s.next h (chain_of s.next A h) 0 p x) where
  on_h : hd x ≡ h
  on_h = (on_chain_lem g h d x f.on).0

  not-2 : x ≢ 2
  not-2 e = h1 (sym on_h ∙ ap hd e ∙ g.two_on)

  pub without_tail-out : (k : ℕ) → k ≤ s.count x → RunOut A ex n last s system hd h k (tail_start s x k) (without_tail s h p x k)
  unfolding without_tail
  without_tail-out k l = rw on_h at
      (without_run-out g x f.full h p k (s.block x) (tail_start s x k) l (full_used g x f.full) (omega arith, omega arith) (λ w. last-gone (s.count x) (s.block x) k w l) (λ e. omega arith) (λ e. (found_after f e, not-2)))

-- ---- into the free list

pub side_above : (last y : ℕ) → last < y → side_of last y ≡ 1
unfolding side_of
side_above last y h = rw (lt-ltb last y h)

pub side-up_to : (last y : ℕ) → y ≤ last → side_of last y ≡ 2
unfolding side_of
side-up_to last y h = rw (le-ltb last y h)

side_of_cases : (last y : ℕ) → ((last < y) × (side_of last y ≡ 1)) ⊎ ((y ≤ last) × (side_of last y ≡ 2))
side_of_cases last y = elim (less? last y) [ inl l ↦ inl (l, side_above last y l) | inr l ↦ inr (l, side-up_to last y l) ]

pub side_of_head : (last y : ℕ) → SideHead (side_of last y)
side_of_head last y = elim (side_of_cases last y) [ inl c ↦ inl c.1 | inr c ↦ inr c.1 ]

-- the run does not cross last reserved
abbrev pub OneSide : ℕ → ℕ → ℕ → Type 0
OneSide last c b = b ≤ last → b + c ≤ last + 1

module _ {A : ℕ} {ex : ℕ → Bool} {n last : ℕ} {s : Anodes} {system hd sd : ℕ → ℕ} (g : Good A ex n last s system hd sd) (b : ℕ) where
  abbrev m : ℕ
  m = side_of last b

  abbrev end : ℕ
  end = side_end A last s b

  end-side : sd end ≡ m
  unfolding side_end
  end-side = side-last g m (side_of_head last b)

  pub side-end-0 : side_end A last s b ≢ 0
  unfolding side_end
  side-end-0 = side-last-0 g m (side_of_head last b)

  pub side-end_used : s.block (side_end A last s b) ≢ 0
  unfolding side_end
  side-end_used = side-last_used g m (side_of_head last b)

  pub side-end_high : sd (side_end A last s b) ≡ 1 → last < b
  side-end_high q = elim (side_of_cases last b) [ inl c ↦ c.0 | inr c ↦ absurd (omega (arith, q, end-side, c.1)) ]

  pub side-end_low : (c : ℕ) → OneSide last c b → sd (side_end A last s b) ≡ 2 → b + c ≤ last + 1
  side-end_low c one q = elim (side_of_cases last b) [ inl i ↦ absurd (omega (arith, q, end-side, i.1)) | inr i ↦ one i.0 ]

  -- the last anode of the side of a block is on the free list
  pub side-end_head : hd (side_end A last s b) ≡ 1
  side-end_head = side-free g m (side_of_head last b) end side-end-0 side-end_used end-side

-- a run in hand joins its side
pub release_in : {A : ℕ} {ex : ℕ → Bool} {n last : ℕ} {s : Anodes} (system : ℕ → ℕ) {hd sd : ℕ → ℕ} (c b : ℕ) → Good A ex n last s (handed system c b) hd sd → b ≢ 0 → b + c ≤ n → OneSide last c b →
    (t : Anodes) (ys : List ℕ) → join A (side_end A last s b) c b ex s ≡ planned t ys → RunIn A ex n last s system hd 1 c b t × (ys ≡ run b c)
release_in {A} {last = last} {s} system c b g b0 bn one t ys e = rw (side-end_head g b) at
    (join_in system c b g b0 bn (side_end A last s b) (side-end-0 g b) (side-end_used g b) (side-end_high g b) (side-end_low g b c one) t ys e)

-- from r to t the run in hand has gone to the free list, and those of gs from there to the system; no other chain is touched
pub record Released (A n last : ℕ) (r : Slotted) (system hd : ℕ → ℕ) (c b : ℕ) (t : Slotted) (ys : List ℕ) : Type 0 where
  pub gs : List ℕ
  pub hd' : ℕ → ℕ
  pub sd' : ℕ → ℕ
  pub good : Good A (exists_by t.slots) n last t.anodes (with_these system gs) hd' sd'
  pub shift : Shift r.anodes hd t.anodes hd' 1 1
  pub more : (h : ℕ) → blocks A hd' t.anodes.count h + one_at 1 h * length gs ≡ blocks A hd r.anodes.count h + one_at 1 h * c
  pub got : (h x : ℕ) → held A hd' t.anodes.count t.anodes.block h x + one_at 1 h * occurrences x gs ≡ held A hd r.anodes.count r.anodes.block h x + one_at 1 h * one_if_covers c b x
  pub system_got : (x : ℕ) → system_by t.slots x ≡ system_by r.slots x + occurrences x gs
  pub slots_grew : SlotsGrew n r.slots t.slots
  pub handed_are : ys ≡ run b c

module _ {A n last : ℕ} {growth : Growth} (grows : Grows A n last growth) {r : Slotted} {system hd sd : ℕ → ℕ} (start : StartOwned system) (c b : ℕ)
    (g : Good A (exists_by r.slots) n last r.anodes (handed system c b) hd sd) (b0 : b ≢ 0) (bn : b + c ≤ n) (one : OneSide last c b) where
  -- it joins its side in the state q, to which slots have grown
  joined_by : (t q : Slotted) (gs ys : List ℕ) → InHand A n last r (handed system c b) hd 1 0 0 gs q → join A (side_end A last q.anodes b) c b (exists_by q.slots) q.anodes ≡ planned t.anodes ys →
      t.slots ≡ q.slots → Released A n last r system hd c b t ys
  joined_by t q gs ys i joins same =
      let w = release_in (with_these system gs) c b (good-same i.good (λ x. omega (arith, covers_none 0 x))) b0 bn one t.anodes ys joins in
      record {
        gs = gs;
        hd' = w.0.hd';
        sd' = w.0.sd';
        good = rw same w.0.good;
        shift = shift_trans i.shift w.0.shift;
        more = λ h. omega (arith, i.fewer h, w.0.more h);
        got = λ h x. omega (arith, i.lost h x, w.0.got h x, ap (λ (k : ℕ). one_at 1 h * k) (covers_none 0 x));
        system_got = λ x. rw same (i.system_got x);
        slots_grew = rw same i.slots_grew;
        handed_are = w.1;
      }

  -- a run that is released has gone to the free list
  pub released : (t : Slotted) (ys : List ℕ) → release A growth last c b r ≡ planned t ys → Released A n last r system hd c b t ys
  unfolding release
  released t ys e =
      let (q, gs, i, joins, same) = afresh_hand grows (λ x l. omega (arith, start x l)) (hand_none g) (λ ex t. join A (side_end A last t b) c b ex t) t ys e in
      joined_by t q gs ys i joins same

-- a run that was of the chain of m has gone to the free list
pub released_moved : {A n last : ℕ} {s : Slotted} {r : Anodes} {system hd : ℕ → ℕ} {m c b : ℕ} {t : Slotted} {ys : List ℕ} → (o : RunOut A (exists_by s.slots) n last s.anodes system hd m c b r) →
    (w : Released A n last (slotted r s.slots) system o.hd' c b t ys) → Moved A n last s system hd m 1 m ys w.gs t
released_moved {m = m} {c} {b} o w = record {
  hd' = w.hd';
  sd' = w.sd';
  good = w.good;
  shift = shift_trans (shift_into o.shift 1 m (inr refl) (inr refl)) (shift_into w.shift 1 m (inl refl) (inl refl));
  moved = λ h. rw (w.handed_are, length_run b c) (omega (arith, o.fewer h, w.more h));
  passed = λ h x. rw (w.handed_are, occurrences-run b c x) (omega (arith, o.lost h x, w.got h x));
  system_got = w.system_got;
  slots_grew = w.slots_grew;
}

-- ---- the last extent of a chain

module _ {A : ℕ} {ex : ℕ → Bool} {n last : ℕ} {s : Anodes} {system hd sd : ℕ → ℕ} (g : Good A ex n last s system hd sd) (h : ℕ) (d : Head s.next s.block h) where
  -- what the search for the last block finds stands on the chain
  pub given-found : (p x : ℕ) → last_extent s.count 0 (chain_of s.next A h) ≡ found p x → FoundIn s.count s.next h (chain_of s.next A h) 0 p x
  given-found = last_extent-found s.count s.next h 0 0 (chain_of s.next A h) (head_chain g.linked h d)
