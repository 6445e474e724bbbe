-- A run of blocks changes hands: out of a chain into the hand, and out of the hand into a chain, with no other chain touched but the free list, whose blocks may become the system's where slots grow.
use Rattle.std.specs.Prelude.{ℕ, ◌+◌, ◌*◌, ◌≤◌, ◌<◌, ◌≡◌, refl, ◌≢◌, ◌⊎◌, Bool, List, [], ◌∷◌, ◌++◌, length}
use Rattle.std.proofs.Common.{sym, ap, ◌∙◌, inl, inr, arith, length-append}
use Rattle.std.proofs.Math.Option.{some}
use Rattle.rules.specs.Counting.{one_at, occurrences}
use Rattle.rules.specs.Anodes.{Anodes, exists_by}
use Rattle.rules.specs.Chains.{one_if_covers, run, system_by}
use Rattle.rules.specs.Plans.{Slotted, slotted, Plan, planned, Growth, no_growth, afresh}
use Rattle.rules.specs.Space.{rewritten}
use Rattle.laws.specs.Tests.{same?}
use Rattle.laws.specs.Sums.{changed_other, changed-pos}
use Rattle.laws.specs.Bags.{occurrences-nil, occurrences-cons, occurrences-append}
use Rattle.laws.specs.Chains.{occurrences-run, length_run}
use Rattle.laws.specs.Ownership.{handed, covers_none, covers_one}
use Rattle.laws.specs.Heads.{Head, head_while}
use Rattle.laws.specs.HeadChanges.{rewrite_head_was}
use Rattle.laws.specs.Blocks.{blocks}
use Rattle.laws.specs.Held.{held}
use Rattle.laws.specs.Space.{Alike, alike_trans, Good, good-same}
use Rattle.laws.specs.Plans.{afresh_planned}

-- ---- what is left alone

-- from s to t heads stay heads and none is new, and only the chains of k and h are touched: an anode of another keeps its fields and its head
pub record Shift (s : Anodes) (hd : ℕ → ℕ) (t : Anodes) (hd' : ℕ → ℕ) (k h : ℕ) : Type 0 where
  pub stays : (m : ℕ) → Head s.next s.block m → Head t.next t.block m
  pub no_new : (m : ℕ) → Head t.next t.block m → Head s.next s.block m
  pub apart : (a : ℕ) → s.block a ≢ 0 → hd a ≢ k → hd a ≢ h → Alike s t a
  pub same_hd : (a : ℕ) → s.block a ≢ 0 → hd a ≢ k → hd a ≢ h → hd' a ≡ hd a

-- no change
pub shift_none : (s : Anodes) (hd : ℕ → ℕ) (k h : ℕ) → Shift s hd s hd k h
shift_none s hd k h = record {
  stays = λ m d. d;
  no_new = λ m d. d;
  apart = λ a u q i. record { same_count = refl; same_block = refl; same_next = refl };
  same_hd = λ a u q i. refl;
}

-- one change after another
pub shift_trans : {s t r : Anodes} {hd hd' hd'' : ℕ → ℕ} {k h : ℕ} → Shift s hd t hd' k h → Shift t hd' r hd'' k h → Shift s hd r hd'' k h
shift_trans a b = record {
  stays = λ m d. b.stays m (a.stays m d);
  no_new = λ m d. a.no_new m (b.no_new m d);
  apart = λ x u q i. let y = a.apart x u q i in let j = a.same_hd x u q i in
      alike_trans y (b.apart x (rw y.same_block u) (λ z. q (sym j ∙ z)) (λ z. i (sym j ∙ z)));
  same_hd = λ x u q i. let y = a.apart x u q i in let j = a.same_hd x u q i in
      b.same_hd x (rw y.same_block u) (λ z. q (sym j ∙ z)) (λ z. i (sym j ∙ z)) ∙ j;
}

-- a change of two chains is a change of any two that have them among them
pub shift_into : {s t : Anodes} {hd hd' : ℕ → ℕ} {k h : ℕ} → Shift s hd t hd' k h → (k' h' : ℕ) → (k ≡ k') ⊎ (k ≡ h') → (h ≡ k') ⊎ (h ≡ h') → Shift s hd t hd' k' h'
shift_into {hd = hd} {k = k} {h = h} a k' h' ks hs = record {
  stays = a.stays;
  no_new = a.no_new;
  apart = λ x u q i. a.apart x u (off x q i k ks) (off x q i h hs);
  same_hd = λ x u q i. a.same_hd x u (off x q i k ks) (off x q i h hs);
}
  where
    off : (x : ℕ) → hd x ≢ k' → hd x ≢ h' → (m : ℕ) → (m ≡ k') ⊎ (m ≡ h') → hd x ≢ m
    off x q i m (inl e) z = q (z ∙ e)
    off x q i m (inr e) z = i (z ∙ e)

-- an anode x in use is rewritten to another in use: its chain alone is touched
pub rewrite_shift : (s : Anodes) (hd : ℕ → ℕ) (x c b : ℕ) → s.block x ≢ 0 → b ≢ 0 → Shift s hd (rewritten s x c b) hd (hd x) (hd x)
unfolding rewritten
rewrite_shift s hd x c b u b0 = record {
  stays = λ a d. head_while d (changed-pos s.block x b a b0 d.in_use);
  no_new = λ a d. rewrite_head_was s.block x b u b0 s.next a d;
  apart = λ a v q i. record { same_count = changed_other s.count x c a (λ j. q (ap hd j)); same_block = changed_other s.block x b a (λ j. q (ap hd j)); same_next = refl };
  same_hd = λ a v q i. refl;
}

-- ---- a run, at fixed slots

module _ (A : ℕ) (ex : ℕ → Bool) (n last : ℕ) where
  -- from s to t the run of c blocks from b has gone from the chain of m into the hand
  pub record RunOut (s : Anodes) (system hd : ℕ → ℕ) (m c b : ℕ) (t : Anodes) : Type 0 where
    pub hd' : ℕ → ℕ
    pub sd' : ℕ → ℕ
    pub good : Good A ex n last t (handed system c b) hd' sd'
    pub shift : Shift s hd t hd' m m
    pub fewer : (h : ℕ) → blocks A hd' t.count h + one_at m h * c ≡ blocks A hd s.count h
    pub lost : (h x : ℕ) → held A hd' t.count t.block h x + one_at m h * one_if_covers c b x ≡ held A hd s.count s.block h x

  -- from s to t it has gone from the hand to the chain of m
  pub record RunIn (s : Anodes) (system hd : ℕ → ℕ) (m c b : ℕ) (t : Anodes) : Type 0 where
    pub hd' : ℕ → ℕ
    pub sd' : ℕ → ℕ
    pub good : Good A ex n last t system hd' sd'
    pub shift : Shift s hd t hd' m m
    pub more : (h : ℕ) → blocks A hd' t.count h ≡ blocks A hd s.count h + one_at m h * c
    pub got : (h x : ℕ) → held A hd' t.count t.block h x ≡ held A hd s.count s.block h x + one_at m h * one_if_covers c b x

-- ---- where slots may grow

-- the blocks of the system, and those of a list
abbrev pub with_these : (ℕ → ℕ) → List ℕ → ℕ → ℕ
with_these system gs x = system x + occurrences x gs

-- from s to t the blocks of ys have gone from one head to another, and those of gs from the free list to the system: what each head holds
abbrev pub Passed : ℕ → Anodes → (ℕ → ℕ) → Anodes → (ℕ → ℕ) → ℕ → ℕ → List ℕ → List ℕ → Type 0
Passed A s hd t hd' from to ys gs = (m x : ℕ) →
    held A hd' t.count t.block m x + one_at from m * occurrences x ys + one_at 1 m * occurrences x gs
    ≡ held A hd s.count s.block m x + one_at to m * occurrences x ys

-- the slots of a disk of n blocks have grown: a used one keeps its block, and one that holds another is among the 42 and holds a block of the disk behind the first three
pub record SlotsGrew (n : ℕ) (slots slots' : ℕ → ℕ) : Type 0 where
  pub used_kept : (k : ℕ) → slots k ≢ 0 → slots' k ≡ slots k
  pub none_past : (k : ℕ) → 42 ≤ k → slots' k ≡ slots k
  pub new-placed : (k : ℕ) → slots' k ≢ slots k → (3 ≤ slots' k) × (slots' k < n)

-- slots that stay have grown by nothing
pub slots_stay : {n : ℕ} (slots : ℕ → ℕ) → SlotsGrew n slots slots
slots_stay slots = record { used_kept = λ k u. refl; none_past = λ k l. refl; new-placed = λ k u. absurd (u refl) }

-- one growth after another
pub slots_grown_trans : {n : ℕ} {slots slots' slots'' : ℕ → ℕ} → SlotsGrew n slots slots' → SlotsGrew n slots' slots'' → SlotsGrew n slots slots''
slots_grown_trans {slots = slots} {slots'} {slots''} a b = record {
  used_kept = λ k u. b.used_kept k (λ z. u (sym (a.used_kept k u) ∙ z)) ∙ a.used_kept k u;
  none_past = λ k l. b.none_past k l ∙ a.none_past k l;
  new-placed = λ k u. elim (same? (slots'' k) (slots' k)) [ inl e ↦ rw e (a.new-placed k (λ z. u (e ∙ z))) | inr e ↦ b.new-placed k e ];
}

module _ (A n last : ℕ) where
  -- from s to r slots have grown by the block w of the free list, which is the system's now
  pub record Grew (s : Slotted) (system hd : ℕ → ℕ) (w : ℕ) (r : Slotted) : Type 0 where
    pub hd' : ℕ → ℕ
    pub sd' : ℕ → ℕ
    pub good : Good A (exists_by r.slots) n last r.anodes (handed system 1 w) hd' sd'
    pub shift : Shift s.anodes hd r.anodes hd' 1 1
    pub fewer : (h : ℕ) → blocks A hd' r.anodes.count h + one_at 1 h ≡ blocks A hd s.anodes.count h
    pub lost : (h x : ℕ) → held A hd' r.anodes.count r.anodes.block h x + one_at 1 h * one_at w x ≡ held A hd s.anodes.count s.anodes.block h x
    pub system_got : (x : ℕ) → system_by r.slots x ≡ system_by s.slots x + one_at w x
    pub slots_grew : SlotsGrew n s.slots r.slots

  -- what the laws ask of a growth, where blocks 0 to 2 are the system's
  abbrev pub Grows : Growth → Type 0
  Grows growth = (s r : Slotted) (system hd sd : ℕ → ℕ) → ((x : ℕ) → x < 3 → 0 < system x) → Good A (exists_by s.slots) n last s.anodes system hd sd → growth s ≡ some r → (w : ℕ) × Grew s system hd w r

  -- no growth has it for nothing
  pub none_grows : Grows no_growth
  none_grows s r system hd sd start g e = absurd (let z : ◌≡◌ {A = ℕ} 0 1 = cc in omega arith)

  -- from s to r the run of c blocks from b has gone from the chain of m into the hand, and those of gs from the free list to the system
  pub record InHand (s : Slotted) (system hd : ℕ → ℕ) (m c b : ℕ) (gs : List ℕ) (r : Slotted) : Type 0 where
    pub hd' : ℕ → ℕ
    pub sd' : ℕ → ℕ
    pub good : Good A (exists_by r.slots) n last r.anodes (handed (with_these system gs) c b) hd' sd'
    pub shift : Shift s.anodes hd r.anodes hd' 1 m
    pub fewer : (h : ℕ) → blocks A hd' r.anodes.count h + one_at m h * c + one_at 1 h * length gs ≡ blocks A hd s.anodes.count h
    pub lost : (h x : ℕ) → held A hd' r.anodes.count r.anodes.block h x + one_at m h * one_if_covers c b x + one_at 1 h * occurrences x gs ≡ held A hd s.anodes.count s.anodes.block h x
    pub system_got : (x : ℕ) → system_by r.slots x ≡ system_by s.slots x + occurrences x gs
    pub slots_grew : SlotsGrew n s.slots r.slots

  -- from s to t the blocks of ys have gone from one head's chain to another's, and those of gs from the free list to the system; only 1's chain and that of h are touched
  pub record Moved (s : Slotted) (system hd : ℕ → ℕ) (from to h : ℕ) (ys gs : List ℕ) (t : Slotted) : Type 0 where
    pub hd' : ℕ → ℕ
    pub sd' : ℕ → ℕ
    pub good : Good A (exists_by t.slots) n last t.anodes (with_these system gs) hd' sd'
    pub shift : Shift s.anodes hd t.anodes hd' 1 h
    pub moved : (m : ℕ) → blocks A hd' t.anodes.count m + one_at from m * length ys + one_at 1 m * length gs ≡ blocks A hd s.anodes.count m + one_at to m * length ys
    pub passed : Passed A s.anodes hd t.anodes hd' from to ys gs
    pub system_got : (x : ℕ) → system_by t.slots x ≡ system_by s.slots x + occurrences x gs
    pub slots_grew : SlotsGrew n s.slots t.slots

module _ {A n last : ℕ} where
  -- a run that is out at fixed slots is in hand
  pub out_hand : {s : Slotted} {t : Anodes} {system hd : ℕ → ℕ} {m c b : ℕ} → RunOut A (exists_by s.slots) n last s.anodes system hd m c b t → InHand A n last s system hd m c b [] (slotted t s.slots)
  out_hand {s} {m = m} w = record {
    hd' = w.hd';
    sd' = w.sd';
    good = good-same w.good (λ x. omega (arith, occurrences-nil x));
    shift = shift_into w.shift 1 m (inr refl) (inr refl);
    fewer = λ h. omega (arith, w.fewer h);
    lost = λ h x. rw (occurrences-nil x) (omega (arith, w.lost h x));
    system_got = λ x. omega (arith, occurrences-nil x);
    slots_grew = slots_stay s.slots;
  }

  -- with nothing in hand
  pub hand_none : {s : Slotted} {system hd sd : ℕ → ℕ} → Good A (exists_by s.slots) n last s.anodes system hd sd → InHand A n last s system hd 1 0 0 [] s
  hand_none {s} {system} {hd} {sd} g = record {
    hd' = hd;
    sd' = sd;
    good = good-same g (λ x. omega (arith, occurrences-nil x, covers_none 0 x));
    shift = shift_none s.anodes hd 1 1;
    fewer = λ h. omega arith;
    lost = λ h x. rw (occurrences-nil x, covers_none 0 x) (omega arith);
    system_got = λ x. omega (arith, occurrences-nil x);
    slots_grew = slots_stay s.slots;
  }

  -- and stays there while slots grow
  pub hand_grown : {s r q : Slotted} {system hd : ℕ → ℕ} {m c b w : ℕ} {gs : List ℕ} → (i : InHand A n last s system hd m c b gs r) → Grew A n last r (handed (with_these system gs) c b) i.hd' w q →
      InHand A n last s system hd m c b (w ∷ gs) q
  hand_grown {m = m} {c} {b} {w} {gs} i k = record {
    hd' = k.hd';
    sd' = k.sd';
    good = good-same k.good (λ x. omega (arith, occurrences-cons x w gs, covers_one w x));
    shift = shift_trans i.shift (shift_into k.shift 1 m (inl refl) (inl refl));
    fewer = λ h. let more : length (w ∷ gs) ≡ length gs + 1 = omega arith in omega (arith, i.fewer h, k.fewer h, ap (λ (l : ℕ). one_at 1 h * l) more);
    lost = λ h x. omega (arith, i.lost h x, k.lost h x, ap (λ (l : ℕ). one_at 1 h * l) (occurrences-cons x w gs));
    system_got = λ x. omega (arith, i.system_got x, k.system_got x, occurrences-cons x w gs);
    slots_grew = slots_grown_trans i.slots_grew k.slots_grew;
  }

  -- a step made afresh on a state with a run in hand is made on such a state, at its slots
  pub afresh_hand : {growth : Growth} → Grows A n last growth → {s r : Slotted} {system hd : ℕ → ℕ} {m c b : ℕ} {gs : List ℕ} → ((x : ℕ) → x < 3 → 0 < system x) → InHand A n last s system hd m c b gs r →
      (step : (ℕ → Bool) → Anodes → Plan Anodes) (t : Slotted) (ys : List ℕ) → afresh growth step r ≡ planned t ys →
      (q : Slotted) × (hs : List ℕ) × InHand A n last s system hd m c b hs q × (step (exists_by q.slots) q.anodes ≡ planned t.anodes ys) × (t.slots ≡ q.slots)
  afresh_hand {growth} grows {s} {r} {system} {hd} {m} {c} {b} {gs} start i step t ys e = elim (afresh_planned growth step r t ys e) [
    | inl (p, f) ↦ (r, gs, i, p, f)
    | inr (q, k, p, f) ↦ (let (w, grew) = grows r q (handed (with_these system gs) c b) i.hd' i.sd' (λ x l. omega (arith, start x l)) i.good k in (q, w ∷ gs, hand_grown i grew, p, f))
  ]

  -- out of one chain and into another
  pub moved_by : {s q t : Slotted} {system hd : ℕ → ℕ} {from to c b : ℕ} {gs ys : List ℕ} (h : ℕ) → (from ≡ 1) ⊎ (from ≡ h) → (to ≡ 1) ⊎ (to ≡ h) → (i : InHand A n last s system hd from c b gs q) →
      RunIn A (exists_by q.slots) n last q.anodes (with_these system gs) i.hd' to c b t.anodes → t.slots ≡ q.slots → ys ≡ run b c → Moved A n last s system hd from to h ys gs t
  moved_by {from = from} {to} {c} {b} h f g i w e r = record {
    hd' = w.hd';
    sd' = w.sd';
    good = rw e w.good;
    shift = shift_trans (shift_into i.shift 1 h (inl refl) f) (shift_into w.shift 1 h g g);
    moved = λ m. rw (r, length_run b c) (omega (arith, i.fewer m, w.more m));
    passed = λ m x. rw (r, occurrences-run b c x) (omega (arith, i.lost m x, w.got m x));
    system_got = λ x. rw e (i.system_got x);
    slots_grew = rw e i.slots_grew;
  }

  -- no step at all
  pub moved_none : {s : Slotted} {system hd sd : ℕ → ℕ} → Good A (exists_by s.slots) n last s.anodes system hd sd → (from to h : ℕ) → Moved A n last s system hd from to h [] [] s
  moved_none {s} {system} {hd} {sd} g from to h = record {
    hd' = hd;
    sd' = sd;
    good = good-same g (λ x. omega (arith, occurrences-nil x));
    shift = shift_none s.anodes hd 1 h;
    moved = λ m. omega arith;
    passed = λ m x. rw (occurrences-nil x) (omega arith);
    system_got = λ x. omega (arith, occurrences-nil x);
    slots_grew = slots_stay s.slots;
  }

  -- a step, and the steps after it
  pub moved-after : {s r t : Slotted} {system hd : ℕ → ℕ} {from to h : ℕ} {ys xs zs gs hs : List ℕ} → (w : Moved A n last s system hd from to h ys gs r) →
      Moved A n last r (with_these system gs) w.hd' from to h xs hs t → zs ≡ ys ++ xs → Moved A n last s system hd from to h zs (gs ++ hs) t
  moved-after {from = from} {to} {ys = ys} {xs} {zs} {gs} {hs} w v e = record {
    hd' = v.hd';
    sd' = v.sd';
    good = good-same v.good (λ x. omega (arith, occurrences-append x gs hs));
    shift = shift_trans w.shift v.shift;
    moved = λ m. omega (arith, w.moved m, v.moved m, ap (λ (k : ℕ). one_at from m * k) long, ap (λ (k : ℕ). one_at to m * k) long, ap (λ (k : ℕ). one_at 1 m * k) (length-append gs hs));
    passed = λ m x. omega (arith, w.passed m x, v.passed m x, ap (λ (k : ℕ). one_at from m * k) (all x), ap (λ (k : ℕ). one_at to m * k) (all x), ap (λ (k : ℕ). one_at 1 m * k) (occurrences-append x gs hs));
    system_got = λ x. omega (arith, w.system_got x, v.system_got x, occurrences-append x gs hs);
    slots_grew = slots_grown_trans w.slots_grew v.slots_grew;
  }
    where
      long : length zs ≡ length ys + length xs
      long = ap length e ∙ length-append ys xs

      all : (x : ℕ) → occurrences x zs ≡ occurrences x ys + occurrences x xs
      all x = ap (occurrences x) e ∙ occurrences-append x ys xs
