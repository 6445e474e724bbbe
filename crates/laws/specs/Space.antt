-- The accepted state of anodes and blocks, refusals 6 to 11, in the form to prove with, and the elementary changes that keep it.
use Prim.Native.Nat.{ℕ, suc, ◌+◌, ◌≤◌, ◌<◌}
use Rattle.std.specs.Prelude.{◌≡◌, refl, ◌≢◌, ◌⊎◌, Bool, ◌&&◌, T, eqb, leb}
use Rattle.std.proofs.Common.{sym, ap, ◌∙◌, arith, eqb→eq, leb→le}
use Rattle.std.proofs.Math.Logic.{inl, inr}
use Rattle.std.proofs.Math.Dec.{le→leb}
use Rattle.rules.specs.Counting.{occurrences, changed}
use Rattle.rules.specs.Anodes.{Anodes}
use Rattle.rules.specs.Chains.{chain_of, one_if_covers, cut}
use Rattle.rules.specs.Space.{rewritten, inserted_after, unlinked, on_chain, dropped, free}
use Rattle.laws.specs.Tests.{same?, not_above, T-same, both, and, eq→eqb}
use Rattle.laws.specs.Sums.{one_at_cases, one_at-same, changed_cases, changed-same, changed_other}
use Rattle.laws.specs.Ownership.{covers_none, EachOnce, own_same, own_system, move}
use Rattle.laws.specs.Links.{Linked}
use Rattle.laws.specs.Heads.{Head, Heads, occurrences_on_chain}
use Rattle.laws.specs.LinkChanges.{first, second, third, insert_after, insert_after_cases, unlink, unlink_cases, without, without_cases, without_other, insert_linked, unlink-linked, head_linked, drop-linked, same_use, use_same, rewrite_linked}
use Rattle.laws.specs.HeadChanges.{insert_heads, unlink_heads, fresh_heads, drop_heads, rewrite_heads}
use Rattle.laws.specs.Cut.{cut_cases, cut_other, cut-linked, cut-insert_after, cut-unlink, cut-drop}

-- the anode a reads the same in two states
pub record Alike (s t : Anodes) (a : ℕ) : Type 0 where
  pub same_count : t.count a ≡ s.count a
  pub same_block : t.block a ≡ s.block a
  pub same_next : t.next a ≡ s.next a

pub alike_trans : {s t r : Anodes} {a : ℕ} → Alike s t a → Alike t r a → Alike s r a
alike_trans e f = record { same_count = f.same_count ∙ e.same_count; same_block = f.same_block ∙ e.same_block; same_next = f.same_next ∙ e.same_next }

-- an anode in use exists, and a free one has no blocks
pub record Present (ex : ℕ → Bool) (s : Anodes) : Type 0 where
  pub exist : (a : ℕ) → s.block a ≢ 0 → T (ex a)
  pub free-none : (a : ℕ) → s.block a ≡ 0 → s.count a ≡ 0

-- an anode to be had: from 6 up, free, existing
pub record FreeAnode (ex : ℕ → Bool) (s : Anodes) (f : ℕ) : Type 0 where
  pub from_6 : 6 ≤ f
  pub unused : s.block f ≡ 0
  pub there : T (ex f)

pub free_is : (ex : ℕ → Bool) (s : Anodes) (f : ℕ) → T (free ex s f) → FreeAnode ex s f
unfolding free
free_is ex s f t =
    let a = both (leb 6 f) (eqb (s.block f) 0 && ex f) t in
    let b = both (eqb (s.block f) 0) (ex f) a.1 in
    record { from_6 = leb→le 6 f a.0; unused = eqb→eq (s.block f) 0 b.0; there = b.1 }

pub free-has : {ex : ℕ → Bool} {s : Anodes} {f : ℕ} → FreeAnode ex s f → T (free ex s f)
unfolding free
free-has {ex} {s} {f} u = and (leb 6 f) (eqb (s.block f) 0 && ex f) (le→leb 6 f u.from_6) (and (eqb (s.block f) 0) (ex f) (eq→eqb (s.block f) 0 u.unused) u.there)

pub free-pos : {ex : ℕ → Bool} {s : Anodes} {f : ℕ} → FreeAnode ex s f → f ≢ 0
free-pos u z = omega (arith, u.from_6, z)

-- the fields of anodes 0, 1, 2 and 5 that the rules fix
pub record FixedAnodes (s : Anodes) : Type 0 where
  pub count-0 : s.count 0 ≡ 0
  pub block_0 : s.block 0 ≡ 65535
  pub count-1 : s.count 1 ≡ 0
  pub block_1 : s.block 1 ≡ 65535
  pub block_2 : s.block 2 ≢ 0
  pub block_5 : s.block 5 ≢ 0

-- anode 1 heads a chain
pub fixed_head_1 : (s : Anodes) → FixedAnodes s → ((p : ℕ) → s.next p ≢ 1) → Head s.next s.block 1
fixed_head_1 s f none = record { pos = omega arith; in_use = λ z. omega (arith, z, f.block_1); no_pred = none }

-- the anodes that have no predecessor
abbrev pub FixedHead : ℕ → Type 0
FixedHead m = (m ≡ 1) ⊎ ((m ≡ 3) ⊎ ((m ≡ 4) ⊎ (m ≡ 5)))

fixed_low : (m : ℕ) → FixedHead m → (1 ≤ m) × (m < 6)
fixed_low m (inl e) = (omega arith, omega arith)
fixed_low m (inr (inl e)) = (omega arith, omega arith)
fixed_low m (inr (inr (inl e))) = (omega arith, omega arith)
fixed_low m (inr (inr (inr e))) = (omega arith, omega arith)

pub fixed_pos : (m : ℕ) → FixedHead m → m ≢ 0
fixed_pos m f z = omega (arith, z, (fixed_low m f).0)

-- A: how many anodes there may be; ex: those that exist; n: the disk's size; last: last reserved
module _ (A : ℕ) (ex : ℕ → Bool) (n last : ℕ) where
  -- hd is the table of heads, sd that of the sides
  pub record Good (s : Anodes) (system hd sd : ℕ → ℕ) : Type 0 where
    pub linked : Linked A s.next s.block
    pub present : Present ex s
    pub own : EachOnce A s.count s.block system n
    pub fixed : FixedAnodes s
    pub first : (m : ℕ) → FixedHead m → (p : ℕ) → s.next p ≢ m
    pub heads : Heads s.next s.block hd
    pub two_on : hd 2 ≡ 1
    pub sides : Heads (cut s.next) s.block sd
    pub high : (a : ℕ) → sd a ≡ 1 → 0 < s.count a → last < s.block a
    pub low : (a : ℕ) → sd a ≡ 2 → 0 < s.count a → s.block a + s.count a ≤ suc last

-- more anodes may exist, and the system's blocks may be written in another way
pub good_more : {A : ℕ} {ex ex' : ℕ → Bool} {n last : ℕ} {s : Anodes} {system system' hd sd : ℕ → ℕ} → Good A ex n last s system hd sd → ((a : ℕ) → T (ex a) → T (ex' a)) → ((x : ℕ) → system' x ≡ system x) →
    Good A ex' n last s system' hd sd
good_more {A} {n = n} {s = s} {system} {system'} g more same = record {
  linked = g.linked;
  present = record { exist = λ a u. more a (g.present.exist a u); free-none = g.present.free-none };
  own = own_system A s.count s.block system system' n same g.own;
  fixed = g.fixed;
  first = g.first;
  heads = g.heads;
  two_on = g.two_on;
  sides = g.sides;
  high = g.high;
  low = g.low;
}

pub good-same : {A : ℕ} {ex : ℕ → Bool} {n last : ℕ} {s : Anodes} {system system' hd sd : ℕ → ℕ} → Good A ex n last s system hd sd → ((x : ℕ) → system' x ≡ system x) → Good A ex n last s system' hd sd
good-same g same = good_more g (λ a t. t) same

module _ {A : ℕ} {ex : ℕ → Bool} {n last : ℕ} {s : Anodes} {system hd sd : ℕ → ℕ} (g : Good A ex n last s system hd sd) where
  pub head_1 : Head s.next s.block 1
  head_1 = fixed_head_1 s g.fixed (g.first 1 (inl refl))

  pub head_5 : Head s.next s.block 5
  head_5 = record { pos = omega arith; in_use = g.fixed.block_5; no_pred = g.first 5 (inr (inr (inr refl))) }

  -- x becomes (c, b)
  module _ (x c b : ℕ) where
    -- what holds of every extent of the side m still does, if it holds of (c, b) where x is on that side
    side-kept : (P : ℕ → ℕ → Type 0) (m : ℕ) → ((a : ℕ) → sd a ≡ m → P (s.count a) (s.block a)) → (sd' : ℕ → ℕ) → ((a : ℕ) → a ≢ x → sd' a ≡ sd a) → (sd' x ≡ m → P c b) →
        (a : ℕ) → sd' a ≡ m → P (changed s.count x c a) (changed s.block x b a)
    side-kept P m was sd' same at_x a q = elim (same? a x) [
      | inl e ↦ rw (e, changed-same s.count x c, changed-same s.block x b) (at_x (ap sd' (sym e) ∙ q))
      | inr e ↦ rw (changed_other s.count x c a e, changed_other s.block x b a e) (was a (sym (same a e) ∙ q))
    ]

    -- above last reserved, and up to it
    high_kept : (sd' : ℕ → ℕ) → ((a : ℕ) → a ≢ x → sd' a ≡ sd a) → (sd' x ≡ 1 → 0 < c → last < b) → (a : ℕ) → sd' a ≡ 1 → 0 < changed s.count x c a → last < changed s.block x b a
    high_kept = side-kept (λ c b. 0 < c → last < b) 1 g.high

    low_kept : (sd' : ℕ → ℕ) → ((a : ℕ) → a ≢ x → sd' a ≡ sd a) → (sd' x ≡ 2 → 0 < c → b + c ≤ suc last) → (a : ℕ) → sd' a ≡ 2 → 0 < changed s.count x c a → changed s.block x b a + changed s.count x c a ≤ suc last
    low_kept = side-kept (λ c b. 0 < c → b + c ≤ suc last) 2 g.low

    -- where x is neither 0 nor 1, and 2 and 5 stay in use, what is fixed of the anodes stays
    fixed_kept : (next : ℕ → ℕ) → x ≢ 0 → x ≢ 1 → ((a : ℕ) → a < 6 → s.block a ≢ 0 → changed s.block x b a ≢ 0) → FixedAnodes (record { count = changed s.count x c; block = changed s.block x b; next = next })
    fixed_kept next x0 x1 used = record {
      count-0 = changed_other s.count x c 0 (λ q. x0 (sym q)) ∙ g.fixed.count-0;
      block_0 = changed_other s.block x b 0 (λ q. x0 (sym q)) ∙ g.fixed.block_0;
      count-1 = changed_other s.count x c 1 (λ q. x1 (sym q)) ∙ g.fixed.count-1;
      block_1 = changed_other s.block x b 1 (λ q. x1 (sym q)) ∙ g.fixed.block_1;
      block_2 = used 2 (omega arith) g.fixed.block_2;
      block_5 = used 5 (omega arith) g.fixed.block_5;
    }

    -- and so where x is from 6 up
    low_fixed : (next : ℕ → ℕ) → 6 ≤ x → FixedAnodes (record { count = changed s.count x c; block = changed s.block x b; next = next })
    low_fixed next x6 = fixed_kept next (omega arith) (omega arith) (λ a l u. rw (changed_other s.block x b a (omega arith)) u)

  -- an anode in use, neither 0 nor 1, is rewritten to (c, b)
  module _ (x c b : ℕ) (system' : ℕ → ℕ) (u : s.block x ≢ 0) (b0 : b ≢ 0) (x0 : x ≢ 0) (x1 : x ≢ 1)
      (moved : (y : ℕ) → system y + one_if_covers (s.count x) (s.block x) y ≡ system' y + one_if_covers c b y) (fits : 0 < c → b + c ≤ n)
      (is_high : sd x ≡ 1 → 0 < c → last < b) (is_low : sd x ≡ 2 → 0 < c → b + c ≤ suc last) where
    pub rewrite_good : Good A ex n last (rewritten s x c b) system' hd sd
    unfolding rewritten
    rewrite_good = record {
      linked = rewrite_linked s.block x b u b0 g.linked;
      present = record {
        exist = λ a h. g.present.exist a (λ z. h (use_same s.block x b u b0 a z));
        free-none = λ a h. elim (changed_cases s.count x c a) [
          | inl e ↦ absurd (u (ap s.block (sym e.0) ∙ same_use s.block x b u b0 a h))
          | inr e ↦ e.1 ∙ g.present.free-none a (same_use s.block x b u b0 a h)
        ];
      };
      own = move A s.count s.block system n x (g.linked.view.below x u) c b system' moved fits g.own;
      fixed = fixed_kept x c b s.next x0 x1 (λ a l h z. h (same_use s.block x b u b0 a z));
      first = g.first;
      heads = rewrite_heads s.block x b u b0 g.heads;
      two_on = g.two_on;
      sides = rewrite_heads s.block x b u b0 g.sides;
      high = high_kept x c b sd (λ a e. refl) is_high;
      low = low_kept x c b sd (λ a e. refl) is_low;
    }

  -- x, with no block and from 6 up, is unlinked after p and zeroed
  module _ (p x : ℕ) (px : s.next p ≡ x) (x6 : 6 ≤ x) (none : s.count x ≡ 0) where
    x0 : x ≢ 0
    x0 = omega arith

    pub unlink-good : Good A ex n last (unlinked s p x) system (changed hd x 0) (changed sd x 0)
    unfolding unlinked unlink
    unlink-good = record {
      linked = unlink-linked g.linked p x x0 px;
      present = record {
        exist = λ a h. elim (changed_cases s.block x 0 a) [ inl e ↦ absurd (h e.1) | inr e ↦ g.present.exist a (rw e.1 at h) ];
        free-none = λ a h. elim (changed_cases s.count x 0 a) [ inl e ↦ e.1 | inr e ↦ e.1 ∙ g.present.free-none a (sym (changed_other s.block x 0 a e.0) ∙ h) ];
      };
      own = move A s.count s.block system n x (g.linked.view.below x ux) 0 0 system
          (λ y. rw none (omega (arith, covers_none (s.block x) y, covers_none 0 y))) (λ q. absurd (omega arith)) g.own;
      fixed = low_fixed x 0 0 _ x6;
      first = λ m f. first_of_lem m (fixed_pos m f) (g.first m f);
      heads = unlink_heads g.linked p x x0 px g.heads;
      two_on = changed_other hd x 0 2 (omega arith) ∙ g.two_on;
      sides = rw (cut-unlink s.next p x) at (unlink_heads (cut-linked g.linked) p x x0 (cut_other s.next p (λ q. omega (arith, px, q)) ∙ px) g.sides);
      high = high_kept x 0 0 (changed sd x 0) (changed_other sd x 0) (λ q p. absurd (omega arith));
      low = low_kept x 0 0 (changed sd x 0) (changed_other sd x 0) (λ q p. absurd (omega arith));
    }
      where
        ux : s.block x ≢ 0
        ux = rw px at (g.linked.closed p (λ z. x0 (sym px ∙ z)))

        first_of_lem : (m : ℕ) → m ≢ 0 → ((q : ℕ) → s.next q ≢ m) → (q : ℕ) → unlink s.next p x q ≢ m
        first_of_lem m m0 f q e = elim (unlink_cases s.next p x q) [
          | first c ↦ m0 (sym e ∙ c.1)
          | second c ↦ f x (sym c.2 ∙ e)
          | third c ↦ f q (sym c.2 ∙ e)
        ]

  -- a fresh anode f is made (c, b) after p
  module _ (p f c b : ℕ) (system' : ℕ → ℕ) (p0 : p ≢ 0) (up : s.block p ≢ 0) (f_a : f < A) (u : FreeAnode ex s f) (b0 : b ≢ 0)
      (moved : (y : ℕ) → system y ≡ system' y + one_if_covers c b y) (fits : 0 < c → b + c ≤ n)
      (is_high : sd p ≡ 1 → 0 < c → last < b) (is_low : sd p ≡ 2 → 0 < c → b + c ≤ suc last) where
    pub insert_good : Good A ex n last (inserted_after s p f c b) system' (changed hd f (hd p)) (changed sd f (sd p))
    unfolding inserted_after insert_after
    insert_good = record {
      linked = insert_linked g.linked p f b p0 up (free-pos u) u.unused f_a b0;
      present = record {
        exist = λ a h. elim (changed_cases s.block f b a) [ inl e ↦ rw e.0 u.there | inr e ↦ g.present.exist a (rw e.1 at h) ];
        free-none = λ a h. elim (changed_cases s.block f b a) [ inl e ↦ absurd (b0 (sym e.1 ∙ h)) | inr e ↦ changed_other s.count f c a e.0 ∙ g.present.free-none a (sym e.1 ∙ h) ];
      };
      own = move A s.count s.block system n f f_a c b system' (λ y. rw (g.present.free-none f u.unused) (omega (arith, covers_none (s.block f) y, moved y))) fits g.own;
      fixed = low_fixed f c b _ u.from_6;
      first = λ m i. first_of_lem m (fixed_low m i).1 (g.first m i);
      heads = insert_heads g.linked p f b up u.unused (free-pos u) b0 g.heads;
      two_on = changed_other hd f (hd p) 2 (λ e. omega (arith, u.from_6, e)) ∙ g.two_on;
      sides = rw (cut-insert_after s.next p f (λ e. omega (arith, u.from_6, e))) at (insert_heads (cut-linked g.linked) p f b up u.unused (free-pos u) b0 g.sides);
      high = high_kept f c b (changed sd f (sd p)) (changed_other sd f (sd p)) (λ q. is_high (sym (changed-same sd f (sd p)) ∙ q));
      low = low_kept f c b (changed sd f (sd p)) (changed_other sd f (sd p)) (λ q. is_low (sym (changed-same sd f (sd p)) ∙ q));
    }
      where
        first_of_lem : (m : ℕ) → m < 6 → ((q : ℕ) → s.next q ≢ m) → (q : ℕ) → insert_after s.next p f q ≢ m
        first_of_lem m l t q e = elim (insert_after_cases s.next p f q) [
          | first d ↦ omega (arith, u.from_6, d.1, e)
          | second d ↦ t p (sym d.2 ∙ e)
          | third d ↦ t q (sym d.2 ∙ e)
        ]

  -- a fresh anode f is made a head with no block
  module _ (f b : ℕ) (f_a : f < A) (u : FreeAnode ex s f) (b0 : b ≢ 0) where
    pub head_good : Good A ex n last (rewritten s f 0 b) system (changed hd f f) (changed sd f f)
    unfolding rewritten
    head_good = record {
      linked = head_linked g.linked f b (free-pos u) u.unused f_a b0;
      present = record {
        exist = λ a h. elim (changed_cases s.block f b a) [ inl e ↦ rw e.0 u.there | inr e ↦ g.present.exist a (rw e.1 at h) ];
        free-none = λ a h. elim (changed_cases s.count f 0 a) [ inl e ↦ e.1 | inr e ↦ e.1 ∙ g.present.free-none a (sym (changed_other s.block f b a e.0) ∙ h) ];
      };
      own = move A s.count s.block system n f f_a 0 b system (λ y. rw (g.present.free-none f u.unused) (omega (arith, covers_none (s.block f) y, covers_none b y))) (λ q. absurd (omega arith)) g.own;
      fixed = low_fixed f 0 b _ u.from_6;
      first = g.first;
      heads = fresh_heads g.linked f b (free-pos u) u.unused b0 g.heads;
      two_on = changed_other hd f f 2 (λ e. omega (arith, u.from_6, e)) ∙ g.two_on;
      sides = fresh_heads (cut-linked g.linked) f b (free-pos u) u.unused b0 g.sides;
      high = high_kept f 0 b (changed sd f f) (changed_other sd f f) (λ q p. absurd (omega arith));
      low = low_kept f 0 b (changed sd f f) (changed_other sd f f) (λ q p. absurd (omega arith));
    }

  -- what stands on the chain of a head has it for head and is in use
  pub on_chain_lem : (m : ℕ) → Head s.next s.block m → (a : ℕ) → 0 < occurrences a (chain_of s.next A m) → (hd a ≡ m) × (s.block a ≢ 0)
  on_chain_lem m d a p = elim (one_at_cases (hd a) m) [
    | inl e ↦ (e.0, λ z. d.pos (sym e.0 ∙ g.heads.off a z))
    | inr e ↦ absurd (omega (arith, p, occurrences_on_chain g.linked g.heads m d a, e.1))
  ]

  -- so a free anode does not stand on it
  pub free_off : (m : ℕ) → Head s.next s.block m → (f : ℕ) → s.block f ≡ 0 → occurrences f (chain_of s.next A m) ≡ 0
  free_off m d f z = not_above (occurrences f (chain_of s.next A m)) (λ p. (on_chain_lem m d f p).1 z)

  -- the chain of the head h, from 6 up and with no block, is dropped
  module _ (h : ℕ) (h6 : 6 ≤ h) (d : Head s.next s.block h) (none : (a : ℕ) → hd a ≡ h → s.count a ≡ 0) where
    abbrev dead : ℕ → Bool
    dead = on_chain A s h

    pub dead_head : (a : ℕ) → T (dead a) → hd a ≡ h
    unfolding on_chain
    dead_head a t = (on_chain_lem h d a (leb→le 1 (occurrences a (chain_of s.next A h)) t)).0

    pub head_dead : (a : ℕ) → hd a ≡ h → T (dead a)
    unfolding on_chain
    head_dead a e = le→leb 1 (occurrences a (chain_of s.next A h)) (omega (arith, occurrences_on_chain g.linked g.heads h d a, one_at-same (hd a) h e))

    pub dead_along : (a : ℕ) → s.next a ≢ 0 → dead (s.next a) ≡ dead a
    dead_along a n = T-same (dead (s.next a)) (dead a)
        (λ t. head_dead a (sym (g.heads.along a n) ∙ dead_head (s.next a) t))
        (λ t. head_dead (s.next a) (g.heads.along a n ∙ dead_head a t))

    pub drop-good : Good A ex n last (dropped A s h) system (without dead hd) (without dead sd)
    unfolding dropped without
    drop-good = record {
      linked = drop-linked g.linked dead dead_along;
      present = record {
        exist = λ a q. elim (without_cases dead s.block a) [ inl e ↦ absurd (q e.1) | inr e ↦ g.present.exist a (rw e.1 at q) ];
        free-none = λ a q. elim (without_cases dead s.count a) [
          | inl e ↦ e.1
          | inr e ↦ e.1 ∙ g.present.free-none a (sym (without_other dead s.block a e.0) ∙ q)
        ];
      };
      own = own_same A s.count s.block (without dead s.count) (without dead s.block) system n covered
          (λ a l. elim (without_cases dead s.count a) [
            | inl e ↦ rw e.1 (λ q. absurd (omega arith))
            | inr e ↦ rw (e.1, without_other dead s.block a e.0) (g.own.fits a l)
          ]) g.own;
      fixed = record {
        count-0 = without_other dead s.count 0 dead-0 ∙ g.fixed.count-0;
        block_0 = without_other dead s.block 0 dead-0 ∙ g.fixed.block_0;
        count-1 = without_other dead s.count 1 dead-1 ∙ g.fixed.count-1;
        block_1 = without_other dead s.block 1 dead-1 ∙ g.fixed.block_1;
        block_2 = rw (without_other dead s.block 2 dead-2) g.fixed.block_2;
        block_5 = rw (without_other dead s.block 5 dead-5) g.fixed.block_5;
      };
      first = λ m f. first_of_lem m (fixed_pos m f) (g.first m f);
      heads = drop_heads dead dead_along g.heads;
      two_on = without_other dead hd 2 dead-2 ∙ g.two_on;
      sides = rw (cut-drop s.next dead) at (drop_heads dead cut_along g.sides);
      high = side_left (λ c b. 0 < c → last < b) 1 (omega arith) g.high;
      low = side_left (λ c b. 0 < c → b + c ≤ suc last) 2 (omega arith) g.low;
    }
      where
        cut_along : (a : ℕ) → cut s.next a ≢ 0 → dead (cut s.next a) ≡ dead a
        cut_along a q = elim (cut_cases s.next a) [ inl c ↦ absurd (q c.1) | inr c ↦ rw c.1 (dead_along a (rw c.1 at q)) ]

        -- what holds of every extent of the side m still does
        side_left : (P : ℕ → ℕ → Type 0) (m : ℕ) → m ≢ 0 → ((a : ℕ) → sd a ≡ m → P (s.count a) (s.block a)) → (a : ℕ) → without dead sd a ≡ m → P (without dead s.count a) (without dead s.block a)
        side_left P m m0 was a q = elim (without_cases dead sd a) [
          | inl e ↦ absurd (m0 (sym q ∙ e.1))
          | inr e ↦ rw (without_other dead s.count a e.0, without_other dead s.block a e.0) (was a (sym e.1 ∙ q))
        ]

        live : (a m : ℕ) → hd a ≡ m → m < 6 → T (dead a) → ⊥
        live a m e l t = omega (arith, dead_head a t)

        dead-0 : T (dead 0) → ⊥
        dead-0 = live 0 0 g.heads.off_zero (omega arith)

        dead-1 : T (dead 1) → ⊥
        dead-1 = live 1 1 (g.heads.at_head 1 head_1) (omega arith)

        dead-2 : T (dead 2) → ⊥
        dead-2 = live 2 1 g.two_on (omega arith)

        dead-5 : T (dead 5) → ⊥
        dead-5 = live 5 5 (g.heads.at_head 5 head_5) (omega arith)

        covered : (a y : ℕ) → one_if_covers (without dead s.count a) (without dead s.block a) y ≡ one_if_covers (s.count a) (s.block a) y
        covered a y = elim (without_cases dead s.count a) [
          | inl e ↦ rw (e.1, none a (dead_head a e.0)) (covers_none (without dead s.block a) y ∙ sym (covers_none (s.block a) y))
          | inr e ↦ rw (e.1, without_other dead s.block a e.0)
        ]

        first_of_lem : (m : ℕ) → m ≢ 0 → ((q : ℕ) → s.next q ≢ m) → (q : ℕ) → without dead s.next q ≢ m
        first_of_lem m m0 t q e = elim (without_cases dead s.next q) [ inl c ↦ m0 (sym e ∙ c.1) | inr c ↦ t q (sym c.1 ∙ e) ]
