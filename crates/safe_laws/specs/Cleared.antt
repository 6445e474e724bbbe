-- A chain is zeroed with the blocks that it has: they are in nobody's hand then, with the system's, and every other chain is as it was.
use Rattle.std.specs.Prelude.{ℕ, suc, ◌+◌, ◌*◌, ◌≤◌, ◌<◌, ◌≡◌, ◌≢◌, Bool, T}
use Rattle.std.proofs.Math.Path.{refl, fun_ext}
use Rattle.std.proofs.Common.{sym, ◌∙◌, leb→le}
use Rattle.std.proofs.Math.Logic.{inl, inr}
use Rattle.std.proofs.Math.Bool.{true, false, cond}
use native.Mathlib.Omega.{arith}
use Rattle.std.proofs.Math.Dec.{le→leb}
use Rattle.rules.specs.Counting.{one_at, occurrences}
use Rattle.rules.specs.Anodes.{Anodes}
use Rattle.rules.specs.Chains.{chain_of, one_if_covers, owners}
use Rattle.rules.specs.Space.{on_chain, dropped}
use Rattle.laws.specs.Tests.{same?}
use Rattle.laws.specs.Sums.{one_at-same, one_at_other, sum_congr, sum-add, sum-zero}
use Rattle.laws.specs.Ownership.{covers_none}
use Rattle.laws.specs.LinkChanges.{without, without_cases, without_other}
use Rattle.laws.specs.Heads.{Head, occurrences_on_chain}
use Rattle.laws.specs.Blocks.{blocks}
use Rattle.laws.specs.Held.{held}
use Rattle.laws.specs.Space.{Alike, Good, on_chain_lem, drop-good}
use Rattle.laws.specs.Moves.{Shift}
use Rattle.laws.specs.ChainGone.{Gone, dropped-gone}

-- the chain of the head h, from 6 up
module _ {A : ℕ} {ex : ℕ → Bool} {n last : ℕ} {s : Anodes} {system hd sd : ℕ → ℕ} (g : Good A ex n last s system hd sd) (h : ℕ) (h6 : 6 ≤ h) (d : Head s.next s.block h) where
  -- the anodes of the chain
  abbrev dead : ℕ → Bool
  dead = on_chain A s h

  dead_head : (a : ℕ) → T (dead a) → hd a ≡ h
  unfolding on_chain
  dead_head a t = (on_chain_lem g h d a (leb→le 1 (occurrences a (chain_of s.next A h)) t)).0

  head_dead : (a : ℕ) → hd a ≡ h → T (dead a)
  unfolding on_chain
  head_dead a e = le→leb 1 (occurrences a (chain_of s.next A h)) (omega (arith, occurrences_on_chain g.linked g.heads h d a, one_at-same (hd a) h e))

  -- the blocks of the chain beside the system's
  abbrev limbo : ℕ → ℕ
  limbo x = system x + held A hd s.count s.block h x

  -- ---- first its anodes have no block

  abbrev bare : Anodes
  bare = record { count = without dead s.count; block = s.block; next = s.next }

  bare-none : (a : ℕ) → hd a ≡ h → without dead s.count a ≡ 0
  bare-none a e = elim (without_cases dead s.count a) [ inl c ↦ c.1 | inr c ↦ absurd (c.0 (head_dead a e)) ]

  -- what an anode has lost, the chain had
  bare_covers : (a x : ℕ) → one_if_covers (s.count a) (s.block a) x ≡ one_if_covers (without dead s.count a) (s.block a) x + one_at (hd a) h * one_if_covers (s.count a) (s.block a) x
  bare_covers a x = elim (without_cases dead s.count a) [
    | inl c ↦ rw (c.1, one_at-same (hd a) h (dead_head a c.0), covers_none (s.block a) x) (omega arith)
    | inr c ↦ rw (c.1, one_at_other (hd a) h (λ e. c.0 (head_dead a e))) (omega arith)
  ]

  bare-owners : (x : ℕ) → owners A (without dead s.count) s.block limbo x ≡ owners A s.count s.block system x
  unfolding owners held blocks
  bare-owners x = omega (
    arith,
    sum_congr (λ a. one_if_covers (s.count a) (s.block a) x) (λ a. one_if_covers (without dead s.count a) (s.block a) x + one_at (hd a) h * one_if_covers (s.count a) (s.block a) x) A (λ a l. bare_covers a x),
    sum-add (λ a. one_if_covers (without dead s.count a) (s.block a) x) (λ a. one_at (hd a) h * one_if_covers (s.count a) (s.block a) x) A,
  )

  -- what holds of an extent with blocks still does
  bare-full : (P : ℕ → Type 0) (a : ℕ) → (0 < s.count a → P (s.count a)) → 0 < without dead s.count a → P (without dead s.count a)
  bare-full P a was q = elim (without_cases dead s.count a) [ inl c ↦ absurd (omega (arith, q, c.1)) | inr c ↦ rw c.1 (was (omega (arith, q, c.1))) ]

  bare-good : Good A ex n last bare limbo hd sd
  bare-good = record {
    linked = g.linked;
    present = record {
      exist = g.present.exist;
      free-none = λ a z. elim (without_cases dead s.count a) [ inl c ↦ c.1 | inr c ↦ c.1 ∙ g.present.free-none a z ];
    };
    own = record {
      not-two = λ x l. omega (arith, bare-owners x, g.own.not-two x l);
      not_none = λ x l. omega (arith, bare-owners x, g.own.not_none x l);
      fits = λ a l. bare-full (λ c. s.block a + c ≤ n) a (g.own.fits a l);
    };
    fixed = record {
      count-0 = bare_fixed 0 g.fixed.count-0;
      block_0 = g.fixed.block_0;
      count-1 = bare_fixed 1 g.fixed.count-1;
      block_1 = g.fixed.block_1;
      block_2 = g.fixed.block_2;
      block_5 = g.fixed.block_5;
    };
    first = g.first;
    heads = g.heads;
    two_on = g.two_on;
    sides = g.sides;
    high = λ a e. bare-full (λ c. last < s.block a) a (g.high a e);
    low = λ a e. bare-full (λ c. s.block a + c ≤ suc last) a (g.low a e);
  }
    where
      bare_fixed : (a : ℕ) → s.count a ≡ 0 → without dead s.count a ≡ 0
      bare_fixed a z = elim (without_cases dead s.count a) [ inl c ↦ c.1 | inr c ↦ c.1 ∙ z ]

  -- ---- then they are zeroed

  bare-dropped : dropped A bare h ≡ dropped A s h
  unfolding dropped on_chain without
  bare-dropped = let same = fun_ext (λ a. twice (dead a) (s.count a)) in λ i. record { count = same i; block = (dropped A s h).block; next = (dropped A s h).next }
    where
      twice : (b : Bool) (c : ℕ) → cond b 0 (cond b 0 c) ≡ cond b 0 c
      twice true c = refl
      twice false c = refl

  -- THE CHAIN CLEARED: a good state, its blocks in limbo
  pub cleared-good : Good A ex n last (dropped A s h) limbo (without dead hd) (without dead sd)
  unfolding on_chain
  cleared-good = rw bare-dropped at (drop-good bare-good h h6 d bare-none)

  -- and the chain is gone
  pub cleared-gone : Gone s hd (dropped A s h) h
  unfolding blocks
  cleared-gone = rw bare-dropped at (dropped-gone bare-good h h6 d shift none)
    where
      shift : Shift s hd bare hd 1 h
      shift = record {
        stays = λ m i. i;
        no_new = λ m i. i;
        apart = λ a v q i. record { same_count = without_other dead s.count a (λ t. i (dead_head a t)); same_block = refl; same_next = refl };
        same_hd = λ a v q i. refl;
      }

      none : blocks A hd (without dead s.count) h ≡ 0
      none = sum-zero (λ a. one_at (hd a) h * without dead s.count a) A (λ a l. elim (same? (hd a) h) [ inl e ↦ rw (bare-none a e) (omega arith) | inr e ↦ rw (one_at_other (hd a) h e) (omega arith) ])

  -- what is not on the chain stays
  pub cleared_stays : (F : ℕ → ℕ) (a : ℕ) → hd a ≢ h → without (on_chain A s h) F a ≡ F a
  cleared_stays F a o = without_other dead F a (λ t. o (dead_head a t))

  pub cleared_alike : (a : ℕ) → hd a ≢ h → Alike s (dropped A s h) a
  unfolding dropped without
  cleared_alike a o = record { same_count = cleared_stays s.count a o; same_block = cleared_stays s.block a o; same_next = cleared_stays s.next a o }

  -- the head is free, and was there
  pub cleared_head : (dropped A s h).block h ≡ 0
  unfolding dropped without
  cleared_head = elim (without_cases dead s.block h) [ inl c ↦ c.1 | inr c ↦ absurd (c.0 (head_dead h (g.heads.at_head h d))) ]

  -- a sum over the anodes of another head is the same
  other_sum : (F G : ℕ → ℕ) (m : ℕ) → m ≢ 0 → m ≢ h → ((a : ℕ) → (T (dead a) → ⊥) → G a ≡ F a) → blocks A (without dead hd) G m ≡ blocks A hd F m
  unfolding blocks
  other_sum F G m m0 mh same = sum_congr (λ a. one_at (without dead hd a) m * G a) (λ a. one_at (hd a) m * F a) A (λ a l. elim (without_cases dead hd a) [
    | inl c ↦ rw (c.1, one_at_other 0 m (λ e. m0 (sym e)), one_at_other (hd a) m (λ e. mh (sym e ∙ dead_head a c.0))) (omega arith)
    | inr c ↦ rw (c.1, same a c.0) refl
  ])

  -- another chain has as many blocks as it had, and the same
  pub cleared-blocks : (m : ℕ) → m ≢ 0 → m ≢ h → blocks A (without (on_chain A s h) hd) (dropped A s h).count m ≡ blocks A hd s.count m
  unfolding dropped without
  cleared-blocks m m0 mh = other_sum s.count (without dead s.count) m m0 mh (without_other dead s.count)

  pub cleared-held : (m : ℕ) → m ≢ 0 → m ≢ h → (x : ℕ) → held A (without (on_chain A s h) hd) (dropped A s h).count (dropped A s h).block m x ≡ held A hd s.count s.block m x
  unfolding held dropped without
  cleared-held m m0 mh x = other_sum (λ a. one_if_covers (s.count a) (s.block a) x) (λ a. one_if_covers (without dead s.count a) (without dead s.block a) x) m m0 mh
      (λ a o. rw (without_other dead s.count a o, without_other dead s.block a o))
