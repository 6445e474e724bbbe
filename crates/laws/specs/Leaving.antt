-- A run of blocks leaves the anode x, which has it, into the hand: x shrinks, or is unlinked with its whole extent.
use Rattle.std.specs.Prelude.{ℕ, ◌+◌, ◌-◌, ◌*◌, ◌≤◌, ◌<◌, ◌≡◌, refl, ◌≢◌, Bool}
use Rattle.std.proofs.Math.Path.{sym, ap}
use Rattle.std.proofs.Common.{◌∙◌, inl, inr, arith}
use borrow.Author.Tests.{eq-eqb, ne_eqb}
use Rattle.rules.specs.Counting.{one_at, changed}
use Rattle.rules.specs.Anodes.{Anodes}
use Rattle.rules.specs.Chains.{one_if_covers}
use Rattle.rules.specs.Space.{rewritten, unlinked, emptied, without_run}
use Rattle.laws.specs.Tests.{same?}
use Rattle.laws.specs.Sums.{changed-same, changed_other, changed_twice}
use Rattle.laws.specs.Ownership.{covers_none, covers_join, handed}
use Rattle.laws.specs.LinkChanges.{Which, first, second, third, unlink, unlink_cases}
use Rattle.laws.specs.HeadChanges.{unlink_head_was}
use Rattle.laws.specs.Blocks.{blocks, blocks_rewrite, blocks_fresh}
use Rattle.laws.specs.Held.{held, held_rewrite, held_fresh}
use Rattle.laws.specs.Space.{Good, rewrite_good, unlink-good}
use Rattle.laws.specs.Owners.{full_used, full_inside, full-0, full-1, self_headed}
use Rattle.laws.specs.Moves.{rewrite_shift, RunOut}

from_6 : (x : ℕ) → x ≢ 0 → x ≢ 1 → x ≢ 2 → x ≢ 3 → x ≢ 4 → x ≢ 5 → 6 ≤ x
from_6 x a b c d e f = omega arith

-- the first d blocks of an extent go
pub first-gone : (c b d x : ℕ) → d ≤ c → one_if_covers c b x ≡ one_if_covers d b x + one_if_covers (c - d) (b + d) x
first-gone c b d x l = sym (covers_join d (c - d) b c (b + d) x refl (omega arith))

-- the last d blocks of an extent go
pub last-gone : (c b d x : ℕ) → d ≤ c → one_if_covers c b x ≡ one_if_covers d (b + (c - d)) x + one_if_covers (c - d) b x
last-gone c b d x l = omega (arith, covers_join (c - d) d b c (b + (c - d)) x refl (omega arith))

module _ {A : ℕ} {ex : ℕ → Bool} {n last : ℕ} {s : Anodes} {system hd sd : ℕ → ℕ} (g : Good A ex n last s system hd sd) (x : ℕ) (full : 0 < s.count x) where
  -- one that is another's next, and not 2, is from 6 up
  pub full-6 : (p : ℕ) → s.next p ≡ x → x ≢ 2 → 6 ≤ x
  full-6 p e x2 = from_6 x (full-0 g x full) (full-1 g x full) x2 (λ q. g.first 3 (inr (inl refl)) p (e ∙ q)) (λ q. g.first 4 (inr (inr (inl refl))) p (e ∙ q)) (λ q. g.first 5 (inr (inr (inr refl))) p (e ∙ q))

  -- x becomes (k, y), within its old extent, and has lost the run (c, b)
  module _ (k y c b : ℕ) (e : s.count x ≡ k + c) (y0 : y ≢ 0) (left : (w : ℕ) → one_if_covers (s.count x) (s.block x) w ≡ one_if_covers c b w + one_if_covers k y w)
      (within : 0 < k → (s.block x ≤ y) × (y + k ≤ s.block x + s.count x)) where
    shrunk_good : Good A ex n last (rewritten s x k y) (handed system c b) hd sd
    shrunk_good = rewrite_good g x k y (handed system c b) (full_used g x full) y0 (full-0 g x full) (full-1 g x full) (λ w. omega (arith, left w))
        (λ l. omega (arith, (within l).1, full_inside g x full))
        (λ q l. omega (arith, (within l).0, g.high x q full))
        (λ q l. omega (arith, (within l).1, g.low x q full))

    shrunk_fewer : (h : ℕ) → blocks A hd (changed s.count x k) h + one_at (hd x) h * c ≡ blocks A hd s.count h
    shrunk_fewer h = omega (arith, blocks_rewrite A hd s.count x k (g.linked.view.below x (full_used g x full)) h, ap (λ (i : ℕ). one_at (hd x) h * i) e)

    shrunk_lost : (h w : ℕ) → held A hd (changed s.count x k) (changed s.block x y) h w + one_at (hd x) h * one_if_covers c b w ≡ held A hd s.count s.block h w
    shrunk_lost h w = omega (arith, held_rewrite A hd s.count s.block x k y (g.linked.view.below x (full_used g x full)) h w, ap (λ (i : ℕ). one_at (hd x) h * i) (left w))

    shrunk_run : RunOut A ex n last s system hd (hd x) c b (rewritten s x k y)
    unfolding rewritten
    shrunk_run = record {
      hd' = hd;
      sd' = sd;
      good = shrunk_good;
      shift = rewrite_shift s hd x k y (full_used g x full) y0;
      fewer = shrunk_fewer;
      lost = shrunk_lost;
    }

  -- x, after p and from 6 up, is unlinked with its whole extent
  module _ (p : ℕ) (px : s.next p ≡ x) (x6 : 6 ≤ x) where
    unlinked-run : RunOut A ex n last s system hd (hd x) (s.count x) (s.block x) (unlinked s p x)
    unfolding unlinked rewritten unlink
    unlinked-run = record {
      hd' = changed hd x 0;
      sd' = changed sd x 0;
      good = good;
      shift = record {
        stays = λ a d. self_headed good a d.pos (changed_other hd x 0 a (λ i. d.no_pred p (px ∙ sym i)) ∙ g.heads.at_head a d);
        no_new = λ a d. (unlink_head_was g.linked p x (full-0 g x full) px a d).1;
        apart = λ a u q i. record {
          same_count = changed_other s.count x 0 a (λ i. q (ap hd i));
          same_block = changed_other s.block x 0 a (λ i. q (ap hd i));
          same_next = elim (unlink_cases s.next p x a) [
            | first c ↦ absurd (q (ap hd c.0))
            | second c ↦ absurd (q (ap hd c.1 ∙ sym (g.heads.along p (λ z. full-0 g x full (sym px ∙ z))) ∙ ap hd px))
            | third c ↦ c.2
          ];
        };
        same_hd = λ a u q i. changed_other hd x 0 a (λ i. q (ap hd i));
      };
      fewer = λ h. omega (arith, shrunk_fewer 0 65535 (s.count x) (s.block x) (omega arith) (omega arith) left (λ l. absurd (omega arith)) h, off h);
      lost = λ h w. omega (arith, shrunk_lost 0 65535 (s.count x) (s.block x) (omega arith) (omega arith) left (λ l. absurd (omega arith)) h w, away h w);
    }
      where
        left : (w : ℕ) → one_if_covers (s.count x) (s.block x) w ≡ one_if_covers (s.count x) (s.block x) w + one_if_covers 0 65535 w
        left w = omega (arith, covers_none 65535 w)

        good : Good A ex n last (unlinked s p x) (handed system (s.count x) (s.block x)) (changed hd x 0) (changed sd x 0)
        good = rw (changed_twice s.count x 0 0, changed_twice s.block x 65535 0) at
            (unlink-good (shrunk_good 0 65535 (s.count x) (s.block x) (omega arith) (omega arith) left (λ l. absurd (omega arith))) p x px x6 (changed-same s.count x 0))

        off : (h : ℕ) → blocks A (changed hd x 0) (changed s.count x 0) h ≡ blocks A hd (changed s.count x 0) h
        off h =
            let r : blocks A (changed hd x 0) (changed s.count x 0) h ≡ blocks A hd (changed s.count x 0) h + one_at 0 h * 0
            = rw (changed_twice s.count x 0 0) at (blocks_fresh A hd (changed s.count x 0) x 0 0 (g.linked.view.below x (full_used g x full)) (changed-same s.count x 0) h) in
            omega arith

        away : (h w : ℕ) → held A (changed hd x 0) (changed s.count x 0) (changed s.block x 0) h w ≡ held A hd (changed s.count x 0) (changed s.block x 65535) h w
        away h w =
            let r : held A (changed hd x 0) (changed s.count x 0) (changed s.block x 0) h w ≡ held A hd (changed s.count x 0) (changed s.block x 65535) h w + one_at 0 h * one_if_covers 0 0 w
            = rw (changed_twice s.count x 0 0, changed_twice s.block x 65535 0) at
            (held_fresh A hd (changed s.count x 0) (changed s.block x 65535) x 0 0 0 (g.linked.view.below x (full_used g x full)) (changed-same s.count x 0) h w) in
            omega (arith, r, ap (λ (i : ℕ). one_at 0 h * i) (covers_none 0 w))

-- ---- an anode x with d blocks less

module _ (s : Anodes) (kept p x d b : ℕ) where
  pub run_shrunk : s.count x ≢ d → without_run s kept p x d b ≡ rewritten s x (s.count x - d) b
  unfolding without_run
  run_shrunk i = rw (ne_eqb (s.count x) d i)

  pub run-emptied : s.count x ≡ d → x ≡ kept → without_run s kept p x d b ≡ rewritten s x 0 65535
  unfolding without_run emptied
  run-emptied i j = rw (eq-eqb (s.count x) d i, eq-eqb x kept j)

  pub run-unlinked : s.count x ≡ d → x ≢ kept → without_run s kept p x d b ≡ unlinked s p x
  unfolding without_run
  run-unlinked i j = rw (eq-eqb (s.count x) d i, ne_eqb x kept j)

  -- it has others, or it is emptied and kept, or it is unlinked and zeroed
  pub without_run_cases : Which
      ((s.count x ≢ d) × (without_run s kept p x d b ≡ rewritten s x (s.count x - d) b))
      ((s.count x ≡ d) × (x ≡ kept) × (without_run s kept p x d b ≡ rewritten s x 0 65535))
      ((s.count x ≡ d) × (x ≢ kept) × (without_run s kept p x d b ≡ unlinked s p x))
  without_run_cases = elim (same? (s.count x) d) [
    | inr i ↦ first (i, run_shrunk i)
    | inl i ↦ elim (same? x kept) [ inl j ↦ second (i, j, run-emptied i j) | inr j ↦ third (i, j, run-unlinked i j) ]
  ]

module _ {A : ℕ} {ex : ℕ → Bool} {n last : ℕ} {s : Anodes} {system hd sd : ℕ → ℕ} (g : Good A ex n last s system hd sd) (x : ℕ) (full : 0 < s.count x) where
  -- x, after p unless it is kept, has lost the run of d blocks from y, and its first block is then b
  pub without_run-out : (kept p d b y : ℕ) → d ≤ s.count x → b ≢ 0 → (s.block x ≤ b) × (b ≤ s.block x + d) →
      ((w : ℕ) → one_if_covers (s.count x) (s.block x) w ≡ one_if_covers d y w + one_if_covers (s.count x - d) b w) →
      (s.count x ≡ d → y ≡ s.block x) → (x ≢ kept → (s.next p ≡ x) × (x ≢ 2)) → RunOut A ex n last s system hd (hd x) d y (without_run s kept p x d b)
  without_run-out kept p d b y l b0 near left only after = elim (without_run_cases s kept p x d b) [
    | first c ↦ rw c.1 (shrunk_run g x full (s.count x - d) b d y (omega (arith, l)) b0 left (λ m. (near.0, omega (arith, near.1, l))))
    | second c ↦ rw c.2 (shrunk_run g x full 0 65535 d y (omega (arith, c.0)) (omega arith) (λ w. rw (only c.0, ← c.0) (omega (arith, covers_none 65535 w))) (λ m. absurd (omega arith)))
    | third c ↦ (let p-x = after c.1 in rw (c.2, only c.0, ← c.0) (unlinked-run g x full p p-x.0 (full-6 g x full p p-x.0 p-x.1)))
  ]
