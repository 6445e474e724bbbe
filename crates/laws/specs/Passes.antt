-- What refusals 6 to 11 compute, and the good state: each follows from the other.
use Rattle.std.specs.Prelude.{ℕ, suc, ◌+◌, ◌≤◌, ◌<◌, ◌≡◌, refl, ◌≢◌, Bool}
use Rattle.std.proofs.Common.{inl, inr, arith}
use Rattle.rules.specs.Counting.{occurrences}
use Rattle.rules.specs.Anodes.{Anodes}
use Rattle.rules.specs.Chains.{chain_of, preds, head_of, cut, side}
use Rattle.laws.specs.Sums.{one_at_cases, one_at-same}
use Rattle.laws.specs.Ownership.{EachOnce}
use Rattle.laws.specs.Segments.{seg_keep}
use Rattle.laws.specs.Links.{View, Checked, Linked, preds-none, used, next_pos, no_preds, linked, seg_rank, the_chain, chain_the, checked}
use Rattle.laws.specs.Heads.{Head, head_of_heads, occurrences_on_chain}
use Rattle.laws.specs.Cut.{cut_other, cut-linked, cut_head, cut_head_2}
use Rattle.laws.specs.Space.{Present, FixedAnodes, FixedHead, fixed_pos, Good, head_1, fixed_head_1}
use Rattle.laws.specs.Sides.{side_sd}

-- what is known of anodes that were read: one in use is below A and exists, and one whose block field is 0 has no blocks and no next
pub record Reading (A : ℕ) (ex : ℕ → Bool) (s : Anodes) : Type 0 where
  pub view : View A s.next s.block
  pub present : Present ex s

-- the tests in numbers
pub record Passes (A n last : ℕ) (s : Anodes) (system : ℕ → ℕ) : Type 0 where
  -- 6
  pub fixed : FixedAnodes s
  pub next_0 : s.next 0 ≡ 0
  -- 7 and 8
  pub links : Checked A s.next s.block
  -- 8
  pub first : (m : ℕ) → FixedHead m → preds A s.next m ≡ 0
  -- 9
  pub two_on : 0 < occurrences 2 (chain_of s.next A 1)
  pub high : (a : ℕ) → 0 < occurrences a (side A s 1) → 0 < s.count a → last < s.block a
  pub low : (a : ℕ) → 0 < occurrences a (chain_of s.next A 2) → 0 < s.count a → s.block a + s.count a ≤ suc last
  -- 7, 10 and 11
  pub own : EachOnce A s.count s.block system n

-- from 2 on the cut links are the links
from_two : {A : ℕ} {next block : ℕ → ℕ} → Linked A next block → block 2 ≢ 0 → chain_of (cut next) A 2 ≡ chain_of next A 2
from_two {A} {next} {block} k u =
    chain_the (cut-linked k) 2 (chain_of next A 2) (λ q. u)
    (seg_keep next (cut next) 2 0 (chain_of next A 2) (λ x p. cut_other next x (λ e. omega (arith, p, after x e))) (the_chain k 2 (λ q. u)))
  where
    after : (x : ℕ) → next x ≡ 2 → occurrences x (chain_of next A 2) ≡ 0
    after x e =
        let nx : next x ≢ 0 = λ z. omega (arith, e, z) in
        seg_rank k 2 0 (chain_of next A 2) x (λ q. u) (the_chain k 2 (λ q. u)) (rw e at (k.falls x (next_pos k x nx) (used k.view x nx)))

module _ {A : ℕ} {ex : ℕ → Bool} {n last : ℕ} {s : Anodes} {system : ℕ → ℕ} where
  -- a state that passes 6 to 11 is good
  pub good_of : Reading A ex s → Passes A n last s system → Good A ex n last s system (head_of A s.next s.block) (head_of A (cut s.next) s.block)
  unfolding side
  good_of r c = record {
    linked = k;
    present = r.present;
    own = c.own;
    fixed = c.fixed;
    first = λ m f. no_preds r.view m (fixed_pos m f) (c.first m f);
    heads = head_of_heads k;
    two_on = on_one;
    sides = head_of_heads ck;
    high = λ a q. c.high a (omega (arith, occurrences_on_chain ck (head_of_heads ck) 1 (cut_head head_1) a, one_at-same (sd a) 1 q));
    low = λ a q. c.low a (rw (← (from_two k c.fixed.block_2)) (omega (arith, occurrences_on_chain ck (head_of_heads ck) 2 (cut_head_2 s.next c.fixed.block_2) a, one_at-same (sd a) 2 q)));
  }
    where
      k : Linked A s.next s.block
      k = linked r.view c.next_0 c.links

      ck : Linked A (cut s.next) s.block
      ck = cut-linked k

      sd : ℕ → ℕ
      sd = head_of A (cut s.next) s.block

      head_1 : Head s.next s.block 1
      head_1 = fixed_head_1 s c.fixed (no_preds r.view 1 (omega arith) (c.first 1 (inl refl)))

      on_one : head_of A s.next s.block 2 ≡ 1
      on_one = elim (one_at_cases (head_of A s.next s.block 2) 1) [
        | inl e ↦ e.0
        | inr e ↦ absurd (omega (arith, c.two_on, occurrences_on_chain k (head_of_heads k) 1 head_1 2, e.1))
      ]

  -- and a good state passes them
  pub passes_of : {hd sd : ℕ → ℕ} → Good A ex n last s system hd sd → Reading A ex s × Passes A n last s system
  unfolding side
  passes_of {hd} {sd} g = (
    record { view = g.linked.view; present = g.present },
    record {
      fixed = g.fixed;
      next_0 = g.linked.zero-end;
      links = checked g.linked;
      first = λ m f. preds-none A s.next m (g.first m f);
      two_on = omega (arith, occurrences_on_chain g.linked g.heads 1 (head_1 g) 2, one_at-same (hd 2) 1 g.two_on);
      high = λ a q. g.high a (side_sd g 1 (inl refl) a q);
      low = λ a q. g.low a (side_sd g 2 (inr refl) a (rw (from_two g.linked g.fixed.block_2) q));
      own = g.own;
    },
  )
