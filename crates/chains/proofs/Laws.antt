-- 6 and 7, one test after the other, and what the table of heads says.
use Prim.Native.Nat.{ℕ, ◌+◌, ◌<◌}
use mathlib.Core.Path.{◌≡◌, refl, sym, ◌∙◌}
use mathlib.Core.Logic.{◌≢◌, ◌⊎◌, inl, inr}
use mathlib.Core.Bool.{Bool, true, false, not, ◌&&◌, ◌||◌}
use mathlib.Core.List.{List, ◌++◌}
use native.Mathlib.Omega.{arith}
use lib.ListN.{get_or}
use lib.Dec.{eqb, ltb}
use borrow.Author.Tests.{eq-eqb, ne_eqb, le-ltb}
use Rattle.rules.specs.Anodes.{Anodes, limit, is_free}
use Rattle.rules.specs.Chains.{one_if_head}
use Rattle.rules.specs.Accepted.{wrong_fixed, half_cleared, wrong_extent, out_of_range}
use Rattle.rules.specs.Tables.{chain_head, anode_entry, anode_table}
use Rattle.anodes.specs.Loaded.{anodes_from}
use Rattle.counting.specs.Laws.{none-and}
use Rattle.laws.specs.Tests.{same?}
use Rattle.laws.specs.Chains.{HeadTable}
use Rattle.laws.specs.OwnerTable.{table-entry, anode_entry_head}
use Rattle.laws.specs.Links.{Linked}
use Rattle.laws.specs.Heads.{head_of_heads, heads_cases, head_of_is}

-- ---- 6

pub fixed_tests : (s : Anodes)
    → wrong_fixed s
    ≡ (not (eqb (s.count 0) 0 && eqb (s.block 0) 65535) || (not (eqb (s.next 0) 0) || (not (eqb (s.count 1) 0 && eqb (s.block 1) 65535) || (is_free s 2 || is_free s 5))))
unfolding wrong_fixed
fixed_tests s = parts (eqb (s.count 0) 0) (eqb (s.block 0) 65535) (eqb (s.next 0) 0) (not (eqb (s.count 1) 0 && eqb (s.block 1) 65535) || (is_free s 2 || is_free s 5)) where
  parts : (a b c rest : Bool) → (not (a && (b && c)) || rest) ≡ (not (a && b) || (not c || rest))
  parts true true c rest = refl
  parts true false c rest = refl
  parts false b c rest = refl

-- ---- 7

-- an anode whose block field is 0 is out of range exactly if it is not free
pub cleared_range : (s : Anodes) (n a : ℕ) → s.block a ≡ 0 → out_of_range s n a ≡ not (is_free s a)
unfolding out_of_range half_cleared wrong_extent is_free
cleared_range s n a z = rw (eq-eqb (s.block a) 0 z) (go (same? (s.count a) 0) (same? (s.next a) 0))
  where
    go : (s.count a ≡ 0) ⊎ (s.count a ≢ 0) → (s.next a ≡ 0) ⊎ (s.next a ≢ 0) →
        (not (eqb (s.count a) 0 && eqb (s.next a) 0) || (not (eqb a 0) && ((ltb 0 (s.count a) && ltb n (s.block a + s.count a)) || (not (eqb (s.next a) 0) && eqb (s.block (s.next a)) 0)))) ≡ not (eqb (s.count a) 0 && eqb (s.next a) 0)
    go (inl c) (inl m) = rw (eq-eqb (s.count a) 0 c, eq-eqb (s.next a) 0 m, le-ltb 0 (s.count a) (omega arith)) (none-and (not (eqb a 0)) false (λ e. refl))
    go (inl c) (inr m) = rw (eq-eqb (s.count a) 0 c, ne_eqb (s.next a) 0 m)
    go (inr c) m = rw (ne_eqb (s.count a) 0 c)

-- and where it is not 0, its extent and its next decide
pub used_range : (s : Anodes) (n a : ℕ) → s.block a ≢ 0 → out_of_range s n a ≡ wrong_extent s n a
unfolding out_of_range half_cleared
used_range s n a u = rw (ne_eqb (s.block a) 0 u)

-- a free anode is not out of range
pub zeros_range : (c b n : List ℕ) (size a : ℕ) → get_or c a 0 ≡ 0 → get_or b a 0 ≡ 0 → get_or n a 0 ≡ 0 → out_of_range (anodes_from c b n) size a ≡ false
unfolding anodes_from is_free
zeros_range c b n size a p q r =
    cleared_range (anodes_from c b n) size a q ∙ rw (eq-eqb (get_or c a 0) 0 p, eq-eqb (get_or b a 0) 0 q, eq-eqb (get_or n a 0) 0 r)

-- ---- the table of heads

module _ (s : Anodes) (k : Linked limit s.next s.block) (t rest : List ℕ) (is : t ≡ anode_table s ++ rest) where
  -- an anode's entry is the head of its chain
  pub entry_head : (a : ℕ) → a < limit → get_or t a 0 ≡ chain_head s a
  unfolding anode_table
  entry_head a l = rw is (table-entry (anode_entry s) limit rest a l) ∙ anode_entry_head s k a

  -- an anode in use has a head
  pub entry_some : (a : ℕ) → a ≢ 0 → s.block a ≢ 0 → get_or t a 0 ≢ 0
  unfolding chain_head
  entry_some a h u = rw (entry_head a (k.view.below a u)) (head_of_is k (head_of_heads k) a h u).pos

  -- from 6 up, the heads are the anodes that have themselves for an entry
  pub head_table : HeadTable t s
  unfolding chain_head
  head_table a six l = (λ e. is_head (same? (s.block a) 0) e, own)
    where
      some : a ≢ 0
      some z = omega arith

      own : one_if_head limit s.next s.block a ≡ 1 → get_or t a 0 ≡ a
      own e = elim (heads_cases k a) [
        | inl d ↦ entry_head a l ∙ (head_of_heads k).at_head a d.0
        | inr d ↦ absurd (omega (arith, d.1))
      ]

      is_head : (s.block a ≡ 0) ⊎ (s.block a ≢ 0) → get_or t a 0 ≡ a → one_if_head limit s.next s.block a ≡ 1
      is_head (inl z) e = absurd (some (sym e ∙ entry_head a l ∙ (head_of_heads k).off a z))
      is_head (inr u) e = elim (heads_cases k a) [
        | inl d ↦ d.1
        | inr d ↦ absurd (d.0 (rw (sym (entry_head a l) ∙ e) at (head_of_is k (head_of_heads k) a some u)))
      ]
