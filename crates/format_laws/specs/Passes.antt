-- A formatted image passes 6 to 11.
use Rattle.std.specs.Prelude.{ℕ, ◌+◌, ◌≤◌, ◌<◌, ◌≡◌}
use Rattle.std.proofs.Common.{inl, inr, arith}
use Rattle.rules.specs.Anodes.{Anodes, limit}
use Rattle.rules.specs.Chains.{one_if_covers, preds}
use Rattle.laws.specs.Space.{FixedHead}
use Rattle.laws.specs.Passes.{Passes}
use Rattle.format_laws.specs.Anodes.{Full, full-2, full-5, full-6, Laid}
use Rattle.format_laws.specs.Links.{closed, one_pred, no_pred, ends, two_on, count-1, block_1, full, high, low}
use Rattle.format_laws.specs.Owners.{one_owner}

module _ {s : Anodes} {n last k : ℕ} (m : Laid s n last k) where
  fits : (a : ℕ) → Full a → 0 < s.count a → s.block a + s.count a ≤ n
  fits _ full-2 c = omega (arith, m.room, m.there, m.owns_2.count, m.owns_2.start c)
  fits _ full-5 c = omega (arith, m.room, m.there, m.at_5.count, m.at_5.block)
  fits _ full-6 c = omega (arith, m.there, m.owns_6.count, m.owns_6.start c)

  pub laid_passes : (system : ℕ → ℕ) → ((x : ℕ) → system x ≡ one_if_covers (3 + k) 0 x) → Passes limit n last s system
  laid_passes system sys = record {
    fixed = record {
      count-0 = m.at-0.count;
      block_0 = m.at-0.block;
      count-1 = count-1 m;
      block_1 = block_1 m;
      block_2 = m.block_2;
      block_5 = λ z. omega (arith, z, m.at_5.block);
    };
    next_0 = m.at-0.next;
    links = record { closed = closed m; one_pred = λ x x0 u. one_pred m x x0; ends = λ a. ends m a (m.which a) m.linking };
    first = first;
    two_on = two_on m;
    high = λ a p c. high m a (full m a (m.which a) c) p c;
    low = λ a p c. low m a (full m a (m.which a) c) p c;
    own = record {
      not-two = λ x l. omega (arith, one_owner m system x (sys x) l);
      not_none = λ x l. omega (arith, one_owner m system x (sys x) l);
      fits = λ a l c. fits a (full m a (m.which a) c) c;
    };
  }
    where
      first : (h : ℕ) → FixedHead h → preds limit s.next h ≡ 0
      first h (inl e) = no_pred m h (omega arith) (omega arith) (omega arith)
      first h (inr (inl e)) = no_pred m h (omega arith) (omega arith) (omega arith)
      first h (inr (inr (inl e))) = no_pred m h (omega arith) (omega arith) (omega arith)
      first h (inr (inr (inr e))) = no_pred m h (omega arith) (omega arith) (omega arith)
