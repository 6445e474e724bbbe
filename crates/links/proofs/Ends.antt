-- A chain that ends before anode 0 is the whole chain.
use Rattle.std.specs.Prelude.{◌≡◌, ℕ, cond, eqb}
use Rattle.std.proofs.Math.Logic.{inl, inr}
use borrow.Author.Tests.{ne_eqb}
use Rattle.laws.specs.Tests.{same?}

pub ends_at_0 : (n : ℕ) → cond (eqb n 0) 0 n ≡ n
ends_at_0 n = elim (same? n 0) [ inl e ↦ rw e | inr h ↦ rw (ne_eqb n 0 h) ]
