use mathlib.Core.Path.{◌≡◌, refl}
use Prim.Native.Nat.{◌≤◌}
use native.Mathlib.Omega.{arith}
use lib.ListN.{length}
use Rattle.disk.specs.Refusals.{number_of}
use Rattle.disk.proofs.Laws.{number_some}
use Rattle.compare_calls.proofs.Outcomes.{one_difference, six_elements, one_refused, one_none, one_some}
use borrow.Author.Rules.{rules}
use Rattle.compare_calls.proofs.compare.Goals as goal

pub returns-then-count-eq0 : goal.returns-then-count-eq0
returns-then-count-eq0 c = let n : length c.compare_into-compared.new.out ≡ 6 = search rules in
    rw (six_elements _ n, c.image_in.ensures, c.in-Ok.is) (one_difference _ _ _ _ _ _ _ _ _ _ _ _ _ _ _ (rw c.in-Ok.is at c.compare_into-compared.ensures) _ (one_none _ _ refl c.if-count-eq0.true))

pub returns-else-count-eq0 : goal.returns-else-count-eq0
returns-else-count-eq0 c = let n : length c.compare_into-compared.new.out ≡ 6 = search rules in
    rw (six_elements _ n, c.image_in.ensures, c.in-Ok.is) (one_difference _ _ _ _ _ _ _ _ _ _ _ _ _ _ _ (rw c.in-Ok.is at c.compare_into-compared.ensures) _ (one_some _ _ refl c.if-count-eq0.false))

pub returns-in-Err : goal.returns-in-Err
returns-in-Err c = let n : length c.compare_into-compared.new.out ≡ 6 = search rules in
    let r = c.in-Err.refused.refusal in
    let some : 1 ≤ number_of r = number_some r in
    rw (six_elements _ n, c.image_in.ensures, c.in-Err.is) (one_difference _ _ _ _ _ _ _ _ _ _ _ _ _ _ _ (rw c.in-Err.is at c.compare_into-compared.ensures) _ (one_refused _ _ (λ z. omega (arith, some, z))))
