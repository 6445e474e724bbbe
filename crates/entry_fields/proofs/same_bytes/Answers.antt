use mathlib.Core.Path.{◌≡◌, refl, ap, ◌∙◌}
use mathlib.Core.Bool.{Bool, ◌&&◌}
use mathlib.Core.List.{List, [], ◌∷◌}
use Prim.Native.Nat.{ℕ}
use lib.Dec.{eqb}
use lib.Pointwise.{pointwise}
use Rattle.rules.specs.Counting.{same_bytes}
use Rattle.entry_fields.proofs.same_bytes.Goals as goal

-- two lists are compared number by number
one_by_one : (l m : List ℕ) → pointwise eqb l m ≡ same_bytes l m
unfolding same_bytes
one_by_one [] [] = refl
one_by_one [] (y ∷ m) = refl
one_by_one (x ∷ l) [] = refl
one_by_one (x ∷ l) (y ∷ m) = ap (λ (t : Bool). eqb x y && t) (one_by_one l m)

pub returns : goal.returns
returns c = c.eq.ensures ∙ one_by_one c.args.one.now c.args.other.now
