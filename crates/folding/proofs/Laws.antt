-- The library's lower case of a byte is the byte folded. Assumes nothing.
use Rattle.std.proofs.Common.{◌≡◌, ℕ, List, [], ◌∷◌, map, refl, arith}
use Rattle.std.proofs.lemmas.Bool.Decides.{nat_tests}
use Rattle.std.specs.Char.{to_ascii_lowercase}
use Rattle.rules.specs.Folding.{fold, folded}

pub lower_fold : (b : ℕ) → to_ascii_lowercase b ≡ fold b
unfolding fold
lower_fold b = grind (arith, nat_tests)

-- and so are those of a name
pub lower_folded : (name : List ℕ) → map to_ascii_lowercase name ≡ folded name
unfolding folded
lower_folded [] = refl
lower_folded (b ∷ name) = rw (lower_fold b, lower_folded name)
