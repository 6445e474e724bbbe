use mathlib.Core.Path.{sym, ◌∙◌}
use Rattle.byte_differences.proofs.Comparing.{first-all, many_all}
use Rattle.byte_differences.proofs.compare_parts.Goals as goal

pub returns : goal.returns
returns c = let none = sym c.any_differs.ensures ∙ c.if-any_differs.false in
    record { first_is = first-all _ _ _ none; many_is = many_all _ _ _ none }
