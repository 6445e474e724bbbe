use lib.Seq.{take_all}
use Rattle.std.proofs.Common.{arith, length, take, ◌-◌, length-drop, ◌≡◌, ◌∙◌, ℕ, Bool, ltb, List, [], ◌∷◌, drop, refl, ap, ◌||◌, rules, tests}
use Rattle.std.specs.List.{list_any}
use Rattle.std.proofs.lemmas.Iterator.{YieldsList-from_slice}
use Rattle.std.proofs.lemmas.Iterator.Search.{any_from_yields_List}
use Rattle.rules.specs.Counting.{any_in}
use Rattle.report.specs.Report.{sums_in}
use Rattle.report.proofs.some_over.Goals as goal

any_listed : (test : ℕ → Bool) (l : List ℕ) → list_any test l ≡ any_in test l
unfolding any_in
any_listed test [] = refl
any_listed test (x ∷ l) = ap (λ (b : Bool). test x || b) (any_listed test l)

pub returns : goal.returns
unfolding sums_in
returns c =
    let t = c.args.totals.now in
    let rest : take (length t - 18) (drop 18 t) ≡ drop 18 t = take_all (length t - 18) (drop 18 t) (omega (arith, length-drop 18 t)) in
    any_from_yields_List (ltb 10000000000000) _ _ c.any.result c.any.ensures.ran (YieldsList-from_slice (drop 18 t) cc) (λ x b q k. search (rules, tests)) ∙ any_listed (ltb 10000000000000) (drop 18 t)
