use Rattle.rules.specs.Folding.{folded}
use Rattle.names.specs.Index.{folded_in, seen_in}
use Rattle.rules.specs.Counting.{any_in, same_bytes}
use mathlib.Core.List.{List}
use Prim.Native.Nat.{ℕ, ◌-◌}
use Rattle.names.proofs.Laws.{same_seen, step_joins, step_seen}
use mathlib.Core.Path.{ap, ◌∙◌}
use Rattle.names.proofs.enter_name.Goals as goal

pub returns : goal.returns
unfolding folded_in
returns c = let g = c.args in
    let p = c.requires in
    let s = ap folded c.name_at-name.ensures in
    let h = c.hash-h.ensures.0 in
    rw c.join.ensures (record { found = rw c.last_named-last.ensures (same_seen g.image.now g.index.now g.from _ g.i p.2) ∙ ap (λ (n : List ℕ). any_in (same_bytes n) (seen_in g.image.now g.index.now g.from (g.i - g.from))) s; indexed = step_joins _ _ g.i _ _ p.0 h g.b.0 g.at s p.1; seen = step_seen _ _ g.i _ _ p.0 h g.b.0 g.at s p.1 g.from p.2 })
