use Rattle.rules.specs.Folding.{folded}
use Rattle.names.specs.Index.{folded_in}
use Rattle.names.proofs.Laws.{step_joins, step_start, step_others, step_within}
use mathlib.Core.Path.{ap}
use Rattle.names.proofs.add_name.Goals as goal

pub returns : goal.returns
unfolding folded_in
returns c = let g = c.args in
    let p = c.requires in
    let s = ap folded c.name_at.ensures in
    let h = c.hash-h.ensures.0 in
    rw c.join.ensures (record { indexed = step_joins _ _ g.i _ _ p.0 h g.b.0 g.at s p.1; placed = step_start _ _ g.i _ _ p.0 h g.b.0 g.at s p.1; others = step_others _ _ g.i _ _ p.0 h g.b.0 g.at s p.1; within = step_within _ _ g.i _ _ p.0 h g.b.0 g.at s p.1 p.2 })
