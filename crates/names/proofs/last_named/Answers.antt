use Rattle.rules.specs.Folding.{folded}
use Rattle.names.proofs.Laws.{step_print, step_chain, step_last}
use mathlib.Core.Path.{◌∙◌}
use Rattle.names.proofs.last_named.Goals as goal

pub last_same-requires : goal.last_same-requires
last_same-requires c = let g = c.args in
    let p = c.requires in
    rw c.entry-first.ensures (step_chain _ _ g.i _ g.h p.0 p.1, step_print g.image.now g.index.now g.i _ g.h p.0 p.1)

pub returns : goal.returns
returns c = let g = c.args in
    let p = c.requires in
    rw c.entry-first.ensures at c.last_same.ensures ∙ step_last g.image.now g.index.now g.i (folded g.name.now) g.h p.0 p.1 g.from
