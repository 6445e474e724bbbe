use mathlib.Core.Path.{sym, ◌∙◌}
use Rattle.chains.proofs.Endings.{ends_skip, ends_more}
use Rattle.chains.proofs.mark_end.Goals as goal

pub returns-then-entry-eq0 : goal.returns-then-entry-eq0
returns-then-entry-eq0 c = ends_skip _ _ _ _ c.requires.4 (λ u. absurd (u (sym c.entry.ensures ∙ c.if-entry-eq0.true)))

pub returns-then-entry-ne0 : goal.returns-then-entry-ne0
returns-then-entry-ne0 c = ends_skip _ _ _ _ c.requires.4 (λ u z. c.if-entry-ne0.true (c.entry-2.ensures ∙ z))

pub returns : goal.returns
returns c = let p = c.requires in
    rw c.store_along.ensures (ends_more _ _ _ _ p.4 _ p.3 p.2 p.1 p.0 (sym c.entry-2.ensures ∙ c.if-entry-ne0.false))
