use mathlib.Core.Path.{refl, sym, ◌∙◌}
use native.Mathlib.Omega.{arith}
use Rattle.chains.proofs.Filling.{head_at, fill_skip, fill_rest, fill_more}
use Rattle.chains.proofs.fill_head.Goals as goal

pub returns-then-entry-eq0 : goal.returns-then-entry-eq0
returns-then-entry-eq0 c = let p = c.requires in
    (refl, fill_skip _ _ _ _ p.3 (λ d. d.in_use (sym c.entry.ensures ∙ c.if-entry-eq0.true)))

pub returns-then-entry-ne0 : goal.returns-then-entry-ne0
returns-then-entry-ne0 c = let g = c.args in
    let p = c.requires in
    (refl, fill_skip _ _ _ _ p.3 (λ d. d.no_pred c.entry-2.result (rw c.entry-2.ensures (p.2.noted.is_pred g.a (λ z. c.if-entry-ne0.true (c.entry-2.ensures ∙ z))))))

pub returns : goal.returns
returns c = let g = c.args in
    let p = c.requires in
    let d = head_at g.nexts.now g.firsts.now p.1 g.preds.now p.2 g.a (λ z. omega (arith, p.0)) (λ z. c.if-entry-eq0.false (c.entry.ensures ∙ z)) (sym c.entry-2.ensures ∙ c.if-entry-ne0.false) in
    rw c.store_along.ensures
    (fill_rest g.nexts.now g.firsts.now p.1 g.heads.now g.a p.3 d, fill_more g.nexts.now g.firsts.now p.1 g.heads.now g.a p.3 d)
