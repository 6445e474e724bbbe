use mathlib.Core.Path.{sym, ◌∙◌}
use mathlib.Core.Bool.{false≢true}
use Rattle.chains.specs.Predecessors.{PredTable}
use Rattle.chains.proofs.Predecessors.{table_of}
use Rattle.chains.proofs.Links.{next_in, links_twice, links_fixed, links_ends}
use Rattle.chains.proofs.wrong_links.Goals as goal

pub note_preds-requires : goal.note_preds-requires
note_preds-requires c = let g = c.args in
    let p = c.requires in
    (p.0, p.4, next_in g.firsts.now g.nexts.now p.3 p.5)

pub returns-then-note_preds : goal.returns-then-note_preds
returns-then-note_preds c = let p = c.requires in
    record { answer = λ k. sym (links_twice k _ _ p.3 p.5 (rw c.if-note_preds.true at c.note_preds.ensures)); noted = λ e. absurd (false≢true (sym e)) }

pub returns-then-fixed_has_pred : goal.returns-then-fixed_has_pred
returns-then-fixed_has_pred c = let noted : PredTable c.note_preds.new.preds c.args.nexts.now = table_of _ _ c.requires.2 (rw c.if-note_preds.false at c.note_preds.ensures) in
    let p = c.requires in
    let w = noted in
    record { answer = λ k. sym (links_fixed k _ _ _ w p.4 (sym c.if-fixed_has_pred.true ∙ c.fixed_has_pred.ensures)); noted = λ e. w }

pub some_endless-requires : goal.some_endless-requires
some_endless-requires c = let noted : PredTable c.note_preds.new.preds c.args.nexts.now = table_of _ _ c.requires.2 (rw c.if-note_preds.false at c.note_preds.ensures) in
    let p = c.requires in
    (p.1, p.2, p.4, noted, p.5)

pub returns : goal.returns
returns c = let noted : PredTable c.note_preds.new.preds c.args.nexts.now = table_of _ _ c.requires.2 (rw c.if-note_preds.false at c.note_preds.ensures) in
    let p = c.requires in
    let w = noted in
    record { answer = λ k. sym (links_ends k _ _ _ w p.4 p.3 (sym c.if-fixed_has_pred.false ∙ c.fixed_has_pred.ensures) _ c.some_endless.ensures); noted = λ e. w }
