use Prim.Native.Nat.{ℕ}
use mathlib.Core.Path.{ap, ◌∙◌}
use mathlib.Core.List.{List, ◌++◌}
use Rattle.rules.specs.Tables.{anode_table}
use Rattle.tables.proofs.Laws.{zeroed-below, zeroed_past}
use Rattle.anodes.specs.Loaded.{anodes_from}
use Rattle.chains.proofs.Predecessors.{table_of}
use Rattle.chains.proofs.Links.{next_in, noted_once}
use borrow.Author.Rules.{rules}
use Rattle.chains.proofs.show_heads.Goals as goal

pub note_preds-requires : goal.note_preds-requires
note_preds-requires c = let g = c.args in
    let p = c.requires in
    (search rules, p.2.zero-end, next_in g.firsts.now g.nexts.now p.2.view p.2.closed)

pub fill_heads-requires : goal.fill_heads-requires
fill_heads-requires c = let g = c.args in
    let p = c.requires in
    let n = c.note_preds in
    (search rules, zeroed-below 3444 g.heads.now _ c.zero_first.ensures, p.2, table_of _ _ p.1 (noted_once g.firsts.now g.nexts.now p.2 n.result _ n.ensures))

pub returns : goal.returns
returns c = let g = c.args in
    λ k. c.fill_heads.ensures k ∙ ap (λ (l : List ℕ). anode_table (anodes_from k g.firsts.now g.nexts.now) ++ l) (zeroed_past 3444 g.heads.now _ c.zero_first.ensures)
