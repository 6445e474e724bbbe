use mathlib.Core.Path.{sym, ◌∙◌}
use mathlib.Core.Bool.{true, false}
use lib.ListN.{length-set}
use Rattle.std.proofs.lemmas.Result.{err_from_is_err_and}
use Rattle.anodes.specs.Loaded.{anodes_from}
use Rattle.names.proofs.Laws.{indexed_none}
use Rattle.walk_steps.proofs.Rules.{start_fits, answered}
use Rattle.tree.proofs.Rules.{Says, says}
use borrow.Author.Rules.{rules}
use Rattle.tree.proofs.walk_tree.Goals as goal
use Rattle.tree.proofs.walk_tree.Goals.{After-walk_queue}

-- what the walk over the queue says by the rules
said : (c : After-walk_queue) → let g = c.args in let w = c.walk_queue in Says g.image.now (anodes_from g.counts.now g.firsts.now g.nexts.now) g.heads.now w.result w.new.marks w.new.queue w.new.parents
said c = let w = c.walk_queue in let g = c.args in let p = c.requires in
    says _ _ _ w.result w.new.marks w.new.queue w.new.parents (answered _ _ _ _ _ p.head_table.1.1 p.head_table.0 g.queue.now g.parents.now p.queue_len.0 p.queue_len.1 _ w.ensures)

pub walk_queue-requires : goal.walk_queue-requires
walk_queue-requires c = ((search rules, simp length-set (search rules), simp length-set (search rules), start_fits), indexed_none _)

pub returns-in_err-found : goal.returns-in_err-found
returns-in_err-found c = let p = err_from_is_err_and c.from_residual.result c.from_residual.ensures.1 in
    let s = rw c.in_err-found.was at (said (goal.at.returns-in_err-found c).After-walk_queue) in
    rw (p.1, p.2) (record { answer = s; counted = tt; queued = tt })

pub returns-then-any_unnamed : goal.returns-then-any_unnamed
returns-then-any_unnamed c = let s = rw c.in_ok-found.was at (said (goal.at.returns-then-any_unnamed c).After-walk_queue) in
    record { answer = sym (s.0 true (sym c.any_unnamed.ensures ∙ c.if-any_unnamed.true)); counted = tt; queued = tt }

pub returns : goal.returns
returns c = let s = rw c.in_ok-found.was at (said (goal.at.returns c).After-walk_queue) in
    record { answer = sym (s.0 false (sym c.any_unnamed.ensures ∙ c.if-any_unnamed.false)); counted = (s.1, s.2); queued = s.3 }
