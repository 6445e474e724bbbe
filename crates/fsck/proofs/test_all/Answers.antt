use mathlib.Core.Path.{◌∙◌}
use Rattle.std.proofs.lemmas.Result.{err_from_is_err_and}
use Rattle.walk_steps.proofs.Rules.{sum_from-count}
use Rattle.fsck.proofs.Laws.{all_failed, all_heads, all_fault, all-counted}
use borrow.Author.Rules.{rules}
use Rattle.fsck.proofs.test_all.Goals as goal

pub returns-in_err-test_space : goal.returns-in_err-test_space
returns-in_err-test_space c = let t = c.test_space in
    let w = all_failed _ _ _ _ _ _ _ t.ensures.tables t.ensures.answer _ c.in_err-test_space.was in
    let p = err_from_is_err_and c.from_residual.result c.from_residual.ensures.1 in
    rw (p.1, p.2) (record { answer = w.0; tally = tt; tables = w.1; opened = tt })

pub walk_tree-requires : goal.walk_tree-requires
walk_tree-requires c = let t = c.test_space in
    record { head_table = (all_heads _ _ _ _ _ _ _ t.ensures.tables _ c.in_ok-test_space.was _ c.requires.nexts_value, c.requires.sized.0); queue_len = (c.requires.sized.1, c.requires.sized.2) }

pub returns : goal.returns
returns c = let t = c.test_space in
    let k = c.walk_tree in
    let w = all-counted _ _ _ _ _ _ _ t.ensures.tables t.ensures.answer _ c.in_ok-test_space.was _ c.requires.nexts_value _ k.ensures.answer _ _ k.ensures.counted k.ensures.queued _ c.in_ok-found.was in
    record { answer = w.0; tally = (c.chain_sum-free.ensures ∙ rw (← c.requires.nexts_value) (sum_from-count _ _ _ 1), w.1.0, w.1.1); tables = w.2; opened = (c.requires.nexts_value, w.3, (c.requires.sized.0, search rules, search rules)) }

pub returns-in_err-found : goal.returns-in_err-found
returns-in_err-found c = let t = c.test_space in
    let w = all_fault _ _ _ _ _ _ _ t.ensures.tables t.ensures.answer _ c.in_ok-test_space.was _ c.requires.nexts_value _ c.walk_tree.ensures.answer _ c.in_err-found.was in
    let p = err_from_is_err_and c.from_residual-in_err-found.result c.from_residual-in_err-found.ensures.1 in
    rw (p.1, p.2) (record { answer = w.0; tally = tt; tables = w.1; opened = tt })
