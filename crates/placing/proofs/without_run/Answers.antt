use mathlib.Core.Path.{sym, ◌∙◌}
use Rattle.laws.specs.Leaving.{run_shrunk, run-emptied, run-unlinked}
use Rattle.anodes.specs.Loaded.{anodes_from}
use Rattle.placing.proofs.without_run.Goals as goal

pub returns-then-count-d : goal.returns-then-count-d
unfolding anodes_from
returns-then-count-d c = let a = c.args in
    let s = anodes_from a.counts.now a.firsts.now a.nexts.now in
    c.rewrite.ensures a.nexts.now ∙ rw c.entry-count.ensures (sym (run_shrunk s a.kept.0 a.p.0 a.x.0 a.d a.first.0 (rw c.entry-count.ensures at c.if-count-d.true)))

pub returns-then-x-kept : goal.returns-then-x-kept
unfolding anodes_from
returns-then-x-kept c = let a = c.args in
    let s = anodes_from a.counts.now a.firsts.now a.nexts.now in
    c.rewrite-then-x-kept.ensures a.nexts.now ∙ sym (run-emptied s a.kept.0 a.p.0 a.x.0 a.d a.first.0 (sym c.entry-count.ensures ∙ c.if-count-d.false) c.if-x-kept.true)

pub returns : goal.returns
unfolding anodes_from
returns c = let a = c.args in
    let s = anodes_from a.counts.now a.firsts.now a.nexts.now in
    c.unlink.ensures ∙ sym (run-unlinked s a.kept.0 a.p.0 a.x.0 a.d a.first.0 (sym c.entry-count.ensures ∙ c.if-count-d.false) c.if-x-kept.false)
