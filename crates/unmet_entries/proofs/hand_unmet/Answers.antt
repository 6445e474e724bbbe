use Prim.Native.Nat.{◌+◌, ◌-◌}
use mathlib.Core.Path.{sym, ◌∙◌}
use native.Mathlib.Omega.{arith}
use Rattle.unmet_entries.specs.Along.{hand_queue_none, hand_queue_step, hand_queue_all}
use Rattle.unmet_entries.proofs.hand_unmet.Invariants.{unmet_of}
use Rattle.unmet_entries.proofs.hand_unmet.Goals as goal

pub loop-i-init : goal.loop-i-init
loop-i-init c = let a = c.args in λ parents. hand_queue_all (unmet_of a.image.now a.firsts.now a.nexts.now a.met.now) _ _ parents _ _ (omega arith)

pub loop-i-preserved : goal.loop-i-preserved
loop-i-preserved c = let l = c.loop-i in
    let a = c.args in
    λ parents. hand_queue_step (unmet_of a.image.now a.firsts.now a.nexts.now a.met.now) _ _ parents l.i (a.dirs - l.i) (a.dirs - (l.i + 1)) (omega arith) _ (rw c.entry.ensures at c.unmet_directory-so_far.ensures) ∙ l.invariant parents

pub returns : goal.returns
returns c = let l = c.loop-i in
    let a = c.args in
    λ parents. sym (hand_queue_none (unmet_of a.image.now a.firsts.now a.nexts.now a.met.now) _ _ parents l.i (a.dirs - l.i) (omega arith)) ∙ l.invariant parents
