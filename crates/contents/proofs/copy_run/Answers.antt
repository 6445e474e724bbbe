use mathlib.Core.Path.{◌≡◌, ◌∙◌}
use mathlib.Core.List.{◌++◌, append_assoc}
use Prim.Native.Nat.{◌+◌, ◌-◌}
use native.Mathlib.Omega.{arith}
use Rattle.disk.specs.Blocks.{block_of}
use Rattle.rules.specs.Counting.{gather}
use Rattle.rules.specs.Chains.{run}
use Rattle.laws.specs.Chains.{run_none, run_step}
use Rattle.contents.proofs.Copying.{filled_any}
use Rattle.contents.proofs.copy_run.Goals as goal

pub loop-i-init : goal.loop-i-init
loop-i-init c = let g = c.args in
    let at : g.first.0 + 0 ≡ g.first.0 = omega arith in
    let left : g.count - 0 ≡ g.count = omega arith in
    λ rest. rw (at, left)

pub returns-then-out-cursor : goal.returns-then-out-cursor
returns-then-out-cursor c = λ rest. filled_any _ _ _ _ c.if-out-cursor.true ∙ c.loop-i.invariant rest

pub loop-i-preserved : goal.loop-i-preserved
unfolding gather
loop-i-preserved c = let l = c.loop-i in
    let g = c.args in
    let img = g.image.now in
    let b = g.first.0 + l.i in
    let left = g.count - (l.i + 1) in
    let up : g.first.0 + (l.i + 1) ≡ b + 1 = omega arith in
    λ rest. let behind = gather (block_of img) (run (b + 1) left) in rw up (c.copy_block-cursor.ensures (behind ++ rest) ∙ (rw (run_step b (g.count - l.i) left (omega arith), append_assoc (block_of img b) behind rest) at (l.invariant rest)))

pub returns : goal.returns
unfolding gather
returns c = let l = c.loop-i in
    λ rest. rw (run_none (c.args.first.0 + l.i) (c.args.count - l.i) (omega arith)) at (l.invariant rest)
