use mathlib.Core.Path.{◌≡◌, sym, ◌∙◌}
use mathlib.Core.List.{◌++◌}
use Prim.Native.Nat.{◌+◌, ◌-◌}
use native.Mathlib.Omega.{arith}
use Rattle.rules.specs.Chains.{run}
use Rattle.laws.specs.Chains.{run_none, run_step}
use Rattle.contents.proofs.Writing.{over_done, first_inside, rest_inside}
use borrow.Author.Rules.{rules}
use Rattle.contents.proofs.write_run.Goals as goal

pub loop-i-init : goal.loop-i-init
loop-i-init c = let g = c.args in
    let at : g.first.0 + 0 ≡ g.first.0 = omega arith in
    let left : g.count - 0 ≡ g.count = omega arith in
    (rw (at, left) c.requires, λ rest. rw (at, left))

pub returns-then-bytes-cursor : goal.returns-then-bytes-cursor
returns-then-bytes-cursor c = λ rest. over_done _ rest _ _ _ c.if-bytes-cursor.true ∙ sym (over_done _ _ _ _ _ c.if-bytes-cursor.true) ∙ c.loop-i.invariant.1 rest

pub write_block-cursor-requires : goal.write_block-cursor-requires
write_block-cursor-requires c = let l = c.loop-i in
    let g = c.args in
    (omega (arith, first_inside g.image.now (g.first.0 + l.i) (g.count - l.i) (g.count - (l.i + 1)) (omega arith) l.invariant.0), search rules)

pub loop-i-preserved : goal.loop-i-preserved
loop-i-preserved c = let l = c.loop-i in
    let g = c.args in
    let b = g.first.0 + l.i in
    let left = g.count - (l.i + 1) in
    let up : g.first.0 + (l.i + 1) ≡ b + 1 = omega arith in
    let more : g.count - l.i ≡ left + 1 = omega arith in (
      rw up (rest_inside g.image.now _ _ _ more l.invariant.0),
      λ rest. rw up (c.write_block-cursor.ensures (run (b + 1) left ++ rest) ∙ (rw (run_step b (g.count - l.i) left more) at (l.invariant.1 rest))),
    )

pub returns : goal.returns
returns c = let l = c.loop-i in
    λ rest. rw (run_none (c.args.first.0 + l.i) (c.args.count - l.i) (omega arith)) at (l.invariant.1 rest)
