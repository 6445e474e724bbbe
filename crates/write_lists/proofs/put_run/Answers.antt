use mathlib.Core.Path.{◌≡◌, sym, ◌∙◌}
use Prim.Native.Nat.{◌+◌, ◌-◌}
use native.Mathlib.Omega.{arith}
use Rattle.laws.specs.Chains.{run_none}
use Rattle.contents.proofs.Writing.{first_inside, rest_inside}
use Rattle.write_lists.proofs.Laws.{no_write, run_on_write}
use borrow.Author.Rules.{rules}
use Rattle.write_lists.proofs.put_run.Goals as goal

pub loop-i-init : goal.loop-i-init
loop-i-init c = let g = c.args in
    let from : g.first.0 + 0 ≡ g.first.0 = omega arith in
    let left : g.count - 0 ≡ g.count = omega arith in
    (search rules, rw (from, left) c.requires.0, rw (from, left))

pub put_write-place-requires : goal.put_write-place-requires
put_write-place-requires c = let l = c.loop-i in
    let g = c.args in
    (first_inside g.image.now (g.first.0 + l.i) (g.count - l.i) (g.count - (l.i + 1)) (omega arith) l.invariant.1, search rules)

pub loop-i-preserved : goal.loop-i-preserved
loop-i-preserved c = let l = c.loop-i in
    let g = c.args in
    let p = c.put_write-place.ensures in
    let b = g.first.0 + l.i in
    let left = g.count - (l.i + 1) in
    let up : g.first.0 + (l.i + 1) ≡ b + 1 = omega arith in
    let more : g.count - l.i ≡ left + 1 = omega arith in (
      search rules,
      rw up (rest_inside g.image.now _ _ _ more l.invariant.1),
      rw up (run_on_write l.out l.place g.image.now b _ left more l.invariant.1 _ _ p.0 p.1 ∙ l.invariant.2),
    )

pub returns : goal.returns
returns c = let l = c.loop-i in
    let g = c.args in
    let none = run_none (g.first.0 + l.i) (g.count - l.i) (omega arith) in
    (sym (no_write l.out l.place g.image.now _ none) ∙ l.invariant.2, search rules)
