use Rattle.std.proofs.Common.{◌<◌, arith, rules, length-take}
use lib.Seq.{get_or-take}
use Rattle.report.proofs.Totals.{taken_large, taken_none, taken_more, taken-all}
use Rattle.report.proofs.all_taken.Goals as goal

pub loop-n-init : goal.loop-n-init
loop-n-init c = (search rules, taken_none c.args.totals.now c.requires)

pub returns-then-n-ge100000 : goal.returns-then-n-ge100000
returns-then-n-ge100000 c =
    let t = c.args.totals.now in
    let i = c.loop-n.n-index in
    let l : i < 18 = omega (arith, length-take 18 t) in
    taken_large t c.requires i l (rw get_or-take at c.if-n-ge100000.true)

pub loop-n-preserved : goal.loop-n-preserved
loop-n-preserved c =
    let t = c.args.totals.now in
    let i = c.loop-n.n-index in
    let l : i < 18 = omega (arith, length-take 18 t) in
    (omega arith, rw get_or-take (taken_more t c.requires i c.loop-n.sum l c.loop-n.invariant.1))

pub returns : goal.returns
returns c =
    let t = c.args.totals.now in
    taken-all t c.requires c.loop-n.n-index c.loop-n.sum (omega (arith, length-take 18 t)) c.loop-n.invariant.1
