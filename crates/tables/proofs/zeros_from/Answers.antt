use Rattle.std.proofs.Common.{arith, ◌<◌, ◌+◌, ◌-◌, drop}
use lib.Seq.{get_or-take, get_or-drop}
use Rattle.tables.proofs.Laws.{zeros_more}
use Rattle.tables.proofs.zeros_from.Goals as goal

pub loop-x-preserved : goal.loop-x-preserved
loop-x-preserved c =
    let l = c.loop-x in
    let t = c.args.table.now in
    let from = c.args.from in
    let n : l.x-index < from + 82 - from = omega arith in
    rw (get_or-take (from + 82 - from) (drop from t) l.x-index 0 n, get_or-drop from t l.x-index 0)
    (zeros_more t from l.x-index l.any l.invariant)
