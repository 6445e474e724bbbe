use Rattle.std.proofs.Common.{arith}
use Rattle.endian.proofs.Laws.{stored-part}
use Rattle.contents.proofs.Copying.{filled_any, filled_part}
use Rattle.contents.proofs.copy_bytes.Goals as goal

pub returns-then-out-done : goal.returns-then-out-done
returns-then-out-done c = λ rest. filled_any _ _ _ _ c.if-out-done.true

pub returns : goal.returns
returns c = λ rest. rw (c.store.ensures, ← stored-part c.args.out.now c.args.done c.args.source.now c.min-n.result c.min-n.ensures (omega arith)) (filled_part c.args.out.now c.args.source.now rest c.args.done c.min-n.result (omega arith) c.min-n.ensures)
