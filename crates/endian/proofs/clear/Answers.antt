use Rattle.std.proofs.Common.{arith, rules, sym}
use Rattle.endian.proofs.Laws.{cleared-out, cleared-part}
use Rattle.endian.proofs.clear.Goals as goal

pub returns-then-at-len : goal.returns-then-at-len
returns-then-at-len c = cleared-part _ _ _ _ _ (search rules) c.min-k.ensures (omega arith)

pub returns-else-at-len : goal.returns-else-at-len
returns-else-at-len c = sym (cleared-out _ _ _ c.if-at-len.false)
