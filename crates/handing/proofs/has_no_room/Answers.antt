use lib.ListN.{length}
use Prim.Native.Nat.{◌+◌}
use mathlib.Core.Path.{sym}
use native.Mathlib.Omega.{arith}
use borrow.Author.Tests.{lt-ltb}
use Rattle.handing.proofs.Laws.{full-same}
use Rattle.handing.proofs.has_no_room.Goals as goal

pub returns-then-len-lt6 : goal.returns-then-len-lt6
returns-then-len-lt6 c = sym (lt-ltb (length c.args.out.now) (c.args.c.done + 6) (omega arith))

pub returns : goal.returns
returns c = full-same _ _ c.if-len-lt6.false
