use borrow.Author.Tests.{lt-ltb, le-ltb}
use native.Mathlib.Omega.{arith}
use Rattle.lookup.proofs.Queue.{place_parent}
use Rattle.lookup.proofs.parent_of.Goals as goal

pub returns-in-Some : goal.returns-in-Some
returns-in-Some c = rw (place_parent _ _ _ _, c.in-Some.ensures.1, lt-ltb _ _ c.in-Some.ensures.0) c.entry.ensures

pub returns-in-None : goal.returns-in-None
returns-in-None c = let n = c.args.dirs in rw (place_parent _ _ _ _, c.in-None.ensures, le-ltb n n (omega arith))
