use native.Mathlib.Omega.{arith}
use borrow.Author.Tests.{le-ltb, lt-ltb}
use Rattle.chains.proofs.ends_past.Goals as goal

pub returns-then-count-eq0 : goal.returns-then-count-eq0
returns-then-count-eq0 c = rw (le-ltb 0 c.args.count (omega arith))

pub returns : goal.returns
returns c = rw (lt-ltb 0 c.args.count (omega arith))
