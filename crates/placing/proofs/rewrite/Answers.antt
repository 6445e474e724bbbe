use native.Mathlib.Omega.{arith}
use Rattle.placing.proofs.Tables.{rewritten_tables}
use Rattle.placing.proofs.rewrite.Goals as goal

pub returns : goal.returns
returns c = let pre = c.requires in λ n. rw (c.set_entry.ensures, c.set_entry-2.ensures) (rewritten_tables _ _ n _ _ _ (omega (arith, pre.0, pre.1)) (omega (arith, pre.0, pre.2)))
