use mathlib.Core.Path.{◌∙◌}
use native.Mathlib.Omega.{arith}
use Rattle.placing.proofs.Tables.{unlinked_tables}
use Rattle.placing.proofs.unlink.Goals as goal

pub returns : goal.returns
returns c = let pre = c.requires in c.rewrite.ensures _ ∙ rw (c.set_entry-2.ensures, c.set_entry.ensures, c.entry-next.ensures) (unlinked_tables _ _ _ _ _ (omega (arith, pre.0, pre.2.2)) (omega (arith, pre.1, pre.2.2)))
