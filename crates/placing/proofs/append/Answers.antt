use mathlib.Core.Path.{sym}
use Rattle.searches.proofs.Searches.{anode_found_lem}
use Rattle.placing.proofs.Cases.{append-none, append_some}
use Rattle.placing.proofs.append.Goals as goal

pub returns-then-f-ge3444-clause-plan : goal.returns-then-f-ge3444-clause-plan
returns-then-f-ge3444-clause-plan c = sym (append-none _ _ _ _ _ _ _ _ (anode_found_lem _ _ _ _ _ (c.lowest_free.ensures _ _)) c.if-f-ge3444.true)

pub returns-clause-plan : goal.returns-clause-plan
returns-clause-plan c = rw c.insert_after.ensures (sym (append_some _ _ _ _ _ _ _ _ (anode_found_lem _ _ _ _ _ (c.lowest_free.ensures _ _)) c.if-f-ge3444.false))
