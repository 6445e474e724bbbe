use Rattle.pfs.proofs.Names.{given_name}
use Rattle.pfs.proofs.pfs_list.Goals as goal

pub returns-in-Ok : goal.returns-in-Ok
returns-in-Ok c = given_name _ _ _ _ _ _ _ _ _ _ (rw c.in-Ok.is at c.list.ensures.outcome)

pub returns-in-Err : goal.returns-in-Err
returns-in-Err c = rw c.from.ensures (given_name _ _ _ _ _ _ _ _ _ _ (rw c.in-Err.is at c.list.ensures.outcome))
