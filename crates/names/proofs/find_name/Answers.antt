use Rattle.names.proofs.Laws.{last-le}
use Rattle.names.proofs.find_name.Goals as goal

pub returns : goal.returns
returns c = (c.last_named.ensures, rw c.last_named.ensures (last-le _ _))
