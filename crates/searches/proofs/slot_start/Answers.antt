use Rattle.searches.proofs.Searches.{start_first, start-later}
use Rattle.searches.proofs.slot_start.Goals as goal

pub returns-then-k-eq0 : goal.returns-then-k-eq0
returns-then-k-eq0 c = start_first _ c.if-k-eq0.true

pub returns : goal.returns
returns c = start-later _ c.if-k-eq0.false
