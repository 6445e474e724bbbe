use mathlib.Core.Path.{refl}
use Rattle.write_lists.proofs.Laws.{one_write}
use Rattle.write_lists.proofs.put_write.Goals as goal

pub returns : goal.returns
returns c = let x = c.args in
    (one_write x.out.now x.at x.image.now x.y.0 c.write16.new.bytes _ _ c.write16.ensures c.block_part.ensures c.store.ensures, refl)
