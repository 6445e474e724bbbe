use Rattle.safe_rules.specs.SafePlans.{slot_blocks}
use Rattle.safe_stores.proofs.Stores.{all_inside}
use Rattle.anodes.specs.Loaded.{slots_from}
use mathlib.Core.Path.{◌∙◌}
use native.Mathlib.Omega.{arith}
use Rattle.write_lists.proofs.Laws.{writes_on}
use Rattle.safe_stores.proofs.put_end.Goals as goal

pub put_slots-end-requires : goal.put_slots-end-requires
put_slots-end-requires c = let s = c in (s.requires.by_index.0, omega (arith, s.requires.slots_in_bounds))

pub put_write-requires : goal.put_write-requires
put_write-requires c = let s = c in (s.requires.by_index.1, omega (arith, s.requires.slots_in_bounds, c.put_slots-end.ensures.1, c.put_slots-end.auto))

pub returns : goal.returns
unfolding slots_from
returns c = let s = c in
    let w = c.put_slots-end in
    c.put_write.ensures.0 ∙ writes_on s.args.out.now s.args.at s.args.image.now (slot_blocks (slots_from s.args.slots.now) 42) (all_inside s.args.image.now s.args.slots.now s.requires.by_index.0) _ _ w.ensures.0 w.ensures.1 _
