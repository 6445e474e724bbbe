use native.Mathlib.Omega.{arith}
use Rattle.safe_makes.proofs.Made.{list_made}
use Rattle.anodes.specs.Loaded.{slots_from}
use Rattle.safe_rules.specs.SafePlans.{slot_blocks}
use Rattle.safe_makes.proofs.list_make.Goals as goal

pub put_own-behind-requires : goal.put_own-behind-requires
put_own-behind-requires c = let s = c in (s.requires.own_in_bounds.0, omega (arith, s.requires.slots_in_bounds))

pub put_write-end-requires : goal.put_write-end-requires
put_write-end-requires c = let s = c in (s.requires.own_in_bounds.1, omega (arith, s.requires.slots_in_bounds, c.put_own-behind.ensures.1, c.put_own-behind.auto.out))

pub put_end-requires : goal.put_end-requires
put_end-requires c = let s = c in record { by_index = (s.requires.own_in_bounds.3, s.requires.own_in_bounds.2); slots_in_bounds = omega (arith, s.requires.slots_in_bounds, c.put_write-end.ensures.1, c.put_own-behind.ensures.1, c.put_own-behind.auto.out, c.put_write-end.auto.out) }

pub returns : goal.returns
returns c = let s = c in
    list_made s.args.image.now s.args.own.0 s.args.to.0 (slot_blocks (slots_from s.args.slots.now) 42) s.requires.own_in_bounds.0 s.requires.own_in_bounds.1 _ _ _ _ _ _ c.put_own-behind.ensures.0 c.put_own-behind.ensures.1 c.put_write-end.ensures.0 c.put_write-end.ensures.1 c.put_end.ensures
