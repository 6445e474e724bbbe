use native.Mathlib.Omega.{arith}
use Rattle.safe_stores.proofs.Staged.{list_put}
use Rattle.safe_resizes.proofs.list_resized.Goals as goal

pub put_chain-behind-requires : goal.put_chain-behind-requires
put_chain-behind-requires c = let s = c in record { inside = s.requires.inside.0; by_index = s.requires.inside.1; head_in_bounds = omega (arith, s.requires.slots_in_bounds) }

pub put_write-at-requires : goal.put_write-at-requires
put_write-at-requires c = let s = c in (s.requires.place_in_bounds.0, omega (arith, s.requires.slots_in_bounds, c.put_chain-behind.ensures.1, c.put_chain-behind.auto))

pub put_end-requires : goal.put_end-requires
put_end-requires c = let s = c in record { by_index = (s.requires.place_in_bounds.1, s.requires.place_in_bounds.2); slots_in_bounds = omega (arith, s.requires.slots_in_bounds, c.put_write-at.ensures.1, c.put_write-at.auto, c.put_chain-behind.ensures.1, c.put_chain-behind.auto) }

pub returns : goal.returns
returns c = let s = c in list_put s.args.image.now _ _ _ s.requires.inside.0 s.requires.place_in_bounds.0 s.args.out.now _ _ _ _ _ c.put_chain-behind.ensures.0 c.put_chain-behind.ensures.1 c.put_write-at.ensures.0 c.put_write-at.ensures.1 c.put_end.ensures
