use Rattle.anodes.specs.Loaded.{anodes_from}
use Rattle.placing.proofs.Found.{passed_on}
use Rattle.giving_back.proofs.Giving.{end_fits, back_stops, back-goes}
use Rattle.giving_back.proofs.give_block.Goals as goal

pub join-requires : goal.join-requires
unfolding anodes_from
join-requires c = let s = c in
    let w = end_fits _ _ _ _ _ _ s.requires.ends_of.0 s.requires.ends_of.1.1 _ c.end_of-z.ensures in
    record { z_bound = (w.0, s.requires.anode_tables.0); z_bound_2 = (w.1, w.2) }

pub returns-in_err-join : goal.returns-in_err-join
unfolding anodes_from
returns-in_err-join c = let s = c in rw (passed_on c.from_residual.result _ c.from_residual.ensures.1) (back_stops _ _ _ _ _ _ s.requires.ends_of.0 s.requires.ends_of.1.1 _ c.end_of-z.ensures _ _ c.join.ensures.plan _ c.in_err-join.was)

pub returns : goal.returns
unfolding anodes_from
returns c = let s = c in back-goes _ _ _ _ _ _ s.requires.ends_of.0 s.requires.ends_of.1.1 _ c.end_of-z.ensures _ _ c.join.ensures.plan _ c.in_ok-join.was _ c.ends_after.ensures.0 c.ends_after.ensures.1
