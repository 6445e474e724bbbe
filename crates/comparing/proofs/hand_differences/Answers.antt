use mathlib.Core.Path.{refl}
use Rattle.names.proofs.Laws.{indexed_none}
use Rattle.find.proofs.Laws.{queued-reached, open_unbroken}
use Rattle.comparing.proofs.Whole.{handed_whole}
use Rattle.comparing.proofs.hand_differences.Goals as goal

pub compare_walk-c-requires : goal.compare_walk-c-requires
compare_walk-c-requires c = record { open_walk = c.requires.open_walk; loaded = (c.requires.open_walk_2.2.loaded, indexed_none _); met_value = refl }

pub hand_unmet-requires : goal.hand_unmet-requires
hand_unmet-requires c = λ i l. let o = c.requires.open_walk_2.2 in open_unbroken o _ (queued-reached o i l)

pub returns : goal.returns
returns c = handed_whole c.requires.open_walk c.requires.open_walk_2 _ _ _ _ _ c.compare_walk-c.ensures.pairs c.compare_walk-c.ensures.differences c.hand_unmet.ensures
