use Rattle.entry_pairs.proofs.Laws.{hand_single}
use mathlib.Core.Path.{refl, ap, ◌∙◌}
use Rattle.std.specs.Prelude.{Option}
use Rattle.lookup.specs.declared.EntryAt.{EntryAt}
use Rattle.lookup.specs.Answers.{entry_of}
use Rattle.entry_pairs.proofs.compare_entry.Goals as goal

pub hand_both-requires-clause-loaded_2 : goal.hand_both-requires-clause-loaded_2
hand_both-requires-clause-loaded_2 c = (c.requires.loaded_2.0, c.requires.loaded_2.1 _ (ap (λ (x : Option EntryAt). entry_of c.args.other.now x) c.in-Some.is))

pub returns-in-None-clause-difference : goal.returns-in-None-clause-difference
returns-in-None-clause-difference c = rw c.in-None.is (c.hand_out.ensures ∙ hand_single _ _ _ refl)
