use Rattle.entry_pairs.proofs.Laws.{bytes-none, bytes-files, file-there}
use mathlib.Core.Path.{sym, ◌∙◌}
use mathlib.Core.Logic.{inl, inr}
use Rattle.entry_pairs.proofs.entry_bytes.Goals as goal

pub returns-then-is_directory : goal.returns-then-is_directory
returns-then-is_directory c = bytes-none _ _ _ _ c.requires.loaded.1 c.requires.loaded_2.1 (inl (sym c.is_directory.ensures ∙ c.if-is_directory.true))

pub returns-then-is_directory-2 : goal.returns-then-is_directory-2
returns-then-is_directory-2 c = bytes-none _ _ _ _ c.requires.loaded.1 c.requires.loaded_2.1 (inr (sym c.is_directory-2.ensures ∙ c.if-is_directory-2.true))

pub differing_bytes-requires : goal.differing_bytes-requires
differing_bytes-requires c = record { size_in_bounds = file-there _ _ _ _ _ c.requires.loaded.0 c.requires.loaded.1 (sym c.is_directory.ensures ∙ c.if-is_directory.false); other_size_in_bounds = file-there _ _ _ _ _ c.requires.loaded_2.0 c.requires.loaded_2.1 (sym c.is_directory-2.ensures ∙ c.if-is_directory-2.false) }

pub returns : goal.returns
returns c = bytes-files _ _ _ _ c.requires.loaded.1 c.requires.loaded_2.1 _ _ _ _ _ _ c.requires.loaded.0 c.requires.loaded_2.0 (sym c.is_directory.ensures ∙ c.if-is_directory.false) (sym c.is_directory-2.ensures ∙ c.if-is_directory-2.false) _ c.differing_bytes.ensures
