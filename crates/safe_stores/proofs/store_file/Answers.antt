use mathlib.Core.Path.{refl, ◌∙◌}
use Rattle.safe_stores.proofs.Stores.{entry_naming, file-stored}
use Rattle.safe_stores.proofs.store_file.Goals as goal

pub returns : goal.returns
returns c = let s = c in let e = entry_naming s.args.head.0 in c.write_along.ensures e refl ∙ file-stored _ _ e _ s.requires.inside_once.0 s.requires.bytes_len
