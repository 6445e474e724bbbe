use native.Mathlib.Omega.{arith}
use Rattle.file_sums.proofs.Laws.{entry-file, entry_directory, within_none, within_wider, within_file}
use Rattle.file_sums.proofs.add_entry.Goals as goal

pub returns-in-File : goal.returns-in-File
returns-in-File c = (λ name start. entry-file _ c.args.e name start _ c.in-File.is _ _ c.file_bytes.ensures c.one_if_many.ensures.0, within_file _ _ _ (omega (arith, c.file_bytes.ensures)) c.one_if_many.ensures.1)

pub returns-in-Directory : goal.returns-in-Directory
returns-in-Directory c = (λ name start. entry_directory _ c.args.e name start _ c.in-Directory.is, within_wider _ _ 0 1 (omega arith) (within_none _))
