-- An accepted image with the block table that the check filled, what it loaded, and its tally.
use Rattle.std.specs.Prelude.{ℕ, ◌≡◌, List, ◌++◌}
use Rattle.rules.specs.Anodes.{anodes_of}
use Rattle.rules.specs.Chains.{block_count}
use Rattle.rules.specs.Tables.{block_table}
use Rattle.rules.specs.Calls.{file_count, dir_count}
use Rattle.fsck.specs.declared.Tally.{Tally}
use Rattle.find.specs.Open.{Open}

-- all that a report reads of it
pub record Reportable (img table firsts nexts queue : List ℕ) (t : Tally) : Type 0 where
  pub counts : List ℕ
  pub parents : List ℕ
  pub heads : List ℕ
  pub rest : List ℕ
  pub is_open : Open img counts firsts nexts queue parents heads t.dirs
  pub shown : table ≡ block_table img (anodes_of img) ++ rest
  pub free : t.free ≡ block_count (anodes_of img) 1
  pub files : t.files ≡ file_count img (anodes_of img)
  pub dirs : t.dirs ≡ dir_count img (anodes_of img)
