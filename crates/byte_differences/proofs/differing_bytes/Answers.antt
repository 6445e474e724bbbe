use mathlib.Core.Path.{◌∙◌}
use native.Mathlib.Omega.{arith}
use Rattle.byte_differences.proofs.Comparing.{compared-most, whole}
use Rattle.byte_differences.proofs.differing_bytes.Goals as goal

pub with_past-requires : goal.with_past-requires
with_past-requires c = omega (arith, compared-most _ _ _ _ c.compare_common-d.ensures)

pub returns : goal.returns
returns c = c.with_past.ensures ∙ whole _ _ _ _ _ _ c.requires.size_in_bounds c.requires.other_size_in_bounds c.min-common.ensures (omega arith) _ c.compare_common-d.ensures
