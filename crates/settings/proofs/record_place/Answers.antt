use Rattle.settings.specs.Files.{record_place, record_length}
use native.Mathlib.Omega.{arith}
use Rattle.settings.specs.Laws.{place_small}
use borrow.Author.Rules.{rules}
use Rattle.settings.proofs.record_place.Goals as goal

pub overflow_mul-result : goal.overflow_mul-result
unfolding record_place record_length
overflow_mul-result c = omega (arith, place_small c.args.form c.args.i c.requires.0 c.requires.1)

pub returns : goal.returns
unfolding record_place record_length
returns c = (search rules, place_small c.args.form c.args.i c.requires.0 c.requires.1)
