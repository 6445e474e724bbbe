use mathlib.Core.Path.{sym, ◌∙◌}
use Rattle.chains.proofs.FreeList.{free_list}
use Rattle.chains.proofs.wrong_free_list.Goals as goal

pub returns-then-wrong_before_two : goal.returns-then-wrong_before_two
returns-then-wrong_before_two c = sym (free_list _ _ ∙ rw (← c.wrong_before_two.ensures, c.if-wrong_before_two.true))

pub returns : goal.returns
returns c = sym (free_list _ _ ∙ rw (← c.wrong_before_two.ensures, c.if-wrong_before_two.false, c.wrong_from_two.ensures))
