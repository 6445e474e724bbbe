-- 02, No. 8, THE THREE THEOREMS OF SAFE UPDATES, whole, as Claims states them: of a plug that is pulled, of answer 27, and of the same effect as in place.
use Rattle.safe_rules.specs.SafeCalls.{safe_make, safe_resize, safe_write, safe_remove}
use Rattle.safe_laws.specs.Claims.{CrashTheorem, CountTheorem, EffectTheorem}
use Rattle.safe_laws.specs.Theorems as Counted
use Rattle.safe_laws.specs.SameEffect as Same
use Rattle.safe_laws.specs.CrashMake.{crash_make}
use Rattle.safe_laws.specs.CrashResize.{crash_resize}
use Rattle.safe_laws.specs.CrashWrite.{crash_write}
use Rattle.safe_laws.specs.CrashRemove.{crash_remove}

-- THE CRASH THEOREM: cut off after any number of whole block writes, a done safe call's image is sound, with the old tree until the root block is written and the new tree from then on.
pub crash_theorem : CrashTheorem
crash_theorem img blocks anodes buffer (safe_make h type name comment day minute tick protection) = crash_make img blocks anodes buffer h type name comment day minute tick protection
crash_theorem img blocks anodes buffer (safe_resize h name new) = crash_resize img blocks anodes buffer h name new
crash_theorem img blocks anodes buffer (safe_write h name offset bytes) = crash_write img blocks anodes buffer h name offset bytes
crash_theorem img blocks anodes buffer (safe_remove h name) = crash_remove img blocks anodes buffer h name

-- THE THEOREM OF 27: a safe call that 20 to 26 do not refuse answers 27 exactly if the free blocks are fewer than its new blocks.
pub count_theorem : CountTheorem
count_theorem = Counted.count_theorem

-- THE THEOREM OF THE SAME EFFECT: where a safe call and 01's call in place are both done, both leave the same tree, and the file that is named the same bytes in its blocks.
pub effect_theorem : EffectTheorem
effect_theorem = Same.effect_theorem
