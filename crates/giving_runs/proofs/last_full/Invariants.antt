use mathlib.Core.Path.{◌≡◌}
use lib.ListN.{get_or}
use Rattle.giving_runs.specs.Runs.{last_full}
use Rattle.giving_runs.proofs.last_full.Given as goal

abbrev pub invariant-loop-i : goal.invariant-loop-i
invariant-loop-i l = last_full (λ a. get_or l.counts a 0) l.chain l.i ≡ last_full (λ a. get_or l.counts a 0) l.chain l.k
