-- What one entry hands out, by the table of those that were met. Assumes nothing.
use Prim.Native.Nat.{ℕ}
use mathlib.Core.Path.{◌≡◌}
use mathlib.Core.Logic.{◌≢◌}
use mathlib.Core.List.{List}
use lib.ListN.{get_or}
use borrow.Author.Tests.{eq-eqb, ne_eqb}
use Rattle.rules.specs.Walk.{Entered}
use Rattle.differences.specs.Differences.{only_second}
use Rattle.differences.specs.Pairs.{unmet}
use Rattle.differences.specs.Handing.{Handing, hand_out, hand_all}

module _ (met : List ℕ) (e : Entered) (h : Handing) where
  -- one that was met: nothing
  pub hand_met : get_or met e.anode 0 ≢ 0 → hand_all h (unmet met e) ≡ h
  unfolding unmet hand_all
  hand_met n = rw (ne_eqb (get_or met e.anode 0) 0 n)

  -- one that was not: its place
  pub hand_not_met : get_or met e.anode 0 ≡ 0 → hand_all h (unmet met e) ≡ hand_out h (only_second e.start)
  unfolding unmet hand_all
  hand_not_met z = rw (eq-eqb (get_or met e.anode 0) 0 z)
