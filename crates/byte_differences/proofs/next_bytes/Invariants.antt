use mathlib.Core.Path.{◌≡◌}
use lib.ListN.{length}
use Rattle.links.specs.Links.{anodes_left}
use Rattle.byte_differences.specs.BytesCompared.{extents_of, to_come, PlaceWithin}
use Rattle.byte_differences.proofs.next_bytes.Given as goal

abbrev pub invariant-loop-place : goal.invariant-loop-place
invariant-loop-place l = PlaceWithin l.image l.place × (to_come l.image (extents_of l.counts l.firsts) l.place ≡ to_come l.image (extents_of l.counts l.firsts) l.initial.place)

abbrev pub decreases-loop-place : goal.decreases-loop-place
decreases-loop-place l = length (anodes_left l.place.behind)
