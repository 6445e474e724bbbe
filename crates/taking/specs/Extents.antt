-- The extent that the next block of data comes from.
use Rattle.std.specs.Prelude.{false, Option, None, Some}
use Rattle.rules.specs.Anodes.{Anodes}
use Rattle.searches.specs.declared.Extent.{Extent}
use Rattle.rules.specs.Space.{Found, found, free_extent}

-- the one that is known, else the first that is found
abbrev pub extent_left : Option Extent → Anodes → Found
extent_left None s = free_extent 3444 false s
extent_left (Some e) s = found e.before.0 e.anode.0
