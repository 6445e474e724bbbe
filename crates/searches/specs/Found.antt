-- What the searches answer, in the terms of the rules.
use Rattle.std.specs.Prelude.{Option, None, Some}
use Rattle.rules.specs.Space.{Found, nowhere, found}
use Rattle.rules.specs.Searched.{Searched, searched_to}
use Rattle.searches.specs.declared.Extent.{Extent}
use Rattle.searches.specs.declared.Searched as code

-- an extent found in the tables
abbrev pub found_of : Option Extent → Found
found_of None = nowhere
found_of (Some e) = found e.before.0 e.anode.0

-- an anode found in the tables, and how many were read
abbrev pub searched_of : code.Searched → Searched
searched_of r = searched_to r.anode.0 r.read
