-- What growing the anode table on tables answers, in the terms of the rules.
use Rattle.std.specs.Prelude.{◌<◌, ◌≡◌, Bool, true, false, [], Option, Some, None}
use Rattle.std.proofs.Math.Option.{none, some}
use Rattle.disk.specs.declared.AnodeNo.{AnodeNo}
use Rattle.rules.specs.Anodes.{limit, exists_by}
use Rattle.rules.specs.Plans.{Slotted, Growth, no_growth, planned, refused}
use Rattle.rules.specs.Space.{lowest_free, with_spare}
use Rattle.rules.specs.Growth.{grown}

-- how slots grow where they may: as No. 6 says; else not at all
abbrev pub growth_if : Bool → Growth
growth_if true = grown limit
growth_if false = no_growth

-- the slots of s have grown, and t is left; or they cannot, and s is
abbrev pub GrownTo : Bool → Growth → Slotted → Slotted → Type 0
GrownTo true growth s t = growth s ≡ some t
GrownTo false growth s t = (growth s ≡ none) × (t ≡ s)

-- the anode that can be had from s, with the state t that has it free, if one can
abbrev pub SpareOf : Option AnodeNo → Growth → Slotted → Slotted → Type 0
SpareOf (Some a) growth s t = (a.0 < limit) × (with_spare limit growth s ≡ planned t []) × (lowest_free limit (exists_by t.slots) t.anodes ≡ a.0)
SpareOf None growth s t = with_spare limit growth s ≡ refused 28
