-- A difference as it is reported, in the terms of the paper, and how far a lent buffer is filled.
use Rattle.std.specs.Prelude.{ℕ, List, [], ◌∷◌}
use Rattle.differences.specs.Differences.{Difference, only_first, only_second, differing}
use Rattle.differences.specs.Handing.{Handing, handing_of}
use Rattle.handing.specs.declared.Both.{Both}
use Rattle.handing.specs.declared.Differs.{Differs}
use Rattle.handing.specs.declared.Differs.TheVariants.{OnlyFirst, OnlySecond, Differing}
use Rattle.handing.specs.declared.Handed.{Handed}

-- the difference that is reported
abbrev pub difference_of : Differs → Difference
difference_of (OnlyFirst first) = only_first first
difference_of (OnlySecond second) = only_second second
difference_of (Differing b) = differing b.first b.second b.fields b.byte b.many

-- a buffer and how far it is filled
abbrev pub handing_with : List ℕ → Handed → Handing
handing_with out c = handing_of out c.skip c.done

-- the six numbers of a difference of that kind
abbrev pub numbers_both : ℕ → Both → List ℕ
numbers_both kind b = kind ∷ b.first ∷ b.second ∷ b.fields ∷ b.byte ∷ b.many ∷ []

-- the places of an entry, and nothing that differs
abbrev pub only_places : ℕ → ℕ → Both
only_places first second = record { first = first; second = second; fields = 0; byte = 0; many = 0 }
