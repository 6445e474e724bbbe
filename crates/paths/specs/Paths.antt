-- The tree of an image as a value (02, No. 7, 8, 13): what a path names. A path is a list of names from the root down, matched by folded names.
use Rattle.std.specs.Prelude.{ℕ, cond, List, [], ◌∷◌}
use Rattle.std.proofs.Math.Option.{Option, none, some}
use Rattle.rules.specs.Anodes.{Anodes, anodes_of}
use Rattle.rules.specs.Walk.{Entered}
use Rattle.rules.specs.Lookup.{entry_named, of_entry}

-- the names from the root down
abbrev pub Path : Type 0
Path = List (List ℕ)

-- a directory, by its head anode, and a name in it, whether an entry has that name or not
pub record Site : Type 0 where
  pub directory : ℕ
  pub name : List ℕ

-- the same in one line
abbrev pub site : ℕ → List ℕ → Site
site directory name = record { directory = directory; name = name }

-- where a path leads from the directory that h heads: the names before its last must name directories; the empty path leads nowhere
unfoldable pub site_from : List ℕ → Anodes → ℕ → Path → Option Site
site_from img s h [] = none
site_from img s h (name ∷ []) = some (site h name)
site_from img s h (name ∷ next ∷ rest) =
    of_entry (entry_named img s h name) (λ e. cond e.dir (site_from img s e.anode (next ∷ rest)) none) none

-- f of a site that is there, else x
abbrev pub of_site {ℓ} : {X : Type ℓ} → Option Site → (Site → X) → X → X
of_site none f x = x
of_site (some p) f x = f p

-- the entry that a path names, from the directory that h heads
unfoldable pub entry_from : List ℕ → Anodes → ℕ → Path → Option Entered
entry_from img s h path = of_site (site_from img s h path) (λ p. entry_named img s p.directory p.name) none

-- and from the root, which 5 heads
abbrev pub entry_at : List ℕ → Path → Option Entered
entry_at img path = entry_from img (anodes_of img) 5 path
