-- The table of the entries that were met, path by path: an entry is marked exactly if one of the paths names it.
use Rattle.std.specs.Prelude.{ℕ, ◌<◌, ◌≡◌, ◌≢◌, length}
use Rattle.std.proofs.Math.Path.{refl}
use Rattle.std.proofs.Common.{sym, ap, ◌∙◌, length-set, get_or-set_same}
use Rattle.std.proofs.Math.Logic.{inl, inr}
use mathlib.Core.List.{List, [], ◌∷◌, ◌++◌}
use Rattle.std.proofs.Math.Option.{Option, none, some}
use Rattle.std.proofs.Math.ListN.{get_or}
use Rattle.std.proofs.Math.Seq.{get_or-set_other}
use Rattle.rules.specs.Walk.{Entered}
use Rattle.laws.specs.Tests.{same?}
use Rattle.laws.specs.Members.{Member, no_member, member-first, member-later, member-cons}
use Rattle.paths.specs.Paths.{Path, entry_at}
use Rattle.differences.specs.Pairs.{met_by}

-- one entry more keeps the table's length
met_length : (met : List ℕ) (o : Option Entered) → length (met_by met o) ≡ length met
met_length met none = refl
met_length met (some f) = length-set met f.anode 1

-- and its marks
mark_stays : (met : List ℕ) (o : Option Entered) (x : ℕ) → x < length met → get_or met x 0 ≡ 1 → get_or (met_by met o) x 0 ≡ 1
mark_stays met none x l h = h
mark_stays met (some f) x l h = elim (same? x f.anode) [
  | inl q ↦ rw (← q) (get_or-set_same met x 1 0 l)
  | inr q ↦ get_or-set_other met f.anode x 1 0 q ∙ h
]

module _ (j : List ℕ) where
  -- the table with the entries that these paths name in the second
  unfoldable pub met_along : List ℕ → List Path → List ℕ
  met_along met [] = met
  met_along met (path ∷ rest) = met_along (met_by met (entry_at j path)) rest

  pub met_append : (met : List ℕ) (l m : List Path) → met_along met (l ++ m) ≡ met_along (met_along met l) m
  unfolding met_along
  met_append met [] m = refl
  met_append met (path ∷ l) m = met_append (met_by met (entry_at j path)) l m

  marks_stay : (l : List Path) (met : List ℕ) (x : ℕ) → x < length met → get_or met x 0 ≡ 1 → get_or (met_along met l) x 0 ≡ 1
  unfolding met_along
  marks_stay [] met x b h = h
  marks_stay (path ∷ l) met x b h = marks_stay l (met_by met (entry_at j path)) x (rw (met_length met (entry_at j path)) b) (mark_stays met (entry_at j path) x b h)

  -- an entry that one of them names is marked
  pub marked : (l : List Path) (met : List ℕ) (path : Path) (f : Entered) → Member path l → entry_at j path ≡ some f → f.anode < length met → get_or (met_along met l) f.anode 0 ≡ 1
  unfolding met_along
  marked [] met path f m is b = absurd (no_member path m)
  marked (p ∷ l) met path f m is b = elim (member-cons path p l m) [
    | inl q ↦ marks_stay l (met_by met (entry_at j p)) f.anode (rw (met_length met (entry_at j p)) b) (here (ap (entry_at j) (sym q) ∙ is))
    | inr q ↦ marked l (met_by met (entry_at j p)) path f q is (rw (met_length met (entry_at j p)) b)
  ]
    where
      here : entry_at j p ≡ some f → get_or (met_by met (entry_at j p)) f.anode 0 ≡ 1
      here e = rw e (get_or-set_same met f.anode 1 0 b)

  -- an anode that no entry has that they name is not
  pub unmarked : (l : List Path) (met : List ℕ) (x : ℕ) → ((path : Path) → Member path l → (f : Entered) → entry_at j path ≡ some f → f.anode ≢ x) → get_or met x 0 ≡ 0 → get_or (met_along met l) x 0 ≡ 0
  unfolding met_along
  unmarked [] met x others h = h
  unmarked (p ∷ l) met x others h = unmarked l (met_by met (entry_at j p)) x (λ path m. others path (member-later path p l m)) (go (entry_at j p) refl)
    where
      go : (o : Option Entered) → entry_at j p ≡ o → get_or (met_by met o) x 0 ≡ 0
      go none e = h
      go (some f) e = get_or-set_other met f.anode x 1 0 (λ i. others p (member-first p l) f e (sym i)) ∙ h
