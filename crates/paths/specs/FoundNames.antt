-- What a name finds in a directory: it has that name after folding, and names that fold alike find the same.
use Rattle.std.specs.Prelude.{ℕ, ◌≡◌, refl, Bool, true, false, List, [], ◌∷◌}
use Rattle.std.proofs.Common.{sym, ap, ap₂}
use Rattle.std.proofs.Math.Option.{Option, some, none-ne-some, some-injective}
use Rattle.rules.specs.Counting.{same_bytes}
use Rattle.rules.specs.Anodes.{Anodes}
use Rattle.rules.specs.Walk.{Entered}
use Rattle.rules.specs.Folding.{folded}
use Rattle.rules.specs.Lookup.{entries_of, is_named, first_named, entry_named}
use Rattle.laws.specs.Apart.{same_name}

found_name : (name : List ℕ) (l : List Entered) (e : Entered) → first_named name l ≡ some e → folded e.name ≡ folded name
unfolding first_named is_named
found_name name [] e is = absurd (none-ne-some e is)
found_name name (x ∷ l) e is = go (same_bytes (folded x.name) (folded name)) refl is (found_name name l e)
  where
    go : (t : Bool) → same_bytes (folded x.name) (folded name) ≡ t → elim t [ true ↦ some x | false ↦ first_named name l ] ≡ some e →
        (first_named name l ≡ some e → folded e.name ≡ folded name) → folded e.name ≡ folded name
    go true same is rest = rw (sym (some-injective x e is)) (same_name (folded x.name) (folded name) (rw same tt))
    go false same is rest = rest is

-- the name that was looked for, after folding
pub named_name : (img : List ℕ) (s : Anodes) (h : ℕ) (name : List ℕ) (e : Entered) → entry_named img s h name ≡ some e → folded e.name ≡ folded name
unfolding entry_named
named_name img s h name e is = found_name name (entries_of img s h) e is

first-folded : (name other : List ℕ) → folded name ≡ folded other → (l : List Entered) → first_named name l ≡ first_named other l
unfolding first_named is_named
first-folded name other e [] = refl
first-folded name other e (x ∷ l) =
    ap₂ (λ (b : Bool) (o : Option Entered). elim b [ true ↦ some x | false ↦ o ])
    (ap (λ (n : List ℕ). same_bytes (folded x.name) n) e) (first-folded name other e l)

-- names that fold alike find the same entry
pub named-folded : (img : List ℕ) (s : Anodes) (h : ℕ) (name other : List ℕ) → folded name ≡ folded other → entry_named img s h name ≡ entry_named img s h other
unfolding entry_named
named-folded img s h name other e = first-folded name other e (entries_of img s h)
