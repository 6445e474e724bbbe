-- No. 7: in an accepted image every entry is found at its own path, and the path of a reached directory leads to it.
use Prim.Native.Nat.{ℕ, zero, suc, ◌+◌, ◌≤◌}
use Rattle.std.specs.Prelude.{◌≡◌, refl, true, List, [], ◌∷◌, ◌++◌}
use Rattle.std.proofs.Common.{sym, ◌∙◌, append_assoc, arith}
use Rattle.std.proofs.Math.Path.{ap}
use Rattle.std.proofs.Math.Option.{Option, none, some}
use Rattle.rules.specs.Anodes.{Anodes, limit, anodes_of}
use Rattle.rules.specs.Walk.{Entered}
use Rattle.rules.specs.Folding.{folded}
use Rattle.rules.specs.Lookup.{entries_of, entry_named}
use Rattle.laws.specs.Apart.{one_same, one_same-same}
use Rattle.laws.specs.Members.{member-sum}
use Rattle.laws.specs.NamesApart.{accepted-names_apart, none-counted}
use Rattle.change_laws.specs.Image.{AcceptedImage, ReachedDir}
use Rattle.change_laws.specs.Reached.{EntryIn, Reaches, top, under, walked_reaches, reaches_walked}
use Rattle.paths.specs.Paths.{Path, site, site_from, entry_from, entry_at}
use Rattle.differences.specs.Listed.{directory_path, entry_path}
use Rattle.difference_laws.specs.Complete.{height, lower_than, path_step, lower_more, lower_few, root-path}

-- an entry of a reached directory is what its name finds there
pub own_name : {img : List ℕ} {h : ℕ} {e : Entered} → EntryIn img h e → entry_named img (anodes_of img) h e.name ≡ some e
unfolding entry_named
own_name {img} {h} {e} m = go (entry_named img (anodes_of img) h e.name) refl
  where
    l : List Entered
    l = entries_of img (anodes_of img) h

    go : (o : Option Entered) → entry_named img (anodes_of img) h e.name ≡ o → entry_named img (anodes_of img) h e.name ≡ some e
    go none is = absurd (omega (
      arith,
      none-counted e.name l is,
      member-sum (λ x. one_same (folded x.name) (folded e.name)) e l m.member,
      one_same-same (folded e.name),
    ))
    go (some x) is =
        let a = m.directory.image in
        is ∙ ap (λ (y : Entered). some y) (sym ((accepted-names_apart img a.blocks a.anodes a.accepted).only h m.directory.reached e.name x is e m.member refl))

module _ {img : List ℕ} (image : AcceptedImage img) where
  abbrev s : Anodes
  s = anodes_of img

  -- from the root the path of the directory h leads to h, where it may be as deep as `deep`, which is no more than there are directories above
  record Leads (h : ℕ) : Type 0 where
    deep : ℕ
    few : deep + lower_than image (height image h) ≤ lower_than image (height image 5)
    same : (k : ℕ) → deep ≤ k → (name : List ℕ) (rest : Path) → site_from img s 5 (directory_path img s k h ++ (name ∷ rest)) ≡ site_from img s h (name ∷ rest)

  -- a directory that an entry of g names
  module _ (g : ℕ) (e : Entered) (m : EntryIn img g e) (dir : e.dir ≡ true) (l : Leads g) where
    step : (k : ℕ) → suc l.deep ≤ k → (name : List ℕ) (rest : Path) → site_from img s 5 (directory_path img s k e.anode ++ (name ∷ rest)) ≡ site_from img s e.anode (name ∷ rest)
    unfolding site_from
    step zero deep name rest = absurd (omega arith)
    step (suc k) deep name rest =
        ap (λ (p : Path). site_from img s 5 (p ++ (name ∷ rest))) (path_step image g m.directory.reached e.name e (own_name m) dir k)
        ∙ ap (site_from img s 5) (append_assoc (directory_path img s k g) (e.name ∷ []) (name ∷ rest))
        ∙ l.same k (omega arith) e.name (name ∷ rest)
        ∙ rw (own_name m, dir)

    under_leads : Leads e.anode
    under_leads = record { deep = suc l.deep; few = omega (arith, l.few, lower_more image g m.directory.reached e.name e (own_name m) dir); same = step }

  -- so it is for every directory, by steps from the root
  leads : (h : ℕ) → Reaches img h → Leads h
  leads h top = record { deep = 0; few = omega arith; same = λ k l name rest. rw (root-path image k) }
  leads h (under g e r m dir) = under_leads g e (record { directory = record { image = image; reached = reaches_walked image g r }; member = m }) dir (leads g r)

-- the path of a reached directory leads to it, and what is behind goes on from there
pub own_way : {img : List ℕ} {h : ℕ} → ReachedDir img h → (name : List ℕ) (rest : Path) →
    site_from img (anodes_of img) 5 (directory_path img (anodes_of img) limit h ++ (name ∷ rest)) ≡ site_from img (anodes_of img) h (name ∷ rest)
own_way {img} {h} r name rest =
    let l = leads r.image h (walked_reaches r.image h r.reached) in
    l.same limit (omega (arith, l.few, lower_few r.image (height r.image 5))) name rest

-- so with a name behind it, it leads to that name in the directory
pub own_directory : {img : List ℕ} {h : ℕ} → ReachedDir img h → (name : List ℕ) → site_from img (anodes_of img) 5 (directory_path img (anodes_of img) limit h ++ (name ∷ [])) ≡ some (site h name)
unfolding site_from
own_directory r name = own_way r name []

-- EVERY ENTRY IS FOUND AT ITS OWN PATH
pub own_path : {img : List ℕ} {h : ℕ} {e : Entered} → EntryIn img h e → entry_at img (entry_path img (anodes_of img) h e) ≡ some e
unfolding entry_from entry_path
own_path {e = e} m = rw (own_directory m.directory e.name) (own_name m)
