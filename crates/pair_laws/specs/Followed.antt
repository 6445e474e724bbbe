-- Where a path comes to as a whole, every name of it a directory's: what it names with a name behind it, and with a directory behind it.
use Rattle.std.specs.Prelude.{ℕ, zero, suc, ◌⊎◌, Bool}
use Rattle.std.proofs.Math.Path.{◌≡◌, refl, sym}
use Rattle.std.proofs.Common.{◌∙◌, inl, inr}
use Rattle.std.proofs.Math.Bool.{true, false, cond}
use mathlib.Core.List.{List, [], ◌∷◌, ◌++◌}
use Rattle.std.proofs.Math.Option.{Option, none, some}
use Rattle.rules.specs.Counting.{gather}
use Rattle.rules.specs.Anodes.{Anodes, limit, anodes_of}
use Rattle.rules.specs.Chains.{chain_of}
use Rattle.rules.specs.Walk.{Entered}
use Rattle.rules.specs.Lookup.{entries_of, first_named, entry_named, of_entry}
use Rattle.change_laws.specs.Image.{ReachedDir}
use Rattle.paths.specs.Paths.{Path, site_from, of_site, entry_from}
use Rattle.paths.specs.Reached.{found_in, sub-reached}

-- the directory that an entry names, by its head anode, else 0
abbrev pub directory_of : Option Entered → ℕ
directory_of o = of_entry o (λ e. cond e.dir e.anode 0) 0

-- no anode follows 0
chain-none : (next : ℕ → ℕ) (k : ℕ) → chain_of next k 0 ≡ []
unfolding chain_of
chain-none next zero = refl
chain-none next (suc k) = refl

module _ (img : List ℕ) (s : Anodes) where
  -- the directory that a path comes to from the one that h heads, by its head anode; 0 where a name of it is no directory's
  unfoldable pub comes_to : ℕ → Path → ℕ
  comes_to h [] = h
  comes_to h (name ∷ rest) = of_entry (entry_named img s h name) (λ e. cond e.dir (comes_to e.anode rest) 0) 0

  -- 0 heads no directory: no name is found there
  nothing_named : (name : List ℕ) → entry_named img s 0 name ≡ none
  unfolding entry_named entries_of gather first_named
  nothing_named name = rw (chain-none s.next limit)

  -- a path of two names or more goes on from the directory that its first names
  path_on : (h : ℕ) (x y : List ℕ) (rest : Path) →
      entry_from img s h (x ∷ y ∷ rest) ≡ of_entry (entry_named img s h x) (λ e. cond e.dir (entry_from img s e.anode (y ∷ rest)) none) none
  unfolding entry_from site_from
  path_on h x y rest = go (entry_named img s h x)
    where
      at_dir : (b : Bool) (k : ℕ) → of_site (cond b (site_from img s k (y ∷ rest)) none) (λ p. entry_named img s p.directory p.name) none ≡ cond b (entry_from img s k (y ∷ rest)) none
      at_dir true k = refl
      at_dir false k = refl

      go : (o : Option Entered) → of_site (of_entry o (λ e. cond e.dir (site_from img s e.anode (y ∷ rest)) none) none) (λ p. entry_named img s p.directory p.name) none
          ≡ of_entry o (λ e. cond e.dir (entry_from img s e.anode (y ∷ rest)) none) none
      go none = refl
      go (some e) = at_dir e.dir e.anode

  -- the same where a name stands behind it
  name_on : (h : ℕ) (x : List ℕ) (rest : Path) (name : List ℕ) →
      entry_from img s h (x ∷ (rest ++ (name ∷ []))) ≡ of_entry (entry_named img s h x) (λ e. cond e.dir (entry_from img s e.anode (rest ++ (name ∷ []))) none) none
  name_on h x [] name = path_on h x name []
  name_on h x (y ∷ rest) name = path_on h x y (rest ++ (name ∷ []))

  -- with a name behind it a path names what that name finds in the directory that it comes to
  pub name_behind : (path : Path) (h : ℕ) (name : List ℕ) → entry_from img s h (path ++ (name ∷ [])) ≡ entry_named img s (comes_to h path) name
  unfolding comes_to entry_from site_from
  name_behind [] h name = refl
  name_behind (x ∷ rest) h name = name_on h x rest name ∙ go (entry_named img s h x) (λ k. name_behind rest k name)
    where
      at_dir : (b : Bool) (k : ℕ) → entry_from img s k (rest ++ (name ∷ [])) ≡ entry_named img s (comes_to k rest) name →
          cond b (entry_from img s k (rest ++ (name ∷ []))) none ≡ entry_named img s (cond b (comes_to k rest) 0) name
      at_dir true k deeper = deeper
      at_dir false k deeper = sym (nothing_named name)

      go : (o : Option Entered) → ((k : ℕ) → entry_from img s k (rest ++ (name ∷ [])) ≡ entry_named img s (comes_to k rest) name) →
          of_entry o (λ e. cond e.dir (entry_from img s e.anode (rest ++ (name ∷ []))) none) none ≡ entry_named img s (of_entry o (λ e. cond e.dir (comes_to e.anode rest) 0) 0) name
      go none deeper = sym (nothing_named name)
      go (some e) deeper = at_dir e.dir e.anode (deeper e.anode)

  -- and comes to the directory that is named so
  pub directory_behind : (path : Path) (h : ℕ) (name : List ℕ) → comes_to h (path ++ (name ∷ [])) ≡ directory_of (entry_named img s (comes_to h path) name)
  unfolding comes_to
  directory_behind [] h name = refl
  directory_behind (x ∷ rest) h name = go (entry_named img s h x) (λ k. directory_behind rest k name)
    where
      nowhere : ◌≡◌ {A = ℕ} 0 (directory_of (entry_named img s 0 name))
      nowhere = rw (nothing_named name)

      at_dir : (b : Bool) (k : ℕ) → comes_to k (rest ++ (name ∷ [])) ≡ directory_of (entry_named img s (comes_to k rest) name) →
          cond b (comes_to k (rest ++ (name ∷ []))) 0 ≡ directory_of (entry_named img s (cond b (comes_to k rest) 0) name)
      at_dir true k deeper = deeper
      at_dir false k deeper = nowhere

      go : (o : Option Entered) → ((k : ℕ) → comes_to k (rest ++ (name ∷ [])) ≡ directory_of (entry_named img s (comes_to k rest) name)) →
          of_entry o (λ e. cond e.dir (comes_to e.anode (rest ++ (name ∷ []))) 0) 0 ≡ directory_of (entry_named img s (of_entry o (λ e. cond e.dir (comes_to e.anode rest) 0) 0) name)
      go none deeper = nowhere
      go (some e) deeper = at_dir e.dir e.anode (deeper e.anode)

-- h heads a reached directory, or none
abbrev pub NoneOrReached : List ℕ → ℕ → Type 0
NoneOrReached img h = (h ≡ 0) ⊎ ReachedDir img h

-- from a reached directory a path comes to a reached one, or to none
pub comes_reached : {img : List ℕ} (path : Path) (h : ℕ) → ReachedDir img h → NoneOrReached img (comes_to img (anodes_of img) h path)
unfolding comes_to
comes_reached [] h r = inr r
comes_reached {img} (name ∷ rest) h r = go (entry_named img (anodes_of img) h name) refl (comes_reached rest)
  where
    go : (o : Option Entered) → entry_named img (anodes_of img) h name ≡ o → ((k : ℕ) → ReachedDir img k → NoneOrReached img (comes_to img (anodes_of img) k rest)) →
        NoneOrReached img (of_entry o (λ e. cond e.dir (comes_to img (anodes_of img) e.anode rest) 0) 0)
    go none found deeper = inl refl
    go (some e) found deeper = at_dir e.dir refl
      where
        at_dir : (b : Bool) → e.dir ≡ b → NoneOrReached img (cond b (comes_to img (anodes_of img) e.anode rest) 0)
        at_dir true dir = deeper e.anode (sub-reached (found_in r name e found) dir)
        at_dir false dir = inl refl
