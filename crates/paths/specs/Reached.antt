-- Paths in an accepted image: what a name finds stands in a reached directory, and a path leads to one.
use Rattle.std.specs.Prelude.{ℕ, suc, ◌≤◌, ◌<◌, ◌≡◌, Bool}
use Rattle.std.proofs.Math.Path.{refl, ap}
use Rattle.std.proofs.Common.{sym, ◌∙◌}
use Rattle.std.proofs.Math.Logic.{inl, inr}
use Rattle.std.proofs.Math.Bool.{true, false, cond}
use mathlib.Core.List.{List, [], ◌∷◌}
use Rattle.std.proofs.Math.Option.{Option, none, some, none-ne-some, some-injective}
use native.Mathlib.Omega.{arith}
use Rattle.rules.specs.Counting.{one_at, sum_list}
use Rattle.rules.specs.Anodes.{Anodes, limit, anodes_of}
use Rattle.rules.specs.Chains.{chain_of}
use Rattle.rules.specs.Walk.{Dir, dir_made, Entered, Item, entries_in, is_block_of, item_of, items_at, items_by, sub_dirs, reached_dirs}
use Rattle.rules.specs.Lookup.{entry_named, of_entry}
use Rattle.laws.specs.Sums.{one_at-same, one_below_cases}
use Rattle.laws.specs.Trees.{not_lower, lowering}
use Rattle.laws.specs.Bags.{list_one, gather-sum, map-sum}
use Rattle.laws.specs.Items.{subs, below}
use Rattle.laws.specs.Entries.{items-sum, item_dir, item_anode}
use Rattle.laws.specs.Members.{Member, member-sum}
use Rattle.change_laws.specs.Image.{AcceptedImage, AcceptedWhole, accepted_whole, headed-reached, ReachedDir}
use Rattle.change_laws.specs.Reached.{EntryIn, EntryFacts, entry-facts, its-items, named-member}
use Rattle.paths.specs.Paths.{Path, Site, site, site_from}

-- the entry that a name finds in a reached directory
pub found_in : {img : List ℕ} {h : ℕ} → ReachedDir img h → (name : List ℕ) (e : Entered) → entry_named img (anodes_of img) h name ≡ some e → EntryIn img h e
found_in {img} {h} r name e is = record { directory = r; member = named-member img (anodes_of img) h name e is }

-- the root is reached
pub root-reached : {img : List ℕ} → AcceptedImage img → ReachedDir img 5
root-reached {img} a =
    let w = accepted_whole a in
    record { image = a; reached = headed-reached img (anodes_of img) 5 (omega (arith, w.tree.exact (λ d. one_at d.head 5), one_at-same 5 5 refl)) }

-- a directory that an entry of a reached one names
module _ {img : List ℕ} {h : ℕ} {e : Entered} (m : EntryIn img h e) (dir : e.dir ≡ true) where
  abbrev s : Anodes
  s = anodes_of img

  abbrev w : AcceptedWhole img
  w = accepted_whole m.directory.image

  f : EntryFacts img h e
  f = entry-facts m

  abbrev d : Dir
  d = f.block_facts.dir

  abbrev items : Dir → List Item
  items = items_by (entries_in img) (is_block_of img) s

  on : Member f.a₀ (chain_of s.next limit d.head)
  on = rw f.block_facts.dir_head f.member-chain

  -- is one of those that are named in the entry's directory
  module _ (weight : Dir → ℕ) where
    one-here : sum_list weight (sub_dirs d (item_of s e)) ≡ weight (dir_made e.anode h)
    unfolding sub_dirs
    one-here = rw (item_dir s e ∙ dir, item_anode s e, f.block_facts.dir_head) (list_one weight (dir_made e.anode h))

    below-weight : weight (dir_made e.anode h) ≤ sum_list weight (subs items d)
    unfolding subs
    below-weight = omega (
      arith,
      one-here,
      gather-sum (sub_dirs d) weight (items d),
      items-sum (entries_in img) (is_block_of img) s d (λ i. sum_list weight (sub_dirs d i)),
      member-sum (λ b. sum_list (λ i. sum_list weight (sub_dirs d i)) (items_at (entries_in img) (is_block_of img) s d b)) f.a₀ (chain_of s.next limit d.head) on,
      ap (sum_list (λ i. sum_list weight (sub_dirs d i))) (its-items w d f.block_facts.reached f.a₀ on).2,
      map-sum (item_of s) (λ i. sum_list weight (sub_dirs d i)) (entries_in img (s.block f.a₀)),
      member-sum (λ x. sum_list weight (sub_dirs d (item_of s x))) e (entries_in img (s.block f.a₀)) f.member,
    )

    pub dir_weight : weight (dir_made e.anode h) ≤ sum_list weight (reached_dirs img s)
    dir_weight = omega (arith, below-weight, w.tree.exact weight, member-sum (below items weight) d (reached_dirs img s) f.block_facts.reached)

  -- and lower than its parent
  pub sub_lower : (accepted_whole m.directory.image).tree.height e.anode < (accepted_whole m.directory.image).tree.height h
  unfolding not_lower
  sub_lower =
      let height = w.tree.height in
      elim (one_below_cases (height h) (suc (height e.anode))) [
        | inl c ↦ absurd (omega (
          arith,
          c.1,
          below-weight (not_lower height (height h)),
          ap (λ (a : ℕ). sum_list (not_lower height (height a)) (subs items d)) f.block_facts.dir_head,
          member-sum (lowering items height) d (reached_dirs img s) f.block_facts.reached,
          w.tree.lower,
        ))
        | inr c ↦ omega (arith, c.0)
      ]

  -- so it is reached
  pub sub-reached : ReachedDir img e.anode
  sub-reached = record {
    image = m.directory.image;
    reached = headed-reached img s e.anode (omega (arith, dir_weight (λ c. one_at c.head e.anode), one_at-same e.anode e.anode refl));
  }

-- a path that leads to a site has come to a reached directory
module _ {img : List ℕ} where
  pub site-reached : (path : Path) (k : ℕ) → ReachedDir img k → (p : Site) → site_from img (anodes_of img) k path ≡ some p → ReachedDir img p.directory
  unfolding site_from
  site-reached [] k r p is = absurd (none-ne-some p is)
  site-reached (name ∷ []) k r p is = rw (ap (λ (q : Site). q.directory) (sym (some-injective (site k name) p is))) r
  site-reached (name ∷ next ∷ rest) k r p is = go (entry_named img (anodes_of img) k name) refl is (site-reached (next ∷ rest))
    where
      go : (o : Option Entered) → entry_named img (anodes_of img) k name ≡ o → of_entry o (λ e. cond e.dir (site_from img (anodes_of img) e.anode (next ∷ rest)) none) none ≡ some p →
          ((h : ℕ) → ReachedDir img h → (q : Site) → site_from img (anodes_of img) h (next ∷ rest) ≡ some q → ReachedDir img q.directory) → ReachedDir img p.directory
      go none found is deeper = absurd (none-ne-some p is)
      go (some e) found is deeper = at_dir e.dir refl is
        where
          at_dir : (b : Bool) → e.dir ≡ b → cond b (site_from img (anodes_of img) e.anode (next ∷ rest)) none ≡ some p → ReachedDir img p.directory
          at_dir true q is = deeper e.anode (sub-reached (found_in r name e found) q) p is
          at_dir false q is = absurd (none-ne-some p is)
