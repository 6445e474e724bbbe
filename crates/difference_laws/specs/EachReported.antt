-- No. 7: each listed difference is one, and each one is listed once.
use Rattle.std.specs.Prelude.{ℕ, ◌+◌, ◌≡◌, ◌≢◌, ◌⊎◌, ◌&&◌, eqb}
use Rattle.std.proofs.Math.Path.{refl, ap}
use Rattle.std.proofs.Common.{sym, subst, ◌∙◌}
use Rattle.std.proofs.Math.Logic.{inl, inr}
use mathlib.Core.List.{List, [], ◌∷◌, ◌++◌, map}
use Rattle.std.proofs.Math.Option.{Option, none, some, none-ne-some, some-injective}
use native.Mathlib.Omega.{arith}
use Rattle.rules.specs.Counting.{one_at, sum_list, occurrences, gather}
use Rattle.rules.specs.Anodes.{anodes_of}
use Rattle.rules.specs.Walk.{Entered}
use Rattle.rules.specs.Lookup.{of_entry}
use Rattle.laws.specs.Tests.{cond_cases}
use Rattle.laws.specs.Sums.{one_at-same, one_at_other}
use Rattle.laws.specs.Bags.{list_nil, list_one, list_append, list_zero, gather-sum, map-sum}
use Rattle.laws.specs.Members.{Member, no_member, member-cons, member-append, member-left, member_right, member_congr, member-gather}
use Rattle.change_laws.specs.Image.{AcceptedImage}
use Rattle.paths.specs.Paths.{Path, entry_at}
use Rattle.paths.specs.Facts.{Facts, facts_of, facts_at}
use Rattle.differences.specs.Listed.{paths}
use Rattle.differences.specs.Fields.{fields_differing, bytes_differing, first_byte_differing, compared_bytes}
use Rattle.differences.specs.Differences.{Difference, only_first, only_second, differing, differing_in, in_both, difference_at, only_second_at, differences}
use Rattle.difference_laws.specs.SameTree.{same-facts}
use Rattle.difference_laws.specs.NoDifference.{SamePath, not-nil, none_differing, entry-folded}
use Rattle.difference_laws.specs.Places.{place_some, place_path, paths-at}
use Rattle.difference_laws.specs.Claims.{OfPath, first_place, second_place, EachReported}

-- the difference of two entries with other facts
abbrev difference_of : ℕ → ℕ → Facts → Facts → Difference
difference_of first second f g =
    differing first second (fields_differing f g) (first_byte_differing (compared_bytes f g) (compared_bytes g f)) (bytes_differing (compared_bytes f g) (compared_bytes g f))

-- an entry in both is listed exactly where the facts differ
differing_cases : (first second : ℕ) (f g : Facts) → ((differing_in first second f g ≡ []) × (f ≡ g)) ⊎ ((differing_in first second f g ≡ difference_of first second f g ∷ []) × (f ≢ g))
unfolding differing_in
differing_cases first second f g =
    let d = difference_of first second f g in
    elim (cond_cases (eqb (fields_differing f g) 0 && eqb (bytes_differing (compared_bytes f g) (compared_bytes g f)) 0) [] (d ∷ [])) [
      | inl c ↦ inl (c.1, none_differing first second f g c.1)
      | inr c ↦ inr (c.1, λ same. not-nil d [] (sym c.1 ∙ ap (λ (x : Facts). differing_in first second x g) same ∙ same-facts first second g))
    ]

module _ (img j : List ℕ) where
  -- ---- at one path

  -- what is listed at a path, of both halves of the list
  abbrev here : Path → List Difference
  here p = difference_at img j p ++ only_second_at img j p

  -- a list of one difference, that of a path with these facts
  record One (p : Path) (l : List Difference) (f g : Option Facts) : Type 0 where
    difference : Difference
    alone : l ≡ difference ∷ []
    facts : f ≢ g
    of_path : OfPath img j p difference

  -- nothing, where the facts are the same, or one difference
  abbrev ListedAt : Path → List Difference → Option Facts → Option Facts → Type 0
  ListedAt p l f g = ((l ≡ []) × (f ≡ g)) ⊎ One p l f g

  listed_both : (p : Path) (e f : Entered) → entry_at img p ≡ some e → entry_at j p ≡ some f → ListedAt p (in_both img j e f ++ []) (some (facts_of img e)) (some (facts_of j f))
  unfolding in_both
  listed_both p e f a b = elim (differing_cases e.start f.start (facts_of img e) (facts_of j f)) [
    | inl c ↦ inl (rw c.0, ap (λ (x : Facts). some x) c.1)
    | inr c ↦ inr (record {
      difference = difference_of e.start f.start (facts_of img e) (facts_of j f);
      alone = rw c.0;
      facts = λ same. c.1 (some-injective (facts_of img e) (facts_of j f) same);
      of_path = record { one = e; other = f; in_first = a; in_second = b; facts = c.1; first_place_lem = refl; second_place_lem = refl; its_fields = refl; its_byte = refl; its_many = refl };
    })
  ]

  listed_at : (p : Path) → ListedAt p (here p) (facts_at img p) (facts_at j p)
  unfolding difference_at only_second_at facts_at
  listed_at p = go (entry_at img p) (entry_at j p) refl refl
    where
      go : (o q : Option Entered) → entry_at img p ≡ o → entry_at j p ≡ q →
          ListedAt p (of_entry o (λ e. of_entry q (in_both img j e) (only_first e.start ∷ [])) [] ++ of_entry o (λ e. []) (of_entry q (λ f. only_second f.start ∷ []) []))
          (of_entry o (λ e. some (facts_of img e)) none) (of_entry q (λ f. some (facts_of j f)) none)
      go none none a b = inl (refl, refl)
      go none (some f) a b = inr (record { difference = only_second f.start; alone = refl; facts = none-ne-some (facts_of j f); of_path = record { one = f; here = b; not_there = a; its_place = refl } })
      go (some e) none a b = inr (record { difference = only_first e.start; alone = refl; facts = λ same. none-ne-some (facts_of img e) (sym same); of_path = record { one = e; here = a; not_there = b; its_place = refl } })
      go (some e) (some f) a b = listed_both p e f a b

  -- so what is listed at a path is a difference of it
  of_listed : (p : Path) (d : Difference) → Member d (here p) → OfPath img j p d
  of_listed p d m = elim (listed_at p) [
    | inl q ↦ absurd (no_member d (rw q.0 at m))
    | inr o ↦ elim (member-cons d o.difference [] (rw o.alone at m)) [ inl i ↦ subst (λ (x : Difference). OfPath img j p x) (sym i) o.of_path | inr n ↦ absurd (no_member d n) ]
  ]

  -- each listed difference is one
  is_one : (d : Difference) → Member d (differences img j) → (p : Path) × OfPath img j p d
  unfolding differences
  is_one d m = elim (member-append d (gather (difference_at img j) (paths img)) (gather (only_second_at img j) (paths j)) m) [
    | inl q ↦ (let (p, _, at) = member-gather (difference_at img j) (paths img) d q in (p, of_listed p d (member-left d (difference_at img j p) (only_second_at img j p) at)))
    | inr q ↦ (let (p, _, at) = member-gather (only_second_at img j) (paths j) d q in (p, of_listed p d (member_right d (difference_at img j p) (only_second_at img j p) at)))
  ]

  -- a path and its folded forms have the same differences
  first-folded : (p q : Path) → SamePath p q → difference_at img j p ≡ difference_at img j q
  unfolding difference_at
  first-folded p q same = rw (entry-folded img (anodes_of img) p q 5 same, entry-folded j (anodes_of j) p q 5 same)

  second_folded : (p q : Path) → SamePath p q → only_second_at img j p ≡ only_second_at img j q
  unfolding only_second_at
  second_folded p q same = rw (entry-folded img (anodes_of img) p q 5 same, entry-folded j (anodes_of j) p q 5 same)

  -- a path that names no entry of the first has none in the first half, and one that names none of the second none in the second
  first_outside : (p : Path) → entry_at img p ≡ none → difference_at img j p ≡ []
  unfolding difference_at
  first_outside p is = rw is

  second_outside : (p : Path) → entry_at j p ≡ none → only_second_at img j p ≡ []
  unfolding only_second_at
  second_outside p is = rw is (go (entry_at img p))
    where
      go : (o : Option Entered) → of_entry {X = List Difference} o (λ e. []) [] ≡ []
      go none = refl
      go (some e) = refl

  -- ---- in the whole list

  module _ (first : AcceptedImage img) (second : AcceptedImage j) where
    -- a weight that differences of other paths do not have
    module _ (path : Path) (w : Difference → ℕ) (others : (p : Path) (d : Difference) → OfPath img j p d → (SamePath p path → ⊥) → w d ≡ 0) where
      none_here : (p : Path) → (SamePath p path → ⊥) → sum_list w (difference_at img j p) + sum_list w (only_second_at img j p) ≡ 0
      none_here p n = sym (list_append w (difference_at img j p) (only_second_at img j p)) ∙ member_congr w (λ d. 0) (here p) (λ d m. others p d (of_listed p d m) n) ∙ list_zero {X = Difference} (λ d. 0) (here p) (λ d. refl)

      first_half : sum_list w (gather (difference_at img j) (paths img)) ≡ sum_list w (difference_at img j path)
      first_half =
          gather-sum (difference_at img j) w (paths img)
          ∙ paths-at first path (λ p. sum_list w (difference_at img j p)) (λ p same. ap (sum_list w) (first-folded p path same)) (λ p n. omega (arith, none_here p n))
          (λ is. ap (sum_list w) (first_outside path is) ∙ list_nil w)

      second_half : sum_list w (gather (only_second_at img j) (paths j)) ≡ sum_list w (only_second_at img j path)
      second_half =
          gather-sum (only_second_at img j) w (paths j)
          ∙ paths-at second path (λ p. sum_list w (only_second_at img j p)) (λ p same. ap (sum_list w) (second_folded p path same)) (λ p n. omega (arith, none_here p n))
          (λ is. ap (sum_list w) (second_outside path is) ∙ list_nil w)

      -- sums to what is listed at the path
      whole : sum_list w (differences img j) ≡ sum_list w (here path)
      unfolding differences
      whole = omega (
        arith,
        list_append w (gather (difference_at img j) (paths img)) (gather (only_second_at img j) (paths j)),
        first_half,
        second_half,
        list_append w (difference_at img j path) (only_second_at img j path),
      )

    -- the place of the entry of an image at a path, 0 where it has none
    abbrev PlaceIn : List ℕ → Path → ℕ → Type 0
    PlaceIn i p n = ((n ≡ 0) × (entry_at i p ≡ none)) ⊎ ((c : Entered) × (entry_at i p ≡ some c) × (n ≡ c.start))

    -- places in one of the images, and an entry of it
    module _ {i : List ℕ} (image : AcceptedImage i) (place : Difference → ℕ) (placed : (p : Path) (d : Difference) → OfPath img j p d → PlaceIn i p (place d))
        (path : Path) (e : Entered) (is : entry_at i path ≡ some e) where
      abbrev at_place : Difference → ℕ
      at_place d = one_at (place d) e.start

      elsewhere : (p : Path) (d : Difference) → OfPath img j p d → (SamePath p path → ⊥) → at_place d ≡ 0
      elsewhere p d o n = elim (placed p d o) [
        | inl q ↦ one_at_other (place d) e.start (λ z. place_some image path e is (sym z ∙ q.0))
        | inr (c, at, q) ↦ one_at_other (place d) e.start (λ z. n (place_path image p path c e at is (sym q ∙ z)))
      ]

      -- its place stands in the list as often as in what is listed at its path
      counted : occurrences e.start (map place (differences img j)) ≡ sum_list at_place (here path)
      unfolding occurrences
      counted = map-sum place (λ y. one_at y e.start) (differences img j) ∙ whole path at_place elsewhere

      its_place : (d : Difference) → OfPath img j path d → place d ≡ e.start
      its_place d o = elim (placed path d o) [
        | inl q ↦ absurd (none-ne-some e (sym q.1 ∙ is))
        | inr (c, at, q) ↦ q ∙ ap (λ (x : Entered). x.start) (some-injective c e (sym at ∙ is))
      ]

      once : facts_at img path ≢ facts_at j path → occurrences e.start (map place (differences img j)) ≡ 1
      once differ = elim (listed_at path) [
        | inl q ↦ absurd (differ q.1)
        | inr o ↦ counted ∙ ap (sum_list at_place) o.alone ∙ list_one at_place o.difference ∙ one_at-same (place o.difference) e.start (its_place o.difference o.of_path)
      ]

      never : facts_at img path ≡ facts_at j path → occurrences e.start (map place (differences img j)) ≡ 0
      never same = elim (listed_at path) [
        | inl q ↦ counted ∙ ap (sum_list at_place) q.0 ∙ list_nil at_place
        | inr o ↦ absurd (o.facts same)
      ]

    -- the places that differences name are those of the entries at their paths
    first-placed : (p : Path) (d : Difference) → OfPath img j p d → PlaceIn img p (first_place d)
    first-placed p (only_first x) o = inr (o.one, o.here, o.its_place)
    first-placed p (only_second x) o = inl (refl, o.not_there)
    first-placed p (differing x y fields byte many) o = inr (o.one, o.in_first, o.first_place_lem)

    second_placed : (p : Path) (d : Difference) → OfPath img j p d → PlaceIn j p (second_place d)
    second_placed p (only_first x) o = inl (refl, o.not_there)
    second_placed p (only_second x) o = inr (o.one, o.here, o.its_place)
    second_placed p (differing x y fields byte many) o = inr (o.other, o.in_second, o.second_place_lem)

-- EACH DIFFERENCE IS LISTED ONCE
pub each_reported : {img j : List ℕ} → AcceptedImage img → AcceptedImage j → EachReported img j
each_reported {img} {j} a b = record {
  is_one = is_one img j;
  first_once = once img j a b a first_place (first-placed img j a b);
  first-none = never img j a b a first_place (first-placed img j a b);
  second_once = once img j a b b second_place (second_placed img j a b);
  second_none = never img j a b b second_place (second_placed img j a b);
}
