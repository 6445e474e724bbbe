-- Laws of places in a chain. Assumes nothing.
use Prim.Native.Nat.{ℕ, zero, suc, ◌+◌, ◌-◌, ◌*◌, ◌<◌, ◌≤◌, min}
use mathlib.Core.Path.{◌≡◌, refl, sym, ap, ◌∙◌}
use mathlib.Core.Logic.{◌≢◌, inl, inr}
use mathlib.Core.List.{List, [], ◌++◌}
use native.Mathlib.Omega.{arith}
use lib.ListN.{length, take, drop, length-take, length-drop}
use lib.Seq.{take-add, take_all, drop-drop, drop_at, take-append-le, take-take, drop-append-le, length-take-le}
use Rattle.disk.specs.Blocks.{block_of}
use Rattle.rules.specs.Counting.{gather}
use Rattle.std.proofs.Common.{◌∷◌}
use Rattle.std.proofs.Math.Path.{fun_ext}
use Rattle.anodes.specs.Loaded.{anodes_from}
use Rattle.links.specs.declared.Links.{Links}
use Rattle.links.specs.Links.{anodes_left}
use Rattle.rules.specs.Chains.{run}
use Rattle.rules.specs.Lookup.{bytes_of}
use Rattle.laws.specs.Tests.{less?}
use Rattle.laws.specs.Bags.{gather_append}
use Rattle.laws.specs.ChainBlocks.{extent, blocks_of_extents}
use Rattle.byte_differences.specs.declared.Place.{Place}
use Rattle.byte_differences.specs.BytesCompared.{place_made, extents_of, to_come, StartsAt, Entering, Settled, At}

-- the bytes of blocks that lie one behind the other are one part of the image
run-bytes : (img : List ℕ) (b c : ℕ) → gather (block_of img) (run b c) ≡ take (c * 512) (drop (b * 512) img)
unfolding gather run block_of
run-bytes img b zero = refl
run-bytes img b (suc c) =
    let e : suc b * 512 ≡ b * 512 + 512 = omega arith in
    let f : suc c * 512 ≡ 512 + c * 512 = omega arith in
    rw (run-bytes img (suc b) c, e, f, take-add 512 (c * 512) (drop (b * 512) img), drop-drop 512 (b * 512) img)

-- as many as there are
cut : (n : ℕ) (l : List ℕ) (k : ℕ) → k ≡ min n (length l) → take k l ≡ take n l
cut n l k e = elim (less? n (length l)) [
  | inl h ↦ let f : k ≡ n = omega arith in rw f
  | inr h ↦ take_all k l (omega arith) ∙ sym (take_all n l h)
]

-- an anode's extent is extent-start: its bytes are the part of the image that it covers, as far as the image has it
module _ (img : List ℕ) (extents : ℕ → List ℕ) (a first count : ℕ) (behind : Links) (own : extents a ≡ run first count) (small : first * 512 + count * 512 ≤ 67107840) where
  pub entering_is : (bytes : List ℕ) → bytes ≡ take (count * 512) (drop (first * 512) img) → Entering img extents a (anodes_left behind) (place_made (first * 512) (length bytes) behind)
  unfolding to_come
  entering_is bytes is =
      let n : length bytes ≡ min (count * 512) (length (drop (first * 512) img)) = ap length is ∙ length-take (count * 512) (drop (first * 512) img) in
      let whole : take (length bytes) (drop (first * 512) img) ≡ gather (block_of img) (run first count) =
      cut (count * 512) (drop (first * 512) img) (length bytes) n ∙ sym (run-bytes img first count) in
      record {
        within = record { there = omega (arith, n, length-drop (first * 512) img); small = omega (arith, n) };
        behind_is = refl;
        bytes = rw (own, whole) (sym (gather_append (block_of img) (run first count) (gather extents (anodes_left behind))));
      }

module _ (img : List ℕ) (extents : ℕ → List ℕ) (p : Place) (none : p.left ≡ 0) where
  -- no bytes are left of the extent, and no anode is behind it
  pub come_end : anodes_left p.behind ≡ [] → to_come img extents p ≡ []
  unfolding to_come gather
  come_end e = rw (none, e)

  -- the anode behind it is extent-start
  pub come_next : (a : ℕ) (behind : List ℕ) (r : Place) → anodes_left p.behind ≡ a ∷ behind → Entering img extents a behind r → to_come img extents r ≡ to_come img extents p
  unfolding to_come gather
  come_next a behind r split e = rw (e.bytes, none, split)

-- the place before a chain's first byte
module _ (img counts firsts nexts : List ℕ) (h : ℕ) (p : Place) (made : StartsAt nexts h p) where
  same_extents : extent (anodes_from counts firsts nexts) ≡ extents_of counts firsts
  unfolding extent anodes_from extents_of
  same_extents = fun_ext (λ a. refl)

  pub start-bytes : to_come img (extents_of counts firsts) p ≡ bytes_of img (anodes_from counts firsts nexts) h
  unfolding to_come bytes_of anodes_from
  start-bytes = rw (made.empty, made.whole, blocks_of_extents (anodes_from counts firsts nexts) h, ← same_extents)

  pub start-at : At img (extents_of counts firsts) (to_come img (extents_of counts firsts) p) 0 p
  start-at = record { within = record { there = omega (arith, made.empty); small = omega (arith, made.empty, made.first) }; bytes = refl }

-- behind `at` bytes, at an extent that has some left
module _ (img : List ℕ) (extents : ℕ → List ℕ) (l : List ℕ) (at : ℕ) (p r : Place) (before : At img extents l at p) (here : Settled img extents p r) where
  pub settled_some : at < length l → r.left ≢ 0
  settled_some more e =
      let none : drop at l ≡ [] = sym before.bytes ∙ sym here.same ∙ here.none e in
      omega (arith, ap length none, length-drop at l)

  module _ (n : ℕ) (fits : n ≤ r.left) where
    -- the next n bytes are a part of the image
    settled_long : length (take n (drop r.from img)) ≡ n
    settled_long = length-take-le n (drop r.from img) (rw length-drop (omega (arith, here.within.there)))

    own_long : n ≤ length (take r.left (drop r.from img))
    own_long = rw (length-take r.left (drop r.from img), length-drop r.from img) (omega (arith, here.within.there))

    settled-part : take n (drop r.from img) ≡ take n (drop at l)
    unfolding to_come
    settled-part =
        let own = take r.left (drop r.from img) in
        let rest = gather (block_of img) (gather extents (anodes_left r.behind)) in
        sym (take-take n r.left (drop r.from img) fits) ∙ sym (take-append-le n own rest own_long) ∙ ap (λ (bytes : List ℕ). take n bytes) (here.same ∙ before.bytes)

    -- they were read
    pub read_long : (bytes : List ℕ) → bytes ≡ take n (drop r.from img) → length bytes ≡ n
    read_long bytes is = ap length is ∙ settled_long

    pub read_part : (bytes : List ℕ) → bytes ≡ take n (drop r.from img) → bytes ≡ take n (drop at l)
    read_part bytes is = is ∙ settled-part

    -- and are moved-on
    pub at-passed : At img extents l (at + n) (place_made (r.from + n) (r.left - n) r.behind)
    unfolding to_come
    at-passed =
        let x = drop r.from img in
        let rest = gather (block_of img) (gather extents (anodes_left r.behind)) in
        let e : r.left ≡ n + (r.left - n) = omega arith in
        let two : take r.left x ≡ take n x ++ take (r.left - n) (drop n x) = ap (λ (k : ℕ). take k x) e ∙ take-add n (r.left - n) x in
        let behind : drop n (take r.left x) ≡ take (r.left - n) (drop (r.from + n) img) =
        rw (two, drop_at (take n x) (take (r.left - n) (drop n x)) n settled_long, drop-drop n r.from img) in
        record {
          within = record { there = omega (arith, here.within.there); small = omega (arith, here.within.small) };
          bytes = rw (← behind, ← drop-append-le n (take r.left x) rest own_long, here.same ∙ before.bytes, drop-drop n at l);
        }
