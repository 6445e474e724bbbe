-- How many entries a directory has: at most 28 for each of its anodes, and no more than there are anodes. Assumes nothing.
use Rattle.std.specs.Prelude.{Some, None, Ok, Err}
use Prim.Native.Nat.{ℕ, zero, suc, ◌+◌, ◌*◌, ◌≤◌}
use mathlib.Core.Path.{◌≡◌, sym, ap, ◌∙◌}
use mathlib.Core.Logic.{◌⊎◌, inl, inr}
use mathlib.Core.List.{List, [], ◌∷◌, map}
use native.Mathlib.Omega.{arith}
use lib.ListN.{length, length-append, length-map, get_or}
use Rattle.endian.proofs.Laws.{less?}
use Rattle.disk.specs.Blocks.{block_of}
use Rattle.directory.specs.Entries.{Walked}
use Rattle.directory.specs.Entries.{name_in, walked_at}
use Rattle.rules.specs.Counting.{one_at, sum_list, occurrences, any_in, gather}
use Rattle.rules.specs.Anodes.{Anodes, limit, anodes_of}
use Rattle.rules.specs.Chains.{chain_of}
use Rattle.rules.specs.Walk.{Entered, with_rest, entries_from, entries_in}
use Rattle.rules.specs.Lookup.{entries_of}
use Rattle.laws.specs.Tests.{not_above}
use Rattle.laws.specs.Sums.{one_at-same, one_at_some}
use Rattle.laws.specs.Bags.{list_some, list_append, list_cons, map-sum, pigeonhole}
use Rattle.laws.specs.Members.{Member, no_member}
use Rattle.laws.specs.Chains.{gathered_end}
use Rattle.laws.specs.Entries.{Unbroken}
use Rattle.anodes.specs.Loaded.{anodes_from}
use Rattle.lookup.proofs.Laws.{along_whole}
use Rattle.change_laws.specs.Image.{ReachedDir}
use Rattle.change_laws.specs.Reached.{entry-facts, reached_unbroken}
use Rattle.change_laws.specs.NamedOnce.{only_home}
use Rattle.counterparts.specs.Spans.{LoadedFor, HeadsDirectory}

-- ---- by its anodes

rest_few : (w : Walked) (name : List ℕ) (start : ℕ) (rest : List Entered) (k : ℕ) → length rest ≤ k → length (with_rest w name start rest) ≤ suc k
rest_few (Ok (Some e)) name start rest k h = omega arith
rest_few (Ok None) name start rest k h = omega arith
rest_few (Err r) name start rest k h = omega arith

entries_few : (k : ℕ) (block : List ℕ) (y at : ℕ) → length (entries_from k block y at) ≤ k
unfolding entries_from
entries_few zero block y at = omega arith
entries_few (suc k) block y at = rest_few (walked_at block at) (name_in block at) (y * 512 + at) (entries_from k block y (at + get_or block at 0)) k (entries_few k block y (at + get_or block at 0))

gathered_few : (f : ℕ → List Entered) (n : ℕ) (l : List ℕ) → ((a : ℕ) → length (f a) ≤ n) → length (gather f l) ≤ n * length l
unfolding gather
gathered_few f n [] few = omega arith
gathered_few f n (a ∷ l) few = omega (arith, length-append (f a) (gather f l), few a, gathered_few f n l few)

-- a directory whose chain has so many anodes
pub chain_few : (img : List ℕ) (s : Anodes) (h : ℕ) → length (entries_of img s h) ≤ 28 * length (chain_of s.next limit h)
unfolding entries_of entries_in
chain_few img s h = gathered_few (λ a. entries_in img (s.block a)) 28 (chain_of s.next limit h) (λ a. entries_few 28 (block_of img (s.block a)) (s.block a) 16)

-- ---- by the anodes that it names

-- how often entries name x
abbrev names_in : ℕ → List Entered → ℕ
names_in x l = sum_list (λ e. one_at e.anode x) l

-- never, where none of them does
none_name : (x : ℕ) (l : List Entered) → ((e : Entered) → Member e l → e.anode ≡ x → ⊥) → names_in x l ≡ 0
none_name x l other = not_above (names_in x l) (λ p. let (e, m, q) = list_some (λ e. one_at e.anode x) l p in other e m (one_at_some e.anode x q))

module _ {img : List ℕ} {h : ℕ} (r : ReachedDir img h) (x : ℕ) where
  abbrev its : List Entered
  its = entries_of img (anodes_of img) h

  named-below : limit ≤ x → names_in x its ≡ 0
  named-below high = none_name x its (λ e m q. omega (arith, high, q, (entry-facts (record { directory = r; member = m })).below))

  -- an entry that names x is the only one
  named_alone : (e : Entered) → Member e its → e.anode ≡ x → names_in x its ≤ 1
  named_alone e m q =
      let (before, after, parted) = m in
      let other = only_home r.image (entry-facts (record { directory = r; member = m })) before after parted in
      omega (
        arith,
        ap (names_in x) parted,
        list_append (λ e. one_at e.anode x) before (e ∷ after),
        list_cons (λ e. one_at e.anode x) e after,
        one_at-same e.anode x q,
        none_name x before (λ c n p. other c (inl n) (p ∙ sym q)),
        none_name x after (λ c n p. other c (inr n) (p ∙ sym q)),
      )

  named_once : names_in x its ≤ 1
  named_once = elim (less? 0 (names_in x its)) [
    | inl p ↦ (let (e, m, q) = list_some (λ e. one_at e.anode x) its p in named_alone e m (one_at_some e.anode x q))
    | inr p ↦ omega arith
  ]

-- a reached directory has at most as many entries as there are anodes: each names one of its own
pub directory_fits : {img : List ℕ} {h : ℕ} → ReachedDir img h → length (entries_of img (anodes_of img) h) ≤ limit
unfolding occurrences
directory_fits {img} {h} r =
    let l = entries_of img (anodes_of img) h in
    let anodes = map (λ e. e.anode) l in
    omega (
      arith,
      length-map l (λ e. e.anode),
      pigeonhole anodes limit (λ x high. map-sum (λ e. e.anode) (λ y. one_at y x) l ∙ named-below r x high) (λ x. omega (arith, map-sum (λ e. e.anode) (λ y. one_at y x) l, named_once r x)),
    )

-- ---- a directory that is opened

-- 0 heads none
none-headed : (img : List ℕ) (s : Anodes) (h : ℕ) → h ≡ 0 → entries_of img s h ≡ []
unfolding entries_of
none-headed img s h z = gathered_end (λ a. entries_in img (s.block a)) s.next limit h z

pub headed-fits : (img : List ℕ) (h : ℕ) → HeadsDirectory img h → length (entries_of img (anodes_of img) h) ≤ 3444
headed-fits img h (inl z) = omega (arith, ap length (none-headed img (anodes_of img) h z))
headed-fits img h (inr r) = directory_fits r

pub headed_unbroken : (img : List ℕ) (h : ℕ) → HeadsDirectory img h → Unbroken (entries_of img (anodes_of img) h)
unfolding any_in
headed_unbroken img h (inl z) = rw (none-headed img (anodes_of img) h z)
headed_unbroken img h (inr r) = reached_unbroken r

-- an entry of it is a reached directory's
pub headed-entry : (img : List ℕ) (h : ℕ) → HeadsDirectory img h → (e : Entered) → Member e (entries_of img (anodes_of img) h) → ReachedDir img h
headed-entry img h (inl z) e m = absurd (no_member e (rw (none-headed img (anodes_of img) h z) at m))
headed-entry img h (inr r) e m = r

-- its entries by the loaded tables, whatever the counts
pub loaded_entries : (img firsts nexts c : List ℕ) (h : ℕ) → LoadedFor img firsts nexts → entries_of img (anodes_from c firsts nexts) h ≡ entries_of img (anodes_of img) h
loaded_entries img firsts nexts c h o =
    along_whole img firsts nexts c h ∙ sym (along_whole img firsts nexts o.0 h) ∙ ap (λ (s : Anodes). entries_of img s h) o.1.is_loaded

-- they fit behind the number that room was made for
pub room_for : (img firsts nexts : List ℕ) (h from blocks : ℕ) → LoadedFor img firsts nexts → HeadsDirectory img h → blocks ≡ length (chain_of (λ a. get_or nexts a 0) 3444 h) →
    (from ≡ 0) ⊎ (from + 28 * blocks ≤ 3444) → from + length (entries_of img (anodes_from [] firsts nexts) h) ≤ 3444
unfolding anodes_from
room_for img firsts nexts h from blocks o d n (inl z) = omega (arith, z, ap length (loaded_entries img firsts nexts [] h o), headed-fits img h d)
room_for img firsts nexts h from blocks o d n (inr r) = omega (arith, n, r, chain_few img (anodes_from [] firsts nexts) h)
