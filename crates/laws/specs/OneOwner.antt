-- In every accepted image every block has one owner, every chain ends, and every chain in use is named once, by the system or by an entry reached from the root directory.
use Rattle.std.specs.Prelude.{ℕ, ◌≤◌, ◌<◌, ◌≡◌, ◌≢◌, ◌&&◌, eqb, leb}
use Rattle.std.proofs.Math.Path.{refl, ap}
use Rattle.std.proofs.Common.{sym, ◌∙◌}
use Rattle.std.proofs.Math.Logic.{inl, inr}
use mathlib.Core.List.{List, [], ◌∷◌, map}
use native.Mathlib.Omega.{arith}
use borrow.Author.Tests.{le-leb, eq-eqb, eqb-false}
use Rattle.rules.specs.Counting.{one_at, occurrences, sum_list, gather}
use Rattle.rules.specs.Anodes.{Anodes, limit, exists, anodes_of}
use Rattle.rules.specs.Chains.{chain_of, followed, one_if_head, head_of, system_owns, cut}
use Rattle.rules.specs.Walk.{Dir, Item, Walk, fault, done, entries_in, is_block_of, walk_of, fault_in, dirs_in, items_by, twins, items_of, reached, reached_dirs, naming, root}
use Rattle.rules.specs.Accepted.{disk_size, last_reserved, owners_of, unnamed, unnamed_chain, check_answer}
use Rattle.counting.specs.Laws.{and_none, any_below_each}
use Rattle.laws.specs.Tests.{same?}
use Rattle.laws.specs.Bags.{occurrences-nil, list_congr, list_mono_where, list_zero, gather-sum}
use Rattle.laws.specs.Heads.{Head, head_of_is, occurrences_on_chain}
use Rattle.laws.specs.Space.{FixedHead, Good}
use Rattle.laws.specs.Passes.{Reading, Passes, good_of}
use Rattle.laws.specs.Items.{wrong, names-sum, named_in, faults}
use Rattle.laws.specs.Walks.{walk-found}
use Rattle.laws.specs.Apart.{twins_fine}
use Rattle.laws.specs.Whole.{counts_head, head_counts, names_head, named-le}
use Rattle.laws.specs.Acceptance.{Passed, passed_of, tested_passes}
use Rattle.laws.specs.ImageAnodes.{reading_of}

-- every block of the image has one owner, every chain ends, and every chain in use is named once
pub record OneOwner (img : List ℕ) : Type 0 where
  pub one_owner : (x : ℕ) → x < disk_size img → owners_of img (anodes_of img) x ≡ 1
  pub ends : (a : ℕ) → (anodes_of img).block a ≢ 0 → followed (anodes_of img).next limit a ≡ 0
  -- from 6 up a head is named by exactly one reached entry; below, it is the head of a chain of the system's
  pub named_once : (h : ℕ) → one_if_head limit (anodes_of img).next (anodes_of img).block h ≡ 1 → 6 ≤ h → naming img (anodes_of img) h ≡ 1
  pub systems : (h : ℕ) → one_if_head limit (anodes_of img).next (anodes_of img).block h ≡ 1 → h < 6 → FixedHead h
  -- a reached entry names a head from 6 up, so the system's chains are named by no entry, and no entry names the middle of a chain
  pub names_heads : (x : ℕ) → naming img (anodes_of img) x ≢ 0 → (6 ≤ x) × (one_if_head limit (anodes_of img).next (anodes_of img).block x ≡ 1)
  -- an anode in use, not 0, is on the chain of one head, once, and on no other head's
  pub has_head : (a : ℕ) → a ≢ 0 → (anodes_of img).block a ≢ 0 → one_if_head limit (anodes_of img).next (anodes_of img).block (head_of limit (anodes_of img).next (anodes_of img).block a) ≡ 1
  pub on_one-chain : (a h : ℕ) → one_if_head limit (anodes_of img).next (anodes_of img).block h ≡ 1 →
      occurrences a (chain_of (anodes_of img).next limit h) ≡ one_at (head_of limit (anodes_of img).next (anodes_of img).block a) h

-- the anodes that the items of some directories name
pub naming-sum : (items : Dir → List Item) (x : ℕ) (dirs : List Dir) → occurrences x (map (λ i. i.anode) (gather items dirs)) ≡ sum_list (named_in items x) dirs
naming-sum items x dirs =
    names-sum x (gather items dirs) ∙ gather-sum items (λ i. one_at i.anode x) dirs
    ∙ list_congr (λ d. sum_list (λ i. one_at i.anode x) (items d)) (named_in items x) dirs (λ d. sym (names-sum x (items d)))

module _ (img : List ℕ) (blocks anodes : ℕ) (p : Passed img blocks anodes) where
  abbrev s : Anodes
  s = anodes_of img

  pub reading : Reading limit (exists img) s
  reading = reading_of img (disk_size img) p.tested.in_range

  pub passes : Passes limit (disk_size img) (last_reserved img) s (system_owns img)
  passes = tested_passes s (disk_size img) (last_reserved img) (system_owns img) reading.view p.tested

  pub good : Good limit (exists img) (disk_size img) (last_reserved img) s (system_owns img) (head_of limit s.next s.block) (head_of limit (cut s.next) s.block)
  good = good_of reading passes

  -- the walk was done, and named no anode twice
  walk-done : (w : Walk) → walk_of img s ≡ w → fault_in w ≡ 0 → (x : ℕ) → occurrences x (map (λ i. i.anode) (gather (items_of img s) (dirs_in w))) ≤ 1
  unfolding walk_of gather
  walk-done (fault n) e z x = omega (arith, occurrences-nil x)
  walk-done (done dirs) e z x = omega (arith, naming-sum (items_of img s) x dirs, (walk-found (items_of img s) limit (root ∷ []) [] dirs e).once x (omega (arith, occurrences-nil x)), occurrences-nil x)

  pub once : (x : ℕ) → naming img s x ≤ 1
  unfolding naming reached reached_dirs
  once x = walk-done (walk_of img s) refl p.walked x

  named : (h : ℕ) → one_if_head limit s.next s.block h ≡ 1 → 6 ≤ h → naming img s h ≢ 0
  unfolding unnamed_chain unnamed
  named h e l =
      let u = (counts_head good h e).in_use in
      eqb-false (naming img s h) 0 (and_none (eqb (one_if_head limit s.next s.block h) 1) (unnamed img s h)
      (and_none (leb 6 h) (eqb (one_if_head limit s.next s.block h) 1 && unnamed img s h) (any_below_each (unnamed_chain img s) h limit (reading.view.below h u) p.all_named) (le-leb 6 h l))
      (eq-eqb (one_if_head limit s.next s.block h) 1 e))

  -- a directory with no fault names no anode that is no head from 6 up
  none_named : (x : ℕ) → (6 ≤ x → one_if_head limit s.next s.block x ≡ 1 → ⊥) → (d : Dir) → faults (items_of img s) d ≡ 0 → named_in (items_of img s) x d ≡ 0
  unfolding items_of
  none_named x k d z =
      let items = items_by (entries_in img) (is_block_of img) s in
      let plain : twins [] (items d) ≡ items d = twins_fine [] (items d) z in
      omega (arith, z, ap (sum_list wrong) plain, ap (λ (l : List Item). occurrences x (map (λ i. i.anode) l)) plain, named-le (entries_in img) (is_block_of img) s x k d)

  -- what is named in the walked directories is a head from 6 up
  walk-names : (w : Walk) → walk_of img s ≡ w → fault_in w ≡ 0 → (x : ℕ) → (6 ≤ x → one_if_head limit s.next s.block x ≡ 1 → ⊥) →
      occurrences x (map (λ i. i.anode) (gather (items_of img s) (dirs_in w))) ≡ 0
  unfolding walk_of gather
  walk-names (fault n) e z x k = occurrences-nil x
  walk-names (done dirs) e z x k =
      omega (
        arith,
        naming-sum (items_of img s) x dirs,
        list_mono_where (faults (items_of img s)) (named_in (items_of img s) x) (λ d. 0) dirs (walk-found (items_of img s) limit (root ∷ []) [] dirs e).faultless (λ d q. omega (arith, none_named x k d q)),
        list_zero {X = Dir} (λ d. 0) dirs (λ d. refl),
      )

  pub names : (x : ℕ) → naming img s x ≢ 0 → (6 ≤ x) × (one_if_head limit s.next s.block x ≡ 1)
  unfolding naming reached reached_dirs
  names x n = elim (names_head good x) [
    | inl q ↦ (q.0, head_counts good x q.1)
    | inr k ↦ absurd (n (walk-names (walk_of img s) refl p.walked x k))
  ]

  -- 2 stands on 1's chain and so heads none
  not-two : (h : ℕ) → Head s.next s.block h → h ≢ 2
  not-two h d e = omega (arith, good.two_on, good.heads.at_head h d, ap (head_of limit s.next s.block) e)

  below-6 : (h : ℕ) → h ≢ 0 → h ≢ 2 → h < 6 → FixedHead h
  below-6 h a b l = elim (same? h 1) [
    | inl e ↦ inl e
    | inr e1 ↦ elim (same? h 3) [
      | inl e ↦ inr (inl e)
      | inr e3 ↦ elim (same? h 4) [ inl e ↦ inr (inr (inl e)) | inr e4 ↦ inr (inr (inr (omega arith))) ]
    ]
  ]

  one_owner_of : OneOwner img
  unfolding owners_of
  one_owner_of = record {
    one_owner = λ x l. omega (arith, passes.own.not-two x l, passes.own.not_none x l);
    ends = passes.links.ends;
    named_once = λ h e l. omega (arith, once h, named h e l);
    systems = λ h e l. below-6 h (counts_head good h e).pos (not-two h (counts_head good h e)) l;
    names_heads = names;
    has_head = λ a z u. head_counts good (head_of limit s.next s.block a) (head_of_is good.linked good.heads a z u);
    on_one-chain = λ a h e. occurrences_on_chain good.linked good.heads h (counts_head good h e) a;
  }

-- an image that the check accepts is such an image
pub accepted-one_owner : (img : List ℕ) (blocks anodes : ℕ) → check_answer img blocks anodes ≡ 0 → OneOwner img
accepted-one_owner img blocks anodes e = one_owner_of img blocks anodes (passed_of img blocks anodes e)
