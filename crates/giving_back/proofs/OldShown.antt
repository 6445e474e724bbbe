-- The old blocks of a safe change of an accepted image, told by its block table, are those of the rules.
use Prim.Native.Nat.{ℕ, zero, suc, ◌+◌, ◌≤◌, ◌<◌}
use mathlib.Core.Path.{◌≡◌, refl, sym, ap, ap₂, ◌∙◌}
use mathlib.Core.Logic.{◌≢◌, ◌⊎◌, inl, inr}
use mathlib.Core.Bool.{Bool, cond, ◌||◌}
use mathlib.Core.List.{List, [], ◌∷◌, ◌++◌}
use native.Mathlib.Omega.{arith}
use lib.Dec.{eqb, leb}
use lib.ListN.{get_or}
use borrow.Author.Tests.{eq-eqb, ne_eqb, eqb-true, le-leb, lt-leb, lt-ltb, le-ltb}
use Rattle.disk.specs.Root.{slot_of}
use Rattle.rules.specs.Counting.{occurrences}
use Rattle.rules.specs.Anodes.{Anodes, limit, anodes_of}
use Rattle.rules.specs.Chains.{system_owns, blocks_of}
use Rattle.rules.specs.Accepted.{disk_size}
use Rattle.rules.specs.Tables.{entry_or, block_entry}
use Rattle.laws.specs.Tests.{same?, less?}
use Rattle.laws.specs.Sums.{one_at-same, one_at_other}
use Rattle.laws.specs.Bags.{occurrences-nil, occurrences-cons, occurrences-append}
use Rattle.laws.specs.Heads.{Head}
use Rattle.laws.specs.Owners.{owner}
use Rattle.laws.specs.OwnerTable.{not_system}
use Rattle.laws.specs.Acceptance.{size_bounds}
use Rattle.frames.specs.DisjointBlocks.{occurrences-held}
use Rattle.change_laws.specs.Image.{AcceptedWhole, AcceptedImage, accepted_whole, accepted_slots, image-passed}
use Rattle.safe_rules.specs.SafePlans.{SafeChange, rising, slot_blocks, old_blocks}
use Rattle.safe_laws.specs.OldBlocks.{slot_occurrences, system_high, slots_none}
use Rattle.table_laws.specs.ShownOwners.{entry_on}
use Rattle.giving_back.specs.OldTable.{is_old, old_from}

-- ---- lists

-- one of three counts is not 0
some_count : (a b c : ℕ) → (leb 1 a || (leb 1 b || leb 1 c)) ≡ leb 1 (a + (c + b))
some_count a b c = elim (less? 0 a) [
  | inl p ↦ rw (le-leb 1 a p, le-leb 1 (a + (c + b)) (omega (arith, p))) refl
  | inr p ↦ elim (less? 0 b) [
    | inl q ↦ rw (lt-leb 1 a (omega (arith, p)), le-leb 1 b q, le-leb 1 (a + (c + b)) (omega (arith, q))) refl
    | inr q ↦ (let e : a + (c + b) ≡ c = omega (arith, p, q) in rw (lt-leb 1 a (omega (arith, p)), lt-leb 1 b (omega (arith, q)), e) refl)
  ]
]

-- where both tests agree on the n blocks from y upward, both lists are one
old-rising : (blocks : List ℕ) (h d : ℕ) (l : List ℕ) (n y : ℕ) → ((x : ℕ) → x < y + n → is_old h d (get_or blocks x 0) x ≡ leb 1 (occurrences x l)) → old_from blocks h d n y ≡ rising l n y
unfolding old_from rising
old-rising blocks h d l zero y same = refl
old-rising blocks h d l (suc n) y same = ap₂ (λ (b : Bool) (zs : List ℕ). cond b (y ∷ []) [] ++ zs) (same y (omega arith)) (old-rising blocks h d l n (suc y) (λ x k. same x (omega (arith, k))))

-- ---- the entries of the block table

module _ {img : List ℕ} (image : AcceptedImage img) (x : ℕ) (inside : x < disk_size img) where
  abbrev s : Anodes
  s = anodes_of img

  abbrev entry : ℕ
  entry = block_entry img s x

  w : AcceptedWhole img
  w = accepted_whole image

  -- a block that is not the system's shows the head of the chain that holds it
  shows_head : system_owns img x ≡ 0 → (entry ≢ 0) × (entry < limit)
  shows_head z =
      let (h, low, one, others, head) = owner w.good x inside z in
      let on = occurrences-held w.good h head x inside in
      let is : entry ≡ h = eqb-true entry h (entry_on img image.blocks image.anodes image.accepted h head x inside ∙ le-leb 1 (occurrences x (blocks_of s h)) (omega (arith, one, on))) in
      (λ e. head.pos (sym is ∙ e), rw is low)

  -- each of the first three shows 65535
  shows_first : x < 3 → entry ≡ 65535
  unfolding block_entry entry_or
  shows_first l = rw (lt-ltb x 3 l) refl

  -- and another of the system's 65534
  shows_system : 3 ≤ x → system_owns img x ≢ 0 → entry ≡ 65534
  unfolding block_entry entry_or
  shows_system l u = rw (le-ltb x 3 l, ne_eqb (system_owns img x) 0 u) refl

  -- no block shows 0
  shows_some : entry ≢ 0
  shows_some e = elim (same? (system_owns img x) 0) [
    | inl z ↦ (shows_head z).0 e
    | inr u ↦ elim (less? x 3) [ inl l ↦ omega (arith, e, shows_first l) | inr l ↦ omega (arith, e, shows_system l u) ]
  ]

  -- exactly the anode blocks show 65534
  shows_slot : eqb entry 65534 ≡ leb 1 (occurrences x (slot_blocks (slot_of img) 42))
  shows_slot =
      let held = slot_occurrences img x 42 in
      let none = accepted_slots image in
      elim (same? (system_owns img x) 0) [
        | inl z ↦ ne_eqb entry 65534 (λ e. omega (arith, e, (shows_head z).1)) ∙ sym (lt-leb 1 (occurrences x (slot_blocks (slot_of img) 42)) (omega (arith, z, held, system_high (slot_of img) x (not_system img x z))))
        | inr u ↦ elim (less? x 3) [
          | inl l ↦ ne_eqb entry 65534 (λ e. omega (arith, e, shows_first l)) ∙ sym (lt-leb 1 (occurrences x (slot_blocks (slot_of img) 42)) (omega (arith, held, slots_none img none x (inl l))))
          | inr l ↦ eq-eqb entry 65534 (shows_system l u) ∙ sym (le-leb 1 (occurrences x (slot_blocks (slot_of img) 42)) (omega (arith, u, held, system_high (slot_of img) x l)))
        ]
      ]

  -- exactly the blocks of h's chain show h, and 0 is shown by none
  shows_chain : (h : ℕ) (old : List ℕ) → (Head s.next s.block h × (old ≡ blocks_of s h)) ⊎ ((h ≡ 0) × (old ≡ [])) → eqb entry h ≡ leb 1 (occurrences x old)
  shows_chain h old (inl (head, is)) = rw is (entry_on img image.blocks image.anodes image.accepted h head x inside)
  shows_chain h old (inr (z, none)) = ne_eqb entry h (λ e. shows_some (e ∙ z)) ∙ sym (lt-leb 1 (occurrences x old) (omega (arith, ap (occurrences x) none, occurrences-nil x)))

  -- exactly the block that changes is d, and 65535 is no block
  is_changing : (d : ℕ) (changing : List ℕ) → (changing ≡ d ∷ []) ⊎ ((d ≡ 65535) × (changing ≡ [])) → eqb x d ≡ leb 1 (occurrences x changing)
  is_changing d changing (inl is) = let count = ap (occurrences x) is ∙ occurrences-cons x d [] in elim (same? d x) [
    | inl e ↦ eq-eqb x d (sym e) ∙ sym (le-leb 1 (occurrences x changing) (omega (arith, count, one_at-same d x e, occurrences-nil x)))
    | inr e ↦ ne_eqb x d (λ q. e (sym q)) ∙ sym (lt-leb 1 (occurrences x changing) (omega (arith, count, one_at_other d x e, occurrences-nil x)))
  ]
  is_changing d changing (inr (far, none)) =
      ne_eqb x d (λ e. omega (arith, e, far, inside, (size_bounds img (image-passed image).size_right).1)) ∙ sym (lt-leb 1 (occurrences x changing) (omega (arith, ap (occurrences x) none, occurrences-nil x)))

  -- so a block is old by its entry exactly where it stands in one of the three lists
  shows_old : (h d : ℕ) (old changing : List ℕ) → (Head s.next s.block h × (old ≡ blocks_of s h)) ⊎ ((h ≡ 0) × (old ≡ [])) → (changing ≡ d ∷ []) ⊎ ((d ≡ 65535) × (changing ≡ [])) →
      is_old h d entry x ≡ leb 1 (occurrences x (old ++ (changing ++ slot_blocks (slot_of img) 42)))
  unfolding is_old
  shows_old h d old changing chain changes =
      let all : occurrences x old + (occurrences x changing + occurrences x (slot_blocks (slot_of img) 42)) ≡ occurrences x (old ++ (changing ++ slot_blocks (slot_of img) 42)) =
      omega (arith, occurrences-append x old (changing ++ slot_blocks (slot_of img) 42), occurrences-append x changing (slot_blocks (slot_of img) 42)) in
      rw (shows_chain h old chain, shows_slot, is_changing d changing changes) (some_count (occurrences x old) (occurrences x (slot_blocks (slot_of img) 42)) (occurrences x changing) ∙ ap (leb 1) all)

-- THE OLD BLOCKS BY THE BLOCK TABLE
pub old_shown : {img : List ℕ} → AcceptedImage img → (blocks : List ℕ) → ((y : ℕ) → y < disk_size img → get_or blocks y 0 ≡ block_entry img (anodes_of img) y) → (c : SafeChange) (h d : ℕ)
    → ((Head (anodes_of img).next (anodes_of img).block h × (c.old ≡ blocks_of (anodes_of img) h)) ⊎ ((h ≡ 0) × (c.old ≡ [])))
    → ((c.changing ≡ d ∷ []) ⊎ ((d ≡ 65535) × (c.changing ≡ [])))
    → old_from blocks h d (disk_size img) 0 ≡ old_blocks img c
unfolding old_blocks
old_shown {img} image blocks shown c h d chain changes = old-rising blocks h d (c.old ++ (c.changing ++ slot_blocks (slot_of img) 42)) (disk_size img) 0
    (λ x l. let inside : x < disk_size img = omega (arith, l) in ap (λ (o : ℕ). is_old h d o x) (shown x inside) ∙ shows_old image x inside h d c.old c.changing chain changes)
