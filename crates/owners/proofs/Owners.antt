-- The owners and entries that are marked so far, slot by slot and anode by anode. Assumes nothing.
use mathlib.Core.Path.{◌≡◌, refl, sym, ◌∙◌}
use mathlib.Core.Logic.{◌≢◌, inl, inr}
use mathlib.Core.Bool.{true, false}
use mathlib.Core.List.{List, []}
use Prim.Native.Nat.{ℕ, ◌+◌, ◌*◌, ◌<◌, ◌≤◌}
use native.Mathlib.Omega.{arith}
use native.Mathlib.Nat.{zero-add, add-zero}
use lib.Dec.{ltb}
use lib.ListN.{get_or}
use borrow.Author.Tests.{lt-ltb, le-ltb, eq-eqb, ne_eqb}
use Rattle.disk.specs.Root.{slot_of}
use Rattle.rules.specs.Counting.{sum_below}
use Rattle.rules.specs.Chains.{one_if_covers, one_if_holds, system_by, system_owns, owners}
use Rattle.rules.specs.Accepted.{disk_size, wrong_size, wrong_slots, owners_of, two_owners}
use Rattle.rules.specs.Tables.{entry_or}
use Rattle.counting.specs.Laws.{any_below_hit, any_below-all, sum_below-none, sum_below_more, sum_below_upto}
use Rattle.laws.specs.TestsPassed.{right_slot}
use Rattle.laws.specs.Acceptance.{size_bounds}
use Rattle.laws.specs.Tests.{same?, less?}
use Rattle.laws.specs.Sums.{one_at-same, one_at_other, sum-zero, sum-none}
use Rattle.laws.specs.Ownership.{covers_cases, covers_in, covers_under, covers_over}
use Rattle.tables.specs.Held.{ZeroBelow}
use Rattle.anodes.specs.Loaded.{anodes_from}
use Rattle.owners.specs.Marks.{KeptOutside, RunFilled, RunHit, Marked, OwnedTwice, head_mark, owner_entry}
use Rattle.owners.proofs.Laws.{marked-free, marked-same, marked-none, marked-run, marked_hit, owned_more}

-- ---- what was checked before

-- a disk has blocks 0 to 2
pub size_some : (img : List ℕ) → wrong_size img ≡ false → 3 ≤ disk_size img
size_some img h = omega (arith, (size_bounds img h).0)

-- a slot's block is above the root block and on the disk
pub slot_within : (img : List ℕ) (s b : ℕ) → wrong_slots img ≡ false → slot_of img s ≡ b → b ≢ 0 → (3 ≤ b) × (b + 1 ≤ disk_size img)
slot_within img s b h e some =
    let right = right_slot img h s (λ z. some (sym e ∙ z)) in
    (omega (arith, e, right.above), omega (arith, e, right.below))

-- ---- the system's blocks

-- the owners of block x that are marked once the slots below k are
unfoldable pub system_below : List ℕ → ℕ → ℕ → ℕ
system_below img k x = one_if_covers 3 0 x + sum_below (one_if_holds (slot_of img) x) k

-- and its entry then
unfoldable pub system_entry_below : List ℕ → ℕ → ℕ → ℕ
system_entry_below img k x = one_if_covers 3 0 x * 65535 + sum_below (one_if_holds (slot_of img) x) k * 65534

-- a slot holds a block as a run of one covers it
holds_covers : (img : List ℕ) (x s b : ℕ) → slot_of img s ≡ b → b ≢ 0 → one_if_holds (slot_of img) x s ≡ one_if_covers 1 b x
unfolding one_if_holds
holds_covers img x s b e some = elim (covers_cases 1 b x) [
  | inl c ↦ rw (e, ne_eqb b 0 some) (one_at-same b x (omega arith) ∙ sym c.2)
  | inr c ↦ rw (e, ne_eqb b 0 some) (one_at_other b x (λ q. c.0 (omega arith) (omega arith)) ∙ sym c.1)
]

holds_none : (img : List ℕ) (x s : ℕ) → slot_of img s ≡ 0 → one_if_holds (slot_of img) x s ≡ 0
unfolding one_if_holds
holds_none img x s e = rw (eq-eqb (slot_of img s) 0 e)

-- below block 3 the system owns, from there on the slots hold
system_owns_low : (img : List ℕ) (x : ℕ) → x < 3 → system_owns img x ≡ 1
unfolding system_by
system_owns_low img x l = rw (lt-ltb x 3 l)

system_owns_high : (img : List ℕ) (x : ℕ) → 3 ≤ x → system_owns img x ≡ sum_below (one_if_holds (slot_of img) x) 42
unfolding system_by
system_owns_high img x l = rw (le-ltb x 3 l)

-- with one owner at most, the sums are what the rules say
system_owners : (img : List ℕ) (x : ℕ) → system_below img 42 x ≤ 1 → system_owns img x ≡ system_below img 42 x
unfolding system_below
system_owners img x once = elim (less? x 3) [
  | inl l ↦ omega (arith, system_owns_low img x l, covers_in 3 0 x (omega arith) l)
  | inr l ↦ omega (arith, system_owns_high img x l, covers_over 3 0 x l)
]

system_entry : (img : List ℕ) (x : ℕ) → system_below img 42 x ≤ 1 → entry_or img 0 x ≡ system_entry_below img 42 x
unfolding system_below system_entry_below entry_or
system_entry img x once = elim (less? x 3) [
  | inl l ↦ rw (lt-ltb x 3 l) (omega (arith, covers_in 3 0 x (omega arith) l))
  | inr l ↦ elim (same? (system_owns img x) 0) [
    | inl z ↦ rw (le-ltb x 3 l, eq-eqb (system_owns img x) 0 z) (omega (arith, system_owns_high img x l, covers_over 3 0 x l))
    | inr z ↦ rw (le-ltb x 3 l, ne_eqb (system_owns img x) 0 z) (omega (arith, system_owns_high img x l, covers_over 3 0 x l))
  ]
]

module _ (img : List ℕ) (n : ℕ) where
  -- blocks 0 to 2 in a table of zeros
  pub system_first : (t t' : List ℕ) → ZeroBelow t n → RunFilled t t' 0 3 65535 → KeptOutside t t' 0 3
      → Marked n (system_below img 0) (system_entry_below img 0) t'
  unfolding system_below system_entry_below
  system_first t t' zeros run kept =
      marked-run n (λ x. 0) (λ x. 0) t (marked-none n t zeros) 0 3 (system_below img 0) (system_entry_below img 0) t' 65535 run kept (λ l e. omega arith)
      (λ x l. let none = sum_below-none (one_if_holds (slot_of img) x) in (omega arith, omega arith))

  module _ (s : ℕ) (t : List ℕ) (m : Marked n (system_below img s) (system_entry_below img s) t) where
    -- an empty slot
    pub system_skip : slot_of img s ≡ 0 → Marked n (system_below img (s + 1)) (system_entry_below img (s + 1)) t
    unfolding system_below system_entry_below
    system_skip e =
        marked-same n (system_below img s) (system_entry_below img s) (system_below img (s + 1)) (system_entry_below img (s + 1)) t m
        (λ x l. let more = sum_below_more (one_if_holds (slot_of img) x) s in let none = holds_none img x s e in (omega arith, omega arith))

    -- the block of a slot
    pub system_more : (t' : List ℕ) (b : ℕ) → slot_of img s ≡ b → b ≢ 0 → RunFilled t t' b (b + 1) 65534 → KeptOutside t t' b (b + 1)
        → Marked n (system_below img (s + 1)) (system_entry_below img (s + 1)) t'
    unfolding system_below system_entry_below
    system_more t' b e some run kept =
        marked-run n (system_below img s) (system_entry_below img s) t m b 1 (system_below img (s + 1)) (system_entry_below img (s + 1)) t' 65534 run kept (λ l e. omega arith)
        (λ x l. let more = sum_below_more (one_if_holds (slot_of img) x) s in let one = holds_covers img x s b e some in (omega arith, omega arith))

    -- the block of a slot, marked already
    pub system_hit : (b : ℕ) → s < 42 → slot_of img s ≡ b → b ≢ 0 → 3 ≤ b → b + 1 ≤ n → RunHit t b (b + 1) → OwnedTwice n (system_owns img)
    unfolding system_below
    system_hit b l e some low high hit =
        owned_more n (λ x. system_below img s x + one_if_covers 1 b x) (system_owns img)
        (marked_hit n (system_below img s) (system_entry_below img s) t m b 1 hit (λ z. high))
        (λ x below two. elim (less? x 3) [
          | inl z ↦ absurd (omega (arith, m.once x below, covers_under 1 b x (omega arith)))
          | inr z ↦ omega (
            arith,
            covers_over 3 0 x z,
            holds_covers img x s b e some,
            sum_below_more (one_if_holds (slot_of img) x) s,
            sum_below_upto (one_if_holds (slot_of img) x) (s + 1) 42 (omega arith),
            system_owns_high img x z,
          )
        ])

  -- all slots
  pub system_done : (t : List ℕ) → Marked n (system_below img 42) (system_entry_below img 42) t → Marked n (system_owns img) (entry_or img 0) t
  system_done t m =
      marked-same n (system_below img 42) (system_entry_below img 42) (system_owns img) (entry_or img 0) t m
      (λ x l. (system_owners img x (m.once x l), system_entry img x (m.once x l)))

-- ---- the anodes' blocks: `c`, `f` and `h` are the tables of counts, of first blocks and of chain heads

-- 1 where anode a covers block x
abbrev cover_of : List ℕ → List ℕ → ℕ → ℕ → ℕ
cover_of c f x a = one_if_covers (get_or c a 0) (get_or f a 0) x

-- what anode a marks block x with
abbrev mark_of : List ℕ → List ℕ → List ℕ → ℕ → ℕ → ℕ
mark_of c f h = head_mark (anodes_from c f []) h

-- which is its head where it covers the block
mark_covers : (c f h : List ℕ) (x a : ℕ) → mark_of c f h x a ≡ cover_of c f x a * get_or h a 0
unfolding head_mark anodes_from
mark_covers c f h x a = elim (covers_cases (get_or c a 0) (get_or f a 0) x) [
  | inl k ↦ rw k.2 (omega arith)
  | inr k ↦ rw k.1 (omega arith)
]

-- the owners of block x that are marked once the anodes below k are
unfoldable pub owners_below : List ℕ → List ℕ → List ℕ → ℕ → ℕ → ℕ
owners_below img c f k = owners k (λ a. get_or c a 0) (λ a. get_or f a 0) (system_owns img)

-- and its entry then
unfoldable pub entry_below : List ℕ → List ℕ → List ℕ → List ℕ → ℕ → ℕ → ℕ
entry_below img c f h k x = entry_or img 0 x + sum_below (mark_of c f h x) k

module _ (img c f h : List ℕ) (n : ℕ) where
  pub anode_first : (t : List ℕ) → Marked n (system_owns img) (entry_or img 0) t → Marked n (owners_below img c f 0) (entry_below img c f h 0) t
  unfolding owners_below owners entry_below
  anode_first t m =
      marked-same n (system_owns img) (entry_or img 0) (owners_below img c f 0) (entry_below img c f h 0) t m
      (λ x l. (omega (arith, sum_below-none (cover_of c f x)), omega (arith, sum_below-none (mark_of c f h x))))

  module _ (a : ℕ) (t : List ℕ) (m : Marked n (owners_below img c f a) (entry_below img c f h a) t) where
    -- the blocks of anode a
    pub anode_more : (t' : List ℕ) → RunFilled t t' (get_or f a 0) (get_or f a 0 + get_or c a 0) (get_or h a 0)
        → KeptOutside t t' (get_or f a 0) (get_or f a 0 + get_or c a 0) → (0 < get_or c a 0 → get_or h a 0 ≢ 0)
        → Marked n (owners_below img c f (a + 1)) (entry_below img c f h (a + 1)) t'
    unfolding owners_below owners entry_below
    anode_more t' run kept some =
        marked-run n (owners_below img c f a) (entry_below img c f h a) t m (get_or f a 0) (get_or c a 0)
        (owners_below img c f (a + 1)) (entry_below img c f h (a + 1)) t' (get_or h a 0) run kept some
        (λ x l. (omega (arith, sum_below_more (cover_of c f x) a), rw (sum_below_more (mark_of c f h x) a, mark_covers c f h x a) (omega arith)))

    -- its mark is not 0: a run from block 0 finds that marked
    pub head_some : (t' : List ℕ) → RunFilled t t' (get_or f a 0) (get_or f a 0 + get_or c a 0) (get_or h a 0) → 0 < n → get_or c 0 0 ≡ 0
        → (a ≢ 0 → get_or f a 0 ≢ 0 → get_or h a 0 ≢ 0) → 0 < get_or c a 0 → get_or h a 0 ≢ 0
    unfolding owners_below owners
    head_some t' run size none heads some =
        heads (λ e. omega (arith, none, rw e at some))
        (λ e. omega (
          arith,
          marked-free n (owners_below img c f a) (entry_below img c f h a) t m 0 size (run.0.each 0 (omega arith) (omega arith)),
          system_owns_low img 0 (omega arith),
        ))

    -- one of them is marked already
    pub anode_hit : a < 3444 → RunHit t (get_or f a 0) (get_or f a 0 + get_or c a 0) → (0 < get_or c a 0 → get_or f a 0 + get_or c a 0 ≤ n)
        → OwnedTwice n (owners_below img c f 3444)
    unfolding owners_below owners
    anode_hit l hit within =
        owned_more n (λ x. owners_below img c f a x + one_if_covers (get_or c a 0) (get_or f a 0) x) (owners_below img c f 3444)
        (marked_hit n (owners_below img c f a) (entry_below img c f h a) t m (get_or f a 0) (get_or c a 0) hit within)
        (λ x below two.
        omega (
          arith,
          sum_below_more (cover_of c f x) a,
          sum_below_upto (cover_of c f x) (a + 1) 3444 (omega arith),
        ))

-- ---- all owners

module _ (img c f : List ℕ) where
  -- two owners of the system's are two owners
  pub system_twice : (n : ℕ) → OwnedTwice n (system_owns img) → OwnedTwice n (owners_below img c f 3444)
  unfolding owners_below owners
  system_twice n o = owned_more n (system_owns img) (owners_below img c f 3444) o (λ x l two. omega arith)

  pub two-owners : (nexts : List ℕ) → OwnedTwice (disk_size img) (owners_below img c f 3444) → two_owners img (anodes_from c f nexts) ≡ true
  unfolding two_owners owners_of owners owners_below anodes_from
  two-owners nexts o =
      any_below_hit (λ x. ltb 1 (owners_of img (anodes_from c f nexts) x)) o.block (disk_size img) o.below (lt-ltb 1 (owners_of img (anodes_from c f nexts) o.block) o.twice)

  pub one_owner : (nexts : List ℕ) (E : ℕ → ℕ) (t : List ℕ) → Marked (disk_size img) (owners_below img c f 3444) E t → two_owners img (anodes_from c f nexts) ≡ false
  unfolding two_owners owners_of owners owners_below anodes_from
  one_owner nexts E t m =
      any_below-all (λ x. ltb 1 (owners_of img (anodes_from c f nexts) x)) (disk_size img)
      (λ x l. le-ltb 1 (owners_of img (anodes_from c f nexts) x) (m.once x l))

  -- with one owner at most, the sums of entries are what the contract says
  owner_entry_lem : (h nexts : List ℕ) (x : ℕ) → owners_below img c f 3444 x ≤ 1 → owner_entry img (anodes_from c f nexts) h x ≡ entry_below img c f h 3444 x
  unfolding owner_entry head_mark entry_or owners_below owners entry_below anodes_from
  owner_entry_lem h nexts x once = elim (same? (system_owns img x) 0) [
    | inl z ↦ elim (less? x 3) [
      | inl l ↦ absurd (omega (arith, system_owns_low img x l))
      | inr l ↦ rw (le-ltb x 3 l, eq-eqb (system_owns img x) 0 z) (sym (zero-add _))
    ]
    | inr z ↦ (
        let none : sum_below (mark_of c f h x) 3444 ≡ 0 =
        sum-zero (mark_of c f h x) 3444
        (λ a l. rw (sum-none (cover_of c f x) 3444 (omega arith) a l)) in
        rw (ne_eqb (system_owns img x) 0 z, none) (sym (add-zero _))
        )
  ]

  pub anode_done : (h nexts t : List ℕ) (n : ℕ) → Marked n (owners_below img c f 3444) (entry_below img c f h 3444) t
      → Marked n (owners_of img (anodes_from c f nexts)) (owner_entry img (anodes_from c f nexts) h) t
  unfolding owners_of owners owners_below anodes_from
  anode_done h nexts t n m =
      marked-same n (owners_below img c f 3444) (entry_below img c f h 3444) (owners_of img (anodes_from c f nexts)) (owner_entry img (anodes_from c f nexts) h) t m
      (λ x l. (refl, owner_entry_lem h nexts x (m.once x l)))
