-- Stores of slots, where tests 1 to 5 pass: the image then has those slots and the anodes that it had, passes 1 to 5 again, and keeps every block but the root and those that a slot came to hold.
use Prim.Native.Nat.{ℕ, zero, suc, ◌*◌, ◌+◌, ◌/◌, ◌%◌, ◌≤◌, ◌<◌}
use Rattle.std.specs.Prelude.{◌≡◌, refl, ◌≢◌, ◌⊎◌, Bool, false, not, List, eqb, length, get_or}
use Rattle.std.proofs.Math.Path.{sym, ap, fun_ext}
use Rattle.std.proofs.Common.{◌∙◌, arith, eq-eqb, ne_eqb, le-ltb}
use Rattle.std.proofs.Math.Logic.{inl, inr}
use Rattle.std.proofs.lemmas.Bool.{eqb-false, lt-leb}
use Rattle.endian.proofs.Laws.{length-put16, get_or-put16_other}
use Rattle.disk.specs.Blocks.{block_of}
use Rattle.disk.specs.Root.{root_in, slot_byte, slot_of, put_slot}
use Rattle.disk.specs.AnodeBlocks.{anode_mark, anode_header_in, anode_in, anode_of}
use Rattle.disk.specs.declared.Anode.{Anode}
use Rattle.disk.specs.declared.AnodeHeader.{AnodeHeader}
use Rattle.disk.specs.declared.Root.{Root}
use Rattle.disk.proofs.Laws.{length-block_of, length-block_of-min, slot_of_high, anode_of_missing, anode_of-there}
use Rattle.disk.proofs.Store.{root_in-put_slot, block_of-with_block-same, slot_of-put_slot-same, slot_of-put_slot_other}
use Rattle.rules.specs.Counting.{any_below}
use Rattle.rules.specs.Anodes.{Anodes, limit, exists_by, fields_of, anodes_of}
use Rattle.rules.specs.Chains.{one_if_holds, system_by}
use Rattle.rules.specs.Accepted.{disk_size, wrong_size, short_tables, wrong_type, last_reserved, wrong_root, wrong_slot, wrong_slots}
use Rattle.rules.specs.Plans.{Slotted, slotted, table_of}
use Rattle.rules.specs.Format.{empty_anode_block}
use Rattle.rules.specs.Table.{in_block, slot_block, with_slot, store_slots, with_slot_table, with_table}
use Rattle.counting.specs.Laws.{neither, none_or, none-and, any_below-all}
use Rattle.laws.specs.Tests.{same?, less?, same, eqb_cases}
use Rattle.laws.specs.Sums.{one_at-same, sum_members}
use Rattle.laws.specs.Space.{Good}
use Rattle.laws.specs.Owners.{total-held}
use Rattle.laws.specs.Moves.{SlotsGrew}
use Rattle.laws.specs.Passes.{Reading}
use Rattle.laws.specs.TestsPassed.{right_slot}
use Rattle.laws.specs.NewAnodeBlock.{length-empty_anode_block, anode_header_in-empty_anode_block, anode_in-empty_anode_block}
use Rattle.frames.specs.Kept.{Unheld, Kept, kept-all, kept_both, disk_size-kept, wrong_size-kept, short_tables-kept, slot_of-kept}
use Rattle.frames.specs.StoredBlocks.{with_block-kept, in_block-kept, block_of-in_block}
use Rattle.frames.specs.StoredAnodes.{root_unheld, with_anodes-stored, anodes_of-with_anodes}

-- slots that may stand in an image: a slot in use stays in use, a block stands in one slot alone and lies behind the first three, and there are 42; a slot in use may hold another block
pub record SlotsFor (img : List ℕ) (slots : ℕ → ℕ) : Type 0 where
  pub used : (k : ℕ) → slot_of img k ≢ 0 → slots k ≢ 0
  pub placed : (k : ℕ) → slots k ≢ 0 → (3 ≤ slots k) × (slots k < disk_size img)
  pub once : (k l : ℕ) → slots k ≢ 0 → slots k ≡ slots l → k ≡ l
  pub none_past : (k : ℕ) → 42 ≤ k → slots k ≡ 0

-- an image, lent tables of these lengths, that passes 1 to 5
pub record RightDisk (img : List ℕ) (blocks anodes : ℕ) : Type 0 where
  pub size_right : wrong_size img ≡ false
  pub tables_long : short_tables img blocks anodes ≡ false
  pub type_right : wrong_type img ≡ false
  pub root_right : wrong_root img ≡ false
  pub slots_right : wrong_slots img ≡ false

-- a block of the disk lies in the image
pub block_inside : (img : List ℕ) (y : ℕ) → y < disk_size img → y * 512 + 512 ≤ length img
unfolding disk_size
block_inside img y l = omega arith

-- ---- one slot

-- block y comes to slot k
module _ (img : List ℕ) (k y : ℕ) (new : List ℕ) (low : k < 42) (above : 3 ≤ y) (inside : y * 512 + 512 ≤ length img) (whole : length new ≡ 512) where
  -- the root block has it
  abbrev rooted : List ℕ
  rooted = in_block img 2 (λ b. put_slot b k y)

  -- and the block is stored
  abbrev j : List ℕ
  j = with_slot img k y new

  root_long : length (put_slot (block_of img 2) k y) ≡ length (block_of img 2)
  root_long = length-put16 (block_of img 2) (slot_byte k) y

  rooted-kept : Kept (λ d. d ≢ 2) img rooted
  rooted-kept = in_block-kept img 2 (λ b. put_slot b k y) root_long

  new-kept : Kept (λ d. d ≢ y) rooted j
  unfolding with_slot
  new-kept = with_block-kept rooted y new (omega (arith, length-block_of-min rooted y))

  not_root : 2 ≢ y
  not_root e = omega arith

  pub slot_kept : Kept (λ d. (d ≢ 2) × (d ≢ y)) img (with_slot img k y new)
  slot_kept = kept_both (λ d o. o.0) (λ d o. o.1) rooted-kept new-kept

  slot_block_lem : block_of j y ≡ new
  unfolding with_slot
  slot_block_lem = block_of-with_block-same rooted y new (whole ∙ sym (length-block_of rooted y (rw rooted-kept.length-kept inside)))

  slot_root : block_of j 2 ≡ put_slot (block_of img 2) k y
  slot_root = new-kept.block_kept 2 not_root ∙ block_of-in_block img 2 (λ b. put_slot b k y) root_long

  slot_this : slot_of j k ≡ y
  unfolding in_block
  slot_this = slot_of-kept new-kept not_root k ∙ slot_of-put_slot-same img k y low (omega arith)

  pub slot_other : (i : ℕ) → i ≢ k → slot_of (with_slot img k y new) i ≡ slot_of img i
  unfolding in_block
  slot_other i n = slot_of-kept new-kept not_root i ∙ slot_of-put_slot_other img k y i n

-- what the root block keeps beside its slots: its fields, and the bytes before and behind the slots
pub record RootKept (img j : List ℕ) : Type 0 where
  pub fields_kept : root_in (block_of j 2) ≡ root_in (block_of img 2)
  pub bytes-kept : (i : ℕ) → (i < 96) ⊎ (180 ≤ i) → get_or (block_of j 2) i 0 ≡ get_or (block_of img 2) i 0

root_own : (img : List ℕ) → RootKept img img
root_own img = record { fields_kept = refl; bytes-kept = λ i o. refl }

-- another slot stored
root_more : (img j m : List ℕ) (k y : ℕ) → k < 42 → block_of m 2 ≡ put_slot (block_of j 2) k y → RootKept img j → RootKept img m
root_more img j m k y low e r = record {
  fields_kept = ap root_in e ∙ root_in-put_slot (block_of j 2) k y ∙ r.fields_kept;
  bytes-kept = λ i o. ap (λ (b : List ℕ). get_or b i 0) e ∙ get_or-put16_other (block_of j 2) (slot_byte k) y i (λ q. outside i o (omega arith)) (λ q. outside i o (omega arith)) ∙ r.bytes-kept i o;
}
  where
    outside : (i : ℕ) → (i < 96) ⊎ (180 ≤ i) → (96 ≤ i) × (i < 180) → ⊥
    outside i (inl l) q = omega (arith, q)
    outside i (inr l) q = omega (arith, q)

-- ---- the slots below a bound

module _ (img : List ℕ) {blocks anodes : ℕ} (r : RightDisk img blocks anodes) (slots : ℕ → ℕ) (p : SlotsFor img slots) where
  -- slot i is to hold another block
  abbrev Other : ℕ → Type 0
  Other i = slots i ≢ slot_of img i

  -- which is a block then
  other_used : (i : ℕ) → Other i → slots i ≢ 0
  other_used i o z = elim (same? (slot_of img i) 0) [ inl e ↦ o (z ∙ sym e) | inr u ↦ p.used i u z ]

  -- a block that no such slot below k is to hold, and that is not the root
  abbrev Apart : ℕ → ℕ → Type 0
  Apart k b = (b ≢ 2) × ((i : ℕ) → i < k → Other i → slots i ≢ b)

  -- j is img with the slots below k stored
  record StoredTo (k : ℕ) (j : List ℕ) : Type 0 where
    kept : Kept (Apart k) img j
    root : RootKept img j
    done : (i : ℕ) → i < k → slot_of j i ≡ slots i
    rest : (i : ℕ) → k ≤ i → slot_of j i ≡ slot_of img i
    held : (i : ℕ) → i < k → Other i → block_of j (slots i) ≡ slot_block img i

  -- what a slot's new block holds at first is a whole block
  length-slot_block : (k : ℕ) → length (slot_block img k) ≡ 512
  unfolding slot_block
  length-slot_block k = elim (same? (slot_of img k) 0) [
    | inl z ↦ rw (eq-eqb (slot_of img k) 0 z) (length-empty_anode_block k)
    | inr u ↦ rw (ne_eqb (slot_of img k) 0 u) (length-block_of img (slot_of img k) (right_slot img r.slots_right k u).inside)
  ]

  -- a slot that stays
  stored_same : (k : ℕ) (j : List ℕ) → slots k ≡ slot_of img k → StoredTo k j → StoredTo (suc k) j
  stored_same k j e w = record {
    kept = record { length-kept = w.kept.length-kept; block_kept = λ d o. w.kept.block_kept d (o.0, λ i l. o.1 i (omega arith)) };
    root = w.root;
    done = λ i l. elim (same? i k) [ inl q ↦ rw q (w.rest k (omega arith) ∙ sym e) | inr n ↦ w.done i (omega arith) ];
    rest = λ i l. w.rest i (omega arith);
    held = λ i l o. w.held i (elim (same? i k) [ inl q ↦ absurd (rw q at o e) | inr n ↦ omega arith ]) o;
  }

  -- a slot that is to hold another block
  stored_other : (k : ℕ) (j : List ℕ) → k < 42 → Other k → StoredTo k j → StoredTo (suc k) (with_slot j k (slots k) (slot_block img k))
  stored_other k j low o w =
      let y = slots k in
      let here = p.placed k (other_used k o) in
      let inside : y * 512 + 512 ≤ length j = rw w.kept.length-kept (block_inside img y here.1) in
      let new = slot_block img k in
      let whole = length-slot_block k in
      let k1 = slot_kept j k y new low here.0 inside whole in
      record {
        kept = kept_both (λ d q. (q.0, λ i l. q.1 i (omega arith))) (λ d q. (q.0, λ e. q.1 k (omega arith) o (sym e))) w.kept k1;
        root = root_more img j (with_slot j k y new) k y low (slot_root j k y new low here.0 inside whole) w.root;
        done = λ i l. elim (same? i k) [
          | inl q ↦ rw q (slot_this j k y new low here.0 inside whole)
          | inr n ↦ slot_other j k y new low here.0 inside whole i n ∙ w.done i (omega arith)
        ];
        rest = λ i l. slot_other j k y new low here.0 inside whole i (omega arith) ∙ w.rest i (omega arith);
        held = λ i l q. elim (same? i k) [
          | inl e ↦ rw e (slot_block_lem j k y new low here.0 inside whole)
          | inr n ↦ k1.block_kept (slots i) (λ e. omega (arith, e, (p.placed i (other_used i q)).0), λ e. n (p.once i k (other_used i q) e)) ∙ w.held i (omega arith) q
        ];
      }

  stored_to : (k : ℕ) → k ≤ 42 → StoredTo k (store_slots img slots k)
  unfolding store_slots
  stored_to zero l = record {
    kept = kept-all img;
    root = root_own img;
    done = λ i m. absurd (omega arith);
    rest = λ i m. refl;
    held = λ i m. absurd (omega arith);
  }
  stored_to (suc k) l = elim (eqb_cases (slots k) (slot_of img k) (store_slots img slots k) (with_slot (store_slots img slots k) k (slots k) (slot_block img k))) [
    | inl (e, i) ↦ rw i (stored_same k (store_slots img slots k) e (stored_to k (omega arith)))
    | inr (o, i) ↦ rw i (stored_other k (store_slots img slots k) (omega arith) o (stored_to k (omega arith)))
  ]

  -- ---- all 42

  -- the image with these slots
  abbrev g : List ℕ
  g = with_slot_table img slots

  all-stored : StoredTo 42 g
  all-stored = stored_to 42 (omega arith)

  other_low : (i : ℕ) → Other i → i < 42
  other_low i o = elim (less? i 42) [ inl l ↦ l | inr l ↦ absurd (o (p.none_past i l ∙ sym (slot_of_high img i l))) ]

  -- every block but the root and those that a slot came to hold
  pub slots_kept : Kept (λ b. (b ≢ 2) × ((k : ℕ) → slots k ≢ slot_of img k → slots k ≢ b)) img (with_slot_table img slots)
  slots_kept = record { length-kept = all-stored.kept.length-kept; block_kept = λ d o. all-stored.kept.block_kept d (o.0, λ i l. o.1 i) }

  pub slots_root : RootKept img (with_slot_table img slots)
  slots_root = all-stored.root

  slot_now : (k : ℕ) → slot_of g k ≡ slots k
  slot_now k = elim (less? k 42) [ inl l ↦ all-stored.done k l | inr l ↦ slot_of_high g k l ∙ sym (p.none_past k l) ]

  -- the slots that were stored are read
  pub slots_stored : slot_of (with_slot_table img slots) ≡ slots
  slots_stored = fun_ext slot_now

  pub slots_size : disk_size (with_slot_table img slots) ≡ disk_size img
  slots_size = disk_size-kept slots_kept

  pub slots_last : last_reserved (with_slot_table img slots) ≡ last_reserved img
  unfolding last_reserved
  slots_last = ap (λ (x : Root). x.last.0) slots_root.fields_kept

  -- what the block of a slot in use holds: that of an empty slot is new, any other has what the slot's block had
  slot_holds : (k : ℕ) → slots k ≢ 0 → ((slot_of img k ≡ 0) × (block_of g (slots k) ≡ empty_anode_block k)) ⊎ ((slot_of img k ≢ 0) × (block_of g (slots k) ≡ block_of img (slot_of img k)))
  unfolding slot_block
  slot_holds k u = elim (same? (slots k) (slot_of img k)) [
    | inl e ↦ inr (λ z. u (e ∙ z), slots_kept.block_kept (slots k) (λ i. omega (arith, i, (p.placed k u).0), λ l o i. o (rw (p.once l k (other_used l o) i) e)) ∙ ap (block_of img) e)
    | inr o ↦ (let b = all-stored.held k (other_low k o) o in elim (same? (slot_of img k) 0) [
      | inl z ↦ inl (z, b ∙ rw (eq-eqb (slot_of img k) 0 z))
      | inr n ↦ inr (n, b ∙ rw (ne_eqb (slot_of img k) 0 n))
    ])
  ]

  -- ---- the anodes

  anode_now : (a : ℕ) → anode_of g a ≡ anode_of img a
  anode_now a =
      let k = a / 82 in
      elim (same? (slots k) 0) [
        | inl z ↦ (let was : slot_of img k ≡ 0 = elim (same? (slot_of img k) 0) [ inl e ↦ e | inr n ↦ absurd (p.used k n z) ] in
            anode_of_missing g a (slot_now k ∙ z) ∙ sym (anode_of_missing img a was))
        | inr u ↦ elim (slot_holds k u) [
          | inl (z, b) ↦ anode_of-there g a (slots k) (slot_now k) u ∙ rw b (anode_in-empty_anode_block k (a % 82)) ∙ sym (anode_of_missing img a z)
          | inr (n, b) ↦ anode_of-there g a (slots k) (slot_now k) u ∙ ap (λ (c : List ℕ). anode_in c (a % 82)) b ∙ sym (anode_of-there img a (slot_of img k) refl n)
        ]
      ]

  -- no anode changes
  pub slots_anodes : anodes_of (with_slot_table img slots) ≡ anodes_of img
  unfolding anodes_of fields_of anode_of
  slots_anodes =
      let count = fun_ext (λ a. ap (λ (x : Anode). x.count) (anode_now a)) in
      let block = fun_ext (λ a. ap (λ (x : Anode). x.block.0) (anode_now a)) in
      let next = fun_ext (λ a. ap (λ (x : Anode). x.next.0) (anode_now a)) in
      λ i. record { count = count i; block = block i; next = next i }

  -- ---- 1 to 5

  slot_head : (k : ℕ) → slots k ≢ 0 → ((anode_header_in (block_of g (slots k))).mark ≡ anode_mark) × ((anode_header_in (block_of g (slots k))).sequence ≡ k)
  slot_head k u = elim (slot_holds k u) [
    | inl (z, b) ↦ (let h = ap anode_header_in b ∙ anode_header_in-empty_anode_block k in (ap (λ (x : AnodeHeader). x.mark) h, ap (λ (x : AnodeHeader). x.sequence) h))
    | inr (n, b) ↦ (let q = right_slot img r.slots_right k n in (ap (λ (c : List ℕ). (anode_header_in c).mark) b ∙ q.marked, ap (λ (c : List ℕ). (anode_header_in c).sequence) b ∙ q.numbered))
  ]

  slot_right : (k : ℕ) → k < 42 → wrong_slot g k ≡ false
  unfolding wrong_slot
  slot_right k l = rw (slot_now k, slots_size) (elim (same? (slots k) 0) [
    | inl z ↦ rw (eq-eqb (slots k) 0 z)
    | inr u ↦ none-and (not (eqb (slots k) 0)) _ (λ e. none_or _ _ (le-ltb (slots k) 3 (p.placed k u).0)
        (none_or _ _ (lt-leb (disk_size img) (slots k) (p.placed k u).1) (none_or _ _ (same _ anode_mark (slot_head k u).0) (same _ k (slot_head k u).1))))
  ])

  -- it passes 1 to 5 again
  pub slots_right : RightDisk (with_slot_table img slots) blocks anodes
  unfolding wrong_type wrong_root wrong_slots
  slots_right = record {
    size_right = wrong_size-kept slots_kept ∙ r.size_right;
    tables_long = short_tables-kept slots_kept blocks anodes ∙ r.tables_long;
    type_right = rw slots_root.fields_kept r.type_right;
    root_right = rw (slots_root.fields_kept, slots_last, slots_size) r.root_right;
    slots_right = none_or _ _ (ne_eqb (slot_of g 0) 0 (λ z. first_used (sym (slot_now 0) ∙ z))) (any_below-all (wrong_slot g) 42 slot_right);
  }
    where
      first_used : slots 0 ≢ 0
      first_used = p.used 0 (eqb-false (slot_of img 0) 0 (neither (eqb (slot_of img 0) 0) (any_below (wrong_slot img) 42) r.slots_right).0)

-- the image's own slots change nothing
pub with_slot_table_own : (img : List ℕ) → with_slot_table img (slot_of img) ≡ img
unfolding store_slots
with_slot_table_own img = same-up_to 42
  where
    same-up_to : (k : ℕ) → store_slots img (slot_of img) k ≡ img
    same-up_to zero = refl
    same-up_to (suc k) = rw (eq-eqb (slot_of img k) (slot_of img k) refl) (same-up_to k)

-- ---- slots and anodes

module _ (img : List ℕ) {blocks anodes : ℕ} (r : RightDisk img blocks anodes) (t : Slotted) (p : SlotsFor img t.slots) where
  -- the image with its slots alone
  abbrev disk : List ℕ
  disk = with_slot_table img t.slots

  right_there : wrong_slots disk ≡ false
  right_there = (slots_right img r t.slots p).slots_right

  -- every block but the root and those that a slot now holds
  pub table_kept : Kept (λ b. (b ≢ 2) × Unheld (with_slot_table img t.slots) b) img (with_table img t)
  unfolding with_table
  table_kept = kept_both
      (λ b o. (o.0, λ k q e. let u = other_used img r t.slots p k q in let now = slot_now img r t.slots p k in o.1 k (λ z. u (sym now ∙ z)) (now ∙ e)))
      (λ b o. o.1) (slots_kept img r t.slots p) (with_anodes-stored disk right_there t.anodes).kept

  -- the table that was stored is read
  pub table-stored : Reading limit (exists_by t.slots) t.anodes → table_of (with_table img t) ≡ t
  unfolding with_table
  table-stored reads =
      let kept = (with_anodes-stored disk right_there t.anodes).kept in
      let same = slots_stored img r t.slots p in
      let slot = fun_ext (λ k. slot_of-kept kept (root_unheld disk right_there) k) ∙ same in
      let anode = anodes_of-with_anodes disk right_there t.anodes (rw same reads) in
      λ i. slotted (anode i) (slot i)

-- ---- slots that have grown

-- no two slots hold one block of a good state
holds_once : (slots : ℕ → ℕ) {A n last : ℕ} {ex : ℕ → Bool} {s : Anodes} {hd sd : ℕ → ℕ} → Good A ex n last s (system_by slots) hd sd → (k l : ℕ) → k < 42 → l < 42 → 3 ≤ slots k → slots k < n → slots k ≡ slots l → k ≡ l
unfolding system_by one_if_holds
holds_once slots g k l low high above below e = elim (same? k l) [
  | inl q ↦ q
  | inr q ↦ (let y = slots k in
      let held : (i : ℕ) → slots i ≡ y → one_if_holds slots y i ≡ 1 = λ i j. rw (ne_eqb (slots i) 0 (λ z. omega (arith, z, j, above))) (one_at-same (slots i) y j) in
      absurd (omega (arith, total-held g y below, rw (le-ltb y 3 above) at (total-held g y below), sum_members (one_if_holds slots y) k l 42 low high q, held k refl, held l (sym e))))
]

-- slots that have grown in a good state may stand in the image
pub grown_slots : (img : List ℕ) (slots : ℕ → ℕ) {A last : ℕ} {ex : ℕ → Bool} {s : Anodes} {hd sd : ℕ → ℕ} → wrong_slots img ≡ false → Good A ex (disk_size img) last s (system_by slots) hd sd →
    SlotsGrew (disk_size img) (slot_of img) slots → SlotsFor img slots
grown_slots img slots right g w = record {
  used = λ k u z. u (sym (w.used_kept k u) ∙ z);
  placed = placed;
  once = λ k l u e. holds_once slots g k l (low k u) (low l (λ z. u (e ∙ z))) (placed k u).0 (placed k u).1 e;
  none_past = past;
}
  where
    past : (k : ℕ) → 42 ≤ k → slots k ≡ 0
    past k l = w.none_past k l ∙ slot_of_high img k l

    low : (k : ℕ) → slots k ≢ 0 → k < 42
    low k u = elim (less? k 42) [ inl l ↦ l | inr l ↦ absurd (u (past k l)) ]

    placed : (k : ℕ) → slots k ≢ 0 → (3 ≤ slots k) × (slots k < disk_size img)
    placed k u = elim (same? (slots k) (slot_of img k)) [
      | inl e ↦ (let q = right_slot img right k (λ z. u (e ∙ z)) in rw e (q.above, q.below))
      | inr n ↦ w.new-placed k n
    ]
