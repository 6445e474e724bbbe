-- In an accepted image the block table gives a chain's head for owner to exactly the blocks of that chain.
use Rattle.std.specs.Prelude.{ℕ, ◌≤◌, ◌<◌, ◌≡◌, ◌≢◌, Bool, false, eqb, leb, get_or}
use Rattle.std.proofs.Common.{sym, ◌∙◌, arith}
use Rattle.std.proofs.Math.Path.{ap}
use Rattle.std.proofs.Math.Logic.{inl, inr}
use mathlib.Core.List.{List, ◌++◌}
use Rattle.std.proofs.Math.ListN.{length, length-append}
use borrow.Author.Tests.{le-ltb, lt-ltb, le-leb, lt-leb, eq-eqb, ne_eqb}
use Rattle.disk.specs.AnodeBlocks.{listed}
use Rattle.disk.proofs.Laws.{length-listed}
use Rattle.rules.specs.Counting.{occurrences}
use Rattle.rules.specs.Anodes.{Anodes, limit, anodes_of}
use Rattle.rules.specs.Chains.{one_if_covers, system_owns, owners, blocks_of}
use Rattle.rules.specs.Accepted.{disk_size, check_answer}
use Rattle.rules.specs.Tables.{chain_head, head_where, owner_head, entry_or, block_entry, block_table}
use Rattle.laws.specs.Tests.{same?, less?}
use Rattle.laws.specs.Sums.{sum_single, sum_members}
use Rattle.laws.specs.Ownership.{covers_cases, covers_in}
use Rattle.laws.specs.Heads.{Head, heads_one, head_of_heads}
use Rattle.laws.specs.Held.{held, held_some}
use Rattle.laws.specs.Space.{Good}
use Rattle.laws.specs.Owners.{owner}
use Rattle.laws.specs.OwnerTable.{table-entry, held_data, not_system}
use Rattle.laws.specs.Acceptance.{passed_of}
use Rattle.laws.specs.OneOwner.{good}
use Rattle.frames.specs.DisjointBlocks.{occurrences-held}

module _ {ex : ℕ → Bool} {n last : ℕ} {s : Anodes} {system hd sd : ℕ → ℕ} (g : Good limit ex n last s system hd sd) where
  -- the head of the chain that owns a block is the one that holds it
  owner_holds : (m x : ℕ) → 0 < held limit hd s.count s.block m x → owner_head s x ≡ m
  unfolding owner_head head_where chain_head owners
  owner_holds m x p =
      let (a, l, e, from, to) = held_some limit hd s.count s.block m x p in
      let here : one_if_covers (s.count a) (s.block a) x ≡ 1 = covers_in (s.count a) (s.block a) x from to in
      let inside : x < n = (held_data g m x p).0 in
      sum_single (head_where s x) a limit l (λ j k d. elim (covers_cases (s.count j) (s.block j) x) [
        | inl c ↦ absurd (omega (arith, g.own.not-two x inside, here, c.2, sum_members (λ a. one_if_covers (s.count a) (s.block a) x) j a limit k l d))
        | inr c ↦ rw c.1
      ])
      ∙ rw here (heads_one g.linked (head_of_heads g.linked) g.heads a ∙ e)

  module _ (h : ℕ) (d : Head s.next s.block h) (x : ℕ) (inside : x < n) where
    -- a block that is not the system's has owner h exactly where it stands on h's chain
    pub owner_on : system x ≡ 0 → eqb (owner_head s x) h ≡ leb 1 (occurrences x (blocks_of s h))
    owner_on z =
        let o = owner g x inside z in
        let is : owner_head s x ≡ o.0 = owner_holds o.0 x (omega (arith, o.2)) in
        let on = occurrences-held g h d x inside in
        elim (same? o.0 h) [
          | inl e ↦ (let k : held limit hd s.count s.block h x ≡ 1 = rw e at o.2 in rw (is, eq-eqb o.0 h e, le-leb 1 (occurrences x (blocks_of s h)) (omega (arith, on, k))))
          | inr e ↦ (let k = o.3 h (g.linked.view.below h d.in_use) (λ q. e (sym q)) in rw (is, ne_eqb o.0 h e, lt-leb 1 (occurrences x (blocks_of s h)) (omega (arith, on, k))))
        ]

    -- a block of the system's stands on no chain
    pub system_off : system x ≢ 0 → leb 1 (occurrences x (blocks_of s h)) ≡ false
    system_off z = elim (less? 0 (occurrences x (blocks_of s h))) [
      | inl p ↦ absurd (z (held_data g h x (omega (arith, p, occurrences-held g h d x inside))).1)
      | inr p ↦ lt-leb 1 (occurrences x (blocks_of s h)) (omega arith)
    ]

module _ (img : List ℕ) (blocks anodes : ℕ) (ok : check_answer img blocks anodes ≡ 0) where
  abbrev s : Anodes
  s = anodes_of img

  module _ (h : ℕ) (d : Head s.next s.block h) where
    -- a block's entry in the table is h exactly where the block stands on h's chain
    pub entry_on : (x : ℕ) → x < disk_size img → eqb (block_entry img s x) h ≡ leb 1 (occurrences x (blocks_of s h))
    unfolding block_entry entry_or
    entry_on x inside =
        let g = good img blocks anodes (passed_of img blocks anodes ok) in
        let low = g.linked.view.below h d.in_use in
        elim (same? (system_owns img x) 0) [
          | inl z ↦ rw (le-ltb x 3 (not_system img x z), eq-eqb (system_owns img x) 0 z) (owner_on g h d x inside z)
          | inr z ↦ rw (ne_eqb (system_owns img x) 0 z, system_off g h d x inside z) (elim (less? x 3) [
            | inl l ↦ rw (lt-ltb x 3 l) (ne_eqb 65535 h (omega (arith, low)))
            | inr l ↦ rw (le-ltb x 3 l) (ne_eqb 65534 h (omega (arith, low)))
          ])
        ]

    -- in the table that the check leaves, whatever stands behind it
    pub shown_on : (table rest : List ℕ) → table ≡ block_table img s ++ rest → (x : ℕ) → x < disk_size img → eqb (get_or table x 0) h ≡ leb 1 (occurrences x (blocks_of s h))
    unfolding block_table
    shown_on table rest is x inside = rw (is, table-entry (block_entry img s) (disk_size img) rest x inside) (entry_on x inside)

  -- the table has an entry for each block
  pub table_long : (table rest : List ℕ) → table ≡ block_table img s ++ rest → disk_size img ≤ length table
  unfolding block_table
  table_long table rest is =
      omega (arith, ap (λ (l : List ℕ). length l) is ∙ length-append (listed (block_entry img s) 0 (disk_size img)) rest, length-listed (block_entry img s) 0 (disk_size img))
