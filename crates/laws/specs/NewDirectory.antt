-- A directory block with no entry: its length, its head, its end mark at byte 16, and whose block it is.
use Rattle.std.specs.Prelude.{ℕ, ◌≡◌, refl, ◌&&◌, ◌||◌, List, [], ◌∷◌, T, eqb, length, get_or, None, Ok}
use Rattle.std.proofs.Common.{sym, ◌∙◌, arith}
use Rattle.std.proofs.Math.ListN.{length-replicate, get_or-replicate}
use Rattle.disk.specs.Blocks.{block_of}
use Rattle.directory.specs.Entries.{directory_mark, directory_header_in, walked_at}
use Rattle.directory.proofs.Laws.{length-put_directory_header, get_or-put_directory_header-after, directory_header_in-put_directory_header}
use Rattle.rules.specs.Counting.{gather}
use Rattle.rules.specs.Anodes.{Anodes, limit}
use Rattle.rules.specs.Chains.{chain_of}
use Rattle.rules.specs.Walk.{Dir, entries_from, entries_in, is_block_of, items_by}
use Rattle.rules.specs.Format.{zero_block, new_directory_block}
use Rattle.laws.specs.Tests.{eq→eqb, and, or_right}
use Rattle.laws.specs.Entries.{entries_end_lem, items_at_whole}

module _ (owner parent : ℕ) where
  pub length-new : length (new_directory_block owner parent) ≡ 512
  unfolding new_directory_block
  length-new = length-put_directory_header zero_block _ ∙ length-replicate {A = ℕ} 512 0

  pub head_new : directory_header_in (new_directory_block owner parent) ≡ record { mark = directory_mark; owner = record { 0 = owner }; parent = record { 0 = parent } }
  unfolding new_directory_block
  head_new = directory_header_in-put_directory_header zero_block _ (omega (arith, length-replicate {A = ℕ} 512 0))

  zero-new : get_or (new_directory_block owner parent) 16 0 ≡ 0
  unfolding new_directory_block
  zero-new = get_or-put_directory_header-after zero_block _ 16 (omega arith) ∙ get_or-replicate {A = ℕ} 512 16 0 0 (omega arith)

  pub mark-new : walked_at (new_directory_block owner parent) 16 ≡ Ok None
  unfolding walked_at
  mark-new = rw zero-new

  pub entries_new : (y : ℕ) → entries_from 28 (new_directory_block owner parent) y 16 ≡ []
  entries_new y = entries_end_lem (new_directory_block owner parent) y 28 16 mark-new

-- a new directory block is marked as its directory's
pub new-marked : (i : List ℕ) (y owner parent : ℕ) → block_of i y ≡ new_directory_block owner parent → (d : Dir) → d.head ≡ owner → d.parent ≡ parent → T (is_block_of i d y)
unfolding is_block_of
new-marked i y owner parent e d p q =
    rw (e, head_new owner parent)
    (and (eqb directory_mark directory_mark) (eqb owner d.head && (eqb d.head 5 || eqb parent d.parent)) (eq→eqb directory_mark directory_mark refl)
    (and (eqb owner d.head) (eqb d.head 5 || eqb parent d.parent) (eq→eqb owner d.head (sym p)) (or_right (eqb d.head 5) (eqb parent d.parent) (eq→eqb parent d.parent (sym q)))))

-- a directory whose chain is one anode with one new block gives nothing
pub none-new : (i : List ℕ) (s : Anodes) (d : Dir) → chain_of s.next limit d.head ≡ d.head ∷ [] → s.count d.head ≡ 1 → block_of i (s.block d.head) ≡ new_directory_block d.head d.parent →
    items_by (entries_in i) (is_block_of i) s d ≡ []
unfolding items_by gather entries_in
none-new i s d chain one block =
    rw (
      chain,
      items_at_whole (entries_in i) (is_block_of i) s d d.head one (new-marked i (s.block d.head) d.head d.parent block d refl refl),
      block,
      entries_new d.head d.parent (s.block d.head),
    )
