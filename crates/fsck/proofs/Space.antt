-- The tests of anodes and blocks: the answer of each, what the next one asks, and the tables at the end.
use Prim.Native.Nat.{ℕ, ◌≤◌, ◌<◌}
use mathlib.Core.Path.{◌≡◌, ◌∙◌}
use mathlib.Core.Logic.{◌≢◌}
use mathlib.Core.Bool.{Bool, true, false}
use mathlib.Core.List.{List, ◌++◌}
use lib.ListN.{length, get_or, drop}
use lib.Dec.{eqb}
use Rattle.disk.specs.declared.Root.{Root}
use Rattle.disk.specs.Blocks.{block_of}
use Rattle.disk.specs.Root.{root_in}
use Rattle.rules.specs.Counting.{◌if◌else◌, any_below}
use Rattle.rules.specs.Anodes.{Anodes, limit, exists, anodes_of}
use Rattle.rules.specs.Accepted.{disk_size, wrong_fixed, out_of_range, wrong_links, wrong_free_list, last_reserved, two_owners, no_owner, tree_fault, damage_in}
use Rattle.rules.specs.Tables.{chain_head, anode_table}
use Rattle.laws.specs.Links.{View, Linked, next_below, linked, Closed}
use Rattle.laws.specs.Passes.{Reading}
use Rattle.laws.specs.TestsPassed.{zero_anode, next_used, tested_checked}
use Rattle.laws.specs.ImageAnodes.{reading_of}
use Rattle.anodes.specs.Loaded.{anodes_from}
use Rattle.chains.proofs.Laws.{entry_head, entry_some, head_table}
use Rattle.owners.specs.Marks.{OwnersMarked}
use Rattle.owners.proofs.Shown.{marked_no_owner, marked-table}
use Rattle.laws.specs.Chains.{HeadTable}
use Rattle.fsck.specs.Answers.{Filled}

-- ---- the tests that are passed so far, over the anodes loaded in three tables: `c` counts, `b` first blocks, `n` nexts

-- 6
pub record Passed6 (img c b n : List ℕ) : Type 0 where
  pub loaded : anodes_from c b n ≡ anodes_of img
  pub fixed_right : wrong_fixed (anodes_from c b n) ≡ false

-- and 7
pub record Passed7 (img c b n : List ℕ) : Type 0 where
  pub six : Passed6 img c b n
  pub in_range : any_below (out_of_range (anodes_from c b n) (disk_size img)) 3444 ≡ false

-- and 8
pub record Passed8 (img c b n : List ℕ) : Type 0 where
  pub seven : Passed7 img c b n
  pub links_right : wrong_links (anodes_from c b n) ≡ false

-- and 9
pub record Passed9 (img c b n : List ℕ) : Type 0 where
  pub eight : Passed8 img c b n
  pub free_right : wrong_free_list (anodes_from c b n) (last_reserved img) ≡ false

-- and 10
pub record Passed10 (img c b n : List ℕ) : Type 0 where
  pub nine : Passed9 img c b n
  pub none_twice : two_owners img (anodes_from c b n) ≡ false

-- ---- the answer of the next one

pub space-6 : (img c b n : List ℕ) → anodes_from c b n ≡ anodes_of img → wrong_fixed (anodes_from c b n) ≡ true → damage_in img (anodes_of img) ≡ 6
unfolding damage_in
space-6 img c b n e t = rw (← e, t)

module _ {img c b n : List ℕ} where
  pub space-7 : Passed6 img c b n → any_below (out_of_range (anodes_from c b n) (disk_size img)) 3444 ≡ true → damage_in img (anodes_of img) ≡ 7
  unfolding damage_in
  space-7 p t = rw (← p.loaded, p.fixed_right, t)

  pub space-8 : Passed7 img c b n → wrong_links (anodes_from c b n) ≡ true → damage_in img (anodes_of img) ≡ 8
  unfolding damage_in
  space-8 p t = rw (← p.six.loaded, p.six.fixed_right, p.in_range, t)

  -- what is left of the table of refusals after 8
  left-8 : Passed8 img c b n
      → damage_in img (anodes_of img) ≡ (9 if wrong_free_list (anodes_from c b n) (last_reserved img) else (10 if two_owners img (anodes_from c b n) else (11 if no_owner img (anodes_from c b n) else tree_fault img (anodes_of img))))
  unfolding damage_in
  left-8 p = let s = p.seven.six in rw (← s.loaded, s.fixed_right, p.seven.in_range, p.links_right)

  pub space-9 : Passed8 img c b n → wrong_free_list (anodes_from c b n) (last_reserved img) ≡ true → damage_in img (anodes_of img) ≡ 9
  space-9 p t = left-8 p ∙ rw t

  pub space-10 : Passed9 img c b n → two_owners img (anodes_from c b n) ≡ true → damage_in img (anodes_of img) ≡ 10
  space-10 p t = left-8 p.eight ∙ rw (p.free_right, t)

  -- 11, or the walk's answer
  pub space-11 : Passed10 img c b n → (t : Bool) → no_owner img (anodes_from c b n) ≡ t → damage_in img (anodes_of img) ≡ (11 if t else tree_fault img (anodes_of img))
  space-11 p t e = left-8 p.nine.eight ∙ rw (p.nine.free_right, p.none_twice, e)

  -- ---- what the next one asks

  reading : Passed7 img c b n → Reading limit (exists img) (anodes_from c b n)
  reading p = rw p.six.loaded (reading_of img (disk_size img) (rw p.six.loaded at p.in_range))

  module _ (p : Passed7 img c b n) where
    pub view : View 3444 (λ a. get_or n a 0) (λ a. get_or b a 0)
    unfolding anodes_from
    view = (reading p).view

    pub zero-end : get_or n 0 0 ≡ 0
    unfolding anodes_from
    zero-end = (zero_anode (anodes_from c b n) p.six.fixed_right).2

    pub closed : Closed (λ a. get_or n a 0) (λ a. get_or b a 0)
    unfolding anodes_from
    closed a h = next_used (anodes_from c b n) p.six.fixed_right (disk_size img) p.in_range a (next_below view a h) h

  module _ (p : Passed8 img c b n) where
    pub links : Linked 3444 (λ a. get_or n a 0) (λ a. get_or b a 0)
    unfolding anodes_from
    links = let s = p.seven.six in linked (view p.seven) (zero-end p.seven) (tested_checked (anodes_from c b n) s.fixed_right (view p.seven) (disk_size img) p.seven.in_range p.links_right)

    -- the table of heads
    module _ (t t₀ : List ℕ) (is : t ≡ anode_table (anodes_from c b n) ++ drop 3444 t₀) where
      pub heads_some : (a : ℕ) → a ≢ 0 → get_or b a 0 ≢ 0 → get_or t a 0 ≢ 0
      unfolding anodes_from
      heads_some = entry_some (anodes_from c b n) links t (drop 3444 t₀) is

      heads_table : HeadTable t (anodes_from c b n)
      unfolding anodes_from
      heads_table = head_table (anodes_from c b n) links t (drop 3444 t₀) is

      heads_are : (a : ℕ) → a < 3444 → get_or t a 0 ≡ chain_head (anodes_from c b n) a
      unfolding anodes_from
      heads_are = entry_head (anodes_from c b n) links t (drop 3444 t₀) is

      -- both tables, once the owners are marked
      pub shown : (u u₀ : List ℕ) → drop (disk_size img) u ≡ drop (disk_size img) u₀ → disk_size img ≤ length u → OwnersMarked img (anodes_from c b n) t u
          → Filled img (anodes_of img) u₀ t₀ u t × HeadTable t (anodes_of img)
      shown u u₀ kept room m = (
        record {
          blocks_shown = rw (← p.seven.six.loaded, ← kept) (marked-table img (anodes_from c b n) t heads_are u room m);
          anodes_shown = rw (← p.seven.six.loaded) is;
        },
        rw (← p.seven.six.loaded) heads_table,
      )

pub last_of : (img block : List ℕ) (root : Root) → block ≡ block_of img 2 → root ≡ root_in block → root.last.0 ≡ last_reserved img
unfolding last_reserved
last_of img block root b r = rw (r, b)

-- 11, from the marked table
pub none_of : (img : List ℕ) (s : Anodes) (heads u : List ℕ) (k : ℕ) → k ≡ disk_size img → OwnersMarked img s heads u → any_below (λ x. eqb (get_or u x 0) 0) k ≡ no_owner img s
none_of img s heads u k size m = rw size (marked_no_owner img s _ u m)
