-- Whether there is a first entry along a chain, block by block. Assumes nothing.
use Prim.Native.Nat.{ℕ}
use mathlib.Core.Path.{◌≡◌, refl, sym, ap, ◌∙◌}
use mathlib.Core.Bool.{true, false, true≢false, false≢true}
use mathlib.Core.List.{List, [], ◌∷◌, ◌++◌}
use lib.ListN.{get_or}
use Rattle.disk.specs.Blocks.{block_of}
use Rattle.rules.specs.Walk.{Entered, entries_from, entries_in}
use Rattle.rules.specs.Lookup.{is_there, nth}
use Rattle.laws.specs.Entries.{block_whole}
use Rattle.lookup.proofs.Laws.{entries_along, nth_along}

there-before : (es rest : List Entered) → is_there (nth es 0) ≡ true → is_there (nth (es ++ rest) 0) ≡ true
unfolding nth
there-before [] rest h = absurd (false≢true h)
there-before (e ∷ es) rest h = refl

none_before : (es rest : List Entered) → is_there (nth es 0) ≡ false → nth (es ++ rest) 0 ≡ nth rest 0
unfolding nth
none_before [] rest h = refl
none_before (e ∷ es) rest h = absurd (true≢false h)

-- the block of the first of some anodes, and those behind it
module _ (img firsts anodes : List ℕ) (a : ℕ) (rest : List ℕ) (is : anodes ≡ a ∷ rest) (block : List ℕ) (part : block ≡ block_of img (get_or firsts a 0)) where
  -- the entries behind the block
  abbrev behind : List Entered
  behind = entries_along img firsts rest

  along : nth (entries_in img (get_or firsts a 0) ++ behind) 0 ≡ nth (entries_along img firsts anodes) 0
  along = nth_along img firsts anodes a rest is 0 _ refl

  pub there_along : is_there (nth (entries_from 28 block (get_or firsts a 0) 16) 0) ≡ true → is_there (nth (entries_along img firsts anodes) 0) ≡ true
  there_along h = sym (ap is_there along) ∙ there-before (entries_in img (get_or firsts a 0)) behind (rw (block_whole img (get_or firsts a 0) block part) at h)

  pub none_along : is_there (nth (entries_from 28 block (get_or firsts a 0) 16) 0) ≡ false → nth behind 0 ≡ nth (entries_along img firsts anodes) 0
  none_along h = sym (none_before (entries_in img (get_or firsts a 0)) behind (rw (block_whole img (get_or firsts a 0) block part) at h)) ∙ along
