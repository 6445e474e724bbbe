-- Laws of the pairs and differences along entries, a chain and the queue. Assumes nothing.
use Prim.Native.Nat.{ℕ, ◌+◌}
use mathlib.Core.Path.{◌≡◌, refl, sym, ◌∙◌}
use mathlib.Core.Logic.{◌⊎◌, inl, inr}
use mathlib.Core.List.{List, [], ◌∷◌, ◌++◌}
use mathlib.Core.Option.{Option, some, none-ne-some}
use native.Mathlib.Numerals.{add-one}
use lib.ListN.{get_or, set}
use Rattle.counting.specs.Laws.{neither}
use Rattle.rules.specs.Counting.{any_in, gather}
use Rattle.rules.specs.Anodes.{limit, anodes_of}
use Rattle.rules.specs.Chains.{chain_of}
use Rattle.rules.specs.Walk.{Dir, dir_made, Entered, entries_in}
use Rattle.rules.specs.Lookup.{entries_of, first_named, entry_named, of_entry}
use Rattle.laws.specs.Members.{member-first, member-later, member-left, member_right}
use Rattle.anodes.specs.Loaded.{Loaded}
use Rattle.change_laws.specs.Image.{ReachedDir}
use Rattle.change_laws.specs.Reached.{reached_unbroken}
use Rattle.lookup.proofs.Laws.{entries_along, along_whole, along, unbroken_along}
use Rattle.walk_steps.specs.Steps.{dirs_from}
use Rattle.paths.specs.Reached.{found_in}
use Rattle.differences.specs.Differences.{only_first, in_both}
use Rattle.differences.specs.Pairs.{Pairs, pairs_of, counterpart, partner_of, met_by, paired, paired_all, partner_in, entry_difference, pairs_behind, differences_along, pairs_along}
use Rattle.differences.specs.Handing.{Handing, hand_all}
use Rattle.handing.specs.HandLaws.{hand_append}
use Rattle.entry_pairs.specs.Readable.{Readable}
use Rattle.entry_pairs.proofs.ReadableIn.{readable_in}
use Rattle.comparing.specs.Walked.{ReadableEntries}

-- ---- one entry with its counterpart

module _ (img j : List ℕ) (p : ℕ) (e x : Entered) (same : x ≡ e) (o : Option Entered) (is : o ≡ entry_named j (anodes_of j) p e.name) where
  -- the pair that is noted
  pub pair_step : (partners met partners' met' : List ℕ) → pairs_of partners' met' ≡ pairs_of (set partners x.anode (partner_of x o)) (met_by met o) → pairs_of partners' met' ≡ paired j p (pairs_of partners met) e
  unfolding paired counterpart
  pair_step partners met partners' met' h = h ∙ rw (same, is) refl

  -- the difference that is handed out
  pub difference_step : (h r : Handing) → r ≡ hand_all h (of_entry o (in_both img j x) (only_first x.start ∷ [])) → r ≡ hand_all h (entry_difference img j p e)
  unfolding entry_difference counterpart
  difference_step h r a = a ∙ rw (same, is) refl

-- ---- what can be read

-- what a name finds in a directory, or in none
pub found_readable : (j : List ℕ) (p : ℕ) → (p ≡ 0) ⊎ ReachedDir j p → (name : List ℕ) (f : Entered) → entry_named j (anodes_of j) p name ≡ some f → Readable j f
unfolding entry_named first_named entries_of chain_of gather
found_readable j p (inl z) name f is = absurd (none-ne-some f (rw z at is))
found_readable j p (inr r) name f is = readable_in (found_in r name f is)

-- the entries of a reached directory
pub directory_readable : {img : List ℕ} {h : ℕ} → ReachedDir img h → ReadableEntries img (entries_of img (anodes_of img) h)
directory_readable r = record { unbroken = reached_unbroken r; each = λ e m. readable_in (record { directory = r; member = m }) }

-- the first of some entries, and those behind it
module _ (img : List ℕ) (es : List Entered) (e : Entered) (rest : List Entered) (is : es ≡ e ∷ rest) (r : ReadableEntries img es) where
  pub readable_here : Readable img e
  readable_here = r.each e (rw is (member-first e rest))

  pub readable_rest : ReadableEntries img rest
  unfolding any_in
  readable_rest = record { unbroken = (neither e.broken (any_in (λ e. e.broken) rest) (rw is at r.unbroken)).1; each = λ x m. r.each x (rw is (member-later x e rest m)) }

-- the entries of the first of some anodes, and those behind it
module _ (img firsts anodes : List ℕ) (a : ℕ) (rest : List ℕ) (is : anodes ≡ a ∷ rest) (r : ReadableEntries img (entries_along img firsts anodes)) where
  pub readable_block : ReadableEntries img (entries_in img (get_or firsts a 0))
  readable_block = record { unbroken = (unbroken_along img firsts anodes a rest is r.unbroken).0; each = λ x i. r.each x (rw (along img firsts anodes a rest is) (member-left x (entries_in img (get_or firsts a 0)) (entries_along img firsts rest) i)) }

  pub readable_behind : ReadableEntries img (entries_along img firsts rest)
  readable_behind = record { unbroken = (unbroken_along img firsts anodes a rest is r.unbroken).1; each = λ x i. r.each x (rw (along img firsts anodes a rest is) (member_right x (entries_in img (get_or firsts a 0)) (entries_along img firsts rest) i)) }

-- the entries of a directory, along its chain
pub along_loaded : (img counts firsts nexts : List ℕ) (h : ℕ) → Loaded img counts firsts nexts → entries_of img (anodes_of img) h ≡ entries_along img firsts (chain_of (λ x. get_or nexts x 0) limit h)
along_loaded img counts firsts nexts h l = rw (← l.is_loaded) (along_whole img firsts nexts counts h)

-- ---- pairs along lists of entries

module _ (j : List ℕ) (p : ℕ) (t : Pairs) where
  pub pairs_none : (es : List Entered) → es ≡ [] → paired_all j p t es ≡ t
  unfolding paired_all
  pairs_none es e = rw e

  pub pairs_first : (es : List Entered) (e : Entered) (rest : List Entered) (r : Pairs) → es ≡ e ∷ rest → r ≡ paired j p t e → paired_all j p r rest ≡ paired_all j p t es
  unfolding paired_all
  pairs_first es e rest r is a = rw (is, a) refl

pub pairs_join : (j : List ℕ) (p : ℕ) (t : Pairs) (xs ys : List Entered) → paired_all j p t (xs ++ ys) ≡ paired_all j p (paired_all j p t xs) ys
unfolding paired_all
pairs_join j p t [] ys = refl
pairs_join j p t (x ∷ xs) ys = pairs_join j p (paired j p t x) xs ys

pub pairs_chain_step : (j : List ℕ) (p : ℕ) (t : Pairs) (img firsts anodes : List ℕ) (a : ℕ) (rest : List ℕ) → anodes ≡ a ∷ rest → (r : Pairs) → r ≡ paired_all j p t (entries_in img (get_or firsts a 0)) →
    paired_all j p r (entries_along img firsts rest) ≡ paired_all j p t (entries_along img firsts anodes)
pairs_chain_step j p t img firsts anodes a rest is r added = rw (along img firsts anodes a rest is, added) (sym (pairs_join j p t _ _))

-- ---- along the queue

module _ (img j : List ℕ) where
  -- the pairs behind a directory more
  pub along_one : (t : Pairs) (front : List Dir) (d : Dir) → pairs_along img j t (front ++ (d ∷ [])) ≡ pairs_behind img j (pairs_along img j t front) d
  unfolding pairs_along
  along_one t [] d = refl
  along_one t (x ∷ front) d = along_one (pairs_behind img j t x) front d

  -- one directory more: its pairs and its differences
  module _ (t : Pairs) (d : Dir) (ds : List Dir) where
    pub along_pairs : (r : Pairs) → r ≡ paired_all j (partner_in t d) t (entries_of img (anodes_of img) d.head) → pairs_along img j r ds ≡ pairs_along img j t (d ∷ ds)
    unfolding pairs_along
    along_pairs r e = rw e refl

    pub along_differences : (r : Pairs) → r ≡ paired_all j (partner_in t d) t (entries_of img (anodes_of img) d.head) → (h s : Handing) →
        s ≡ hand_all h (gather (entry_difference img j (partner_in t d)) (entries_of img (anodes_of img) d.head)) →
        hand_all s (differences_along img j r ds) ≡ hand_all h (differences_along img j t (d ∷ ds))
    unfolding differences_along
    along_differences r e h s g = rw (e, g) (sym (hand_append h _ _))

  -- none left
  pub along_done : (t : Pairs) (ds : List Dir) → ds ≡ [] → (h : Handing) → (pairs_along img j t ds ≡ t) × (hand_all h (differences_along img j t ds) ≡ h)
  unfolding pairs_along differences_along hand_all
  along_done t ds e h = (rw e, rw e)

-- the directories of the queue from i on: none, or the one at i and those behind it
pub dirs-none : (queue parents : List ℕ) (i n : ℕ) → n ≡ 0 → dirs_from queue parents i n ≡ []
unfolding dirs_from
dirs-none queue parents i n e = rw e

pub dirs_step : (queue parents : List ℕ) (i n m : ℕ) → n ≡ m + 1 → dirs_from queue parents i n ≡ dir_made (get_or queue i 0) (get_or parents i 0) ∷ dirs_from queue parents (i + 1) m
unfolding dirs_from
dirs_step queue parents i n m e = rw (e, add-one m, add-one i)
