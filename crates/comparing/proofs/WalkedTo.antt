-- How far the walk over the first image's directories has come. Assumes nothing.
use Prim.Native.Nat.{ℕ, ◌+◌, ◌-◌, ◌<◌, ◌≤◌}
use mathlib.Core.Path.{◌≡◌, sym, ap, ◌∙◌}
use mathlib.Core.Logic.{◌⊎◌}
use mathlib.Core.List.{List, [], ◌∷◌, ◌++◌, append_assoc}
use native.Mathlib.Omega.{arith}
use lib.ListN.{get_or}
use Rattle.rules.specs.Counting.{gather}
use Rattle.rules.specs.Anodes.{anodes_of}
use Rattle.rules.specs.Walk.{Dir, dir_made, reached_dirs}
use Rattle.rules.specs.Lookup.{entries_of}
use Rattle.laws.specs.Members.{member-first, member_right}
use Rattle.change_laws.specs.Image.{AcceptedImage, ReachedDir}
use Rattle.change_laws.specs.Reached.{member-reached}
use Rattle.walk_steps.specs.Steps.{dirs_from, queue_of}
use Rattle.differences.specs.Pairs.{Pairs, first_pairs, paired_all, entry_difference, pairs_behind, pairs_along, differences_along}
use Rattle.differences.specs.Handing.{Handing, hand_all}
use Rattle.pair_laws.specs.Partners.{partner_reached}
use Rattle.comparing.proofs.Laws.{along_one, along_pairs, along_differences, along_done, dirs-none, dirs_step}

-- the walk is before directory i of the queue: with the pairs t of those in front of it and the buffer h, what is left comes to what the whole comes to
pub record WalkedTo (img j queue parents : List ℕ) (dirs i : ℕ) (t : Pairs) (h h₀ : Handing) : Type 0 where
  pub front : List Dir
  pub parted : reached_dirs img (anodes_of img) ≡ front ++ dirs_from queue parents i (dirs - i)
  pub so_far : t ≡ pairs_along img j first_pairs front
  pub pairs : pairs_along img j t (dirs_from queue parents i (dirs - i)) ≡ pairs_along img j first_pairs (reached_dirs img (anodes_of img))
  pub rest : hand_all h (differences_along img j t (dirs_from queue parents i (dirs - i))) ≡ hand_all h₀ (differences_along img j first_pairs (reached_dirs img (anodes_of img)))

-- at the start
pub walked_none : (img j queue parents : List ℕ) (dirs : ℕ) (t : Pairs) (h : Handing) → queue_of queue parents dirs ≡ reached_dirs img (anodes_of img) → t ≡ first_pairs → WalkedTo img j queue parents dirs 0 t h h
unfolding queue_of pairs_along
walked_none img j queue parents dirs t h q e =
    let n : dirs - 0 ≡ dirs = omega arith in
    let all : dirs_from queue parents 0 (dirs - 0) ≡ reached_dirs img (anodes_of img) = rw n q in
    record { front = []; parted = sym all; so_far = e; pairs = rw (all, e); rest = rw (all, e) }

module _ {img j queue parents : List ℕ} {dirs i : ℕ} {t : Pairs} {h h₀ : Handing} (g : WalkedTo img j queue parents dirs i t h h₀) where
  module _ (l : i < dirs) where
    -- the directory at i
    abbrev d : Dir
    d = dir_made (get_or queue i 0) (get_or parents i 0)

    abbrev back : List Dir
    back = dirs_from queue parents (i + 1) (dirs - (i + 1))

    next : dirs_from queue parents i (dirs - i) ≡ d ∷ back
    next = dirs_step queue parents i (dirs - i) (dirs - (i + 1)) (omega (arith, l))

    here : reached_dirs img (anodes_of img) ≡ g.front ++ (d ∷ back)
    here = g.parted ∙ ap (λ (x : List Dir). g.front ++ x) next

    -- is reached
    pub walked_reached : AcceptedImage img → ReachedDir img (get_or queue i 0)
    walked_reached a = member-reached a d (rw here (member_right d g.front (d ∷ back) (member-first d back)))

    -- and has its partner in the table, which is reached in the second image, or none
    pub walked_partner : AcceptedImage img → AcceptedImage j → (get_or t.partners (get_or queue i 0) 0 ≡ 0) ⊎ ReachedDir j (get_or t.partners (get_or queue i 0) 0)
    walked_partner a b = rw g.so_far (partner_reached a b g.front d back here)

    -- one directory more
    pub walked_more : (u : Pairs) (k : Handing) → u ≡ paired_all j (get_or t.partners (get_or queue i 0) 0) t (entries_of img (anodes_of img) (get_or queue i 0)) →
        k ≡ hand_all h (gather (entry_difference img j (get_or t.partners (get_or queue i 0) 0)) (entries_of img (anodes_of img) (get_or queue i 0))) →
        WalkedTo img j queue parents dirs (i + 1) u k h₀
    walked_more u k p q = record {
      front = g.front ++ (d ∷ []);
      parted = here ∙ sym (append_assoc g.front (d ∷ []) back);
      so_far = p ∙ ap (λ (x : Pairs). pairs_behind img j x d) g.so_far ∙ sym (along_one img j first_pairs g.front d);
      pairs = along_pairs img j t d back u p ∙ rw next at g.pairs;
      rest = along_differences img j t d back u p h k q ∙ rw next at g.rest;
    }

  -- at the end
  module _ (l : dirs ≤ i) where
    none : dirs_from queue parents i (dirs - i) ≡ []
    none = dirs-none queue parents i (dirs - i) (omega (arith, l))

    pub walked_pairs : t ≡ pairs_along img j first_pairs (reached_dirs img (anodes_of img))
    walked_pairs = sym (along_done img j t (dirs_from queue parents i (dirs - i)) none h).0 ∙ g.pairs

    pub walked_rest : h ≡ hand_all h₀ (differences_along img j first_pairs (reached_dirs img (anodes_of img)))
    walked_rest = sym (along_done img j t (dirs_from queue parents i (dirs - i)) none h).1 ∙ g.rest
