-- The differences that a function gives for entries, handed out along a block, a chain and the queue. Assumes nothing.
use Rattle.std.specs.Prelude.{ℕ, suc, ◌+◌, ◌≡◌, ◌≢◌, List, [], ◌∷◌, ◌++◌, Ok, Some}
use Rattle.std.proofs.Common.{sym, ap, ◌∙◌}
use Rattle.std.proofs.Math.Numerals.{add-one}
use Rattle.std.proofs.Math.ListN.{get_or}
use Rattle.directory.specs.declared.Entry.{Entry}
use Rattle.directory.specs.Entries.{Walked}
use Rattle.rules.specs.Counting.{gather}
use Rattle.rules.specs.Chains.{chain_of}
use Rattle.rules.specs.Walk.{Entered, with_rest, entries_in}
use Rattle.laws.specs.Bags.{gather_append}
use Rattle.laws.specs.Chains.{chain-none, chain-end, chain_step}
use Rattle.laws.specs.Entries.{entered_at}
use Rattle.lookup.proofs.Laws.{entries_along, along, along_end}
use Rattle.walk_steps.specs.Steps.{dirs_from, queue_of}
use Rattle.differences.specs.Differences.{Difference}
use Rattle.differences.specs.Handing.{Handing, hand_all}
use Rattle.handing.specs.HandLaws.{hand_append}

-- ---- the entries of a block, and those along a chain

module _ (f : Entered → List Difference) (h : Handing) where
  -- without an entry nothing is handed out
  pub hand_no_entries : (es : List Entered) → es ≡ [] → hand_all h (gather f es) ≡ h
  unfolding gather hand_all
  hand_no_entries es e = rw e

  -- entries one behind the other
  pub hand_join : (xs ys : List Entered) → hand_all h (gather f (xs ++ ys)) ≡ hand_all (hand_all h (gather f xs)) (gather f ys)
  hand_join xs ys = ap (hand_all h) (gather_append f xs ys) ∙ hand_append h (gather f xs) (gather f ys)

  -- the first of some entries, then those behind it
  pub hand_first : (es : List Entered) (e : Entered) (rest : List Entered) (r : Handing) → es ≡ e ∷ rest → r ≡ hand_all h (f e) →
      hand_all r (gather f rest) ≡ hand_all h (gather f es)
  unfolding gather
  hand_first es e rest r is here = rw (is, here) (sym (hand_append h (f e) (gather f rest)))

  -- what is read at a place, with the entries behind it
  pub hand_found : (w : Walked) (name : List ℕ) (start : ℕ) (rest : List Entered) (e : Entry) (r : Handing) → w ≡ Ok (Some e) → r ≡ hand_all h (f (entered_at e name start)) →
      hand_all r (gather f rest) ≡ hand_all h (gather f (with_rest w name start rest))
  hand_found w name start rest e r is here = hand_first (with_rest w name start rest) (entered_at e name start) rest r (rw is) here

  -- the entries of the first of some anodes, and those behind it
  pub hand_along : (img firsts anodes : List ℕ) (a : ℕ) (rest : List ℕ) → anodes ≡ a ∷ rest → (r : Handing) → r ≡ hand_all h (gather f (entries_in img (get_or firsts a 0))) →
      hand_all r (gather f (entries_along img firsts rest)) ≡ hand_all h (gather f (entries_along img firsts anodes))
  hand_along img firsts anodes a rest is r here = rw (along img firsts anodes a rest is, here) (sym (hand_join _ _))

  module _ (img firsts nexts : List ℕ) where
    -- a chain that is at its end
    pub hand_chain-end : (k a : ℕ) → a ≡ 0 → hand_all h (gather f (entries_along img firsts (chain_of (λ x. get_or nexts x 0) k a))) ≡ h
    hand_chain-end k a e = hand_no_entries _ (along_end img firsts _ (chain-end (λ x. get_or nexts x 0) k a e))

    -- no anode of it is left to be looked at
    pub hand_chain-none : (k a : ℕ) → k ≡ 0 → hand_all h (gather f (entries_along img firsts (chain_of (λ x. get_or nexts x 0) k a))) ≡ h
    hand_chain-none k a e = hand_no_entries _ (along_end img firsts _ (chain-none (λ x. get_or nexts x 0) k a e))

    -- the entries of anode a's block, and those behind it
    pub hand_chain_step : (k m a : ℕ) → k ≡ m + 1 → a ≢ 0 → (r : Handing) → r ≡ hand_all h (gather f (entries_in img (get_or firsts a 0))) →
        hand_all r (gather f (entries_along img firsts (chain_of (λ x. get_or nexts x 0) m (get_or nexts a 0)))) ≡ hand_all h (gather f (entries_along img firsts (chain_of (λ x. get_or nexts x 0) k a)))
    hand_chain_step k m a fuel some r here = hand_along img firsts _ a _ (chain_step (λ x. get_or nexts x 0) k m a fuel some) r here

-- ---- the directories of the queue

-- what f gives for the heads of n directories of the queue, from i on
abbrev pub along_queue : (ℕ → List Difference) → List ℕ → List ℕ → ℕ → ℕ → List Difference
along_queue f queue parents i n = gather (λ d. f d.head) (dirs_from queue parents i n)

module _ (f : ℕ → List Difference) (h : Handing) (queue parents : List ℕ) where
  -- no directory is left
  pub hand_queue_none : (i n : ℕ) → n ≡ 0 → hand_all h (along_queue f queue parents i n) ≡ h
  unfolding dirs_from gather hand_all
  hand_queue_none i n e = rw e

  -- directory i, and those behind it
  pub hand_queue_step : (i n m : ℕ) → n ≡ m + 1 → (r : Handing) → r ≡ hand_all h (f (get_or queue i 0)) →
      hand_all r (along_queue f queue parents (i + 1) m) ≡ hand_all h (along_queue f queue parents i n)
  unfolding dirs_from gather
  hand_queue_step i n m fuel r here = rw (fuel, add-one m, add-one i, here) (sym (hand_append h (f (get_or queue i 0)) (along_queue f queue parents (suc i) m)))

  -- those from the first on are the whole queue
  pub hand_queue_all : (n m : ℕ) → m ≡ n → hand_all h (along_queue f queue parents 0 m) ≡ hand_all h (gather (λ d. f d.head) (queue_of queue parents n))
  unfolding queue_of
  hand_queue_all n m e = rw e
