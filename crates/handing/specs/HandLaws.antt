-- What a lent buffer holds once differences were handed out into it, one after the other. Assumes nothing.
use Rattle.std.specs.Prelude.{ℕ, zero, suc, ◌+◌, ◌-◌, ◌*◌, ◌/◌, ◌≤◌, ◌<◌, ◌≡◌, refl, true, cond, List, [], ◌∷◌, ◌++◌, ltb, eqb, length, take, drop, replicate}
use Rattle.std.proofs.Common.{sym, ap, ◌∙◌, inl, inr, append_assoc, append-nil, arith, length-append, length-drop, take_at, drop-drop}
use Rattle.std.proofs.Math.Option.{Option, none, some}
use Rattle.std.proofs.lemmas.List.Edits.{sets-eq}
use Rattle.std.proofs.Math.Seq.{drop-append-add, take-nil, drop-nil}
use borrow.Author.Tests.{lt-ltb, le-ltb, eq-eqb, ne_eqb}
use Rattle.endian.specs.Bytes.{stored}
use Rattle.endian.proofs.Laws.{less?}
use Rattle.rules.specs.Counting.{gather}
use Rattle.differences.specs.Differences.{Difference, only_first, only_second, differing, numbers_of}
use Rattle.differences.specs.Calls.{nth_difference, place_answer, numbers_listed, fitting, with_numbers}
use Rattle.differences.specs.Handing.{Handing, handing_of, hand_out, hand_all}

-- ---- one difference

-- where there is no room nothing changes
pub hand_nothing : (h : Handing) (d : Difference) → ltb (length h.out) (h.done + 6) ≡ true → hand_out h d ≡ h
unfolding hand_out
hand_nothing h d full = rw full

module _ (out : List ℕ) (skip done : ℕ) (d : Difference) (room : done + 6 ≤ length out) where
  -- one that is passed
  pub hand_passing : (skip ≡ 0 → ⊥) → hand_out (handing_of out skip done) d ≡ handing_of out (skip - 1) done
  unfolding hand_out
  hand_passing some_left = rw (le-ltb (length out) (done + 6) room, ne_eqb skip 0 some_left)

  -- one that is stored
  pub hand_storing : skip ≡ 0 → hand_out (handing_of out skip done) d ≡ handing_of (stored out done (numbers_of d)) 0 (done + 6)
  unfolding hand_out
  hand_storing none_left = rw (le-ltb (length out) (done + 6) room, eq-eqb skip 0 none_left)

-- ---- a list of them

-- two lists one after the other
pub hand_append : (h : Handing) (l m : List Difference) → hand_all h (l ++ m) ≡ hand_all (hand_all h l) m
unfolding hand_all
hand_append h [] m = refl
hand_append h (d ∷ l) m = hand_append (hand_out h d) l m

-- a full buffer stays as it is
pub hand_full : (h : Handing) (l : List Difference) → ltb (length h.out) (h.done + 6) ≡ true → hand_all h l ≡ h
unfolding hand_all
hand_full h [] full = refl
hand_full h (d ∷ l) full = rw (hand_nothing h d full) (hand_full h l full)

length_numbers : (d : Difference) → length (numbers_of d) ≡ 6
length_numbers (only_first first) = refl
length_numbers (only_second second) = refl
length_numbers (differing first second fields byte many) = refl

-- without a difference the buffer is as it was
with_none : (out : List ℕ) → with_numbers out [] ≡ out
unfolding with_numbers gather
with_none out = refl

-- the first difference fills the first six numbers
with_more : (out : List ℕ) (d : Difference) (ds : List Difference) → with_numbers out (d ∷ ds) ≡ numbers_of d ++ with_numbers (drop 6 out) ds
unfolding with_numbers gather
with_more out d ds =
    let e : 6 * suc (length ds) ≡ 6 + 6 * length ds = omega arith in
    rw (e, ← drop-drop (6 * length ds) 6 out, append_assoc)

-- six numbers stored behind those that are there
stored-behind : (there rest : List ℕ) (done : ℕ) (d : Difference) → length there ≡ done → 6 ≤ length rest → stored (there ++ rest) done (numbers_of d) ≡ (there ++ numbers_of d) ++ drop 6 rest
unfolding stored
stored-behind there rest done d so_far room =
    sets-eq (numbers_of d) (there ++ rest) done (omega (arith, length-append there rest, length_numbers d))
    ∙ rw (length_numbers d, take_at there rest done so_far, ← so_far, drop-append-add there rest 6)

-- none is to be passed: they are stored as long as there is room
stored-all : (ds : List Difference) (there rest : List ℕ) (done : ℕ) → length there ≡ done →
    hand_all (handing_of (there ++ rest) 0 done) ds ≡ handing_of (there ++ with_numbers rest (take (length rest / 6) ds)) 0 (done + 6 * length (take (length rest / 6) ds))
unfolding hand_all
stored-all [] there rest done so_far =
    let same : done + 6 * 0 ≡ done = omega arith in
    rw (take-nil {A = Difference} (length rest / 6), with_none rest, same)
stored-all (d ∷ ds) there rest done so_far = elim (less? (length rest) 6) [
  | inl short ↦ no_room short
  | inr long ↦ room long (stored-all ds (there ++ numbers_of d) (drop 6 rest) (done + 6) (length-append there (numbers_of d) ∙ omega (arith, length_numbers d)))
]
  where
    no_room : length rest < 6 → hand_all (handing_of (there ++ rest) 0 done) (d ∷ ds) ≡ handing_of (there ++ with_numbers rest (take (length rest / 6) (d ∷ ds))) 0 (done + 6 * length (take (length rest / 6) (d ∷ ds)))
    no_room short =
        let nothing : length rest / 6 ≡ 0 = omega arith in
        let same : done + 6 * 0 ≡ done = omega arith in
        hand_full (handing_of (there ++ rest) 0 done) (d ∷ ds) (lt-ltb (length (there ++ rest)) (done + 6) (omega (arith, length-append there rest)))
        ∙ rw (nothing, with_none rest, same)

    room : 6 ≤ length rest →
        hand_all (handing_of ((there ++ numbers_of d) ++ drop 6 rest) 0 (done + 6)) ds ≡ handing_of ((there ++ numbers_of d) ++ with_numbers (drop 6 rest) (take (length (drop 6 rest) / 6) ds)) 0 (done + 6 + 6 * length (take (length (drop 6 rest) / 6) ds)) →
        hand_all (hand_out (handing_of (there ++ rest) 0 done) d) ds ≡ handing_of (there ++ with_numbers rest (take (length rest / 6) (d ∷ ds))) 0 (done + 6 * length (take (length rest / 6) (d ∷ ds)))
    room long more =
        let one_more : length rest / 6 ≡ suc (length (drop 6 rest) / 6) = omega (arith, length-drop 6 rest) in
        let k = length (drop 6 rest) / 6 in
        let sum : done + 6 * suc (length (take k ds)) ≡ done + 6 + 6 * length (take k ds) = omega arith in
        rw (
          hand_storing (there ++ rest) 0 done d (omega (arith, length-append there rest)) refl,
          stored-behind there rest done d so_far long,
          one_more,
          with_more rest d (take k ds),
          sum,
          ← append_assoc there (numbers_of d) (with_numbers (drop 6 rest) (take k ds)),
        )
        more

-- the buffer and the number of numbers after all of them
abbrev HandedAll : List ℕ → ℕ → List Difference → Type 0
HandedAll out place ds =
    ((hand_all (handing_of out place 0) ds).out ≡ with_numbers out (take (length out / 6) (drop place ds)))
    × ((hand_all (handing_of out place 0) ds).done ≡ 6 * length (take (length out / 6) (drop place ds)))

-- some are passed, in a buffer with room
passed-all : (out : List ℕ) (ds : List Difference) (place : ℕ) → 6 ≤ length out → HandedAll out place ds
unfolding hand_all
passed-all out [] place room = rw (drop-nil {A = Difference} place, take-nil {A = Difference} (length out / 6)) (sym (with_none out), refl)
passed-all out (d ∷ ds) zero room =
    let e = stored-all (d ∷ ds) [] out 0 refl in
    (ap (λ (h : Handing). h.out) e, ap (λ (h : Handing). h.done) e ∙ omega arith)
passed-all out (d ∷ ds) (suc place) room =
    let less : suc place - 1 ≡ place = omega arith in
    let first : hand_out (handing_of out (suc place) 0) d ≡ handing_of out place 0 = hand_passing out (suc place) 0 d room (λ e. omega arith) ∙ ap (λ (n : ℕ). handing_of out n 0) less in
    let rest = passed-all out ds place room in
    (ap (λ (h : Handing). (hand_all h ds).out) first ∙ rest.0, ap (λ (h : Handing). (hand_all h ds).done) first ∙ rest.1)

-- from a place on, as many as the buffer holds
pub hand_all_lem : (out : List ℕ) (place : ℕ) (ds : List Difference) →
    ((hand_all (handing_of out place 0) ds).out ≡ with_numbers out (fitting (length out) place ds))
    × ((hand_all (handing_of out place 0) ds).done ≡ 6 * length (fitting (length out) place ds))
unfolding fitting
hand_all_lem out place ds = elim (less? (length out) 6) [
  | inl short ↦ none-fits short
  | inr room ↦ passed-all out ds place room
]
  where
    none-fits : length out < 6 → HandedAll out place ds
    none-fits short =
        let nothing : length out / 6 ≡ 0 = omega arith in
        rw (hand_full (handing_of out place 0) ds (lt-ltb (length out) (0 + 6) short), nothing) (sym (with_none out), refl)

-- ---- one difference of a list, in a buffer of six zeros

-- at most one difference, as a list
abbrev one_listed : Option Difference → List Difference
one_listed none = []
one_listed (some d) = d ∷ []

-- the first from a place on is the one at that place
first_from : (ds : List Difference) (place : ℕ) → take 1 (drop place ds) ≡ one_listed (nth_difference ds place)
unfolding nth_difference
first_from [] place = rw (drop-nil {A = Difference} place)
first_from (d ∷ ds) zero = refl
first_from (d ∷ ds) (suc place) = first_from ds place

-- six numbers hold one
one-fits : (ds : List Difference) (place : ℕ) → fitting (length (replicate {A = ℕ} 6 0)) place ds ≡ one_listed (nth_difference ds place)
unfolding fitting
one-fits ds place = first_from ds place

one_numbers : (o : Option Difference) → with_numbers (replicate 6 0) (one_listed o) ≡ numbers_listed o
unfolding with_numbers gather
one_numbers none = refl
one_numbers (some d) = append-nil (numbers_of d ++ []) ∙ append-nil (numbers_of d)

module _ (ds : List Difference) (place : ℕ) where
  -- six zeros, after all of them
  abbrev pub six_filled : Handing
  six_filled = hand_all (handing_of (replicate 6 0) place 0) ds

  -- the numbers of the difference at that place, or zeros
  pub hand_one : six_filled.out ≡ numbers_listed (nth_difference ds place)
  hand_one = (hand_all_lem (replicate 6 0) place ds).0 ∙ ap (with_numbers (replicate 6 0)) (one-fits ds place) ∙ one_numbers (nth_difference ds place)

  one-done : six_filled.done ≡ 6 * length (one_listed (nth_difference ds place))
  one-done = (hand_all_lem (replicate 6 0) place ds).1 ∙ ap (λ (l : List Difference). 6 * length l) (one-fits ds place)

  -- no number is there where the list has no such place
  pub hand_one-none : nth_difference ds place ≡ none → six_filled.done ≡ 0
  hand_one-none e = one-done ∙ rw e

  -- and six where it has
  pub hand_one_some : (d : Difference) → nth_difference ds place ≡ some d → six_filled.done ≡ 6
  hand_one_some d e = one-done ∙ rw e

  -- so the numbers there say the answer
  pub hand_one-answer : cond (eqb six_filled.done 0) 22 0 ≡ place_answer (nth_difference ds place)
  hand_one-answer = rw one-done (go (nth_difference ds place))
    where
      go : (o : Option Difference) → cond (eqb (6 * length (one_listed o)) 0) 22 0 ≡ place_answer o
      go none = refl
      go (some d) = refl
