-- Laws of a pass over a block table, one block after the other. Assumes nothing.
use Prim.Native.Nat.{ℕ, zero, suc, ◌+◌, ◌-◌, ◌<◌, ◌≤◌, max}
use mathlib.Core.Path.{◌≡◌, refl, sym, ap, ◌∙◌}
use mathlib.Core.Logic.{◌≢◌, inl, inr}
use mathlib.Core.Bool.{Bool, true, false, cond, ◌&&◌, and-false}
use mathlib.Core.List.{List}
use native.Mathlib.Omega.{arith}
use lib.Dec.{eqb}
use lib.ListN.{length, get_or, length-set, get_or-eq_default}
use lib.Seq.{get_or-set_same, get_or-set_other, set_out}
use borrow.Author.Tests.{eq-eqb, ne_eqb}
use Rattle.rules.specs.Counting.{sum_below}
use Rattle.laws.specs.Tests.{same?, less?}
use Rattle.report.specs.declared.Survey.{Survey}
use Rattle.report.specs.Runs.{passes_before, starts_run, runs_in, ending_run, longest_run}
use Rattle.report.specs.Report.{one_more_at}
use Rattle.report.specs.Table.{owned_by, RunsCounted, free_end, Surveyed}

-- ---- one more at a place

pub length-one_more_at : (l : List ℕ) (i : ℕ) → length (one_more_at l i) ≡ length l
unfolding one_more_at
length-one_more_at l i = length-set l i (get_or l i 0 + 1)

pub one_more_out : (l : List ℕ) (i : ℕ) → length l ≤ i → one_more_at l i ≡ l
unfolding one_more_at
one_more_out l i out = set_out l i (get_or l i 0 + 1) out

pub one_more_here : (l : List ℕ) (i : ℕ) → i < length l → get_or (one_more_at l i) i 0 ≡ get_or l i 0 + 1
unfolding one_more_at
one_more_here l i inside = get_or-set_same l i (get_or l i 0 + 1) 0 inside

pub one_more_other : (l : List ℕ) (i j : ℕ) → j ≢ i → get_or (one_more_at l i) j 0 ≡ get_or l j 0
unfolding one_more_at
one_more_other l i j d = get_or-set_other l i j (get_or l i 0 + 1) 0 d

-- ---- runs below n and one block more

module _ (test : ℕ → Bool) where
  pub runs_none : runs_in test 0 ≡ 0
  unfolding runs_in sum_below
  runs_none = refl

  pub runs_more : (n : ℕ) → runs_in test (suc n) ≡ runs_in test n + cond (starts_run test n) 1 0
  unfolding runs_in sum_below
  runs_more n = refl

  pub runs_start : (n : ℕ) → starts_run test n ≡ true → runs_in test (suc n) ≡ runs_in test n + 1
  runs_start n e = rw (runs_more n, e)

  pub runs_same : (n : ℕ) → starts_run test n ≡ false → runs_in test (suc n) ≡ runs_in test n
  runs_same n e = rw (runs_more n, e) (omega arith)

  -- no more runs than blocks
  pub runs_few : (n : ℕ) → runs_in test n ≤ n
  runs_few zero = omega (arith, runs_none)
  runs_few (suc n) = go (starts_run test n) refl (runs_few n)
    where
      go : (b : Bool) → starts_run test n ≡ b → runs_in test n ≤ n → runs_in test (suc n) ≤ suc n
      go true e l = omega (arith, runs_start n e)
      go false e l = omega (arith, runs_same n e)

  pub ending_more : (n : ℕ) → test n ≡ true → ending_run test (suc n) ≡ suc (ending_run test n)
  unfolding ending_run
  ending_more n e = rw e

  pub ending_ends : (n : ℕ) → test n ≡ false → ending_run test (suc n) ≡ 0
  unfolding ending_run
  ending_ends n e = rw e

  pub longest_more : (n : ℕ) → longest_run test (suc n) ≡ max (longest_run test n) (ending_run test (suc n))
  unfolding longest_run
  longest_more n = refl

-- ---- owners in a table

module _ (table : List ℕ) (h x : ℕ) where
  pub owned : get_or table x 0 ≡ h → owned_by table h x ≡ true
  unfolding owned_by
  owned e = eq-eqb (get_or table x 0) h e

  pub not_owned : get_or table x 0 ≢ h → owned_by table h x ≡ false
  unfolding owned_by
  not_owned d = ne_eqb (get_or table x 0) h d

  -- a run of h starts behind block x exactly where h owns the next and not x
  starts_behind : get_or table (suc x) 0 ≡ h → get_or table x 0 ≢ h → starts_run (owned_by table h) (suc x) ≡ true
  unfolding starts_run passes_before owned_by
  starts_behind e d = rw (eq-eqb (get_or table (suc x) 0) h e, ne_eqb (get_or table x 0) h d)

  starts_not_next : get_or table (suc x) 0 ≢ h → starts_run (owned_by table h) (suc x) ≡ false
  unfolding starts_run passes_before owned_by
  starts_not_next d = rw (ne_eqb (get_or table (suc x) 0) h d)

  starts_not-here : get_or table x 0 ≡ h → starts_run (owned_by table h) (suc x) ≡ false
  unfolding starts_run passes_before owned_by
  starts_not-here e = rw (eq-eqb (get_or table x 0) h e) (and-false (eqb (get_or table (suc x) 0) h))

-- a run starts at block 0 where it is owned
starts_first : (table : List ℕ) (h : ℕ) → starts_run (owned_by table h) 0 ≡ owned_by table h 0
unfolding starts_run passes_before
starts_first table h = go (owned_by table h 0)
  where
    go : (b : Bool) → b && true ≡ b
    go true = refl
    go false = refl

-- ---- the table of counts

module _ (table starts : List ℕ) where
  -- after the first block
  pub counted-first : ((i : ℕ) → get_or starts i 0 ≡ 0) → RunsCounted table 1 (one_more_at starts (get_or table 0 0))
  counted-first zeros h l =
      let inside : h < length starts = rw (length-one_more_at starts (get_or table 0 0)) at l in
      let none = runs_none (owned_by table h) in
      elim (same? (get_or table 0 0) h) [
        | inl e ↦ rw e (omega (arith, one_more_here starts h inside, zeros h, none, runs_start (owned_by table h) 0 (starts_first table h ∙ owned table h 0 e)))
        | inr d ↦ omega (arith, one_more_other starts (get_or table 0 0) h (λ q. d (sym q)), zeros h, none, runs_same (owned_by table h) 0 (starts_first table h ∙ not_owned table h 0 d))
      ]

  module _ (x : ℕ) (counts : RunsCounted table (suc x) starts) where
    -- no count is above the blocks passed
    pub counted_few : (i : ℕ) → get_or starts i 0 ≤ suc x
    counted_few i = elim (less? i (length starts)) [
      | inl l ↦ omega (arith, counts i l, runs_few (owned_by table i) (suc x))
      | inr l ↦ omega (arith, get_or-eq_default starts 0 {n = i} l)
    ]

    -- after a block of the same owner
    counted_same : get_or table (suc x) 0 ≡ get_or table x 0 → RunsCounted table (suc (suc x)) starts
    counted_same e h l = counts h l ∙ sym (runs_same (owned_by table h) (suc x) (elim (same? (get_or table x 0) h) [
      | inl q ↦ starts_not-here table h x q
      | inr q ↦ starts_not_next table h x (λ i. q (sym e ∙ i))
    ]))

    -- after one of another
    counted_start : get_or table (suc x) 0 ≢ get_or table x 0 → RunsCounted table (suc (suc x)) (one_more_at starts (get_or table (suc x) 0))
    counted_start d h l =
        let inside : h < length starts = rw (length-one_more_at starts (get_or table (suc x) 0)) at l in
        elim (same? (get_or table (suc x) 0) h) [
          | inl e ↦ rw e (omega (arith, one_more_here starts h inside, counts h inside, runs_start (owned_by table h) (suc x) (starts_behind table h x e (λ q. d (e ∙ sym q)))))
          | inr e ↦ omega (arith, one_more_other starts (get_or table (suc x) 0) h (λ q. e (sym q)), counts h inside, runs_same (owned_by table h) (suc x) (starts_not_next table h x e))
        ]

-- after the last
pub counted-all : (table starts : List ℕ) (n x : ℕ) → n ≡ suc x → RunsCounted table (suc x) starts → RunsCounted table n starts
counted-all table starts n x e counts = rw e counts

-- ---- the free run that ends

pub free_ends : (owner len : ℕ) → owner ≡ 1 → free_end owner len ≡ len
unfolding free_end
free_ends owner len e = rw (eq-eqb owner 1 e)

pub none_ends : (owner len : ℕ) → owner ≢ 1 → free_end owner len ≡ 0
unfolding free_end
none_ends owner len d = rw (ne_eqb owner 1 d)

-- ---- the whole pass

-- a survey, by its three numbers
abbrev pub survey_made : ℕ → ℕ → ℕ → Survey
survey_made owner start longest = record { owner = owner; start = start; longest = longest }

-- behind block 0
pub surveyed_first : (table starts : List ℕ) → ((i : ℕ) → get_or starts i 0 ≡ 0) → Surveyed table 0 (survey_made (get_or table 0 0) 0 0) (one_more_at starts (get_or table 0 0))
surveyed_first table starts zeros = record {
  begun = omega arith;
  last = refl;
  ending = ends;
  free = longest_more (owned_by table 1) 0 ∙ rw none;
  counts = counted-first table starts zeros;
}
  where
    none : longest_run (owned_by table 1) 0 ≡ 0
    none = unfold longest_run in refl

    nothing : ending_run (owned_by table 1) 0 ≡ 0
    nothing = unfold ending_run in refl

    ends : ending_run (owned_by table 1) 1 ≡ free_end (get_or table 0 0) 1
    ends = elim (same? (get_or table 0 0) 1) [
      | inl e ↦ rw (free_ends (get_or table 0 0) 1 e, ending_more (owned_by table 1) 0 (owned table 1 0 e), nothing)
      | inr d ↦ rw (none_ends (get_or table 0 0) 1 d, ending_ends (owned_by table 1) 0 (not_owned table 1 0 d))
    ]

module _ (table : List ℕ) (x : ℕ) (s : Survey) (starts : List ℕ) (v : Surveyed table x s starts) (y : ℕ) (next : y ≡ suc x) where
  -- behind one block more of the same run
  pub surveyed_same : get_or table y 0 ≡ s.owner → Surveyed table y s starts
  surveyed_same q = rw next (record {
    begun = omega (arith, v.begun);
    last = sym e;
    ending = elim (same? s.owner 1) [
      | inl i ↦ omega (arith, ending_more T (suc x) (owned table 1 (suc x) (e ∙ i)), v.ending, free_ends s.owner (suc x - s.start) i, free_ends s.owner (suc (suc x) - s.start) i, v.begun)
      | inr i ↦ omega (arith, ending_ends T (suc x) (not_owned table 1 (suc x) (λ k. i (sym e ∙ k))), none_ends s.owner (suc (suc x) - s.start) i)
    ];
    free = elim (same? s.owner 1) [
      | inl i ↦ omega (arith, longest_more T (suc x), v.free, ending_more T (suc x) (owned table 1 (suc x) (e ∙ i)))
      | inr i ↦ omega (arith, longest_more T (suc x), v.free, v.ending, none_ends s.owner (suc x - s.start) i)
    ];
    counts = counted_same table starts x v.counts (e ∙ v.last);
  })
    where
      T : ℕ → Bool
      T = owned_by table 1

      e : get_or table (suc x) 0 ≡ s.owner
      e = rw next at q

  -- behind the first block of another
  pub surveyed_start : get_or table y 0 ≢ s.owner → (longest : ℕ) → longest ≡ max s.longest (free_end s.owner (y - s.start)) → Surveyed table y (survey_made (get_or table y 0) y longest) (one_more_at starts (get_or table y 0))
  surveyed_start q longest is = rw next (record {
    begun = omega arith;
    last = refl;
    ending = ends;
    free = longest_more T (suc x) ∙ ap (λ (n : ℕ). max n (ending_run T (suc (suc x)))) (v.free ∙ ap (λ (k : ℕ). max s.longest k) v.ending ∙ sym l);
    counts = counted_start table starts x v.counts (λ k. d (k ∙ sym v.last));
  })
    where
      T : ℕ → Bool
      T = owned_by table 1

      d : get_or table (suc x) 0 ≢ s.owner
      d = rw next at q

      l : longest ≡ max s.longest (free_end s.owner (suc x - s.start))
      l = rw next at is

      ends : ending_run T (suc (suc x)) ≡ free_end (get_or table (suc x) 0) (suc (suc x) - suc x)
      ends = elim (same? (get_or table (suc x) 0) 1) [
        | inl i ↦ omega (arith, ending_more T (suc x) (owned table 1 (suc x) i), v.ending, none_ends s.owner (suc x - s.start) (λ k. d (i ∙ sym k)), free_ends (get_or table (suc x) 0) (suc (suc x) - suc x) i)
        | inr i ↦ omega (arith, ending_ends T (suc x) (not_owned table 1 (suc x) i), none_ends (get_or table (suc x) 0) (suc (suc x) - suc x) i)
      ]

-- behind the last block
pub surveyed_longest : (table : List ℕ) (x : ℕ) (s : Survey) (starts : List ℕ) → Surveyed table x s starts → (n : ℕ) → n ≡ suc x → (r : ℕ) → r ≡ max s.longest (free_end s.owner (n - s.start)) → r ≡ longest_run (owned_by table 1) n
surveyed_longest table x s starts v n e r is = is ∙ rw e (sym (v.free ∙ ap (λ (k : ℕ). max s.longest k) v.ending))
