-- Laws of the marks. Assumes nothing.
use mathlib.Core.Path.{◌≡◌, refl, sym, ◌∙◌}
use mathlib.Core.Logic.{◌≢◌, ⊎_elim, inl, inr}
use mathlib.Core.Bool.{Bool, false, not, or-false}
use mathlib.Core.List.{List}
use Prim.Native.Nat.{ℕ, ◌+◌, ◌*◌, ◌-◌, ◌<◌, ◌≤◌}
use native.Mathlib.Omega.{arith}
use native.Mathlib.Numerals.{add-one}
use lib.Dec.{eqb}
use lib.ListN.{length, get_or, take, drop, replicate, length-drop, length-replicate}
use lib.Seq.{get_or-drop, length-take-le, ext_get_or}
use borrow.Rule.Slice.PartMut.{put_mid}
use Rattle.std.proofs.lemmas.List.{get_or-take, get_or-replicate, get_or_append_left, get_or-append_right}
use Rattle.laws.specs.Tests.{less?}
use borrow.Author.Tests.{eqb-true, eq-eqb, ne_eqb}
use Rattle.endian.proofs.Laws.{same?}
use Rattle.rules.specs.Counting.{any_below}
use Rattle.rules.specs.Chains.{one_if_covers}
use Rattle.laws.specs.Ownership.{covers_cases, covers_in}
use Rattle.tables.specs.Held.{ZeroBelow}
use Rattle.owners.specs.Marks.{KeptOutside, RunFilled, RunHit, RunHolds, RunTested, Marked, OwnedTwice}

-- ---- a run

run_none : (t : List ℕ) (first mark : ℕ) → RunHolds t first first mark
run_none t first mark = record { each = λ x l m. absurd (omega arith) }

-- a sum of marks is 0 if no block of the run is marked, and only then
pub record Summed (sum : ℕ) (t : List ℕ) (first end : ℕ) : Type 0 where
  pub none : sum ≡ 0 → RunHolds t first end 0
  pub some : sum ≢ 0 → RunHit t first end

pub summed_none : (t : List ℕ) (first : ℕ) → Summed 0 t first first
summed_none t first = record { none = λ e. run_none t first 0; some = λ n. absurd (n refl) }

pub summed_more : (sum : ℕ) (t : List ℕ) (first i : ℕ) → first ≤ i → Summed sum t first i → Summed (sum + get_or t i 0) t first (i + 1)
summed_more sum t first i from s = record {
  none = λ z. record {
    each = λ x l m. ⊎_elim (λ e. rw e (omega arith)) (λ n. (s.none (omega arith)).each x l (omega arith)) (same? x i);
  };
  some = λ n. ⊎_elim
      (λ e. record { block = i; from = from; below = omega arith; taken = λ z. n (omega arith) })
      (λ m. let hit = s.some m in record { block = hit.block; from = hit.from; below = omega (arith, hit.below); taken = hit.taken })
      (same? sum 0);
}

pub summed_tested : (sum : ℕ) (t : List ℕ) (first end : ℕ) → Summed sum t first end → RunTested (not (eqb sum 0)) t first end
summed_tested sum t first end s = elim (same? sum 0) [
  | inl e ↦ rw (eq-eqb sum 0 e) (s.none e)
  | inr n ↦ rw (ne_eqb sum 0 n) (s.some n)
]

-- a run filled in place of what stood there
module _ (t part : List ℕ) (first count n mark : ℕ) (whole : n ≡ count) (filled : part ≡ replicate count mark) (room : first + count ≤ length t) where
  before : length (take first t) ≡ first
  before = length-take-le first t (omega arith)

  within : length part ≡ count
  within = rw filled (length-replicate count mark)

  pub filled_run : RunHolds (put_mid first n t part) first (first + count) mark
  filled_run = record {
    each = λ x l m. get_or-append_right (take first t) _ first x 0 before l
        ∙ get_or_append_left part _ 0 (x - first) (omega (arith, within))
        ∙ rw filled (get_or-replicate count (x - first) mark 0 (omega arith));
  }

  pub kept_run : KeptOutside t (put_mid first n t part) first (first + count)
  kept_run = record {
    outside = λ x out. elim (less? x first) [
      | inl l ↦ get_or_append_left (take first t) _ 0 x (omega (arith, before)) ∙ get_or-take first t x 0 l
      | inr l ↦ get_or-append_right (take first t) _ first x 0 before l ∙ get_or-append_right part _ count (x - first) 0 within (past x l out) ∙ after x l (past x l out)
    ];
  }
    where
      past : (x : ℕ) → first ≤ x → (first ≤ x → x < first + count → ⊥) → count ≤ x - first
      past x l out = elim (less? x (first + count)) [ inl m ↦ absurd (out l m) | inr m ↦ omega arith ]

      after : (x : ℕ) → first ≤ x → count ≤ x - first → get_or (drop n (drop first t)) (x - first - count) 0 ≡ get_or t x 0
      after x l m =
          let e : first + (n + (x - first - count)) ≡ x = omega arith in
          get_or-drop n (drop first t) (x - first - count) 0 ∙ get_or-drop first t (n + (x - first - count)) 0 ∙ rw e

pub kept-none : (t : List ℕ) (first end : ℕ) → KeptOutside t t first end
kept-none t first end = record { outside = λ x out. refl }

-- a run within the first n blocks leaves the table from there on
pub kept-drop : (old t : List ℕ) (first count n : ℕ) → KeptOutside old t first (first + count) → (0 < count → first + count ≤ n)
    → length t ≡ length old → drop n t ≡ drop n old
kept-drop old t first count n kept within same =
    ext_get_or 0 (drop n t) (drop n old) (rw (length-drop n t, length-drop n old, same))
    (λ i l. rw (get_or-drop n t i 0, get_or-drop n old i 0) (kept.outside (n + i) (λ p q. let w = within (omega arith) in omega arith)))

-- ---- a test so far

-- a number that fails the test changes nothing
pub any_kept : (test : ℕ → Bool) (b : Bool) (i : ℕ) → b ≡ any_below test i → test i ≡ false → b ≡ any_below test (i + 1)
unfolding any_below
any_kept test b i e p = rw (add-one i, p, or-false (any_below test i)) e

-- ---- a marked table: block x has `N x` owners, and `E x` is its entry in `t`

-- an entry that is not 0 has an owner
marked_owner : (n : ℕ) (N E : ℕ → ℕ) (t : List ℕ) → Marked n N E t → (x : ℕ) → x < n → get_or t x 0 ≢ 0 → N x ≢ 0
marked_owner n N E t m x l some e = some (eqb-true (get_or t x 0) 0 (m.zeros x l ∙ eq-eqb (N x) 0 e))

-- and one that is 0 has none
pub marked-free : (n : ℕ) (N E : ℕ → ℕ) (t : List ℕ) → Marked n N E t → (x : ℕ) → x < n → get_or t x 0 ≡ 0 → N x ≡ 0
marked-free n N E t m x l e = eqb-true (N x) 0 (sym (m.zeros x l) ∙ eq-eqb (get_or t x 0) 0 e)

-- the same owners and entries under other names
pub marked-same : (n : ℕ) (N E N' E' : ℕ → ℕ) (t : List ℕ) → Marked n N E t → ((x : ℕ) → x < n → (N' x ≡ N x) × (E' x ≡ E x)) → Marked n N' E' t
marked-same n N E N' E' t m same = record {
  once = λ x l. rw (same x l).0 (m.once x l);
  entries = λ x l. m.entries x l ∙ sym (same x l).1;
  zeros = λ x l. rw (same x l).0 (m.zeros x l);
}

pub marked-none : (n : ℕ) (t : List ℕ) → ZeroBelow t n → Marked n (λ x. 0) (λ x. 0) t
marked-none n t zeros = record { once = λ x l. omega arith; entries = zeros; zeros = λ x l. rw (zeros x l) }

module _ (n : ℕ) (N E : ℕ → ℕ) (t : List ℕ) (m : Marked n N E t) (first count : ℕ) where
  -- a run of free blocks more
  pub marked-run : (N' E' : ℕ → ℕ) (t' : List ℕ) (mark : ℕ) → RunFilled t t' first (first + count) mark → KeptOutside t t' first (first + count)
      → (0 < count → mark ≢ 0)
      → ((x : ℕ) → x < n → (N' x ≡ N x + one_if_covers count first x) × (E' x ≡ E x + one_if_covers count first x * mark))
      → Marked n N' E' t'
  marked-run N' E' t' mark run kept some more = record {
    once = λ x l. (each x l).0;
    entries = λ x l. (each x l).1;
    zeros = λ x l. (each x l).2;
  }
    where
      each : (x : ℕ) → x < n → (N' x ≤ 1) × (get_or t' x 0 ≡ E' x) × (eqb (get_or t' x 0) 0 ≡ eqb (N' x) 0)
      each x l = elim (covers_cases count first x) [
        | inl c ↦ (
            let e = run.1.each x c.0 c.1 in
            let z = marked-free n N E t m x l (run.0.each x c.0 c.1) in
            let o : N' x ≡ 1 = omega (arith, (more x l).0, c.2) in
            let v : E' x ≡ mark = (more x l).1 ∙ rw (sym (m.entries x l) ∙ run.0.each x c.0 c.1, c.2) (omega arith) in
            (omega arith, e ∙ sym v, rw (e, o, ne_eqb mark 0 (some (omega arith))))
            )
        | inr c ↦ (
            let e = kept.outside x c.0 in
            let o : N' x ≡ N x = omega (arith, (more x l).0, c.1) in
            let v : E' x ≡ E x = (more x l).1 ∙ rw c.1 (omega arith) in
            (rw o (m.once x l), e ∙ m.entries x l ∙ sym v, rw (e, o) (m.zeros x l))
            )
      ]

  -- a run with a marked block
  pub marked_hit : RunHit t first (first + count) → (0 < count → first + count ≤ n) → OwnedTwice n (λ x. N x + one_if_covers count first x)
  marked_hit hit within =
      let x = hit.block in
      let w = within (omega (arith, hit.from, hit.below)) in
      let l : x < n = omega (arith, hit.below) in
      record {
        block = x;
        below = l;
        twice = omega (arith, marked_owner n N E t m x l hit.taken, covers_in count first x hit.from hit.below);
      }

pub owned_more : (n : ℕ) (N N' : ℕ → ℕ) → OwnedTwice n N → ((x : ℕ) → x < n → 1 < N x → 1 < N' x) → OwnedTwice n N'
owned_more n N N' o more = record { block = o.block; below = o.below; twice = more o.block o.below o.twice }
