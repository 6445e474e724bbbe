-- The totals after a list of images: what one image adds, when they are full, and how far a list brings them.
use Prim.Native.Nat.{ℕ, zero, suc, ◌+◌, ◌*◌, ◌<◌, ◌≤◌}
use Rattle.std.specs.Prelude.{◌≡◌, refl, ◌⊎◌, Bool, true, false, List, [], ◌∷◌, ltb, set}
use Rattle.std.proofs.Math.Path.{sym, ap}
use Rattle.std.proofs.Common.{◌∙◌, get_or-append-add, le-leb, le-ltb}
use Rattle.std.proofs.Math.Logic.{inl, inr}
use native.Mathlib.Omega.{arith}
use Rattle.std.proofs.Math.ListN.{length, get_or, length-append, get_or-append}
use Rattle.std.proofs.Math.Seq.{get_or-take, get_or-drop}
use Rattle.std.proofs.lemmas.Bool.{lt-leb}
use Rattle.endian.proofs.Laws.{get_or_zeros}
use Rattle.rules.specs.Counting.{one_at, sum_list, any_in}
use Rattle.rules.specs.Anodes.{anodes_of}
use Rattle.rules.specs.Accepted.{wrong_size, short_tables, wrong_type, wrong_root, wrong_slots, damage_in, check_answer}
use Rattle.rules.specs.Calls.{done_or, settled}
use Rattle.laws.specs.Tests.{same?}
use Rattle.laws.specs.Sums.{one_at-same, one_at_other}
use Rattle.laws.specs.Bags.{list_nil, list_cons}
use Rattle.laws.specs.Damage.{if_number, damage_range, wider}
use Rattle.report.specs.Figures.{figures_of}
use Rattle.report.specs.Report.{empty_totals, answers_in, sums_in, images_taken, is_full, one_more_at, with_figures, with_image, taken_outcome, report_outcome}
use Rattle.report.specs.Shift.{Fed, answer_of, figures_in, fed, fed_all, images_answered, accepted_sum, TotalsOf}
use Rattle.report.specs.Room.{Modest}
use Rattle.report.proofs.Passes.{length-one_more_at, one_more_here, one_more_other}
use Rattle.report.proofs.Totals.{length-answers, length_sums, answers_of}
use Rattle.report_laws.specs.ModestFigures.{modest_figures}

-- ---- what one image adds

pub length_figures : (f : Fed) → length (figures_in f) ≡ 6
unfolding figures_in figures_of
length_figures f = refl

with-length : (s f : List ℕ) → length (with_figures s f) ≡ length s
unfolding with_figures
with-length [] f = refl
with-length (x ∷ s) [] = refl
with-length (x ∷ s) (y ∷ f) = ap suc (with-length s f)

with_at : (s f : List ℕ) → length s ≡ length f → (i : ℕ) → get_or (with_figures s f) i 0 ≡ get_or s i 0 + get_or f i 0
unfolding with_figures
with_at [] [] e i = refl
with_at [] (y ∷ f) e i = absurd (omega arith)
with_at (x ∷ s) [] e i = absurd (omega arith)
with_at (x ∷ s) (y ∷ f) e zero = refl
with_at (x ∷ s) (y ∷ f) e (suc i) = with_at s f (omega arith) i

-- one more at a place adds one to the sum of a list
set_sum : (l : List ℕ) (i : ℕ) → i < length l → sum_list (λ n. n) (set l i (get_or l i 0 + 1)) ≡ sum_list (λ n. n) l + 1
unfolding sum_list
set_sum [] i l = absurd (omega arith)
set_sum (x ∷ xs) zero l = omega arith
set_sum (x ∷ xs) (suc i) l = omega (arith, set_sum xs i (omega arith))

module _ (t : List ℕ) (len : length t ≡ 24) where
  answer_at : (i : ℕ) → i < 18 → get_or (answers_in t) i 0 ≡ get_or t i 0
  unfolding answers_in
  answer_at i l = get_or-take 18 t i 0 l

  sum-at : (i : ℕ) → get_or (sums_in t) i 0 ≡ get_or t (18 + i) 0
  unfolding sums_in
  sum-at i = get_or-drop 18 t i 0

  module _ (n : ℕ) (f : List ℕ) (six : length f ≡ 6) where
    sums_after : length (done_or n (with_figures (sums_in t) f) (sums_in t)) ≡ 6
    unfolding done_or
    sums_after = go n
      where
        go : (n : ℕ) → length (done_or n (with_figures (sums_in t) f) (sums_in t)) ≡ 6
        go zero = with-length (sums_in t) f ∙ length_sums t len
        go (suc n) = length_sums t len

    answers-after : length (one_more_at (answers_in t) n) ≡ 18
    answers-after = length-one_more_at (answers_in t) n ∙ length-answers t len

    pub image-length : length (with_image t n f) ≡ 24
    unfolding with_image
    image-length = length-append (one_more_at (answers_in t) n) _ ∙ omega (arith, answers-after, sums_after)

    -- one more of its answer
    pub image-answers : (i : ℕ) → i < 18 → get_or (with_image t n f) i 0 ≡ get_or t i 0 + one_at n i
    unfolding with_image
    image-answers i l =
        get_or-append (one_more_at (answers_in t) n) _ 0 i (omega (arith, l, answers-after))
        ∙ elim (same? n i) [
          | inl e ↦ rw e (omega (arith, one_more_here (answers_in t) i (omega (arith, l, length-answers t len)), answer_at i l, one_at-same i i refl))
          | inr d ↦ omega (arith, one_more_other (answers_in t) n i (λ q. d (sym q)), answer_at i l, one_at_other n i d)
        ]

    -- and its figures, if it is accepted
    pub image_sums : (i : ℕ) → get_or (with_image t n f) (18 + i) 0 ≡ get_or t (18 + i) 0 + done_or n (get_or f i 0) 0
    unfolding with_image done_or
    image_sums i = rw (← answers-after) (get_or-append-add (one_more_at (answers_in t) n) _ i 0) ∙ go n
      where
        go : (n : ℕ) → get_or (done_or n (with_figures (sums_in t) f) (sums_in t)) i 0 ≡ get_or t (18 + i) 0 + done_or n (get_or f i 0) 0
        go zero = with_at (sums_in t) f (length_sums t len ∙ sym six) i ∙ ap (λ (k : ℕ). k + get_or f i 0) (sum-at i)
        go (suc n) = sum-at i ∙ omega arith

    image-taken : n < 18 → images_taken (with_image t n f) ≡ images_taken t + 1
    unfolding images_taken with_image one_more_at
    image-taken l = ap (sum_list (λ k. k)) (answers_of (one_more_at (answers_in t) n) _ answers-after) ∙ set_sum (answers_in t) n (omega (arith, l, length-answers t len))

-- every answer of the check has its place
pub answer_low : (f : Fed) → answer_of f < 18
unfolding answer_of check_answer
answer_low f = elim (
    if_number 1 (wrong_size f.image) 1 17 _ (omega arith) (omega arith)
    (if_number 2 (short_tables f.image (length f.blocks) (length f.anodes)) 1 17 _ (omega arith) (omega arith)
    (if_number 3 (wrong_type f.image) 1 17 _ (omega arith) (omega arith)
    (if_number 4 (wrong_root f.image) 1 17 _ (omega arith) (omega arith)
    (if_number 5 (wrong_slots f.image) 1 17 _ (omega arith) (omega arith)
    (wider 6 17 1 17 (damage_in f.image (anodes_of f.image)) (omega arith) (omega arith) (damage_range f.image (anodes_of f.image)))))))
    ) [ inl z ↦ omega (arith, z) | inr r ↦ omega (arith, r.1) ]

-- ---- an image fed

pub fed-full : (t : List ℕ) (f : Fed) → is_full t ≡ true → (fed t f).totals ≡ t
unfolding fed report_outcome
fed-full t f e = rw e

pub fed-taken : (t : List ℕ) (f : Fed) → is_full t ≡ false → (fed t f).totals ≡ with_image t (answer_of f) (figures_in f)
unfolding fed report_outcome taken_outcome answer_of figures_in
fed-taken t f e = rw e

-- 31 exactly where the totals are full
pub answer-full : (t : List ℕ) (f : Fed) → is_full t ≡ true → (fed t f).outcome.answer ≡ 31
unfolding fed report_outcome
answer-full t f e = rw e

pub answer-taken : (t : List ℕ) (f : Fed) → is_full t ≡ false → (fed t f).outcome.answer ≡ answer_of f
unfolding fed report_outcome taken_outcome settled answer_of
answer-taken t f e = rw e

full-or-not : (b : Bool) → (b ≡ true) ⊎ (b ≡ false)
full-or-not true = inl refl
full-or-not false = inr refl

-- ---- enough images make the totals full, and full totals stay

full_stays : (t : List ℕ) (fs : List Fed) → is_full t ≡ true → fed_all t fs ≡ t
unfolding fed_all
full_stays t [] e = refl
full_stays t (f ∷ fs) e = rw (fed-full t f e) (full_stays t fs e)

taken-full : (t : List ℕ) → 100000 ≤ images_taken t → is_full t ≡ true
unfolding is_full
taken-full t l = rw (le-leb 100000 (images_taken t) l)

pub full-after : (fs : List Fed) (t : List ℕ) → length t ≡ 24 → 100000 ≤ images_taken t + length fs → is_full (fed_all t fs) ≡ true
unfolding fed_all
full-after [] t len l = taken-full t (omega arith)
full-after (f ∷ fs) t len l = elim (full-or-not (is_full t)) [
  | inl e ↦ rw (fed-full t f e, full_stays t fs e) e
  | inr e ↦ (
      let six = length_figures f in
      let more = image-taken t len (answer_of f) (figures_in f) six (answer_low f) in
      rw (fed-taken t f e) (full-after fs (with_image t (answer_of f) (figures_in f)) (image-length t len (answer_of f) (figures_in f) six) (omega (arith, l, more))))
]

-- ---- few images leave room

-- how far k images bring the totals
record Bounded (t : List ℕ) (k : ℕ) : Type 0 where
  len : length t ≡ 24
  images : images_taken t ≤ k
  sums : (i : ℕ) → get_or t (18 + i) 0 ≤ k * 100000000

accepted_modest : (f : Fed) → answer_of f ≡ 0 → Modest (figures_in f)
unfolding answer_of figures_in
accepted_modest f e = modest_figures (record { blocks = length f.blocks; anodes = length f.anodes; accepted = e })

added_few : (f : Fed) (i : ℕ) → done_or (answer_of f) (get_or (figures_in f) i 0) 0 ≤ 100000000
unfolding done_or
added_few f i = go (answer_of f) (accepted_modest f)
  where
    go : (n : ℕ) → (n ≡ 0 → Modest (figures_in f)) → done_or n (get_or (figures_in f) i 0) 0 ≤ 100000000
    go zero m = m refl i
    go (suc n) m = omega arith

bounded_image : (t : List ℕ) (k : ℕ) (f : Fed) → Bounded t k → Bounded (with_image t (answer_of f) (figures_in f)) (suc k)
bounded_image t k f b = record {
  len = image-length t b.len (answer_of f) (figures_in f) six;
  images = omega (arith, b.images, image-taken t b.len (answer_of f) (figures_in f) six (answer_low f));
  sums = λ i. omega (arith, b.sums i, added_few f i, image_sums t b.len (answer_of f) (figures_in f) six i);
}
  where
    six : length (figures_in f) ≡ 6
    six = length_figures f

none_over : (most : ℕ) (l : List ℕ) → ((i : ℕ) → get_or l i 0 ≤ most) → any_in (ltb most) l ≡ false
unfolding any_in
none_over most [] h = refl
none_over most (x ∷ l) h = rw (le-ltb most x (h 0)) (none_over most l (λ i. h (suc i)))

bounded_room : (t : List ℕ) (k : ℕ) → k < 100000 → Bounded t k → is_full t ≡ false
unfolding is_full
bounded_room t k l b = rw (lt-leb 100000 (images_taken t) (omega (arith, b.images, l))) (none_over 10000000000000 (sums_in t) (λ i. omega (arith, sum-at t b.len i, b.sums i, l)))

bounded_empty : Bounded empty_totals 0
bounded_empty = record { len = refl; images = unfold images_taken answers_in sum_list in omega arith; sums = λ i. omega (arith, get_or_zeros 24 (18 + i)) }

-- u are the totals after a list of images, from totals t that k images have bounded
record After (t : List ℕ) (k : ℕ) (fs : List Fed) (u : List ℕ) : Type 0 where
  bounded : Bounded u (k + length fs)
  answers : (n : ℕ) → n < 18 → get_or u n 0 ≡ get_or t n 0 + images_answered n fs
  sums : (i : ℕ) → get_or u (18 + i) 0 ≡ get_or t (18 + i) 0 + accepted_sum i fs

after_none : (t : List ℕ) (k : ℕ) → Bounded t k → After t k [] t
unfolding images_answered accepted_sum
after_none t k b = record {
  bounded = rw (none k) b;
  answers = λ n m. omega (arith, list_nil {X = Fed} (λ f. one_at (answer_of f) n));
  sums = λ i. omega (arith, list_nil {X = Fed} (λ f. done_or (answer_of f) (get_or (figures_in f) i 0) 0));
}
  where
    none : (k : ℕ) → k + 0 ≡ k
    none k = omega arith

after_more : (t : List ℕ) (k : ℕ) (f : Fed) (fs : List Fed) (u : List ℕ) → Bounded t k → After (with_image t (answer_of f) (figures_in f)) (suc k) fs u → After t k (f ∷ fs) u
unfolding images_answered accepted_sum
after_more t k f fs u b r = record {
  bounded = rw (more k (length fs)) r.bounded;
  answers = λ n m. omega (arith, r.answers n m, image-answers t b.len (answer_of f) (figures_in f) (length_figures f) n m, list_cons (λ f. one_at (answer_of f) n) f fs);
  sums = λ i. omega (arith, r.sums i, image_sums t b.len (answer_of f) (figures_in f) (length_figures f) i, list_cons (λ f. done_or (answer_of f) (get_or (figures_in f) i 0) 0) f fs);
}
  where
    more : (k n : ℕ) → k + suc n ≡ suc k + n
    more k n = omega arith

after : (fs : List Fed) (t : List ℕ) (k : ℕ) → Bounded t k → k + length fs ≤ 100000 → After t k fs (fed_all t fs)
unfolding fed_all
after [] t k b l = after_none t k b
after (f ∷ fs) t k b l =
    rw (fed-taken t f (bounded_room t k (omega arith) b)) (after_more t k f fs _ b (after fs (with_image t (answer_of f) (figures_in f)) (suc k) (bounded_image t k f b) (omega arith)))

module _ (fs : List Fed) (few : length fs ≤ 100000) where
  from_empty : After empty_totals 0 fs (fed_all empty_totals fs)
  from_empty = after fs empty_totals 0 bounded_empty (omega arith)

  -- the totals from empty ones, for at most 100,000 images
  pub after_empty : TotalsOf fs (fed_all empty_totals fs)
  after_empty =
      let r = from_empty in record {
        places = r.bounded.len;
        answers = λ n l. omega (arith, r.answers n l, get_or_zeros 24 n);
        sums = λ i. omega (arith, r.sums i, get_or_zeros 24 (18 + i));
      }

  -- they are not full before the last of them
  pub room-left : length fs < 100000 → is_full (fed_all empty_totals fs) ≡ false
  room-left l = bounded_room (fed_all empty_totals fs) (0 + length fs) (omega arith) from_empty.bounded
