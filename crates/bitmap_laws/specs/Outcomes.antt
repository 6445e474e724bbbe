-- The outcome of the two calls, from the check's.
use Rattle.std.specs.Prelude.{ℕ, zero, suc, ◌≤◌, ◌<◌, ◌≡◌, refl, ◌≢◌, Bool, true, false, not, List, [], ◌∷◌, eqb, length, drop, replicate, Result, Ok, Err}
use Rattle.std.proofs.Common.{sym, ◌∙◌, arith, eq-eqb, ne_eqb, lt-ltb, le-ltb}
use Rattle.std.proofs.Math.Path.{ap}
use Rattle.disk.specs.declared.Refusal.{Refusal}
use Rattle.disk.specs.Refusals.{number_of, answer_of}
use Rattle.disk.proofs.Laws.{number_some}
use Rattle.rules.specs.Counting.{◌if◌else◌}
use Rattle.rules.specs.Accepted.{disk_size, check_answer}
use Rattle.rules.specs.Changes.{left}
use Rattle.rules.specs.Tables.{table_left, blocks_left, anodes_left}
use Rattle.rules.specs.Calls.{Outcome, outcome_of, settled, check_outcome, done_or, checked_first}
use Rattle.fsck.specs.declared.Tally.{Tally}
use Rattle.laws.specs.Tests.{first_of_some, first_of-none}
use Rattle.bitmap.specs.Bitmap.{block_bit, bitmap_length, bitmap_of, first_differing}
use Rattle.bitmap.specs.Calls.{bitmap_refusal, bitmap_answer, bitmap_outcome, differs_fields, bitmap_differs_outcome}
use Rattle.bitmap_laws.specs.Shown.{Shown, accepted_shown}

-- every number but 0 refuses
not_done : (k : ℕ) → 1 ≤ k → (x y : List ℕ) → done_or k x y ≡ y
unfolding done_or
not_done zero l x y = absurd (omega arith)
not_done (suc k) l x y = refl

-- 40 where the length is another, else 0
pub refusal_40 : (img : List ℕ) (len need : ℕ) → need ≡ bitmap_length img → len ≢ need → 40 ≡ bitmap_refusal img len
unfolding bitmap_refusal
refusal_40 img len need is d = rw (ne_eqb len (bitmap_length img) (λ e. d (e ∙ sym is)))

pub refusal_0 : (img : List ℕ) (len need : ℕ) → need ≡ bitmap_length img → len ≡ need → 0 ≡ bitmap_refusal img len
unfolding bitmap_refusal
refusal_0 img len need is e = rw (eq-eqb len (bitmap_length img) (e ∙ is))

-- both keep the tables as 0 shows them
refusal_tables : (img : List ℕ) (len range : ℕ) (shown old : List ℕ) → table_left (bitmap_refusal img len) range shown old ≡ table_left 0 range shown old
unfolding bitmap_refusal table_left
refusal_tables img len range shown old = go (eqb len (bitmap_length img))
  where
    go : (t : Bool) → table_left (40 if not t else 0) range shown old ≡ table_left 0 range shown old
    go true = refl
    go false = refl

-- the two fields
pub fields_some : (place len : ℕ) → place < len → 1 ∷ place ∷ [] ≡ differs_fields place len
unfolding differs_fields
fields_some place len l = rw (lt-ltb place len l)

pub fields_none : (place len : ℕ) → len ≤ place → replicate 2 0 ≡ differs_fields place len
unfolding differs_fields
fields_none place len l = rw (le-ltb place len l)

module _ (img b₀ a₀ b a : List ℕ) (x : Result Tally Refusal) (e : outcome_of (answer_of x) img b a [] [] ≡ check_outcome img b₀ a₀) where
  module _ (k : ℕ) (is_k : answer_of x ≡ k) where
    answers : check_answer img (length b₀) (length a₀) ≡ k
    unfolding check_outcome settled
    answers = ap (λ (o : Outcome). o.answer) (sym e) ∙ is_k

    blocks-left : b ≡ blocks_left k img b₀
    unfolding check_outcome settled
    blocks-left = ap (λ (o : Outcome). o.blocks) e ∙ ap (λ (n : ℕ). blocks_left n img b₀) answers

    anodes_left_lem : a ≡ anodes_left k img a₀
    unfolding check_outcome settled
    anodes_left_lem = ap (λ (o : Outcome). o.anodes) e ∙ ap (λ (n : ℕ). anodes_left n img a₀) answers

  -- ---- refused by the check

  module _ (r : Refusal) (is : x ≡ Err r) where
    number_is : answer_of x ≡ number_of r
    number_is = ap (answer_of {X = Tally}) is

    first_k : (m : ℕ) → checked_first img b₀ a₀ m ≡ number_of r
    first_k m = first_of_some (check_answer img (length b₀) (length a₀)) m (number_of r) (answers (number_of r) number_is) (number_some r)

    settled_k : (output : List ℕ) → outcome_of (number_of r) img b a output [] ≡ settled (left (number_of r) img) b₀ a₀ output []
    unfolding settled
    settled_k output = rw (← blocks-left (number_of r) number_is, ← anodes_left_lem (number_of r) number_is)

    pub bitmap_refused : (out : List ℕ) → outcome_of (number_of r) img b a out [] ≡ bitmap_outcome img b₀ a₀ out
    unfolding bitmap_outcome bitmap_answer
    bitmap_refused out = rw (first_k (bitmap_refusal img (length out)), not_done (number_of r) (number_some r) (bitmap_of img) out) (settled_k out)

    pub differs_refused : (bytes : List ℕ) → outcome_of (number_of r) img b a (replicate 2 0) [] ≡ bitmap_differs_outcome img b₀ a₀ bytes
    unfolding bitmap_differs_outcome bitmap_answer
    differs_refused bytes = rw (first_k (bitmap_refusal img (length bytes)), not_done (number_of r) (number_some r) _ (replicate 2 0)) (settled_k (replicate 2 0))

  -- ---- accepted

  module _ (t : Tally) (is : x ≡ Ok t) where
    number_0 : answer_of x ≡ 0
    number_0 = ap (answer_of {X = Tally}) is

    first-0 : (m : ℕ) → checked_first img b₀ a₀ m ≡ m
    first-0 m = first_of-none (check_answer img (length b₀) (length a₀)) m (answers 0 number_0)

    -- the block table that the check leaves
    pub table_shown : Shown img b
    unfolding blocks_left table_left
    table_shown = accepted_shown img (length b₀) (length a₀) (answers 0 number_0) b (drop (disk_size img) b₀) (blocks-left 0 number_0)

    settled-0 : (len : ℕ) (output : List ℕ) → outcome_of (bitmap_refusal img len) img b a output [] ≡ settled (left (bitmap_refusal img len) img) b₀ a₀ output []
    unfolding settled blocks_left anodes_left
    settled-0 len output =
        rw (refusal_tables img len _ _ b₀, refusal_tables img len _ _ a₀, ← blocks-left 0 number_0, ← anodes_left_lem 0 number_0)

    pub bitmap_answered : (out out' : List ℕ) (k : ℕ) → k ≡ bitmap_refusal img (length out) → out' ≡ done_or k (bitmap_of img) out → outcome_of k img b a out' [] ≡ bitmap_outcome img b₀ a₀ out
    unfolding bitmap_outcome bitmap_answer
    bitmap_answered out out' k is_k made = rw (made, is_k, first-0 (bitmap_refusal img (length out))) (settled-0 (length out) _)

    pub differs_answered : (bytes fields : List ℕ) (k : ℕ) → k ≡ bitmap_refusal img (length bytes) → fields ≡ done_or k (differs_fields (first_differing (block_bit img) bytes) (length bytes)) (replicate 2 0) → outcome_of k img b a fields [] ≡ bitmap_differs_outcome img b₀ a₀ bytes
    unfolding bitmap_differs_outcome bitmap_answer
    differs_answered bytes fields k is_k told = rw (told, is_k, first-0 (bitmap_refusal img (length bytes))) (settled-0 (length bytes) _)
