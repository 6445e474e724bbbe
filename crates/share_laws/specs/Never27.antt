-- 02, No. 9: 27 never comes to a party within its share, whatever the others did. In a shared call it comes to nobody.
use Rattle.std.specs.Prelude.{ℕ, zero, suc, ◌≤◌, ◌≡◌, refl, ◌≢◌, Bool, true, false, cond, not, ◌&&◌, List, length, T, eqb}
use Rattle.std.proofs.Common.{◌∙◌, inl, inr, arith, eqb→eq}
use Rattle.rules.specs.Counting.{◌if◌else◌, first_of}
use Rattle.rules.specs.Anodes.{anodes_of}
use Rattle.rules.specs.Accepted.{wrong_size, short_tables, wrong_type, wrong_root, wrong_slots, damage_in, check_answer}
use Rattle.rules.specs.Lookup.{no_directory, entries_of, entry_named, nth, is_there, names_dir, not_empty_dir, past_end}
use Rattle.rules.specs.Plans.{Growth, no_growth}
use Rattle.rules.specs.Changes.{usual_growth}
use Rattle.rules.specs.Calls.{span_refusal, resize_refusal, remove_refusal, make_refusal, wrong_entry, list_refusal}
use Rattle.laws.specs.Tests.{both}
use Rattle.laws.specs.Damage.{NoneOr, if_number, damage_range, wider}
use Rattle.change_laws.specs.Image.{AcceptedImage}
use Rattle.share_rules.specs.Shares.{Shares, over_share, wrong_shares, not_own}
use Rattle.share_rules.specs.SharedCalls.{SharedCall, shared_read, shared_list, shared_make, shared_resize, shared_write, shared_remove, named_directory, unshared_refusal, unshared_left, grown_image, removes_top, blocks_needed, shared_refusal, shared_answer, grows_within, growth_for, shared_outcome}
use Rattle.share_laws.specs.LetPass.{let_pass, check_passed}
use Rattle.share_laws.specs.Accepted.{shared_cases}
use Rattle.share_laws.specs.Fitting.{enough_free}
use Rattle.share_laws.specs.NoFreeBlock.{steps_27}

-- ---- the numbers before any step

-- the check answers 0 to 17
check_range : (img : List ℕ) (blocks anodes : ℕ) → NoneOr 1 17 (check_answer img blocks anodes)
unfolding check_answer
check_range img blocks anodes =
    if_number 1 (wrong_size img) 1 17 _ (omega arith) (omega arith)
    (if_number 2 (short_tables img blocks anodes) 1 17 _ (omega arith) (omega arith)
    (if_number 3 (wrong_type img) 1 17 _ (omega arith) (omega arith)
    (if_number 4 (wrong_root img) 1 17 _ (omega arith) (omega arith)
    (if_number 5 (wrong_slots img) 1 17 _ (omega arith) (omega arith) (wider 6 17 1 17 (damage_in img (anodes_of img)) (omega arith) (omega arith) (damage_range img (anodes_of img)))))))

-- a call's own numbers are 20 to 26
pub own_range : (img : List ℕ) (call : SharedCall) → NoneOr 20 26 (unshared_refusal img call)
unfolding span_refusal list_refusal make_refusal resize_refusal remove_refusal
own_range img (shared_read h name offset out) =
    let o = entry_named img (anodes_of img) h name in
    if_number 21 (no_directory img (anodes_of img) h) 20 26 _ (omega arith) (omega arith)
    (if_number 22 (not (is_there o)) 20 26 _ (omega arith) (omega arith)
    (if_number 24 (names_dir o) 20 26 _ (omega arith) (omega arith) (if_number 26 (past_end o offset (length out)) 20 26 0 (omega arith) (omega arith) (inl refl))))
own_range img (shared_list h place) =
    if_number 21 (no_directory img (anodes_of img) h) 20 26 _ (omega arith) (omega arith)
    (if_number 22 (not (is_there (nth (entries_of img (anodes_of img) h) place))) 20 26 0 (omega arith) (omega arith) (inl refl))
own_range img (shared_make h type name comment day minute tick protection) =
    if_number 20 (wrong_entry type name comment) 20 26 _ (omega arith) (omega arith)
    (if_number 21 (no_directory img (anodes_of img) h) 20 26 _ (omega arith) (omega arith)
    (if_number 23 (is_there (entry_named img (anodes_of img) h name)) 20 26 0 (omega arith) (omega arith) (inl refl)))
own_range img (shared_resize h name new) =
    let o = entry_named img (anodes_of img) h name in
    if_number 21 (no_directory img (anodes_of img) h) 20 26 _ (omega arith) (omega arith)
    (if_number 22 (not (is_there o)) 20 26 _ (omega arith) (omega arith) (if_number 24 (names_dir o) 20 26 0 (omega arith) (omega arith) (inl refl)))
own_range img (shared_write h name offset bytes) =
    let o = entry_named img (anodes_of img) h name in
    if_number 21 (no_directory img (anodes_of img) h) 20 26 _ (omega arith) (omega arith)
    (if_number 22 (not (is_there o)) 20 26 _ (omega arith) (omega arith)
    (if_number 24 (names_dir o) 20 26 _ (omega arith) (omega arith) (if_number 26 (past_end o offset (length bytes)) 20 26 0 (omega arith) (omega arith) (inl refl))))
own_range img (shared_remove h name) =
    let o = entry_named img (anodes_of img) h name in
    if_number 21 (no_directory img (anodes_of img) h) 20 26 _ (omega arith) (omega arith)
    (if_number 22 (not (is_there o)) 20 26 _ (omega arith) (omega arith) (if_number 25 (not_empty_dir img (anodes_of img) o) 20 26 0 (omega arith) (omega arith) (inl refl)))

-- none of the tests' numbers is 27
not-27 : (n : ℕ) (t : Bool) (rest : ℕ) → n ≢ 27 → rest ≢ 27 → (n if t else rest) ≢ 27
not-27 n true rest a b = a
not-27 n false rest a b = b

first-27 : (a b : ℕ) → a ≢ 27 → b ≢ 27 → first_of a b ≢ 27
unfolding first_of
first-27 zero b p q = q
first-27 (suc a) b p q = p

range_27 : (a b n : ℕ) → 1 ≤ a → b ≤ 26 → NoneOr a b n → n ≢ 27
range_27 a b n l m (inl z) i = omega (arith, z, i)
range_27 a b n l m (inr r) i = omega (arith, r, i, m)

tests_27 : (img : List ℕ) (party : ℕ) (sh : Shares) (call : SharedCall) → shared_refusal img party sh call ≢ 27
unfolding shared_refusal
tests_27 img party sh call =
    let s = anodes_of img in
    let own = unshared_refusal img call in
    let over = over_share img s sh party (blocks_needed img call) in
    let late = first-27 own (29 if over else 0) (range_27 20 26 own (omega arith) (omega arith) (own_range img call)) (not-27 29 over 0 (λ e. omega (arith, e)) (λ e. omega (arith, e))) in
    not-27 30 (wrong_shares img s party sh) _ (λ e. omega (arith, e))
    (not-27 20 (eqb own 20) _ (λ e. omega (arith, e))
    (not-27 21 (not_own img s party sh (named_directory call)) _ (λ e. omega (arith, e))
    (not-27 22 (eqb own 22) _ (λ e. omega (arith, e)) (not-27 30 (removes_top img sh call) _ (λ e. omega (arith, e)) late))))

-- ---- the steps

-- a call that grows the pool is done, any other is made without growth
pub growth_cases : (P : Growth → Type 0) (img : List ℕ) (party : ℕ) (sh : Shares) (call : SharedCall) →
    (party ≡ 0 → (unshared_left usual_growth img call).answer ≡ 0 → over_share (grown_image img call) (anodes_of (grown_image img call)) sh 0 0 ≡ false → P usual_growth) → P no_growth → P (growth_for img party sh call)
unfolding growth_for grows_within
growth_cases P img party sh call grows fixed = go (eqb party 0 && (eqb (unshared_left usual_growth img call).answer 0 && not (over_share (grown_image img call) (anodes_of (grown_image img call)) sh 0 0))) refl
  where
    go : (t : Bool) → (eqb party 0 && (eqb (unshared_left usual_growth img call).answer 0 && not (over_share (grown_image img call) (anodes_of (grown_image img call)) sh 0 0))) ≡ t → P (cond t usual_growth no_growth)
    go true e =
        let done = eqb (unshared_left usual_growth img call).answer 0 in
        let within = not (over_share (grown_image img call) (anodes_of (grown_image img call)) sh 0 0) in
        let a = both (eqb party 0) (done && within) (rw e tt) in
        let b = both done within a.1 in
        grows (eqb→eq party 0 a.0) (eqb→eq (unshared_left usual_growth img call).answer 0 b.0) (no (over_share (grown_image img call) (anodes_of (grown_image img call)) sh 0 0) b.1)
      where
        no : (u : Bool) → T (not u) → u ≡ false
        no true q = absurd q
        no false q = refl
    go false e = fixed

-- NEVER 27: a shared call answers 27 for no image and no argument
pub never_27 : (img blocks anodes : List ℕ) (party : ℕ) (sh : Shares) (call : SharedCall) → (shared_outcome img blocks anodes party sh call).answer ≢ 27
never_27 img blocks anodes party sh call = shared_cases img blocks anodes party sh call (λ l. l.answer ≢ 27) early
    (λ e.
    let p = let_pass img blocks anodes party sh call e in
    let image : AcceptedImage img = record { blocks = length blocks; anodes = length anodes; accepted = check_passed img blocks anodes party sh call e } in
    growth_cases (λ g. (unshared_left g img call).answer ≢ 27) img party sh call (λ keeper done within i. omega (arith, done, i))
    (steps_27 image call p.no_other (enough_free image sh party (blocks_needed img call) p.fit p.within)))
  where
    early : (k : ℕ) → shared_answer img blocks anodes party sh call ≡ suc k → suc k ≢ 27
    early k e i = unfold shared_answer in first-27 (check_answer img (length blocks) (length anodes)) (shared_refusal img party sh call)
        (range_27 1 17 (check_answer img (length blocks) (length anodes)) (omega arith) (omega arith) (check_range img (length blocks) (length anodes))) (tests_27 img party sh call) (e ∙ i)
