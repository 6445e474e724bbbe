-- A shared call on an accepted image leaves an accepted one and reports no damage; a refused one leaves the image.
use Prim.Native.Nat.{ℕ, zero, suc}
use Rattle.std.specs.Prelude.{◌≡◌, ◌≢◌, Bool, true, false, cond, ◌&&◌, List, length, eqb}
use Rattle.std.proofs.Math.Path.{refl}
use Rattle.std.proofs.Math.Logic.{inl, inr}
use Rattle.std.proofs.Math.Option.{Option, none, some}
use Rattle.std.proofs.Common.{arith}
use Rattle.rules.specs.Counting.{◌if◌else◌, first_of}
use Rattle.rules.specs.Anodes.{limit, exists_by, anodes_of}
use Rattle.rules.specs.Accepted.{disk_size, last_reserved, check_answer, Damage, PastDamage}
use Rattle.rules.specs.Walk.{Entered, blocks_for}
use Rattle.rules.specs.Lookup.{entry_named, of_entry}
use Rattle.rules.specs.Plans.{Slotted, table_of, Plan, refused, planned, Growth, no_growth}
use Rattle.rules.specs.Space.{lowest_free, with_spare}
use Rattle.rules.specs.Changes.{Left, left, left_by, NewEntry, new_entry, no_room, room_for, head_made, needed_block, made_in, made_image, made, resize_plan, resized_image, resized, written, remove_plan, removed_image, removed, usual_growth}
use Rattle.rules.specs.Calls.{settled, done_or, left_after}
use Rattle.laws.specs.Moves.{Grows, none_grows}
use Rattle.laws.specs.Grown.{grown_grows}
use Rattle.change_laws.specs.Answers.{Late, StepsAnswer, step_late, own_tables, any_tables, span_late, list_late, resize_late, remove_late, make_late}
use Rattle.change_laws.specs.Image.{AcceptedImage, StillAccepted, accepted_own}
use Rattle.change_laws.specs.PlannedChange.{left_cases}
use Rattle.change_laws.specs.Write.{write_accepted}
use Rattle.change_laws.specs.Resize.{resize_accepted, resize_answers}
use Rattle.change_laws.specs.Make.{make_accepted, made-answer}
use Rattle.change_laws.specs.Remove.{remove_accepted, remove_answers}
use Rattle.share_rules.specs.Shares.{Shares, over_share, wrong_shares, not_own}
use Rattle.share_rules.specs.SharedCalls.{SharedCall, shared_read, shared_list, shared_make, shared_resize, shared_write, shared_remove, named_directory, unshared_refusal, unshared_left, outcome_after, removes_top, blocks_needed, shared_refusal, shared_answer, grows_within, growth_for, shared_outcome}
use Rattle.share_laws.specs.LetPass.{let_pass}
use Rattle.share_laws.specs.PassedCalls.{passed_parent, passed_entry, make_passed, resize_passed, span_passed, remove_passed}

-- ---- 01's call, where it passes its own refusals

module _ {img : List ℕ} (image : AcceptedImage img) {growth : Growth} (grows : Grows limit (disk_size img) (last_reserved img) growth) where
  -- what it leaves is accepted
  pub left-accepted : (call : SharedCall) → unshared_refusal img call ≡ 0 → StillAccepted image (unshared_left growth img call).image
  left-accepted (shared_read h name offset out) z = image.accepted
  left-accepted (shared_list h place) z = image.accepted
  left-accepted (shared_make h type name comment day minute tick protection) z =
      let p = make_passed img h type name comment z in
      make_accepted grows (passed_parent image p) (new_entry (eqb type 2) name comment day minute tick protection) p.named p.commented p.unused
  left-accepted (shared_resize h name new) z = let (p, file) = resize_passed img h name z in rw p.is (resize_accepted grows (passed_entry image p) new file)
  left-accepted (shared_write h name offset bytes) z = let (p, file, fits) = span_passed img h name offset (length bytes) z in rw p.is (write_accepted (passed_entry image p) file offset bytes)
  left-accepted (shared_remove h name) z = let (p, empty) = remove_passed img h name z in rw p.is (remove_accepted grows (passed_entry image p) empty)

  -- and it answers 0, 27 or 28
  pub left-answers : (call : SharedCall) → unshared_refusal img call ≡ 0 → StepsAnswer (unshared_left growth img call).answer
  left-answers (shared_read h name offset out) z = inl refl
  left-answers (shared_list h place) z = inl refl
  left-answers (shared_make h type name comment day minute tick protection) z = made-answer growth img (table_of img) h (new_entry (eqb type 2) name comment day minute tick protection)
  left-answers (shared_resize h name new) z = let (p, file) = resize_passed img h name z in rw p.is (resize_answers grows (passed_entry image p) new)
  left-answers (shared_write h name offset bytes) z = let (p, file, fits) = span_passed img h name offset (length bytes) z in rw p.is (inl refl)
  left-answers (shared_remove h name) z = let (p, empty) = remove_passed img h name z in rw p.is (elim (remove_answers grows (passed_entry image p)) [ inl q ↦ inl q | inr q ↦ inr (inr q) ])

-- ---- the shared call

-- slots grow as No. 6 says, or not at all
pub growth_grows : (n last : ℕ) (img : List ℕ) (party : ℕ) (sh : Shares) (call : SharedCall) → Grows limit n last (growth_for img party sh call)
unfolding growth_for
growth_grows n last img party sh call = go (eqb party 0 && grows_within img sh call)
  where
    go : (t : Bool) → Grows limit n last (cond t usual_growth no_growth)
    go true = grown_grows n last
    go false = none_grows limit n last

-- its numbers come after the damage numbers
if_late : (n : ℕ) (t : Bool) (rest : ℕ) → PastDamage n → Late rest → Late (n if t else rest)
if_late n true rest l h = inr l
if_late n false rest l h = h

first_late : (a b : ℕ) → Late a → Late b → Late (first_of a b)
unfolding first_of
first_late zero b p q = q
first_late (suc a) b p q = p

own_late : (img : List ℕ) (call : SharedCall) → Late (unshared_refusal img call)
own_late img (shared_read h name offset out) = span_late img (anodes_of img) h name offset (length out)
own_late img (shared_list h place) = list_late img (anodes_of img) h place
own_late img (shared_make h type name comment day minute tick protection) = make_late img (anodes_of img) h type name comment
own_late img (shared_resize h name new) = resize_late img (anodes_of img) h name
own_late img (shared_write h name offset bytes) = span_late img (anodes_of img) h name offset (length bytes)
own_late img (shared_remove h name) = remove_late img (anodes_of img) h name

pub shared_late : (img : List ℕ) (party : ℕ) (sh : Shares) (call : SharedCall) → Late (shared_refusal img party sh call)
unfolding shared_refusal
shared_late img party sh call =
    let s = anodes_of img in
    let own = unshared_refusal img call in
    let late29 = first_late own (29 if over_share img s sh party (blocks_needed img call) else 0) (own_late img call) (if_late 29 (over_share img s sh party (blocks_needed img call)) 0 (omega arith) (inl refl)) in
    let late22 = if_late 22 (eqb own 22) _ (omega arith) (if_late 30 (removes_top img sh call) _ (omega arith) late29) in
    if_late 30 (wrong_shares img s party sh) _ (omega arith)
    (if_late 20 (eqb own 20) _ (omega arith) (if_late 21 (not_own img s party sh (named_directory call)) _ (omega arith) late22))

module _ (img blocks anodes : List ℕ) (party : ℕ) (sh : Shares) (call : SharedCall) where
  abbrev n : ℕ
  n = shared_answer img blocks anodes party sh call

  abbrev done : Left
  done = unshared_left (growth_for img party sh call) img call

  -- the answer and the image by that number
  pub outcome-answer : (shared_outcome img blocks anodes party sh call).answer ≡ (left_after (shared_answer img blocks anodes party sh call) img (unshared_left (growth_for img party sh call) img call)).answer
  unfolding shared_outcome outcome_after settled
  outcome-answer = refl

  pub outcome-image : (shared_outcome img blocks anodes party sh call).image ≡ (left_after (shared_answer img blocks anodes party sh call) img (unshared_left (growth_for img party sh call) img call)).image
  unfolding shared_outcome outcome_after settled
  outcome-image = refl

  -- what holds of a refusal before any step and of 01's call where there is none
  pub shared_cases : (P : Left → Type 0) → ((k : ℕ) → shared_answer img blocks anodes party sh call ≡ suc k → P (left (suc k) img)) →
      (shared_answer img blocks anodes party sh call ≡ 0 → P (unshared_left (growth_for img party sh call) img call)) →
      P (left (shared_outcome img blocks anodes party sh call).answer (shared_outcome img blocks anodes party sh call).image)
  unfolding done_or
  shared_cases P stopped passed = rw (outcome-answer, outcome-image) (go n refl)
    where
      go : (k : ℕ) → n ≡ k → P (left (left_after k img done).answer (left_after k img done).image)
      go zero e = passed e
      go (suc k) e = stopped k e

  module _ (ok : check_answer img (disk_size img) limit ≡ 0) where
    -- ACCEPTED AFTER every shared call on an accepted image
    pub shared_accepted : check_answer (shared_outcome img blocks anodes party sh call).image (disk_size (shared_outcome img blocks anodes party sh call).image) limit ≡ 0
    shared_accepted = shared_cases (λ l. check_answer l.image (disk_size l.image) limit ≡ 0) (λ k e. ok)
        (λ e. own_tables done.image (disk_size img) limit
        (left-accepted (accepted_own img ok) (growth_grows (disk_size img) (last_reserved img) img party sh call) call (let_pass img blocks anodes party sh call e).no_other))

    -- AND NO DAMAGE is reported
    pub shared_harmless : Damage (shared_outcome img blocks anodes party sh call).answer → ⊥
    unfolding shared_answer first_of
    shared_harmless = shared_cases (λ l. Damage l.answer → ⊥) early
        (λ e d. elim (left-answers (accepted_own img ok) (growth_grows (disk_size img) (last_reserved img) img party sh call) call (let_pass img blocks anodes party sh call e).no_other) [
          | inl z ↦ omega (arith, z, d.0)
          | inr k ↦ omega (arith, step_late done.answer k, d.1)
        ])
      where
        early : (k : ℕ) → n ≡ suc k → Damage (suc k) → ⊥
        early k e d = elim (any_tables img ok (length blocks) (length anodes)) [
          | inr two ↦ omega (arith, d.0, rw two at e)
          | inl right ↦ elim (shared_late img party sh call) [ inl z ↦ omega (arith, z, rw right at e) | inr l ↦ omega (arith, l, d.1, rw right at e) ]
        ]

-- ---- a refused call

-- a change that is refused leaves the image
abbrev Leaves : List ℕ → Left → Type 0
Leaves img l = l.answer ≢ 0 → l.image ≡ img

by_plan : (img : List ℕ) (plan : Plan Slotted) (f : Slotted → List ℕ → Left) → ((t : Slotted) (ys : List ℕ) → Leaves img (f t ys)) → Leaves img (left_by plan img f)
by_plan img (refused k) f done d = refl
by_plan img (planned t ys) f done d = done t ys d

done_leaves : (img j : List ℕ) → Leaves img (left 0 j)
done_leaves img j d = absurd (d refl)

of_entry_lem : (img : List ℕ) (o : Option Entered) (f : Entered → Left) → ((e : Entered) → Leaves img (f e)) → Leaves img (of_entry o f (left 22 img))
of_entry_lem img none f each d = refl
of_entry_lem img (some e) f each d = each e d

made_refused : (growth : Growth) (img : List ℕ) (s : Slotted) (h : ℕ) (new : NewEntry) → Leaves img (made growth img s h new)
unfolding made
made_refused growth img s h new =
    let first : Slotted → ℕ = λ r. lowest_free limit (exists_by r.slots) r.anodes in
    let room = room_for img s.anodes h new in
    by_plan img (with_spare limit growth s) (λ r xs. made_in growth img s.anodes h new room r (first r)) (λ r xs.
    by_plan img (needed_block growth new.dir (first r) (head_made r (first r))) (λ q ys. left_by (needed_block growth (no_room room) h q) img (λ t zs. left 0 (made_image img s.anodes h new (first r) room ys t zs))) (λ q ys.
    by_plan img (needed_block growth (no_room room) h q) (λ t zs. left 0 (made_image img s.anodes h new (first r) room ys t zs)) (λ t zs. done_leaves img (made_image img s.anodes h new (first r) room ys t zs))))

pub steps_refused : (growth : Growth) (img : List ℕ) (call : SharedCall) → (unshared_left growth img call).answer ≢ 0 → (unshared_left growth img call).image ≡ img
unfolding resized removed
steps_refused growth img (shared_read h name offset out) = λ d. refl
steps_refused growth img (shared_list h place) = λ d. refl
steps_refused growth img (shared_make h type name comment day minute tick protection) = made_refused growth img (table_of img) h (new_entry (eqb type 2) name comment day minute tick protection)
steps_refused growth img (shared_resize h name new) = of_entry_lem img (entry_named img (anodes_of img) h name) (λ e. resized growth img (table_of img) e new)
    (λ e. left_cases (Leaves img) img (resized_image img (anodes_of img) e new) (resize_plan growth (last_reserved img) (table_of img) e.anode (blocks_for new)) (λ k q d. refl) (λ t ys q d. absurd (d refl)))
steps_refused growth img (shared_write h name offset bytes) = of_entry_lem img (entry_named img (anodes_of img) h name) (λ e. left 0 (written img (anodes_of img) e offset bytes)) (λ e d. absurd (d refl))
steps_refused growth img (shared_remove h name) = of_entry_lem img (entry_named img (anodes_of img) h name) (λ e. removed growth img (table_of img) e)
    (λ e. left_cases (Leaves img) img (λ t ys. removed_image img e t) (remove_plan growth (last_reserved img) (table_of img) e.anode) (λ k q d. refl) (λ t ys q d. absurd (d refl)))

-- A REFUSED SHARED CALL leaves the image, whatever it is
pub shared_refused : (img blocks anodes : List ℕ) (party : ℕ) (sh : Shares) (call : SharedCall) → (shared_outcome img blocks anodes party sh call).answer ≢ 0 → (shared_outcome img blocks anodes party sh call).image ≡ img
shared_refused img blocks anodes party sh call = shared_cases img blocks anodes party sh call (Leaves img) (λ k e d. refl) (λ e. steps_refused (growth_for img party sh call) img call)
