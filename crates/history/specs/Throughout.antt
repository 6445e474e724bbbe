-- DEMAND 3: from any accepted image, through any list of calls with any arguments, the check accepts after every call, no call reports damage, and the kinds of blocks add up to the disk's size.
use Prim.Native.Nat.{ℕ, zero, suc}
use Rattle.std.specs.Prelude.{◌≡◌, ◌⊎◌, Bool, ◌||◌, length}
use Rattle.std.proofs.Math.Path.{refl}
use Rattle.std.proofs.Math.Logic.{inl, inr}
use Rattle.std.proofs.Math.Bool.{true, false, cond, not}
use mathlib.Core.List.{List, [], ◌∷◌}
use Rattle.std.proofs.Math.Option.{Option, none, some}
use Rattle.std.proofs.Common.{arith}
use Rattle.std.proofs.Math.Dec.{eqb}
use Rattle.std.proofs.lemmas.Bool.{not-false}
use Rattle.directory.specs.Entries.{good_name, good_comment}
use Rattle.rules.specs.Counting.{◌if◌else◌, first_of}
use Rattle.rules.specs.Anodes.{Anodes, limit, anodes_of}
use Rattle.rules.specs.Walk.{Entered}
use Rattle.rules.specs.Accepted.{disk_size, wrong_size, last_reserved, check_answer, Damage}
use Rattle.rules.specs.Lookup.{no_directory, entry_named, of_entry, is_there, not_empty}
use Rattle.rules.specs.Format.{wrong_format, format_answer, formatted}
use Rattle.rules.specs.Plans.{table_of}
use Rattle.rules.specs.Changes.{Left, left, NewEntry, resized, made, written, removed, usual_growth}
use Rattle.rules.specs.Calls.{outcome_of, checked_first, settled, check_outcome, summary_outcome, format_outcome, done_or, left_after, read_answer, read_outcome, span_refusal, list_answer, list_outcome, make_outcome, make_refusal, wrong_entry, resize_outcome, resize_refusal, write_outcome, remove_outcome, remove_refusal, change_named}
use Rattle.rules.specs.Totals.{Sound}
use Rattle.bitmap.specs.Bitmap.{bitmap_length}
use Rattle.bitmap.specs.Calls.{bitmap_refusal, bitmap_answer, bitmap_outcome, bitmap_differs_outcome}
use Rattle.looks.specs.Calls.{find_answer, find_outcome, label_outcome}
use Rattle.looks.specs.Laws.{find_late}
use Rattle.history.specs.History.{Call, check, summary, format, read, list, make, resize, write, remove, bitmap, bitmap_differs, find, label, report, compare, compare_as_second, differences, differences_as_second, safely, outcome, SoundThroughout}
use Rattle.report.specs.Report.{is_full, reported, taken_outcome, report_outcome}
use Rattle.differences.specs.Differences.{Difference}
use Rattle.differences.specs.Calls.{answer_for, place_answer, nth_difference, refused_image, compared, compare_outcome, differences_outcome, answer_of_image}
use Rattle.safe_rules.specs.SafeCalls.{SafeCall, safe_refusal, safe_outcome}
use Rattle.safe_laws.specs.SafeAnswers.{refusal_late, refused_image_lem, done-passed, safe_answers}
use Rattle.safe_laws.specs.PulledPlug.{crash_theorem}
use Rattle.counting.specs.Laws.{neither}
use Rattle.laws.specs.Tests.{same?, if-zero, first_of-zero}
use Rattle.laws.specs.Moves.{Grows}
use Rattle.laws.specs.Grown.{grown_grows}
use Rattle.format_laws.specs.Accepted.{formatted-accepted}
use Rattle.change_laws.specs.Answers.{Late, StepsAnswer, step_late, own_tables, any_tables, span_late, list_late, resize_late, remove_late, make_late, not_there, file-found, span_found, removable_found}
use Rattle.change_laws.specs.Image.{AcceptedImage, accepted_own}
use Rattle.change_laws.specs.Reached.{named-member, EntryIn}
use Rattle.change_laws.specs.Write.{write_accepted}
use Rattle.change_laws.specs.Resize.{resize_accepted, resize_answers}
use Rattle.change_laws.specs.Make.{make_accepted, made-answer}
use Rattle.change_laws.specs.Remove.{remove_accepted, remove_answers}
use Rattle.change_laws.specs.Totals.{accepted-total}

-- an answer that reports no damage
abbrev Harmless : ℕ → Type 0
Harmless n = Damage n → ⊥

late_harmless : (n : ℕ) → Late n → Harmless n
late_harmless n (inl e) d = omega (arith, e, d.0)
late_harmless n (inr l) d = omega (arith, l, d.1)

-- the answers of the steps of a change
steps_harmless : (n : ℕ) → StepsAnswer n → Harmless n
steps_harmless n (inl e) d = omega (arith, e, d.0)
steps_harmless n (inr k) d = omega (arith, step_late n k, d.1)

-- what a comparison answers of an accepted image, whose check with any tables answers 0 or 2: of its first image
harmless_first : (a b n : ℕ) → (a ≡ 0) ⊎ (a ≡ 2) → Late n → Harmless (cond (eqb (done_or a (done_or b 0 2) 1) 2) 0 (first_of a (first_of b n)))
unfolding done_or first_of
harmless_first a b n (inl e) late = rw e (second b)
  where
    second : (b : ℕ) → Harmless (cond (eqb (done_or b 0 2) 2) 0 (first_of b n))
    second zero = late_harmless n late
    second (suc b) = λ d. omega (arith, d.0)
harmless_first a b n (inr e) late = rw e (λ d. omega (arith, d.0))

-- and of its second
harmless_second : (a b n : ℕ) → (b ≡ 0) ⊎ (b ≡ 2) → Late n → Harmless (cond (eqb (done_or a (done_or b 0 2) 1) 1) 0 (first_of a (first_of b n)))
unfolding done_or first_of
harmless_second zero b n (inl e) late = rw e (late_harmless n late)
harmless_second zero b n (inr e) late = rw e (λ d. omega (arith, d.0))
harmless_second (suc a) b n own late = λ d. omega (arith, d.0)

-- what a call leaves: an accepted image, and an answer that reports no damage
record AcceptedAfter (l : Left) : Type 0 where
  accepted : check_answer l.image (disk_size l.image) limit ≡ 0
  harmless : Harmless l.answer

module _ (img : List ℕ) (ok : check_answer img (disk_size img) limit ≡ 0) where
  abbrev s : Anodes
  s = anodes_of img

  abbrev image : AcceptedImage img
  image = accepted_own img ok

  -- slots grow in these changes as the laws ask
  grows : Grows limit (disk_size img) (last_reserved img) usual_growth
  grows = grown_grows (disk_size img) (last_reserved img)

  -- the image stays
  stays : (n : ℕ) → Harmless n → AcceptedAfter (left n img)
  stays n h = record { accepted = ok; harmless = h }

  -- or becomes another
  becomes : (l : Left) → check_answer l.image (disk_size img) limit ≡ 0 → Harmless l.answer → AcceptedAfter l
  becomes l e h = record { accepted = own_tables l.image (disk_size img) limit e; harmless = h }

  -- the check's answer, or a late one behind it
  answers : (blocks anodes b : ℕ) → Late b → Harmless (first_of (check_answer img blocks anodes) b)
  unfolding first_of
  answers blocks anodes b l = elim (any_tables img ok blocks anodes) [ inl e ↦ rw e (late_harmless b l) | inr e ↦ rw e (λ d. omega (arith, d.0)) ]

  check_kept : (blocks anodes : ℕ) → AcceptedAfter (left (check_answer img blocks anodes) img)
  check_kept blocks anodes = stays _ (elim (any_tables img ok blocks anodes) [ inl e ↦ (λ d. omega (arith, e, d.0)) | inr e ↦ (λ d. omega (arith, e, d.0)) ])

  read_kept : (blocks anodes : List ℕ) (h : ℕ) (name : List ℕ) (offset len : ℕ) → AcceptedAfter (left (read_answer img blocks anodes h name offset len) img)
  unfolding read_answer
  read_kept blocks anodes h name offset len = stays _ (answers (length blocks) (length anodes) _ (span_late img s h name offset len))

  list_kept : (blocks anodes : List ℕ) (h n : ℕ) → AcceptedAfter (left (list_answer img blocks anodes h n) img)
  unfolding list_answer
  list_kept blocks anodes h n = stays _ (answers (length blocks) (length anodes) _ (list_late img s h n))

  find_kept : (blocks anodes : List ℕ) (h : ℕ) (name : List ℕ) → AcceptedAfter (left (find_answer img blocks anodes h name) img)
  unfolding find_answer
  find_kept blocks anodes h name = stays _ (answers (length blocks) (length anodes) _ (find_late img s h name))

  -- both calls of the bitmap: the check's answer, 40 or 0
  bitmap_kept : (blocks anodes : List ℕ) (len : ℕ) → AcceptedAfter (left (bitmap_answer img blocks anodes len) img)
  unfolding bitmap_answer bitmap_refusal
  bitmap_kept blocks anodes len = stays _ (answers (length blocks) (length anodes) _ (late (eqb len (bitmap_length img))))
    where
      late : (t : Bool) → Late (40 if not t else 0)
      late true = inl refl
      late false = inr (omega arith)

  -- a report: 31, or the check's answer
  report_kept : (blocks anodes totals disk : List ℕ) →
      AcceptedAfter (left (report_outcome img blocks anodes totals disk).outcome.answer (report_outcome img blocks anodes totals disk).outcome.image)
  unfolding report_outcome taken_outcome settled
  report_kept blocks anodes totals disk = go (is_full totals)
    where
      go : (full : Bool) → let o = cond full (reported (outcome_of 31 img blocks anodes disk []) totals) (taken_outcome (check_answer img (length blocks) (length anodes)) img blocks anodes totals) in
          AcceptedAfter (left o.outcome.answer o.outcome.image)
      go true = stays 31 (λ d. omega (arith, d.1))
      go false = check_kept (length blocks) (length anodes)

  -- a comparison with another image, as its first or as its second: of this one it answers 0, 2 or the call's own number
  module _ (blocks anodes j other_blocks other_anodes : List ℕ) (n : ℕ) (late : Late n) (numbers output : List ℕ) where
    compared-first : AcceptedAfter (left (answer_of_image 1 (compared img blocks anodes j other_blocks other_anodes n numbers output)) img)
    unfolding compared answer_of_image refused_image
    compared-first = stays _ (harmless_first (answer_for img blocks anodes) (answer_for j other_blocks other_anodes) n (any_tables img ok (length blocks) (length anodes)) late)

    compared_second : AcceptedAfter (left (answer_of_image 2 (compared j other_blocks other_anodes img blocks anodes n numbers output)) img)
    unfolding compared answer_of_image refused_image
    compared_second = stays _ (harmless_second (answer_for j other_blocks other_anodes) (answer_for img blocks anodes) n (any_tables img ok (length blocks) (length anodes)) late)

  -- 0 or 22
  place_late : (d : Option Difference) → Late (place_answer d)
  place_late none = inr (omega arith)
  place_late (some d) = inl refl

  -- format leaves the image, or a formatted one
  format_kept : (last k : ℕ) (name : List ℕ) (day minute tick protection : ℕ) → AcceptedAfter (format_outcome img last k name day minute tick protection)
  unfolding format_outcome format_answer done_or
  format_kept last k name day minute tick protection = go (wrong_size img) (wrong_format img last k name) refl refl
    where
      new : List ℕ
      new = formatted img last k name day minute tick protection

      go : (a b : Bool) → wrong_size img ≡ a → wrong_format img last k name ≡ b → AcceptedAfter (left_after (1 if a else 20 if b else 0) img (left 0 new))
      go true b p q = stays 1 (λ d. omega (arith, d.0))
      go false true p q = stays 20 (λ d. omega (arith, d.1))
      go false false p q = becomes (left 0 new) (formatted-accepted img last k name day minute tick protection p q (disk_size img) limit (omega arith) (omega arith)) (λ d. omega (arith, d.0))

  -- a change: refused by the check or by its own table, or made
  change_kept : (blocks anodes : List ℕ) (m : ℕ) → Late m → (done : Left) → (m ≡ 0 → AcceptedAfter done) → AcceptedAfter (left_after (checked_first img blocks anodes m) img done)
  unfolding done_or
  change_kept blocks anodes m late done made = go (checked_first img blocks anodes m) refl
    where
      go : (n : ℕ) → checked_first img blocks anodes m ≡ n → AcceptedAfter (left_after n img done)
      go zero e = made (first_of-zero (check_answer img (length blocks) (length anodes)) m e).1
      go (suc n) e = stays (suc n) (rw e at (answers (length blocks) (length anodes) m late))

  -- of a named entry
  named-kept : (blocks anodes : List ℕ) (m : ℕ) → Late m → (o : Option Entered) (f : Entered → Left) → (m ≡ 0 → (e : Entered) → o ≡ some e → AcceptedAfter (f e)) →
      AcceptedAfter (change_named (checked_first img blocks anodes m) img o f)
  named-kept blocks anodes m late o f made = change_kept blocks anodes m late (of_entry o f (left 22 img)) (λ z. found o (made z))
    where
      found : (o : Option Entered) → ((e : Entered) → o ≡ some e → AcceptedAfter (f e)) → AcceptedAfter (of_entry o f (left 22 img))
      found none k = stays 22 (λ d. omega (arith, d.1))
      found (some e) k = k e refl

  -- the entry that a name finds in a reached directory
  abbrev named_in : (h : ℕ) (name : List ℕ) (e : Entered) → no_directory img s h ≡ false → entry_named img s h name ≡ some e → EntryIn img h e
  named_in h name e r q = record { directory = record { image = image; reached = r }; member = named-member img s h name e q }

  write_kept : (blocks anodes : List ℕ) (h : ℕ) (name : List ℕ) (offset : ℕ) (bytes : List ℕ) →
      AcceptedAfter (change_named (read_answer img blocks anodes h name offset (length bytes)) img (entry_named img s h name) (λ e. left 0 (written img s e offset bytes)))
  unfolding read_answer
  write_kept blocks anodes h name offset bytes =
      named-kept blocks anodes (span_refusal img s h name offset (length bytes)) (span_late img s h name offset (length bytes)) (entry_named img s h name) (λ e. left 0 (written img s e offset bytes))
      (λ z e q.
      let f = span_found img s h name e q offset (length bytes) z in
      becomes (left 0 (written img s e offset bytes)) (write_accepted (named_in h name e f.0 q) f.1 offset bytes) (λ d. omega (arith, d.0)))

  resize_kept : (blocks anodes : List ℕ) (h : ℕ) (name : List ℕ) (new : ℕ) →
      AcceptedAfter (change_named (checked_first img blocks anodes (resize_refusal img s h name)) img (entry_named img s h name) (λ e. resized usual_growth img (table_of img) e new))
  resize_kept blocks anodes h name new =
      named-kept blocks anodes (resize_refusal img s h name) (resize_late img s h name) (entry_named img s h name) (λ e. resized usual_growth img (table_of img) e new)
      (λ z e q.
      let f = file-found img s h name e q z in
      let m = named_in h name e f.0 q in
      becomes (resized usual_growth img (table_of img) e new) (resize_accepted grows m new f.1) (steps_harmless _ (resize_answers grows m new)))

  remove_kept : (blocks anodes : List ℕ) (h : ℕ) (name : List ℕ) →
      AcceptedAfter (change_named (checked_first img blocks anodes (remove_refusal img s h name)) img (entry_named img s h name) (λ e. removed usual_growth img (table_of img) e))
  unfolding not_empty
  remove_kept blocks anodes h name =
      named-kept blocks anodes (remove_refusal img s h name) (remove_late img s h name) (entry_named img s h name) (λ e. removed usual_growth img (table_of img) e)
      (λ z e q.
      let f = removable_found img s h name e q z in
      let m = named_in h name e f.0 q in
      becomes (removed usual_growth img (table_of img) e) (remove_accepted grows m (λ d. rw d at f.1))
      (steps_harmless _ (elim (remove_answers grows m) [ inl z ↦ inl z | inr k ↦ inr (inr k) ])))

  make_kept : (blocks anodes : List ℕ) (h type : ℕ) (name comment : List ℕ) (new : NewEntry) → new.name ≡ name → new.comment ≡ comment →
      AcceptedAfter (left_after (checked_first img blocks anodes (make_refusal img s h type name comment)) img (made usual_growth img (table_of img) h new))
  unfolding make_refusal wrong_entry
  make_kept blocks anodes h type name comment new en ec =
      change_kept blocks anodes (make_refusal img s h type name comment) (make_late img s h type name comment) (made usual_growth img (table_of img) h new)
      (λ z.
      let w = if-zero 20 (wrong_entry type name comment) _ (omega arith) z in
      let r = if-zero 21 (no_directory img s h) _ (omega arith) w.1 in
      let free = not_there (entry_named img s h name) (if-zero 23 (is_there (entry_named img s h name)) 0 (omega arith) r.1).0 in
      let n = neither (not (good_name name)) (not (good_comment comment)) (neither (not (eqb type 253 || eqb type 2)) (not (good_name name) || not (good_comment comment)) w.0).1 in
      becomes (made usual_growth img (table_of img) h new) (make_accepted grows (record { image = image; reached = r.0 }) new (rw en (not-false _ n.0)) (rw ec (not-false _ n.1)) (rw en free)) (steps_harmless _ (made-answer usual_growth img (table_of img) h new)))

  -- a safe call reports no damage: it answers the check's number, its own, 27, 28 or 32
  safely_harmless : (blocks anodes buffer : List ℕ) (call : SafeCall) → Harmless (safe_outcome img blocks anodes buffer call).answer
  safely_harmless blocks anodes buffer call = elim (safe_answers img blocks anodes buffer call image) [
    | inl e ↦ rw e (answers (length blocks) (length anodes) (safe_refusal img call) (refusal_late img call))
    | inr (inl e) ↦ (λ d. omega (arith, e, d.1))
    | inr (inr (inl e)) ↦ (λ d. omega (arith, e, d.1))
    | inr (inr (inr e)) ↦ (λ d. omega (arith, e, d.1))
  ]

  -- and leaves the image where it is refused, else one that the crash theorem finds sound
  safely_kept : (blocks anodes buffer : List ℕ) (call : SafeCall) → AcceptedAfter (left (safe_outcome img blocks anodes buffer call).answer (safe_outcome img blocks anodes buffer call).image)
  safely_kept blocks anodes buffer call = record {
    accepted = elim (same? (safe_outcome img blocks anodes buffer call).answer 0) [
      | inl done ↦ (crash_theorem img blocks anodes buffer call (done-passed img blocks anodes buffer call done).0 done).new_sound.accepted
      | inr other ↦ rw (refused_image_lem img blocks anodes buffer call other) ok
    ];
    harmless = safely_harmless blocks anodes buffer call;
  }

  -- every call leaves an accepted image and reports no damage
  call_kept : (c : Call) → AcceptedAfter (left (outcome img c).answer (outcome img c).image)
  unfolding outcome settled check_outcome summary_outcome read_outcome list_outcome make_outcome resize_outcome write_outcome remove_outcome bitmap_outcome bitmap_differs_outcome find_outcome label_outcome compare_outcome differences_outcome
  call_kept (check blocks anodes) = check_kept (length blocks) (length anodes)
  call_kept (summary blocks anodes) = check_kept (length blocks) (length anodes)
  call_kept (format last k name day minute tick protection) = format_kept last k name day minute tick protection
  call_kept (read blocks anodes h name offset out) = read_kept blocks anodes h name offset (length out)
  call_kept (list blocks anodes h n) = list_kept blocks anodes h n
  call_kept (make blocks anodes h type name comment day minute tick protection) = make_kept blocks anodes h type name comment _ refl refl
  call_kept (resize blocks anodes h name new) = resize_kept blocks anodes h name new
  call_kept (write blocks anodes h name offset bytes) = write_kept blocks anodes h name offset bytes
  call_kept (remove blocks anodes h name) = remove_kept blocks anodes h name
  call_kept (bitmap blocks anodes out) = bitmap_kept blocks anodes (length out)
  call_kept (bitmap_differs blocks anodes bytes) = bitmap_kept blocks anodes (length bytes)
  call_kept (find blocks anodes h name) = find_kept blocks anodes h name
  call_kept (label blocks anodes) = check_kept (length blocks) (length anodes)
  call_kept (report blocks anodes totals disk) = report_kept blocks anodes totals disk
  call_kept (compare blocks anodes j second_blocks second_anodes place) = compared-first blocks anodes j second_blocks second_anodes _ (place_late (nth_difference _ place)) _ _
  call_kept (compare_as_second j first_blocks first_anodes blocks anodes place) = compared_second blocks anodes j first_blocks first_anodes _ (place_late (nth_difference _ place)) _ _
  call_kept (differences blocks anodes j second_blocks second_anodes place out) = compared-first blocks anodes j second_blocks second_anodes 0 (inl refl) _ _
  call_kept (differences_as_second j first_blocks first_anodes blocks anodes place out) = compared_second blocks anodes j first_blocks first_anodes 0 (inl refl) _ _
  call_kept (safely blocks anodes buffer call) = safely_kept blocks anodes buffer call

sound_of : (img : List ℕ) → check_answer img (disk_size img) limit ≡ 0 → Sound img
sound_of img ok = record { accepted = ok; adds_up = accepted-total (accepted_own img ok) }

-- THE THEOREM
pub sound_throughout : (img : List ℕ) → check_answer img (disk_size img) limit ≡ 0 → (cs : List Call) → SoundThroughout img cs
sound_throughout img ok [] = sound_of img ok
sound_throughout img ok (c ∷ cs) = let k = call_kept img ok c in (sound_of img ok, k.harmless, sound_throughout (outcome img c).image k.accepted cs)
