-- What an open image says of its reached directories, and what a search answers.
use Rattle.std.specs.Prelude.{Option as Answer, Some, None, Result}
use Rattle.std.specs.Option.{ok_or}
use Rattle.disk.specs.declared.Refusal.TheVariants.{NotFound}
use Prim.Native.Nat.{ℕ, zero, suc, ◌≤◌, ◌<◌}
use mathlib.Core.Path.{◌≡◌, refl, sym, ap, ◌∙◌}
use mathlib.Core.Bool.{Bool, true, false, cond, not}
use mathlib.Core.List.{List, []}
use mathlib.Core.Option.{Option, some}
use native.Mathlib.Omega.{arith}
use lib.Dec.{ltb}
use lib.ListN.{get_or}
use borrow.Author.Tests.{lt-ltb}
use Rattle.disk.specs.declared.Refusal.{Refusal}
use Rattle.disk.specs.Refusals.{number_of}
use Rattle.disk.proofs.Laws.{number_some}
use Rattle.rules.specs.Counting.{◌if◌else◌, first_of}
use Rattle.rules.specs.Anodes.{Anodes, anodes_of}
use Rattle.rules.specs.Walk.{Entered, Dir}
use Rattle.rules.specs.Lookup.{no_directory, entries_of, nth, is_there, not_empty, not_empty_dir, none_headed}
use Rattle.rules.specs.Calls.{done_or}
use Rattle.anodes.specs.Loaded.{anodes_from}
use Rattle.walk_steps.specs.Steps.{queue_of}
use Rattle.laws.specs.Tests.{first_of_some, first_of-none}
use Rattle.laws.specs.OwnerTable.{anode_entry_is}
use Rattle.laws.specs.Entries.{Unbroken}
use Rattle.change_laws.specs.Answers.{search_number}
use Rattle.change_laws.specs.Image.{accepted_own, accepted_whole}
use Rattle.change_laws.specs.Reached.{reached_head, reached_unbroken}
use Rattle.lookup.specs.declared.EntryAt.{EntryAt}
use Rattle.lookup.specs.Answers.{entry_of}
use Rattle.lookup.specs.Queued.{place_of, OwnHeads}
use Rattle.lookup.proofs.Queue.{place_found, place_occurrences}
use Rattle.find.specs.Open.{Open}
use Rattle.find.specs.Found.{Finds}

-- what a lookup found, or 22
found_or : (img : List ℕ) (l : Answer EntryAt) → Finds img (ok_or l NotFound) (search_number false (entry_of img l)) (entry_of img l)
found_or img (Some e) = (refl, refl)
found_or img None = refl

module _ {img counts firsts nexts queue parents heads : List ℕ} {dirs : ℕ} (o : Open img counts firsts nexts queue parents heads dirs) where
  -- the test of 21 is the search in the queue
  pub reached-queued : (h : ℕ) (r : Bool) → ((p : List ℕ) → not r ≡ none_headed (queue_of queue p dirs) h) → no_directory img (anodes_of img) h ≡ not r
  unfolding no_directory
  reached-queued h r e = sym (e parents ∙ ap (λ (l : List Dir). none_headed l h) o.queued)

  -- as it is said
  pub reached_said : (h : ℕ) (r v : Bool) → ((p : List ℕ) → not r ≡ none_headed (queue_of queue p dirs) h) → r ≡ v → no_directory img (anodes_of img) h ≡ not v
  reached_said h r v e is = reached-queued h r e ∙ ap not is

  -- a directory of the queue is reached
  pub queued-reached : (i : ℕ) → i < dirs → no_directory img (anodes_of img) (get_or queue i 0) ≡ false
  queued-reached i l =
      let h = get_or queue i 0 in
      let found = place_found queue h 0 dirs i (omega arith) (omega arith) refl in
      reached_said h (ltb (place_of queue h 0 dirs) dirs) true (λ p. place_occurrences queue h p dirs) (lt-ltb (place_of queue h 0 dirs) dirs (omega (arith, found)))

  -- a reached directory's head is its own head in the table that the check filled
  pub own_heads : OwnHeads heads queue dirs
  own_heads i l =
      let image = accepted_own img o.loaded.accepted in
      let w = accepted_whole image in
      let d = reached_head (record { image = image; reached = queued-reached i l }) in
      o.shown (get_or queue i 0) (w.good.linked.view.below (get_or queue i 0) d.in_use) ∙ anode_entry_is w.good (get_or queue i 0) ∙ w.good.heads.at_head (get_or queue i 0) d

  -- its entries are unbroken, by the blocks and nexts alone
  pub open_unbroken : (h : ℕ) → no_directory img (anodes_of img) h ≡ false → Unbroken (entries_of img (anodes_from [] firsts nexts) h)
  unfolding entries_of anodes_from
  open_unbroken h e = rw (← o.loaded.is_loaded) at (reached_unbroken (record { image = accepted_own img o.loaded.accepted; reached = e }))

  -- what the anodes in the tables give, whatever the counts, is what the image's give
  pub by_image : {X : Type 0} (f : Anodes → X) (x : X) → ((c : List ℕ) → x ≡ f (anodes_from c firsts nexts)) → x ≡ f (anodes_of img)
  by_image f x e = e counts ∙ ap f o.loaded.is_loaded

  -- a search in a reached directory answers what the lookup found, or 22
  pub search_answered : (h : ℕ) → no_directory img (anodes_of img) h ≡ false → (f : Anodes → Option Entered) (l : Answer EntryAt) → ((c : List ℕ) → entry_of img l ≡ f (anodes_from c firsts nexts)) → (r : Result EntryAt Refusal) →
      r ≡ ok_or l NotFound → Finds img r (search_number (no_directory img (anodes_of img) h) (f (anodes_of img))) (f (anodes_of img))
  search_answered h reached f l same r is = rw (reached, ← by_image f (entry_of img l) same, is) (found_or img l)

  -- the test of 25, by the blocks and nexts alone
  pub nonempty_by : (e : Entered) (r : Bool) → ((c : List ℕ) → r ≡ cond e.dir (is_there (nth (entries_of img (anodes_from c firsts nexts) e.anode) 0)) false) → not_empty_dir img (anodes_of img) (some e) ≡ r
  unfolding not_empty
  nonempty_by e r same = sym (by_image (λ (s : Anodes). cond e.dir (is_there (nth (entries_of img s e.anode) 0)) false) r same)

-- what a lookup found, an entry or none, is what is looked for
pub search_is : (img : List ℕ) (e : Option Entered) (r q : Answer EntryAt) → entry_of img r ≡ e → r ≡ q → e ≡ entry_of img q
search_is img e r q found is = sym found ∙ ap (entry_of img) is

-- ---- a number that is not 0

-- as that of a refusal
pub refused_some : (r : Refusal) (k : ℕ) → k ≡ number_of r → 1 ≤ k
refused_some r k e = omega (arith, e, number_some r)

-- every number but 0 refuses
pub not_done {ℓ} : {X : Type ℓ} (k : ℕ) → 1 ≤ k → (x y : X) → done_or k x y ≡ y
unfolding done_or
not_done zero l x y = absurd (omega arith)
not_done (suc k) l x y = refl

-- ---- a table of refusals with one row more

-- what the table refused stays refused
pub refused_before : (a b c : ℕ) → c ≡ first_of a b → (r : Refusal) → a ≡ number_of r → c ≡ number_of r
refused_before a b c is r e = is ∙ first_of_some a b (number_of r) e (number_some r)

-- what it passed, the row behind it refuses or passes by the test of the entry that was found
module _ (test : Option Entered → Bool) (o : Option Entered) (x : Entered) (a c n : ℕ) (is : c ≡ first_of a (n if test o else 0)) (passed : (a ≡ 0) × (o ≡ some x)) (r : Bool) (tested : test (some x) ≡ r) where
  row : (v : Bool) → r ≡ v → c ≡ (n if v else 0)
  row v e = is ∙ first_of-none a (n if test o else 0) passed.0 ∙ ap (λ (b : Bool). n if b else 0) (ap test passed.1 ∙ tested ∙ e)

  pub refused_now : r ≡ true → c ≡ n
  refused_now e = row true e

  pub passed-now : r ≡ false → (c ≡ 0) × (o ≡ some x)
  passed-now e = (row false e, passed.1)
