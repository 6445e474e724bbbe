-- What 01's call in place leaves of an accepted image where its own table, 20 to 26, refuses nothing: what its steps leave, and if it answers 0, the image of a plan.
use Rattle.std.specs.Prelude.{ℕ, ◌≡◌, refl, eqb}
use Rattle.std.proofs.Common.{sym, ◌∙◌, arith}
use Rattle.std.proofs.Math.Path.{ap}
use Rattle.std.proofs.Math.Logic.{inl, inr}
use mathlib.Core.List.{List}
use Rattle.std.proofs.Math.Option.{Option, some}
use Rattle.std.proofs.Math.ListN.{length}
use Rattle.rules.specs.Counting.{first_of}
use Rattle.rules.specs.Anodes.{limit, anodes_of}
use Rattle.rules.specs.Walk.{Entered, blocks_for}
use Rattle.rules.specs.Accepted.{disk_size, last_reserved, check_answer}
use Rattle.rules.specs.Lookup.{entry_named}
use Rattle.rules.specs.Plans.{Slotted, table_of, planned}
use Rattle.rules.specs.Changes.{Left, left, new_entry, made_image, made, resize_plan, resized_image, resized, written, remove_plan, removed_image, removed, usual_growth}
use Rattle.rules.specs.Calls.{settled, done_or, left_after, checked_first, change_named, read_answer, span_refusal, resize_refusal, remove_refusal, make_refusal, make_outcome, resize_outcome, write_outcome, remove_outcome}
use Rattle.laws.specs.Grown.{grown_grows}
use Rattle.laws.specs.Moves.{Grows}
use Rattle.change_laws.specs.Image.{accepted_whole, ReachedDir}
use Rattle.change_laws.specs.MadeImage.{Making}
use Rattle.change_laws.specs.Make.{planned_cases}
use Rattle.change_laws.specs.PlannedChange.{left_cases}
use Rattle.change_laws.specs.Reached.{EntryIn, entry-facts, entry-not-1}
use Rattle.change_laws.specs.Remove.{remove_refused}
use Rattle.change_laws.specs.ResizePlan.{plan_refused}
use Rattle.safe_laws.specs.CrashMake.{make_asks}

-- slots grow in 01's changes as the laws ask
pub usual_grows : (img : List ℕ) → Grows limit (disk_size img) (last_reserved img) usual_growth
usual_grows img = grown_grows (disk_size img) (last_reserved img)

module _ (img blocks anodes : List ℕ) (ok : check_answer img (length blocks) (length anodes) ≡ 0) where
  -- a change of the entry of that name is made
  named-made : (n : ℕ) → n ≡ 0 → (o : Option Entered) (e : Entered) → o ≡ some e → (f : Entered → Left) → change_named (checked_first img blocks anodes n) img o f ≡ f e
  unfolding first_of done_or
  named-made n z o e is f = rw (ok, z, is)

  -- a write leaves the image with the bytes
  pub write_left : (h : ℕ) (name : List ℕ) (offset : ℕ) (bytes : List ℕ) → span_refusal img (anodes_of img) h name offset (length bytes) ≡ 0 → (e : Entered) → entry_named img (anodes_of img) h name ≡ some e →
      (write_outcome img blocks anodes h name offset bytes).image ≡ written img (anodes_of img) e offset bytes
  unfolding write_outcome read_answer settled
  write_left h name offset bytes z e named = ap (λ (l : Left). l.image) (named-made (span_refusal img (anodes_of img) h name offset (length bytes)) z (entry_named img (anodes_of img) h name) e named (λ x. left 0 (written img (anodes_of img) x offset bytes)))

  module _ (h : ℕ) (name : List ℕ) {e : Entered} (m : EntryIn img h e) (named : entry_named img (anodes_of img) h name ≡ some e) where
    -- a resize that is done leaves the image of its plan
    pub resize_left : (new : ℕ) → resize_refusal img (anodes_of img) h name ≡ 0 → (resize_outcome img blocks anodes h name new).answer ≡ 0 →
        (t : Slotted) × (ys : List ℕ) × (resize_plan usual_growth (last_reserved img) (table_of img) e.anode (blocks_for new) ≡ planned t ys) × ((resize_outcome img blocks anodes h name new).image ≡ resized_image img (anodes_of img) e new t ys)
    unfolding resize_outcome settled resized
    resize_left new z done =
        let is = named-made (resize_refusal img (anodes_of img) h name) z (entry_named img (anodes_of img) h name) e named (λ x. resized usual_growth img (table_of img) x new) in
        let plan = resize_plan usual_growth (last_reserved img) (table_of img) e.anode (blocks_for new) in
        let f = entry-facts m in
        let (t, ys, q, i) = left_cases (λ l. l.answer ≡ 0 → (t : Slotted) × (ys : List ℕ) × (plan ≡ planned t ys) × (l.image ≡ resized_image img (anodes_of img) e new t ys)) img (resized_image img (anodes_of img) e new) plan
        (λ k q o. absurd (elim (plan_refused img (usual_grows img) (accepted_whole m.directory.image).good e.anode f.head (entry-not-1 f) (blocks_for new) k q) [ inl u ↦ omega (arith, o, u) | inr u ↦ omega (arith, o, u) ]))
        (λ t ys q o. (t, ys, q, refl)) (ap (λ (l : Left). l.answer) (sym is) ∙ done) in
        (t, ys, q, ap (λ (l : Left). l.image) is ∙ i)

    -- and so does a removal
    pub remove_left : remove_refusal img (anodes_of img) h name ≡ 0 → (remove_outcome img blocks anodes h name).answer ≡ 0 →
        (t : Slotted) × (ys : List ℕ) × (remove_plan usual_growth (last_reserved img) (table_of img) e.anode ≡ planned t ys) × ((remove_outcome img blocks anodes h name).image ≡ removed_image img e t)
    unfolding remove_outcome settled removed
    remove_left z done =
        let is = named-made (remove_refusal img (anodes_of img) h name) z (entry_named img (anodes_of img) h name) e named (λ x. removed usual_growth img (table_of img) x) in
        let plan = remove_plan usual_growth (last_reserved img) (table_of img) e.anode in
        let (t, ys, q, i) = left_cases (λ l. l.answer ≡ 0 → (t : Slotted) × (ys : List ℕ) × (plan ≡ planned t ys) × (l.image ≡ removed_image img e t)) img (λ t ys. removed_image img e t) plan
        (λ k q o. absurd (omega (arith, o, remove_refused (usual_grows img) m k q)))
        (λ t ys q o. (t, ys, q, refl)) (ap (λ (l : Left). l.answer) (sym is) ∙ done) in
        (t, ys, q, ap (λ (l : Left). l.image) is ∙ i)

  -- a make that is done leaves the image of its plan
  pub make_left : (h type : ℕ) (name comment : List ℕ) (day minute tick protection : ℕ) → make_refusal img (anodes_of img) h type name comment ≡ 0 → (make_outcome img blocks anodes h type name comment day minute tick protection).answer ≡ 0 →
      (f : ℕ) × (room : Option ℕ) × (ys : List ℕ) × (t : Slotted) × (zs : List ℕ) × Making img h (new_entry (eqb type 2) name comment day minute tick protection) f room ys t zs
      × ((make_outcome img blocks anodes h type name comment day minute tick protection).image ≡ made_image img (anodes_of img) h (new_entry (eqb type 2) name comment day minute tick protection) f room ys t zs)
  unfolding make_outcome settled first_of done_or
  make_left h type name comment day minute tick protection z done =
      let new = new_entry (eqb type 2) name comment day minute tick protection in
      let (kind, named, commented, there, unused) = make_asks img h type name comment z in
      let r : ReachedDir img h = record { image = record { blocks = length blocks; anodes = length anodes; accepted = ok }; reached = there } in
      let is : left_after (checked_first img blocks anodes (make_refusal img (anodes_of img) h type name comment)) img (made usual_growth img (table_of img) h new) ≡ made usual_growth img (table_of img) h new = rw (ok, z) in
      let (f, room, ys, t, zs, m, i) = planned_cases (usual_grows img) r new named commented
      (λ l. l.answer ≡ 0 → (f : ℕ) × (room : Option ℕ) × (ys : List ℕ) × (t : Slotted) × (zs : List ℕ) × Making img h new f room ys t zs × (l.image ≡ made_image img (anodes_of img) h new f room ys t zs))
      (λ o. absurd (omega (arith, o))) (λ o. absurd (omega (arith, o))) (λ f room ys t zs m same o. (f, room, ys, t, zs, m, refl)) (ap (λ (l : Left). l.answer) (sym is) ∙ done) in
      (f, room, ys, t, zs, m, ap (λ (l : Left). l.image) is ∙ i)
