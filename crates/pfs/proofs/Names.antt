-- The name that the fields of a list give is the name that the list hands back.
use Prim.Native.Nat.{ℕ, zero, suc}
use mathlib.Core.Path.{◌≡◌, refl, sym, ap, ◌∙◌}
use mathlib.Core.List.{List}
use mathlib.Core.Option.{Option, none, some}
use lib.ListN.{length}
use Rattle.directory.specs.Entries.{entry_in, entry_length}
use Rattle.rules.specs.Anodes.{anodes_of}
use Rattle.rules.specs.Walk.{Entered}
use Rattle.rules.specs.Accepted.{check_answer}
use Rattle.rules.specs.Lookup.{entries_of, nth}
use Rattle.rules.specs.Calls.{Outcome, outcome_of, settled, done_or, field_list, fields_at, fields_listed, name_listed, list_refusal, list_answer, list_outcome}
use Rattle.laws.specs.Tests.{first_of-zero}
use Rattle.change_laws.specs.Image.{AcceptedImage}
use Rattle.change_laws.specs.Reached.{EntryIn, nth-member, entry_name}
use Rattle.change_laws.specs.Answers.{list_reached}
use Rattle.reading.proofs.Laws.{name_standing, named-part}
use Rattle.pfs.specs.Listed.{name_given}

module _ (img b₀ a₀ : List ℕ) (h n : ℕ) where
  -- the name of the entry that is listed is the one that its fields give
  found_name : check_answer img (length b₀) (length a₀) ≡ 0 → list_refusal img (anodes_of img) h n ≡ 0 → (x : Entered) → nth (entries_of img (anodes_of img) h) n ≡ some x → x.name ≡ name_given img (fields_at img x.start)
  unfolding name_given fields_at field_list entry_in entry_length
  found_name accepted listed x is =
      let image : AcceptedImage img = record { blocks = length b₀; anodes = length a₀; accepted = accepted } in
      let entry : EntryIn img h x = record { directory = record { image = image; reached = list_reached img (anodes_of img) h n listed }; member = nth-member _ n x is } in
      entry_name entry ∙ named-part img x.start (name_standing entry)

  -- and so it is for every answer: a refused list gives zero fields and an empty name
  of_answer : (k : ℕ) → k ≡ list_answer img b₀ a₀ h n → (o : Option Entered) → nth (entries_of img (anodes_of img) h) n ≡ o → name_listed k o ≡ name_given img (fields_listed k img o)
  unfolding name_given list_answer done_or
  of_answer (suc k) e o is = refl
  of_answer zero e none is = refl
  of_answer zero e (some x) is =
      let z = first_of-zero (check_answer img (length b₀) (length a₀)) (list_refusal img (anodes_of img) h n) (sym e) in
      found_name z.0 z.1 x is

  -- the outcome of the list, with the name that its fields give
  pub given_name : (k : ℕ) (b a fields name : List ℕ) → outcome_of k img b a fields name ≡ list_outcome img b₀ a₀ h n → outcome_of k img b a fields (name_given img fields) ≡ list_outcome img b₀ a₀ h n
  unfolding list_outcome settled
  given_name k b a fields name e =
      let m = of_answer (list_answer img b₀ a₀ h n) refl (nth (entries_of img (anodes_of img) h) n) refl in
      let f = ap (λ (o : Outcome). o.output) e in
      let g = ap (λ (o : Outcome). o.name) e in
      rw (← (g ∙ m ∙ ap (name_given img) (sym f))) e
