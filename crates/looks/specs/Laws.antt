-- Find's own refusals are those of a search, and come after the damage numbers.
use Rattle.std.specs.Prelude.{ℕ, ◌≡◌, Bool, List}
use Rattle.std.proofs.Math.Path.{refl}
use Rattle.std.proofs.Math.Logic.{inl, inr}
use Rattle.std.proofs.Math.Bool.{true, false, not}
use Rattle.std.proofs.Common.{arith}
use Rattle.rules.specs.Counting.{◌if◌else◌}
use Rattle.rules.specs.Anodes.{Anodes}
use Rattle.rules.specs.Lookup.{no_directory, entry_named, is_there}
use Rattle.laws.specs.Tests.{if-zero}
use Rattle.change_laws.specs.Answers.{Late, search_number}
use Rattle.looks.specs.Calls.{find_refusal}

module _ (img : List ℕ) (s : Anodes) (h : ℕ) (name : List ℕ) where
  -- a find is a search
  pub find_search : find_refusal img s h name ≡ search_number (no_directory img s h) (entry_named img s h name)
  unfolding find_refusal
  find_search = refl

  -- the directory of an entry that was found is reached
  pub find_reached : search_number (no_directory img s h) (entry_named img s h name) ≡ 0 → no_directory img s h ≡ false
  find_reached e = (if-zero 21 (no_directory img s h) (22 if not (is_there (entry_named img s h name)) else 0) (omega arith) e).0

  -- 0, 21 or 22
  pub find_late : Late (find_refusal img s h name)
  unfolding find_refusal
  find_late = go (no_directory img s h) (is_there (entry_named img s h name))
    where
      go : (missing there : Bool) → Late (21 if missing else 22 if not there else 0)
      go true there = inr (omega arith)
      go false false = inr (omega arith)
      go false true = inl refl
