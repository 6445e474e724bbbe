-- 01's calls, with slots that grow as in No. 6, are those of the rules.
use Rattle.std.specs.Prelude.{ℕ, zero, suc, ◌≡◌, refl, List, length}
use Rattle.rules.specs.Anodes.{anodes_of}
use Rattle.rules.specs.Changes.{left, usual_growth}
use Rattle.rules.specs.Calls.{Outcome, done_or, left_after, checked_first, span_refusal, read_answer, read_outcome, list_answer, list_outcome, make_outcome, resize_outcome, write_outcome, remove_outcome}
use Rattle.share_rules.specs.SharedCalls.{SharedCall, shared_read, shared_list, shared_make, shared_resize, shared_write, shared_remove, outcome_after, unshared_outcome}

-- a call that leaves the image does so with either answer
stays : (n : ℕ) (img : List ℕ) → left_after n img (left 0 img) ≡ left n img
unfolding done_or
stays zero img = refl
stays (suc n) img = refl

-- the outcome of 01's own call
abbrev pub own_outcome : List ℕ → List ℕ → List ℕ → SharedCall → Outcome
own_outcome img blocks anodes (shared_read h name offset out) = read_outcome img blocks anodes h name offset out
own_outcome img blocks anodes (shared_list h place) = list_outcome img blocks anodes h place
own_outcome img blocks anodes (shared_make h type name comment day minute tick protection) = make_outcome img blocks anodes h type name comment day minute tick protection
own_outcome img blocks anodes (shared_resize h name new) = resize_outcome img blocks anodes h name new
own_outcome img blocks anodes (shared_write h name offset bytes) = write_outcome img blocks anodes h name offset bytes
own_outcome img blocks anodes (shared_remove h name) = remove_outcome img blocks anodes h name

-- AS IN 01: with growth as in No. 6 the unshared outcome is that of the rules
pub unshared_own : (img blocks anodes : List ℕ) (call : SharedCall) → unshared_outcome usual_growth img blocks anodes call ≡ own_outcome img blocks anodes call
unfolding unshared_outcome outcome_after read_outcome read_answer list_outcome list_answer make_outcome resize_outcome write_outcome remove_outcome
unshared_own img blocks anodes (shared_read h name offset out) = rw (stays (checked_first img blocks anodes (span_refusal img (anodes_of img) h name offset (length out))) img)
unshared_own img blocks anodes (shared_list h place) = rw (stays (list_answer img blocks anodes h place) img)
unshared_own img blocks anodes (shared_make h type name comment day minute tick protection) = refl
unshared_own img blocks anodes (shared_resize h name new) = refl
unshared_own img blocks anodes (shared_write h name offset bytes) = refl
unshared_own img blocks anodes (shared_remove h name) = refl
