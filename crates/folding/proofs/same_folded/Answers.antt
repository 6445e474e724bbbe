use Rattle.std.proofs.Common.{◌≡◌, Bool, List, ℕ, ◌↔◌, IsTrue}
use Rattle.rules.specs.Counting.{same_bytes}
use Rattle.rules.specs.Folding.{folded}
use Rattle.laws.specs.Apart.{same_name, name_same}
use Rattle.laws.specs.Tests.{T-same, T_true}
use Rattle.folding.proofs.Laws.{lower_folded}
use Rattle.folding.proofs.same_folded.Goals as goal

-- a test that names are equal says what `same_bytes` says
same_test : (t : Bool) (u v : List ℕ) → (IsTrue t ↔ (u ≡ v)) → t ≡ same_bytes u v
same_test t u v h = T-same t (same_bytes u v) (λ a. rw (h.0 (T_true t a)) (name_same v)) (λ a. rw (h.1 (same_name u v a)) tt)

pub returns : goal.returns
returns c =
    let g = c.args in
    let test : IsTrue c.eq_ignore_ascii_case.result ↔ (folded g.one.now ≡ folded g.other.now) = rw (← lower_folded g.one.now, ← lower_folded g.other.now) c.eq_ignore_ascii_case.ensures.test in
    same_test _ _ _ test
