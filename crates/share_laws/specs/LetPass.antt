-- A shared call that its tests let pass: what is known before its steps.
use Rattle.std.specs.Prelude.{ℕ, ◌≤◌, ◌≡◌, false, ◌||◌, List, length, eqb, ltb}
use Rattle.std.proofs.Common.{arith, ltb-false}
use Rattle.rules.specs.Counting.{◌if◌else◌}
use Rattle.rules.specs.Anodes.{anodes_of}
use Rattle.rules.specs.Accepted.{check_answer}
use Rattle.counting.specs.Laws.{neither}
use Rattle.laws.specs.Tests.{if-zero, first_of-zero}
use Rattle.share_rules.specs.Shares.{Shares, over_share, unfit, wrong_shares, not_own}
use Rattle.share_rules.specs.SharedCalls.{SharedCall, named_directory, unshared_refusal, removes_top, blocks_needed, shared_refusal, shared_answer}

-- the shares fit, the directory is the party's own, the call has none of its own numbers up to 26, no top directory is removed, and the party stays within its share
pub record LetPass (img : List ℕ) (party : ℕ) (sh : Shares) (call : SharedCall) : Type 0 where
  pub three : party ≤ 2
  pub fit : unfit img (anodes_of img) sh ≡ false
  pub own : not_own img (anodes_of img) party sh (named_directory call) ≡ false
  pub no_other : unshared_refusal img call ≡ 0
  pub no_top : removes_top img sh call ≡ false
  pub within : over_share img (anodes_of img) sh party (blocks_needed img call) ≡ false

-- where the tests of shares give no number
pub tests_pass : (img : List ℕ) (party : ℕ) (sh : Shares) (call : SharedCall) → shared_refusal img party sh call ≡ 0 → LetPass img party sh call
unfolding shared_refusal wrong_shares
tests_pass img party sh call e =
    let s = anodes_of img in
    let number = unshared_refusal img call in
    let over = over_share img s sh party (blocks_needed img call) in
    let b = if-zero 30 (ltb 2 party || unfit img s sh) _ (omega arith) e in
    let p = neither (ltb 2 party) (unfit img s sh) b.0 in
    let c = if-zero 20 (eqb number 20) _ (omega arith) b.1 in
    let d = if-zero 21 (not_own img s party sh (named_directory call)) _ (omega arith) c.1 in
    let f = if-zero 22 (eqb number 22) _ (omega arith) d.1 in
    let g = if-zero 30 (removes_top img sh call) _ (omega arith) f.1 in
    let i = first_of-zero number (29 if over else 0) g.1 in
    record { three = ltb-false 2 party p.0; fit = p.1; own = d.0; no_other = i.0; no_top = g.0; within = (if-zero 29 over 0 (omega arith) i.1).0 }

-- the check's number stands before them
pub check_passed : (img blocks anodes : List ℕ) (party : ℕ) (sh : Shares) (call : SharedCall) → shared_answer img blocks anodes party sh call ≡ 0 → check_answer img (length blocks) (length anodes) ≡ 0
unfolding shared_answer
check_passed img blocks anodes party sh call e = (first_of-zero (check_answer img (length blocks) (length anodes)) (shared_refusal img party sh call) e).0

pub let_pass : (img blocks anodes : List ℕ) (party : ℕ) (sh : Shares) (call : SharedCall) → shared_answer img blocks anodes party sh call ≡ 0 → LetPass img party sh call
unfolding shared_answer
let_pass img blocks anodes party sh call e = tests_pass img party sh call (first_of-zero (check_answer img (length blocks) (length anodes)) (shared_refusal img party sh call) e).1
