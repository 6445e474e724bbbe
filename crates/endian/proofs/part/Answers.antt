use Rattle.std.proofs.Common.{◌≡◌, ℕ, List, length, take, drop, min, sym, ap, ◌+◌, ◌-◌, ◌∙◌, inl, inr, arith, length-drop}
use lib.ListN.{drop_of_length-le}
use lib.Seq.{take_all}
use Rattle.endian.proofs.Laws.{less?}
use Rattle.endian.proofs.part.Goals as goal

drop_there : (l : List ℕ) (from start : ℕ) → start ≡ min from (length l) → drop start l ≡ drop from l
drop_there l from start e = elim (less? from (length l)) [
  | inl h ↦ ap (λ (k : ℕ). drop k l) (omega arith)
  | inr h ↦ drop_of_length-le l (omega arith) ∙ sym (drop_of_length-le l h)
]

take_there : (l : List ℕ) (n k : ℕ) → k ≡ min n (length l) → take k l ≡ take n l
take_there l n k e = elim (less? n (length l)) [
  | inl h ↦ ap (λ (i : ℕ). take i l) (omega arith)
  | inr h ↦ take_all k l (omega arith) ∙ sym (take_all n l h)
]

pub returns : goal.returns
returns c =
    let l = c.args.bytes.now in
    let start = c.min-start.result in
    let n : start + c.min.result - start ≡ c.min.result = omega arith in
    rw (n, drop_there l c.args.from start c.min-start.ensures)
    (take_there (drop c.args.from l) c.args.n c.min.result (omega (arith, c.min.ensures, c.min-start.ensures, length-drop c.args.from l)))
