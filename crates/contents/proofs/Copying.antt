-- Laws of the copy out of a chain's blocks, from a place on. Assumes nothing.
use Prim.Native.Nat.{ℕ, ◌+◌, ◌-◌, ◌<◌, ◌≤◌, min}
use mathlib.Core.Path.{◌≡◌, refl, sym, ap, ◌∙◌}
use mathlib.Core.List.{List, [], ◌++◌, append_assoc, append-nil}
use native.Mathlib.Omega.{arith}
use lib.ListN.{length, take, drop, length-take, length-drop, drop_of_length-le}
use lib.Seq.{take-append-le, drop-append-le, drop-append-add, take_all, length-take-le}
use Rattle.std.proofs.lemmas.Slice.{take-put_mid}
use borrow.Rule.Slice.PartMut.{put_mid}
use Rattle.std.proofs.Common.{length-append, inl, inr}
use lib.Seq.{take-append-add}
use Rattle.endian.proofs.Laws.{less?, length-stored, put_mid-stored}
use Rattle.disk.specs.Blocks.{block_of}
use Rattle.rules.specs.Counting.{gather}
use Rattle.contents.specs.Copied.{filled}

-- ---- lists

drop_past : (l m : List ℕ) (n : ℕ) → length l ≤ n → drop n (l ++ m) ≡ drop (n - length l) m
drop_past l m n h =
    let e : n ≡ length l + (n - length l) = omega arith in
    ap (λ (k : ℕ). drop k (l ++ m)) e ∙ drop-append-add l m (n - length l)

pub part_length : (l : List ℕ) (from n : ℕ) → from + n ≤ length l → length (take n (drop from l)) ≡ n
part_length l from n h = length-take-le n (drop from l) (rw length-drop (omega arith))

-- ---- the buffer

pub filled-start : (out source : List ℕ) → filled out 0 source ≡ take (length out) source
unfolding filled
filled-start out source = refl

pub filled-full : (out source : List ℕ) (done : ℕ) → length out ≤ done → filled out done source ≡ out
unfolding filled
filled-full out source done h = rw (take_all done out h, take-append-le (length out) out source (omega arith)) (take_all (length out) out (omega arith))

-- what follows a full buffer does not matter
pub filled_any : (out one other : List ℕ) (done : ℕ) → length out ≤ done → filled out done one ≡ filled out done other
filled_any out one other done h = filled-full out one done h ∙ sym (filled-full out other done h)

-- as many bytes of a source as there is room for, with others behind
pub filled_part : (out source rest : List ℕ) (done n : ℕ) → done ≤ length out → n ≡ min (length source) (length out - done)
    → filled (put_mid done (done + n - done) out (take n source)) (done + n) rest ≡ filled out done (source ++ rest)
unfolding filled
filled_part out source rest done n h e =
    let part = length-take n source in
    let long : length (take n source) ≡ n = omega arith in
    let room : done + n - done ≡ n = omega arith in
    let front : take (done + n) (put_mid done n out (take n source)) ≡ take done out ++ take n source = take-put_mid done n out (take n source) (done + n) (omega arith) h in
    let whole : length (put_mid done n out (take n source)) ≡ length out =
    rw (put_mid-stored out done (take n source) n (sym long) (omega arith)) (length-stored out done (take n source)) in
    rw (room, whole, front)
    (elim (less? n (length source)) [
      | inl more ↦ full (omega arith)
      | inr all ↦ rw (take_all n source all) (ap (take (length out)) (append_assoc (take done out) source rest))
    ])
  where
    full : done + n ≡ length out → take (length out) (take done out ++ take n source ++ rest) ≡ take (length out) (take done out ++ (source ++ rest))
    full end =
        let front = take done out ++ take n source in
        let first : length (take done out) ≡ done = length-take-le done out h in
        let long : length front ≡ length out = omega (arith, length-append (take done out) (take n source), length-take n source, e) in
        let split : length out ≡ length (take done out) + n = omega arith in
        take-append-le (length out) front rest (omega arith) ∙ take_all (length out) front (omega arith)
        ∙ sym (ap (λ (k : ℕ). take k (take done out ++ (source ++ rest))) split ∙ take-append-add (take done out) (source ++ rest) n
        ∙ ap (λ (l : List ℕ). take done out ++ l) (take-append-le n source rest (omega (arith, e))))

-- no block is left, and the buffer comes to t, which is as long: so it is t
pub filled-end : (img out t : List ℕ) (done skip : ℕ) (ys : List ℕ) → ys ≡ [] → filled out done (drop skip (gather (block_of img) ys)) ≡ t → length t ≡ length out → out ≡ t
unfolding filled gather
filled-end img out t done skip ys z e whole =
    let none : drop skip (gather (block_of img) ys) ≡ [] = rw z (drop_of_length-le [] {i = skip} (omega arith)) in
    let f : take (length out) (take done out) ≡ t = rw (none, append-nil (take done out)) at e in
    let n : length (take (length out) (take done out)) ≡ length out = rw f whole in
    let m = length-take (length out) (take done out) in
    let o = length-take done out in
    let full : length out ≤ done = omega arith in
    rw (take_all done out full, take_all (length out) out (omega arith)) at f

-- ---- a block

pub block_skipped : (out block part rest : List ℕ) (done skip : ℕ) → part ≡ block → length part ≤ skip
    → filled out done (drop (skip - length part) rest) ≡ filled out done (drop skip (block ++ rest))
block_skipped out block part rest done skip is h = rw (← is, drop_past part rest skip h)

pub block_behind : (block rest : List ℕ) (skip : ℕ) → skip < length block
    → take (length block - skip) (drop skip block) ++ rest ≡ drop skip (block ++ rest)
block_behind block rest skip h =
    rw (take_all (length block - skip) (drop skip block) (rw length-drop (omega arith)), drop-append-le skip block rest (omega arith))
