-- What a reader of bytes gets after a store, numbers and zeros as runs, and the part of some bytes that holds a run. Assumes nothing.
use mathlib.Core.Path.{◌≡◌, refl, sym, ap, ◌∙◌}
use Prim.Native.Nat.{ℕ, zero, suc, ◌+◌, ◌/◌, ◌%◌, ◌-◌, ◌<◌, ◌≤◌, min}
use mathlib.Core.List.{List, [], ◌∷◌, ◌++◌, append-nil}
use mathlib.Core.Bool.{Bool, true, false}
use mathlib.Core.Logic.{◌≢◌, ◌⊎◌, inl, inr, ⊎_elim}
use lib.Dec.{ltb, eqb}
use borrow.Author.Tests.{ltb-true, ltb-false, eqb-true, eqb-false}
use native.Mathlib.Omega.{arith}
use native.Mathlib.Numerals.{add-one}
use native.Mathlib.Nat.{not-suc-le-zero}
use lib.ListN.{length, get_or, set, take, drop, replicate, length-set, length-take, length-replicate, get_or-replicate, drop_of_length-le, get_or-eq_default, length-drop, replicate-append-replicate}
use lib.Seq.{set_out, get_or-set_same, get_or-set_other, get_or-take, ext_get_or, drop-set-lt, drop-cons, drop-nil, length-take-le, length-sets, get_or-drop, take-set-lt, drop-set-add, take_at}
use lib.Seq.{take_all}
use Rattle.std.proofs.lemmas.List.Edits.{sets-eq}
use Rattle.std.proofs.lemmas.Slice.{put_mid-paste}
use borrow.Rule.Slice.PartMut.{put_mid}
use Rattle.endian.specs.Bytes.{be16, be32, put16, put32, stored, cleared}

-- ---- cases

-- what a test's two results say
by_test : {A B : Type 0} (t : Bool) → (t ≡ true → A) → (t ≡ false → B) → A ⊎ B
by_test true f g = inl (f refl)
by_test false f g = inr (g refl)

pub less? : (a b : ℕ) → (a < b) ⊎ (b ≤ a)
less? a b = by_test (ltb a b) (ltb-true a b) (ltb-false a b)

pub same? : (a b : ℕ) → (a ≡ b) ⊎ (a ≢ b)
same? a b = by_test (eqb a b) (eqb-true a b) (eqb-false a b)

-- ---- numbers

-- equal bytes make equal numbers
pub be16-bytes : (l m : List ℕ) (k j : ℕ) → get_or l k 0 ≡ get_or m j 0 → get_or l (k + 1) 0 ≡ get_or m (j + 1) 0 → be16 l k ≡ be16 m j
unfolding be16
be16-bytes l m k j p q = rw (p, q)

-- and so do equal halves
pub be32_halves : (l m : List ℕ) (k j : ℕ) → be16 l k ≡ be16 m j → be16 l (k + 2) ≡ be16 m (j + 2) → be32 l k ≡ be32 m j
unfolding be32
be32_halves l m k j p q = rw (p, q)

-- a number past the end is 0
pub be16-out : (l : List ℕ) (at : ℕ) → length l ≤ at → be16 l at ≡ 0
unfolding be16
be16-out l at h = rw (get_or-eq_default l 0 h, get_or-eq_default l 0 {n = at + 1} (omega arith))

pub be32-out : (l : List ℕ) (at : ℕ) → length l ≤ at → be32 l at ≡ 0
unfolding be32
be32-out l at h = rw (be16-out l at h, be16-out l (at + 2) (omega arith))

pub be16-set_other : (l : List ℕ) (at v k : ℕ) → (k ≡ at → ⊥) → (k + 1 ≡ at → ⊥) → be16 (set l at v) k ≡ be16 l k
be16-set_other l at v k n0 n1 = be16-bytes (set l at v) l k k (get_or-set_other l at k v 0 n0) (get_or-set_other l at (k + 1) v 0 n1)

module _ (l : List ℕ) (at v : ℕ) where
  pub length-put16 : length (put16 l at v) ≡ length l
  unfolding put16
  length-put16 = simp length-set

  pub put16-out : length l ≤ at → put16 l at v ≡ l
  unfolding put16
  put16-out h = rw (set_out l at (v / 256) h, set_out l (at + 1) (v % 256) (omega arith))

  pub be16-put16-same : at + 1 < length l → be16 (put16 l at v) at ≡ v
  unfolding be16 put16
  be16-put16-same h =
      rw (
        get_or-set_other (set l at (v / 256)) (at + 1) at (v % 256) 0 (λ e. omega arith),
        get_or-set_same l at (v / 256) 0 (omega arith),
        get_or-set_same (set l at (v / 256)) (at + 1) (v % 256) 0 (simp length-set h),
      )
      (omega arith)

  pub get_or-put16_other : (k : ℕ) → (k ≡ at → ⊥) → (k ≡ at + 1 → ⊥) → get_or (put16 l at v) k 0 ≡ get_or l k 0
  unfolding put16
  get_or-put16_other k n0 n1 = get_or-set_other (set l at (v / 256)) (at + 1) k (v % 256) 0 n1 ∙ get_or-set_other l at k (v / 256) 0 n0

  -- a number with neither of the two bytes
  pub be16-put16_other : (k : ℕ) → ((j : ℕ) → j < 3 → k + 1 ≡ at + j → ⊥) → be16 (put16 l at v) k ≡ be16 l k
  be16-put16_other k n =
      be16-bytes (put16 l at v) l k k
      (get_or-put16_other k (λ e. n 1 (omega arith) (omega arith)) (λ e. n 2 (omega arith) (omega arith)))
      (get_or-put16_other (k + 1) (λ e. n 0 (omega arith) (omega arith)) (λ e. n 1 (omega arith) (omega arith)))

module _ (l : List ℕ) (at v : ℕ) where
  pub length-put32 : length (put32 l at v) ≡ length l
  unfolding put32
  length-put32 = simp length-put16

  pub put32-out : length l ≤ at → put32 l at v ≡ l
  unfolding put32
  put32-out h = rw (put16-out l at (v / 65536) h, put16-out l (at + 2) (v % 65536) (omega arith))

  pub be32-put32-same : at + 3 < length l → be32 (put32 l at v) at ≡ v
  unfolding be32 put32
  be32-put32-same h =
      let m = put16 l at (v / 65536) in
      rw (
        be16-put16_other m (at + 2) (v % 65536) at (λ j m e. omega arith),
        be16-put16-same l at (v / 65536) (omega arith),
        be16-put16-same m (at + 2) (v % 65536) (simp length-put16 (omega arith)),
      )
      (omega arith)

  pub drop-put32 : (n : ℕ) → at + 4 ≤ n → drop n (put32 l at v) ≡ drop n l
  unfolding put32 put16
  drop-put32 n h = drop-set-lt n _ (at + 2 + 1) _ (omega arith) ∙ drop-set-lt n _ (at + 2) _ (omega arith) ∙ drop-set-lt n _ (at + 1) _ (omega arith) ∙ drop-set-lt n l at _ (omega arith)

-- ---- runs

pub length-stored : (l : List ℕ) (at : ℕ) (s : List ℕ) → length (stored l at s) ≡ length l
unfolding stored
length-stored l at s = length-sets l at s

pub stored-none : (l : List ℕ) (at : ℕ) → stored l at [] ≡ l
unfolding stored
stored-none l at = refl

stored-cons : (l : List ℕ) (at v : ℕ) (s : List ℕ) → stored l at (v ∷ s) ≡ stored (set l at v) (at + 1) s
unfolding stored
stored-cons l at v s = rw (add-one at)

-- one more byte of the run, from its byte `j` on
pub stored_step : (l : List ℕ) (at : ℕ) (s : List ℕ) (j : ℕ) → j < length s
    → stored l at (drop j s) ≡ stored (set l at (get_or s j 0)) (at + 1) (drop (j + 1) s)
stored_step l at s j h = rw (drop-cons s j 0 h, add-one j) (stored-cons l at (get_or s j 0) (drop (suc j) s))

-- nothing is stored past the end
pub stored-out : (l : List ℕ) (at : ℕ) (s : List ℕ) → length l ≤ at → stored l at s ≡ l
stored-out l at [] h = stored-none l at
stored-out l at (v ∷ s) h = stored-cons l at v s ∙ rw (set_out l at v h) (stored-out l (at + 1) s (omega arith))

-- nothing is left to be stored behind the smaller of both lengths
pub stored-end : (l : List ℕ) (at : ℕ) (s : List ℕ) (n : ℕ) → n ≡ min (length s) (length l - at) → stored l (at + n) (drop n s) ≡ l
stored-end l at s n e = ⊎_elim (λ h. stored-out l (at + n) (drop n s) (omega (arith, e, h))) (λ (h : length s ≤ n). rw (drop_of_length-le s {i = n} h) (stored-none l (at + n))) (less? n (length s))

-- as many bytes are stored as there are
pub stored-take : (l : List ℕ) (at : ℕ) (s : List ℕ) (k : ℕ) → length l ≤ at + k → stored l at (take k s) ≡ stored l at s
stored-take l at s zero h = stored-none l at ∙ sym (stored-out l at s (omega arith))
stored-take l at [] (suc k) h = refl
stored-take l at (v ∷ s) (suc k) h =
    rw (stored-cons l at v (take k s), stored-cons l at v s) (stored-take (set l at v) (at + 1) s k (simp length-set (omega arith)))

-- a part that holds a run is the run stored
pub put_mid-stored : (l : List ℕ) (at : ℕ) (s : List ℕ) (n : ℕ) → n ≡ length s → at + n ≤ length l → put_mid at n l s ≡ stored l at s
unfolding stored
put_mid-stored l at s n e h = put_mid-paste at n l s s n refl refl e ∙ rw (e, take_all (length s) s (omega arith)) (sym (sets-eq s l at (omega arith)))

-- as many bytes as both have
pub stored-part : (l : List ℕ) (at : ℕ) (s : List ℕ) (n : ℕ) → n ≡ min (length s) (length l - at) → at ≤ length l → put_mid at (at + n - at) l (take n s) ≡ stored l at s
stored-part l at s n e h =
    let k : at + n - at ≡ n = omega arith in
    rw k (put_mid-stored l at (take n s) n (omega (arith, length-take n s)) (omega arith)
    ∙ ⊎_elim (λ (b : length l ≤ at + n). stored-take l at s n b) (λ (b : length s ≤ n). rw (take_all n s b)) (elim (less? n (length s)) [ inl m ↦ inl (omega arith) | inr m ↦ inr m ]))

-- a byte that is none of the run's
pub get_or-stored_other : (l : List ℕ) (at : ℕ) (s : List ℕ) (i : ℕ) → ((j : ℕ) → j < length s → i ≡ at + j → ⊥) → get_or (stored l at s) i 0 ≡ get_or l i 0
get_or-stored_other l at [] i n = rw (stored-none l at)
get_or-stored_other l at (v ∷ s) i n =
    rw (stored-cons l at v s)
    (get_or-stored_other (set l at v) (at + 1) s i (λ j m e. n (j + 1) (omega arith) (omega arith)) ∙ get_or-set_other l at i v 0 (λ e. n 0 (omega arith) (omega arith)))

pub get_or-stored-before : (l : List ℕ) (at : ℕ) (s : List ℕ) (i : ℕ) → i < at → get_or (stored l at s) i 0 ≡ get_or l i 0
get_or-stored-before l at s i h = get_or-stored_other l at s i (λ j m e. omega arith)

pub get_or-stored-after : (l : List ℕ) (at : ℕ) (s : List ℕ) (i : ℕ) → at + length s ≤ i → get_or (stored l at s) i 0 ≡ get_or l i 0
get_or-stored-after l at s i h = get_or-stored_other l at s i (λ j m e. omega arith)

-- byte `k` of the run, where the list is long enough
pub get_or-stored_in : (l : List ℕ) (at : ℕ) (s : List ℕ) (i k : ℕ) → i ≡ at + k → k < length s → i < length l
    → get_or (stored l at s) i 0 ≡ get_or s k 0
get_or-stored_in l at [] i k e h g = absurd (not-suc-le-zero h)
get_or-stored_in l at (v ∷ s) i zero e h g =
    let a : i ≡ at = omega arith in
    rw (stored-cons l at v s, get_or-stored-before (set l at v) (at + 1) s i (omega arith), a) (get_or-set_same l at v 0 (omega arith))
get_or-stored_in l at (v ∷ s) i (suc k) e h g =
    rw (stored-cons l at v s) (get_or-stored_in (set l at v) (at + 1) s i k (omega arith) (omega arith) (simp length-set g))

-- a run within the first bytes of a list
pub take-stored : (n : ℕ) (l : List ℕ) (at : ℕ) (bytes : List ℕ) → at + length bytes ≤ n → take n (stored l at bytes) ≡ stored (take n l) at bytes
take-stored n l at bytes within =
    ext_get_or 0 (take n (stored l at bytes)) (stored (take n l) at bytes) long (λ i m. each i (omega (arith, m, length-take n (stored l at bytes))) (omega (arith, m, length-take n (stored l at bytes), length-stored l at bytes)))
  where
    long : length (take n (stored l at bytes)) ≡ length (stored (take n l) at bytes)
    long = omega (arith, length-take n (stored l at bytes), length-stored l at bytes, length-stored (take n l) at bytes, length-take n l)

    each : (i : ℕ) → i < n → i < length l → get_or (take n (stored l at bytes)) i 0 ≡ get_or (stored (take n l) at bytes) i 0
    each i m q =
        get_or-take n (stored l at bytes) i 0 m ∙ elim (less? i at) [
          | inl b ↦ get_or-stored-before l at bytes i b ∙ sym (get_or-stored-before (take n l) at bytes i b ∙ get_or-take n l i 0 m)
          | inr b ↦ elim (less? i (at + length bytes)) [
            | inl c ↦ get_or-stored_in l at bytes i (i - at) (omega arith) (omega arith) q
                ∙ sym (get_or-stored_in (take n l) at bytes i (i - at) (omega arith) (omega arith) (omega (arith, length-take n l)))
            | inr c ↦ get_or-stored-after l at bytes i c ∙ sym (get_or-stored-after (take n l) at bytes i c ∙ get_or-take n l i 0 m)
          ]
        ]

-- a number with no byte of the run
pub be16-stored_other : (l : List ℕ) (at : ℕ) (s : List ℕ) (k : ℕ) → ((j : ℕ) → j < length s + 1 → k + 1 ≡ at + j → ⊥) → be16 (stored l at s) k ≡ be16 l k
be16-stored_other l at s k n =
    be16-bytes (stored l at s) l k k
    (get_or-stored_other l at s k (λ j m e. n (j + 1) (omega arith) (omega arith)))
    (get_or-stored_other l at s (k + 1) (λ j m e. n j (omega arith) e))

-- a run that goes on where another ends
pub run_on : (l : List ℕ) (at : ℕ) (s m : List ℕ) → m ≡ stored l at s → (k : ℕ) (t : List ℕ) → k ≡ at + length s
    → stored m k t ≡ stored l at (s ++ t)
run_on l at [] m p k t q =
    let e : k ≡ at = omega arith in
    rw (p, stored-none l at, e)
run_on l at (v ∷ s) m p k t q =
    run_on (set l at v) (at + 1) s m (p ∙ stored-cons l at v s) k t (omega arith) ∙ sym (stored-cons l at v (s ++ t))

-- a byte, a two-byte number and a four-byte number are runs
pub byte_run : (l : List ℕ) (at v : ℕ) → set l at v ≡ stored l at (v ∷ [])
unfolding stored
byte_run l at v = refl

pub put16-run : (l : List ℕ) (at v : ℕ) → put16 l at v ≡ stored l at (v / 256 ∷ v % 256 ∷ [])
unfolding put16 stored
put16-run l at v = rw (add-one at)

pub put32-run : (l : List ℕ) (at v : ℕ)
    → put32 l at v ≡ stored l at (v / 65536 / 256 ∷ v / 65536 % 256 ∷ v % 65536 / 256 ∷ v % 65536 % 256 ∷ [])
unfolding put32
put32-run l at v = put16-run _ (at + 2) (v % 65536) ∙ run_on l at _ _ (put16-run l at (v / 65536)) (at + 2) _ (omega arith)

-- the bytes beside a four-byte number
pub get_or-put32_other : (l : List ℕ) (at v i : ℕ) → (i < at) ⊎ (at + 4 ≤ i) → get_or (put32 l at v) i 0 ≡ get_or l i 0
get_or-put32_other l at v i h = rw (put32-run l at v) (get_or-stored_other l at _ i (λ j m e. elim h [ inl b ↦ omega arith | inr b ↦ omega arith ]))

-- a run stored behind the first byte
stored-later : (x : ℕ) (l : List ℕ) (at : ℕ) (s : List ℕ) → stored (x ∷ l) (suc at) s ≡ x ∷ stored l at s
unfolding stored
stored-later x l at [] = refl
stored-later x l at (v ∷ s) = stored-later x (set l at v) (suc at) s

-- a run stored in two lists: the second one gets what goes past the first one's end
pub stored-append : (l m : List ℕ) (at : ℕ) (s : List ℕ) → stored (l ++ m) at s ≡ stored l at s ++ stored m (at - length l) (drop (length l - at) s)
stored-append [] m at s =
    let none : 0 - at ≡ 0 = omega arith in
    let same : at - 0 ≡ at = omega arith in
    rw (stored-out [] at s (omega arith), none, same)
stored-append (x ∷ l) m at [] = rw (stored-none (x ∷ (l ++ m)) at, stored-none (x ∷ l) at, drop-nil {A = ℕ} (suc (length l) - at), stored-none m (at - suc (length l)))
stored-append (x ∷ l) m zero (v ∷ s) =
    let full : suc (length l) - 0 ≡ suc (length l - 0) = omega arith in
    let none : 0 - suc (length l) ≡ 0 - length l = omega arith in
    rw (stored-cons (x ∷ (l ++ m)) 0 v s, stored-cons (x ∷ l) 0 v s, full, none, stored-later v (l ++ m) 0 s, stored-later v l 0 s)
    (ap (λ (r : List ℕ). v ∷ r) (stored-append l m 0 s))
stored-append (x ∷ l) m (suc at) (v ∷ s) =
    let one : suc (length l) - suc at ≡ length l - at = omega arith in
    let other : suc at - suc (length l) ≡ at - length l = omega arith in
    rw (one, other, stored-later x (l ++ m) at (v ∷ s), stored-later x l at (v ∷ s))
    (ap (λ (r : List ℕ). x ∷ r) (stored-append l m at (v ∷ s)))

-- zeros are a run like any other
pub cleared-stored : (l : List ℕ) (at n : ℕ) → cleared l at n ≡ stored l at (replicate n 0)
unfolding cleared stored
cleared-stored l at n = refl

pub length-cleared : (l : List ℕ) (at n : ℕ) → length (cleared l at n) ≡ length l
length-cleared l at n = rw (cleared-stored l at n) (length-stored l at (replicate n 0))

pub cleared-none : (l : List ℕ) (at : ℕ) → cleared l at 0 ≡ l
cleared-none l at = cleared-stored l at 0 ∙ stored-none l at

-- zeros read as zeros, and so does what lies past them
pub get_or_zeros : (n i : ℕ) → get_or {A = ℕ} (replicate n 0) i 0 ≡ 0
get_or_zeros n i =
    ⊎_elim
    (λ h. get_or-replicate {A = ℕ} n i 0 0 h)
    (λ h. get_or-eq_default (replicate n 0) 0 (rw (length-replicate {A = ℕ} n 0) h))
    (less? i n)

-- zeros from the front to the end
pub cleared-front : (l : List ℕ) (n : ℕ) → length l ≤ n → cleared l 0 n ≡ take (length l) (replicate n 0)
unfolding stored
cleared-front l n h =
    let z : List ℕ = take (length l) (replicate n 0) in
    let m : length z ≡ length l = length-take-le (length l) (replicate n 0) (rw (length-replicate {A = ℕ} n 0) h) in
    cleared-stored l 0 n
    ∙ sym (stored-take l 0 (replicate n 0) (length l) (omega arith))
    ∙ sets-eq z l 0 (omega arith)
    ∙ rw (drop_of_length-le l {i = 0 + length z} (omega arith)) (append-nil z)

pub cleared-out : (l : List ℕ) (at n : ℕ) → length l ≤ at → cleared l at n ≡ l
cleared-out l at n h = cleared-stored l at n ∙ stored-out l at (replicate n 0) h

pub get_or-cleared-before : (l : List ℕ) (at n i : ℕ) → i < at → get_or (cleared l at n) i 0 ≡ get_or l i 0
get_or-cleared-before l at n i h = rw (cleared-stored l at n) (get_or-stored-before l at (replicate n 0) i h)

pub get_or-cleared-after : (l : List ℕ) (at n i : ℕ) → at + n ≤ i → get_or (cleared l at n) i 0 ≡ get_or l i 0
get_or-cleared-after l at n i h =
    let e = length-replicate {A = ℕ} n 0 in
    rw (cleared-stored l at n) (get_or-stored-after l at (replicate n 0) i (omega arith))

-- a byte of the run is 0, and so is one past the end
pub get_or-cleared_in : (l : List ℕ) (at n i : ℕ) → at ≤ i → i < at + n → get_or (cleared l at n) i 0 ≡ 0
get_or-cleared_in l at n i h g =
    let e = length-replicate {A = ℕ} n 0 in
    ⊎_elim
    (λ t. rw (cleared-stored l at n) (get_or-stored_in l at (replicate n 0) i (i - at) (omega arith) (omega arith) t ∙ get_or-replicate {A = ℕ} n (i - at) 0 0 (omega arith)))
    (λ o. get_or-eq_default (cleared l at n) 0 (rw (length-cleared l at n) o))
    (less? i (length l))

-- ---- parts

-- parts of two lists of bytes that agree byte for byte
pub part_same : (l m : List ℕ) (k j n : ℕ) → k + n ≤ length l → j + n ≤ length m → ((i : ℕ) → i < n → get_or l (k + i) 0 ≡ get_or m (j + i) 0) → take n (drop k l) ≡ take n (drop j m)
part_same l m k j n p q same =
    let c = length-take-le n (drop k l) (omega (arith, length-drop k l)) in
    let d = length-take-le n (drop j m) (omega (arith, length-drop j m)) in
    ext_get_or 0 (take n (drop k l)) (take n (drop j m)) (c ∙ sym d)
    (λ i h. get_or-take n (drop k l) i 0 (omega arith) ∙ get_or-drop k l i 0 ∙ same i (omega arith) ∙ sym (get_or-drop j m i 0) ∙ sym (get_or-take n (drop j m) i 0 (omega arith)))

pub part_byte : (l m : List ℕ) (k j n : ℕ) → take n (drop k l) ≡ take n (drop j m) → (i : ℕ) → i < n → get_or l (k + i) 0 ≡ get_or m (j + i) 0
part_byte l m k j n e i h =
    sym (get_or-take n (drop k l) i 0 h ∙ get_or-drop k l i 0) ∙ ap (λ (p : List ℕ). get_or p i 0) e ∙ get_or-take n (drop j m) i 0 h ∙ get_or-drop j m i 0

-- a store in a part of some bytes
part-set : (l : List ℕ) (pos len i v : ℕ) → i < len → take len (drop pos (set l (pos + i) v)) ≡ set (take len (drop pos l)) i v
part-set l pos len i v h = ap (take len) (drop-set-add pos l i v) ∙ take-set-lt len (drop pos l) i v h

pub part-put32 : (l : List ℕ) (pos len v : ℕ) → 8 ≤ len → take len (drop pos (put32 l (pos + 4) v)) ≡ put32 (take len (drop pos l)) 4 v
unfolding put32 put16
part-put32 l pos len v h =
    let e5 : pos + 4 + 1 ≡ pos + 5 = omega arith in
    let e6 : pos + 4 + 2 ≡ pos + 6 = omega arith in
    let e7 : pos + 6 + 1 ≡ pos + 7 = omega arith in
    let x = v / 65536 in
    let z = v % 65536 in
    let l₁ = set l (pos + 4) (x / 256) in
    let l₂ = set l₁ (pos + 5) (x % 256) in
    let l₃ = set l₂ (pos + 6) (z / 256) in
    rw (e5, e6, e7)
    (part-set l₃ pos len 7 (z % 256) (omega arith)
    ∙ ap (λ (m : List ℕ). set m 7 (z % 256)) (part-set l₂ pos len 6 (z / 256) (omega arith)
    ∙ ap (λ (m : List ℕ). set m 6 (z / 256)) (part-set l₁ pos len 5 (x % 256) (omega arith)
    ∙ ap (λ (m : List ℕ). set m 5 (x % 256)) (part-set l pos len 4 (x / 256) (omega arith)))))

-- the rest of a run cleared
pub cleared-rest : (b : List ℕ) (r n : ℕ) → length b ≡ r + n → cleared b r n ≡ take r b ++ replicate n 0
unfolding cleared
cleared-rest b r n whole =
    let long : length (replicate {A = ℕ} n 0) ≡ n = length-replicate {A = ℕ} n 0 in
    sets-eq (replicate n 0) b r (omega arith)
    ∙ ap (λ (q : List ℕ). take r b ++ replicate n 0 ++ q) (drop_of_length-le b {i = r + length (replicate {A = ℕ} n 0)} (omega arith))
    ∙ append-nil (take r b ++ replicate n 0)

pub take_zeros : (n m : ℕ) → n ≤ m → take {A = ℕ} n (replicate m 0) ≡ replicate n 0
take_zeros n m l =
    let e : m ≡ n + (m - n) = omega arith in
    ap (λ (k : ℕ). take {A = ℕ} n (replicate k 0)) e ∙ ap (take n) (sym (replicate-append-replicate {A = ℕ} n (m - n) 0)) ∙ take_at (replicate n 0) (replicate (m - n) 0) n (length-replicate {A = ℕ} n 0)

-- a part of zeros, as many as there is room for
pub cleared-part : (l : List ℕ) (at n k : ℕ) (m : List ℕ) → m ≡ replicate k 0 → k ≡ min n (length l - at) → at ≤ length l → put_mid at (at + k - at) l m ≡ cleared l at n
cleared-part l at n k m zeros e h =
    let count : length (replicate {A = ℕ} n 0) ≡ n = length-replicate {A = ℕ} n 0 in
    rw (zeros, ← take_zeros k n (omega arith), cleared-stored l at n)
    (stored-part l at (replicate n 0) k (rw count e) h)

-- bytes that are stored, where only bytes behind them are cleared
pub stored-cleared : (l : List ℕ) (at from n : ℕ) (s : List ℕ) → at + length s ≤ length l → at + length s ≤ from → take (length s) (drop at (cleared (stored l at s) from n)) ≡ s
stored-cleared l at from n s fits behind =
    let b' = cleared (stored l at s) from n in
    let long : length b' ≡ length l = length-cleared (stored l at s) from n ∙ length-stored l at s in
    let part : length (take (length s) (drop at b')) ≡ length s = length-take-le (length s) (drop at b') (omega (arith, length-drop at b')) in
    ext_get_or 0 (take (length s) (drop at b')) s part
    (λ i h. get_or-take (length s) (drop at b') i 0 (omega arith) ∙ get_or-drop at b' i 0 ∙ get_or-cleared-before (stored l at s) from n (at + i) (omega arith)
    ∙ get_or-stored_in l at s (at + i) i refl (omega arith) (omega arith))
