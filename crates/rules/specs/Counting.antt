-- Sums, searches and tests over numbers and lists, in which the rules are written.
use Rattle.std.specs.Prelude.{ℕ, zero, suc, ◌+◌, Bool, true, false, cond, ◌&&◌, ◌||◌, List, [], ◌∷◌, ◌++◌, eqb, ltb}

infixr 5 ◌if◌else◌
-- a refusal number where its test holds, else what is tried next
abbrev pub ◌if◌else◌ : ℕ → Bool → ℕ → ℕ
n if true else rest = n
n if false else rest = rest

-- the first of two numbers that is not 0
unfoldable pub first_of : ℕ → ℕ → ℕ
first_of zero b = b
first_of (suc a) b = suc a

-- 1 where a is b, else 0
unfoldable pub one_at : ℕ → ℕ → ℕ
one_at a b = cond (eqb a b) 1 0

-- the sum of f over the numbers below a bound
unfoldable pub sum_below : (ℕ → ℕ) → ℕ → ℕ
sum_below f zero = 0
sum_below f (suc k) = sum_below f k + f k

-- some number below a bound passes
unfoldable pub any_below : (ℕ → Bool) → ℕ → Bool
any_below test zero = false
any_below test (suc k) = any_below test k || test k

-- the least number below a bound that passes, or the bound
unfoldable pub least : (ℕ → Bool) → ℕ → ℕ
least test zero = zero
least test (suc k) = cond (ltb (least test k) k) (least test k) (cond (test k) k (suc k))

-- the sum of f over a list
unfoldable pub sum_list {ℓ} : {X : Type ℓ} → (X → ℕ) → List X → ℕ
sum_list f [] = 0
sum_list f (x ∷ l) = f x + sum_list f l

-- how often a number stands in a list
unfoldable pub occurrences : ℕ → List ℕ → ℕ
occurrences x l = sum_list (λ y. one_at y x) l

-- some element of a list passes
unfoldable pub any_in {ℓ} : {X : Type ℓ} → (X → Bool) → List X → Bool
any_in test [] = false
any_in test (x ∷ l) = test x || any_in test l

-- the lists that f gives for the elements, one behind the other
unfoldable pub gather {ℓ κ} : {X : Type ℓ} {Y : Type κ} → (X → List Y) → List X → List Y
gather f [] = []
gather f (x ∷ l) = f x ++ gather f l

-- the last element of a list, or p
unfoldable pub last_of : ℕ → List ℕ → ℕ
last_of p [] = p
last_of p (x ∷ l) = last_of x l

-- f with another value at one number
unfoldable pub changed : (ℕ → ℕ) → ℕ → ℕ → ℕ → ℕ
changed f i x j = cond (eqb j i) x (f j)

-- two lists of bytes are the same
unfoldable pub same_bytes : List ℕ → List ℕ → Bool
same_bytes [] [] = true
same_bytes [] (y ∷ m) = false
same_bytes (x ∷ l) [] = false
same_bytes (x ∷ l) (y ∷ m) = eqb x y && same_bytes l m
