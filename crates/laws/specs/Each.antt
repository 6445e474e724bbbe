-- What holds of each member of a list.
use Rattle.std.specs.Prelude.{ℕ, ◌≤◌, ◌≡◌, refl, List, [], ◌∷◌, ◌++◌, map}
use Rattle.std.proofs.Common.{arith}
use Rattle.rules.specs.Counting.{sum_list, gather}

abbrev pub Each {ℓ} : {X : Type ℓ} → (X → Type 0) → List X → Type 0
Each P [] = Unit {0}
Each P (x ∷ l) = P x × Each P l

pub each_all {ℓ} : {X : Type ℓ} (P : X → Type 0) → ((x : X) → P x) → (l : List X) → Each P l
each_all P h [] = tt
each_all P h (x ∷ l) = (h x, each_all P h l)

pub each_map {ℓ} : {X : Type ℓ} (P Q : X → Type 0) (l : List X) → ((x : X) → P x → Q x) → Each P l → Each Q l
each_map P Q [] f e = tt
each_map P Q (x ∷ l) f e = (f x e.0, each_map P Q l f e.1)

pub each_both {ℓ} : {X : Type ℓ} (P Q R : X → Type 0) (l : List X) → ((x : X) → P x → Q x → R x) → Each P l → Each Q l → Each R l
each_both P Q R [] f p q = tt
each_both P Q R (x ∷ l) f p q = (f x p.0 q.0, each_both P Q R l f p.1 q.1)

pub each_pair {ℓ} : {X : Type ℓ} (P Q : X → Type 0) (l : List X) → Each P l → Each Q l → Each (λ x. P x × Q x) l
each_pair P Q l p q = each_both P Q (λ x. P x × Q x) l (λ x a b. (a, b)) p q

-- of each element that f gives
pub each_given {ℓ κ} : {X : Type ℓ} {Y : Type κ} (P : Y → Type 0) (f : X → Y) → ((x : X) → P (f x)) → (l : List X) → Each P (map f l)
each_given P f h [] = tt
each_given P f h (x ∷ l) = (h x, each_given P f h l)

each_append {ℓ} : {X : Type ℓ} (P : X → Type 0) (l m : List X) → Each P l → Each P m → Each P (l ++ m)
each_append P [] m p q = q
each_append P (x ∷ l) m p q = (p.0, each_append P l m p.1 q)

pub each_gather {ℓ κ} : {X : Type ℓ} {Y : Type κ} (P : Y → Type 0) (f : X → List Y) → ((x : X) → Each P (f x)) → (l : List X) → Each P (gather f l)
unfolding gather
each_gather P f h [] = tt
each_gather P f h (x ∷ l) = each_append P (f x) (gather f l) (h x) (each_gather P f h l)

each_right {ℓ} : {X : Type ℓ} (P : X → Type 0) (l m : List X) → Each P (l ++ m) → Each P m
each_right P [] m e = e
each_right P (x ∷ l) m e = each_right P l m e.1

pub each_less {ℓ} : {X : Type ℓ} (P : X → Type 0) (l : List X) (x : X) (m : List X) → Each P (l ++ (x ∷ m)) → Each P (l ++ m)
each_less P [] x m e = e.1
each_less P (y ∷ l) x m e = (e.0, each_less P l x m e.1)

pub list_congr_each {ℓ} : {X : Type ℓ} (w u : X → ℕ) (l : List X) → Each (λ x. w x ≡ u x) l → sum_list w l ≡ sum_list u l
unfolding sum_list
list_congr_each w u [] e = refl
list_congr_each w u (x ∷ l) e = omega (arith, list_congr_each w u l e.1, e.0)

pub list_mono_each {ℓ} : {X : Type ℓ} (w u : X → ℕ) (l : List X) → Each (λ x. w x ≤ u x) l → sum_list w l ≤ sum_list u l
unfolding sum_list
list_mono_each w u [] e = omega arith
list_mono_each w u (x ∷ l) e = omega (arith, list_mono_each w u l e.1, e.0)

pub gather_congr_each {ℓ} : {X : Type ℓ} {Y : Type 0} (f g : X → List Y) (l : List X) → Each (λ x. f x ≡ g x) l → gather f l ≡ gather g l
unfolding gather
gather_congr_each f g [] e = refl
gather_congr_each f g (x ∷ l) e = rw (e.0, gather_congr_each f g l e.1)

-- what has no weight on a list is 0 at each member
pub each_zero {ℓ} : {X : Type ℓ} (g : X → ℕ) (l : List X) → sum_list g l ≡ 0 → Each (λ x. g x ≡ 0) l
unfolding sum_list
each_zero g [] z = tt
each_zero g (x ∷ l) z = (omega arith, each_zero g l (omega arith))

-- and so for many weights at once
pub each_none {ℓ} : {X : Type ℓ} (g : ℕ → X → ℕ) (Q : ℕ → Type 0) (l : List X) → ((x : ℕ) → Q x → sum_list (g x) l ≡ 0) → Each (λ d. (x : ℕ) → Q x → g x d ≡ 0) l
unfolding sum_list
each_none g Q [] h = tt
each_none g Q (d ∷ l) h = (λ x q. omega (arith, h x q), each_none g Q l (λ x q. omega (arith, h x q)))

-- ---- members

-- x stands in l: what stands before it, and what behind
abbrev pub Member {ℓ} : {X : Type ℓ} → X → List X → Type ℓ
Member {X = X} x l = (before : List X) × (after : List X) × (l ≡ before ++ (x ∷ after))

-- a list with one more element somewhere in it
abbrev pub OneMore {ℓ} : {X : Type ℓ} → X → List X → List X → Type ℓ
OneMore {X = X} x l more = (front : List X) × (back : List X) × (l ≡ front ++ back) × (more ≡ front ++ (x ∷ back))

-- what holds of each holds of a member
pub member_each {ℓ} : {X : Type ℓ} (P : X → Type 0) (x : X) (l : List X) → Member x l → Each P l → P x
member_each P x l (before, after, e) p = (each_right P before (x ∷ after) (rw e at p)).0
