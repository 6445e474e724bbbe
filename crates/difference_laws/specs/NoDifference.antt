-- No. 7, the other half: no difference at a path means the same facts there, and what a path names depends on its folded names alone.
use Rattle.std.specs.Prelude.{ℕ, suc, ◌+◌, ◌≤◌, ◌<◌, ◌≡◌, ◌⊎◌, Bool, not, ◌&&◌, length, T, eqb, leb}
use Rattle.std.proofs.Math.Path.{refl, ap}
use Rattle.std.proofs.Common.{sym, ◌∙◌, inl, inr, true≢false, arith, eqb→eq, leb→le}
use Rattle.std.proofs.Math.Bool.{true, false, cond}
use mathlib.Core.List.{List, [], ◌∷◌, ◌++◌, map, head-eq_of_cons-eq, tail-eq_of_cons-eq}
use Rattle.std.proofs.Math.Option.{Option, none, some}
use Rattle.std.proofs.Math.Dec.{nleb→lt, not_T}
use Rattle.rules.specs.Counting.{gather, same_bytes}
use Rattle.rules.specs.Anodes.{Anodes, anodes_of}
use Rattle.rules.specs.Walk.{Entered}
use Rattle.rules.specs.Folding.{folded}
use Rattle.rules.specs.Lookup.{entry_named, of_entry}
use Rattle.laws.specs.Tests.{cond_cases, both, T_true, eq→eqb}
use Rattle.laws.specs.Sums.{sum-none}
use Rattle.laws.specs.Members.{Member, member-cons, no_member}
use Rattle.paths.specs.Paths.{Path, site_from, of_site, entry_from, entry_at}
use Rattle.paths.specs.FoundNames.{named-folded}
use Rattle.paths.specs.Facts.{Facts, facts_of, facts_at, SameTree}
use Rattle.differences.specs.Listed.{paths}
use Rattle.differences.specs.Fields.{unless_same, same_stamps, fields_differing, longer_length, byte_differs, bytes_differing, first_byte_differing, compared_bytes}
use Rattle.differences.specs.Differences.{Difference, only_first, only_second, differing, differing_in, in_both, difference_at, only_second_at, differences}

-- ---- bytes

pub bytes_same : (l m : List ℕ) → T (same_bytes l m) → l ≡ m
unfolding same_bytes
bytes_same [] [] t = refl
bytes_same [] (y ∷ m) t = elim t [ ]
bytes_same (x ∷ l) [] t = elim t [ ]
bytes_same (x ∷ l) (y ∷ m) t = let b = both (eqb x y) (same_bytes l m) t in λ i. eqb→eq x y b.0 i ∷ bytes_same l m b.1 i

longer_is : (l m : List ℕ) → (length l ≤ longer_length l m) × (length m ≤ longer_length l m) × ((longer_length l m ≡ length l) ⊎ (longer_length l m ≡ length m))
unfolding longer_length
longer_is l m = elim (cond_cases (leb (length l) (length m)) (length m) (length l)) [
  | inl c ↦ (omega (arith, c.1, leb→le (length l) (length m) c.0), omega (arith, c.1), inr c.1)
  | inr c ↦ (omega (arith, c.1), omega (arith, c.1, nleb→lt (length l) (length m) (not_T (leb (length l) (length m)) c.0)), inl c.1)
]

longer_more : (x y : ℕ) (l m : List ℕ) (i : ℕ) → i < longer_length l m → suc i < longer_length (x ∷ l) (y ∷ m)
longer_more x y l m i p =
    let q = longer_is (x ∷ l) (y ∷ m) in
    elim (longer_is l m).2 [ inl e ↦ omega (arith, p, e, q.0) | inr e ↦ omega (arith, p, e, q.1) ]

-- lists of which no byte differs are the same
all_same : (l m : List ℕ) → ((i : ℕ) → i < longer_length l m → byte_differs l m i ≡ false) → l ≡ m
unfolding byte_differs same_bytes
all_same [] [] h = refl
all_same [] (y ∷ m) h = absurd (true≢false (h 0 (omega (arith, (longer_is [] (y ∷ m)).1))))
all_same (x ∷ l) [] h = absurd (true≢false (h 0 (omega (arith, (longer_is (x ∷ l) []).0))))
all_same (x ∷ l) (y ∷ m) h =
    let first = h 0 (omega (arith, (longer_is (x ∷ l) (y ∷ m)).0)) in
    let e : x ≡ y = eqb→eq x y (both (eqb x y) true (differs_not (eqb x y && true) first)).0 in
    let r : l ≡ m = all_same l m (λ i p. h (suc i) (longer_more x y l m i p)) in
    λ i. e i ∷ r i
  where
    differs_not : (t : Bool) → not t ≡ false → T t
    differs_not true e = tt
    differs_not false e = true≢false e

cond-zero : (t : Bool) → ◌≡◌ {A = ℕ} (cond t 1 0) 0 → t ≡ false
cond-zero true e = absurd (omega (arith, e))
cond-zero false e = refl

no_bytes : (l m : List ℕ) → bytes_differing l m ≡ 0 → l ≡ m
unfolding bytes_differing
no_bytes l m z = all_same l m (λ i p. cond-zero (byte_differs l m i) (sum-none (λ i. cond (byte_differs l m i) 1 0) (longer_length l m) z i p))

-- ---- fields

unless_same_lem : (t : Bool) (n : ℕ) → unless_same t (suc n) ≡ 0 → T t
unfolding unless_same
unless_same_lem true n e = tt
unless_same_lem false n e = absurd (omega (arith, e))

parts : (a b c d p s : ℕ) → a + b + c + d + p + s ≡ 0 → (a ≡ 0) × (b ≡ 0) × (c ≡ 0) × (d ≡ 0) × (p ≡ 0) × (s ≡ 0)
parts a b c d p s e = (omega arith, omega arith, omega arith, omega arith, omega arith, omega arith)

-- no field and no byte that differs: the same facts
facts-same : (f g : Facts) → fields_differing f g ≡ 0 → bytes_differing (compared_bytes f g) (compared_bytes g f) ≡ 0 → f ≡ g
unfolding fields_differing same_stamps compared_bytes
facts-same f g z b =
    let q = parts _ _ _ _ _ _ z in
    let type : f.type ≡ g.type = eqb→eq f.type g.type (unless_same_lem _ 0 q.0) in
    let there : eqb f.type g.type ≡ true = T_true _ (unless_same_lem _ 0 q.0) in
    let back : eqb g.type f.type ≡ true = T_true _ (eq→eqb g.type f.type (sym type)) in
    let name = bytes_same f.name g.name (unless_same_lem _ 1 q.1) in
    let comment = bytes_same f.comment g.comment (unless_same_lem _ 3 q.2) in
    let stamps = both (eqb f.day g.day) (eqb f.minute g.minute && eqb f.tick g.tick) (unless_same_lem _ 7 q.3) in
    let later = both (eqb f.minute g.minute) (eqb f.tick g.tick) stamps.1 in
    let day = eqb→eq f.day g.day stamps.0 in
    let minute = eqb→eq f.minute g.minute later.0 in
    let tick = eqb→eq f.tick g.tick later.1 in
    let protection = eqb→eq f.protection g.protection (unless_same_lem _ 15 q.4) in
    let size = eqb→eq f.size g.size (unless_same_lem _ 31 (rw there at q.5)) in
    let bytes = no_bytes f.bytes g.bytes (rw (there, back) at b) in
    λ i. record { type = type i; name = name i; comment = comment i; day = day i; minute = minute i; tick = tick i; protection = protection i; size = size i; bytes = bytes i }

-- an entry in both, listed as no difference
pub not-nil {ℓ} : {X : Type ℓ} (x : X) (l : List X) → x ∷ l ≡ [] → ⊥
not-nil x l e = let z : ◌≡◌ {A = ℕ} 0 1 = cc in omega arith

unlisted : (t : Bool) (d : Difference) → cond t [] (d ∷ []) ≡ [] → T t
unlisted true d e = tt
unlisted false d e = not-nil d [] e

pub none_differing : (first second : ℕ) (f g : Facts) → differing_in first second f g ≡ [] → f ≡ g
unfolding differing_in
none_differing first second f g e =
    let l = compared_bytes f g in
    let m = compared_bytes g f in
    let fields = eqb (fields_differing f g) 0 in
    let bytes = eqb (bytes_differing l m) 0 in
    let b = both fields bytes (unlisted (fields && bytes) (differing first second (fields_differing f g) (first_byte_differing l m) (bytes_differing l m)) e) in
    facts-same f g (eqb→eq (fields_differing f g) 0 b.0) (eqb→eq (bytes_differing l m) 0 b.1)

-- ---- paths

-- two paths are the same after folding
abbrev pub SamePath : Path → Path → Type 0
SamePath p q = map folded p ≡ map folded q

-- every path that names an entry is among the listed ones, after folding (PathLaws: in an accepted image)
abbrev pub Complete : List ℕ → Type 0
Complete img = (path : Path) (e : Entered) → entry_at img path ≡ some e → (p : Path) × Member p (paths img) × SamePath p path

module _ (img : List ℕ) (s : Anodes) where
  -- what a path names depends on its folded names alone
  pub entry-folded : (p q : Path) (h : ℕ) → SamePath p q → entry_from img s h p ≡ entry_from img s h q
  unfolding entry_from site_from
  entry-folded [] [] h e = refl
  entry-folded [] (y ∷ q) h e = absurd (not-nil _ _ (sym e))
  entry-folded (x ∷ p) [] h e = absurd (not-nil _ _ e)
  entry-folded (x ∷ []) (y ∷ []) h e = named-folded img s h x y (head-eq_of_cons-eq e)
  entry-folded (x ∷ []) (y ∷ z ∷ q) h e = absurd (not-nil _ _ (sym (tail-eq_of_cons-eq e)))
  entry-folded (x ∷ w ∷ p) (y ∷ []) h e = absurd (not-nil _ _ (tail-eq_of_cons-eq e))
  entry-folded (x ∷ w ∷ p) (y ∷ z ∷ q) h e = rw (named-folded img s h x y (head-eq_of_cons-eq e)) (go (entry_named img s h y) (λ k. entry-folded (w ∷ p) (z ∷ q) k (tail-eq_of_cons-eq e)))
    where
      go : (o : Option Entered) → ((k : ℕ) → entry_from img s k (w ∷ p) ≡ entry_from img s k (z ∷ q)) →
          of_site (of_entry o (λ e. cond e.dir (site_from img s e.anode (w ∷ p)) none) none) (λ r. entry_named img s r.directory r.name) none
          ≡ of_site (of_entry o (λ e. cond e.dir (site_from img s e.anode (z ∷ q)) none) none) (λ r. entry_named img s r.directory r.name) none
      go none deeper = refl
      go (some e) deeper = at_dir e.dir
        where
          at_dir : (b : Bool) → of_site (cond b (site_from img s e.anode (w ∷ p)) none) (λ r. entry_named img s r.directory r.name) none
              ≡ of_site (cond b (site_from img s e.anode (z ∷ q)) none) (λ r. entry_named img s r.directory r.name) none
          at_dir true = deeper e.anode
          at_dir false = refl

-- ---- the other half of the theorem

nil-parts {ℓ} : {X : Type ℓ} (l m : List X) → l ++ m ≡ [] → (l ≡ []) × (m ≡ [])
nil-parts [] m e = (refl, e)
nil-parts (x ∷ l) m e = absurd (not-nil x (l ++ m) e)

nil-at : (f : Path → List Difference) (l : List Path) → gather f l ≡ [] → (p : Path) → Member p l → f p ≡ []
unfolding gather
nil-at f [] e p m = absurd (no_member p m)
nil-at f (q ∷ l) e p m =
    let n = nil-parts (f q) (gather f l) e in
    elim (member-cons p q l m) [ inl i ↦ rw i n.0 | inr i ↦ nil-at f l n.1 p i ]

module _ (img j : List ℕ) (all : Complete img) (every : Complete j) (nothing : differences img j ≡ []) where
  first_nothing : (p : Path) → Member p (paths img) → difference_at img j p ≡ []
  unfolding differences
  first_nothing = nil-at (difference_at img j) (paths img) (nil-parts (gather (difference_at img j) (paths img)) (gather (only_second_at img j) (paths j)) nothing).0

  second_nothing : (p : Path) → Member p (paths j) → only_second_at img j p ≡ []
  unfolding differences
  second_nothing = nil-at (only_second_at img j) (paths j) (nil-parts (gather (difference_at img j) (paths img)) (gather (only_second_at img j) (paths j)) nothing).1

  -- at a path that names an entry of the first
  none_first : (path : Path) (e : Entered) (o : Option Entered) → entry_at img path ≡ some e → entry_at j path ≡ o →
      of_entry o (in_both img j e) (only_first e.start ∷ []) ≡ []
  unfolding difference_at
  none_first path e o x y =
      let c = all path e x in
      rw (entry-folded img (anodes_of img) c.0 path 5 c.2 ∙ x, entry-folded j (anodes_of j) c.0 path 5 c.2 ∙ y) at (first_nothing c.0 c.1)

  -- and of the second
  none_second : (path : Path) (f : Entered) → entry_at img path ≡ none → entry_at j path ≡ some f → only_second f.start ∷ [] ≡ []
  unfolding only_second_at
  none_second path f x y =
      let c = every path f y in
      rw (entry-folded img (anodes_of img) c.0 path 5 c.2 ∙ x, entry-folded j (anodes_of j) c.0 path 5 c.2 ∙ y) at (second_nothing c.0 c.1)

  -- a list without differences means the same tree
  pub none-same : SameTree img j
  unfolding facts_at in_both
  none-same path = go (entry_at img path) (entry_at j path) refl refl
    where
      go : (o p : Option Entered) → entry_at img path ≡ o → entry_at j path ≡ p → of_entry o (λ e. some (facts_of img e)) none ≡ of_entry p (λ e. some (facts_of j e)) none
      go none none x y = refl
      go none (some f) x y = absurd (not-nil _ _ (none_second path f x y))
      go (some e) none x y = absurd (not-nil _ _ (none_first path e none x y))
      go (some e) (some f) x y = ap (λ (g : Facts). some g) (none_differing e.start f.start (facts_of img e) (facts_of j f) (none_first path e (some f) x y))
