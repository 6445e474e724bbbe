-- In every accepted image the names of one directory differ after folding A to Z onto a to z, so that a name stands for one entry at most.
use Rattle.std.specs.Prelude.{ℕ, ◌+◌, ◌≤◌, ◌≡◌, ◌≢◌, Bool}
use Rattle.std.proofs.Math.Path.{refl, ap}
use Rattle.std.proofs.Common.{sym, ◌∙◌, inl, inr, true≢false}
use Rattle.std.proofs.Math.Bool.{true, false}
use mathlib.Core.List.{List, [], ◌∷◌, ◌++◌, map}
use Rattle.std.proofs.Math.Option.{none, some}
use native.Mathlib.Omega.{arith}
use borrow.Author.Tests.{eqb-false}
use Rattle.rules.specs.Counting.{one_at, sum_list, occurrences, gather, same_bytes}
use Rattle.rules.specs.Folding.{folded}
use Rattle.rules.specs.Anodes.{Anodes, limit, anodes_of}
use Rattle.rules.specs.Chains.{chain_of}
use Rattle.rules.specs.Walk.{Dir, Entered, Item, Walk, fault, done, entries_in, is_block_of, items_by, items_of, walk_of, fault_in, dirs_in, reached_dirs, root}
use Rattle.rules.specs.Accepted.{check_answer}
use Rattle.rules.specs.Lookup.{no_directory, entries_of, is_named, first_named, entry_named}
use Rattle.laws.specs.Tests.{T_true, T_false}
use Rattle.laws.specs.Bags.{list_nil, list_cons, list_append, map-sum}
use Rattle.laws.specs.Members.{Member, no_member, member-cons, member-sum, member_each}
use Rattle.laws.specs.Each.{Each, each_map, each_zero}
use Rattle.laws.specs.Items.{wrong, faults}
use Rattle.laws.specs.Walks.{walk-found}
use Rattle.laws.specs.Apart.{same_name, name_same, one_same, one_same_cases, one_same-same, name_count, twins_fine, twins_apart}
use Rattle.laws.specs.TreeChanges.{headed-member}
use Rattle.laws.specs.Entries.{names-count}
use Rattle.laws.specs.Acceptance.{Passed, passed_of}

-- the names of a directory that is reached
pub record NamesApart (img : List ℕ) : Type 0 where
  -- two entries of it, wherever they stand, have names that differ after folding
  pub differ : (h : ℕ) → no_directory img (anodes_of img) h ≡ false → (front between back : List Entered) (one other : Entered) →
      entries_of img (anodes_of img) h ≡ front ++ (one ∷ (between ++ (other ∷ back))) → folded one.name ≢ folded other.name
  -- and what a lookup finds is the only entry with that name, however it is written
  pub only : (h : ℕ) → no_directory img (anodes_of img) h ≡ false → (name : List ℕ) (e : Entered) → entry_named img (anodes_of img) h name ≡ some e →
      (x : Entered) → Member x (entries_of img (anodes_of img) h) → folded x.name ≡ folded name → x ≡ e

-- ---- entries of one name

-- how many entries have this folded name
abbrev pub entry_count : List ℕ → List Entered → ℕ
entry_count v l = sum_list (λ e. one_same (folded e.name) v) l

-- a lookup answers an entry of that name, and passes any other
module _ (name : List ℕ) (e : Entered) (l : List Entered) where
  first_hit : folded e.name ≡ folded name → first_named name (e ∷ l) ≡ some e
  unfolding first_named is_named
  first_hit q = go (same_bytes (folded e.name) (folded name)) (T_true (same_bytes (folded e.name) (folded name)) (rw q (name_same (folded name))))
    where
      go : (b : Bool) → b ≡ true → elim b [ true ↦ some e | false ↦ first_named name l ] ≡ some e
      go true i = refl
      go false i = absurd (true≢false (sym i))

  first_pass : folded e.name ≢ folded name → first_named name (e ∷ l) ≡ first_named name l
  unfolding first_named is_named
  first_pass n = go (same_bytes (folded e.name) (folded name)) (T_false (same_bytes (folded e.name) (folded name)) (λ t. n (same_name (folded e.name) (folded name) t)))
    where
      go : (b : Bool) → b ≡ false → elim b [ true ↦ some e | false ↦ first_named name l ] ≡ first_named name l
      go true i = absurd (true≢false i)
      go false i = refl

  entry_count-cons : (v : List ℕ) → entry_count v (e ∷ l) ≡ one_same (folded e.name) v + entry_count v l
  entry_count-cons v = list_cons (λ x. one_same (folded x.name) v) e l

-- where a lookup finds none, no entry has that name
pub none-counted : (name : List ℕ) (l : List Entered) → first_named name l ≡ none → entry_count (folded name) l ≡ 0
none-counted name [] e = list_nil {X = Entered} (λ x. one_same (folded x.name) (folded name))
none-counted name (x ∷ l) e = elim (one_same_cases (folded x.name) (folded name)) [
  | inl c ↦ absurd (none≢some x (sym e ∙ first_hit name x l c.0))
  | inr c ↦ omega (arith, entry_count-cons name x l (folded name), c.1, none-counted name l (sym (first_pass name x l c.0) ∙ e))
]
  where
    none≢some : (x : Entered) → none ≡ some x → ⊥
    none≢some x i = let z : ◌≡◌ {A = ℕ} 0 1 = cc in omega arith

-- and so no item of a directory with nothing wrong in it
pub unnamed-count : (entries : ℕ → List Entered) (marked : Dir → ℕ → Bool) (s : Anodes) (d : Dir) → faults (items_by entries marked s) d ≡ 0 → (name : List ℕ) →
    first_named name (gather (λ a. entries (s.block a)) (chain_of s.next limit d.head)) ≡ none → name_count (folded name) (items_by entries marked s d) ≡ 0
unnamed-count entries marked s d z name e = names-count entries marked s d z (folded name) ∙ none-counted name (gather (λ a. entries (s.block a)) (chain_of s.next limit d.head)) e

-- where there is one such entry at most, it is what a lookup finds
only_first : (name : List ℕ) (l : List Entered) → entry_count (folded name) l ≤ 1 → (e : Entered) → first_named name l ≡ some e → (x : Entered) → Member x l → folded x.name ≡ folded name → x ≡ e
only_first name [] once e f x m q = absurd (no_member x m)
only_first name (y ∷ l) once e f x m q = elim (one_same_cases (folded y.name) (folded name)) [
  | inl c ↦ elim (member-cons x y l m) [
    | inl i ↦ i ∙ (let g : some y ≡ some e = sym (first_hit name y l c.0) ∙ f in cc)
    | inr i ↦ absurd (omega (arith, once, entry_count-cons name y l (folded name), c.1, member-sum (λ z. one_same (folded z.name) (folded name)) x l i, ap (λ (u : List ℕ). one_same u (folded name)) q, one_same-same (folded name)))
  ]
  | inr c ↦ elim (member-cons x y l m) [
    | inl i ↦ absurd (c.0 (ap (λ (z : Entered). folded z.name) (sym i) ∙ q))
    | inr i ↦ only_first name l (omega (arith, once, entry_count-cons name y l (folded name))) e (sym (first_pass name y l c.0) ∙ f) x i q
  ]
]

-- and no two of a list differ in place alone
two-counted : (front between back : List Entered) (one other : Entered) → folded one.name ≡ folded other.name →
    2 ≤ entry_count (folded one.name) (front ++ (one ∷ (between ++ (other ∷ back))))
two-counted front between back one other e =
    let v = folded one.name in
    let w : Entered → ℕ = λ x. one_same (folded x.name) v in
    omega (
      arith,
      list_append w front (one ∷ (between ++ (other ∷ back))),
      list_cons w one (between ++ (other ∷ back)),
      list_append w between (other ∷ back),
      list_cons w other back,
      one_same-same v,
      ap (λ (u : List ℕ). one_same u v) (sym e),
    )

-- ---- an accepted image

module _ (img : List ℕ) (blocks anodes : ℕ) (p : Passed img blocks anodes) where
  abbrev s : Anodes
  s = anodes_of img

  abbrev items : Dir → List Item
  items = items_by (entries_in img) (is_block_of img) s

  -- nothing is wrong in the reached directories, and their names are apart
  abbrev Right : Dir → Type 0
  Right d = (faults items d ≡ 0) × ((v : List ℕ) → name_count v (items d) ≤ 1)

  right_one : (d : Dir) → faults (items_of img s) d ≡ 0 → Right d
  unfolding items_of
  right_one d z = (sym (ap (sum_list wrong) (twins_fine [] (items d) z)) ∙ z, twins_apart (items d) z)

  walk_right : (w : Walk) → walk_of img s ≡ w → fault_in w ≡ 0 → Each Right (dirs_in w)
  unfolding walk_of
  walk_right (fault n) e z = tt
  walk_right (done dirs) e z = each_map (λ d. faults (items_of img s) d ≡ 0) Right dirs right_one (each_zero (faults (items_of img s)) dirs (walk-found (items_of img s) limit (root ∷ []) [] dirs e).faultless)

  all_right : Each Right (reached_dirs img s)
  unfolding reached_dirs
  all_right = walk_right (walk_of img s) refl p.walked

  -- a directory that h heads
  there : (h : ℕ) → no_directory img s h ≡ false → (d : Dir) × (d.head ≡ h) × Right d
  unfolding no_directory occurrences
  there h e =
      let some : occurrences h (map (λ d. d.head) (reached_dirs img s)) ≢ 0 = eqb-false _ 0 e in
      let (d, m, q) = headed-member h (reached_dirs img s) (omega (arith, some, map-sum (λ d. d.head) (λ y. one_at y h) (reached_dirs img s))) in
      (d, q, member_each Right d (reached_dirs img s) m all_right)

  once : (h : ℕ) → no_directory img s h ≡ false → (v : List ℕ) → entry_count v (entries_of img s h) ≤ 1
  unfolding entries_of
  once h e v =
      let (d, q, (z, a)) = there h e in
      omega (arith, a v, names-count (entries_in img) (is_block_of img) s d z v, ap (λ (k : ℕ). entry_count v (gather (λ a. entries_in img (s.block a)) (chain_of s.next limit k))) q)

  names_apart_of : NamesApart img
  unfolding entry_named
  names_apart_of = record {
    differ = λ h r front between back one other e same. omega (
      arith,
      once h r (folded one.name),
      two-counted front between back one other same,
      ap (entry_count (folded one.name)) e,
    );
    only = λ h r name e f x m q. only_first name (entries_of img s h) (once h r (folded name)) e f x m q;
  }

-- an image that the check accepts is such an image
pub accepted-names_apart : (img : List ℕ) (blocks anodes : ℕ) → check_answer img blocks anodes ≡ 0 → NamesApart img
accepted-names_apart img blocks anodes e = names_apart_of img blocks anodes (passed_of img blocks anodes e)
