-- No. 7: the listed paths are complete: every path that names an entry of an accepted image is among them, after folding.
use Prim.Native.Nat.{ℕ, zero, suc, ◌+◌, ◌-◌, ◌≤◌, ◌<◌}
use Rattle.std.specs.Prelude.{◌≡◌, ◌≢◌, Bool, true, false, cond, ◌&&◌, length, eqb}
use Rattle.std.proofs.Math.Path.{refl, sym, ap}
use Rattle.std.proofs.Common.{◌∙◌, inl, inr, add-zero, ne_eqb}
use mathlib.Core.List.{List, [], ◌∷◌, ◌++◌, map, map-append, append_assoc}
use Rattle.std.proofs.Math.Option.{Option, none, some, none-ne-some, some-injective}
use native.Mathlib.Omega.{arith}
use Rattle.std.proofs.Math.Dec.{eqb_refl}
use Rattle.rules.specs.Counting.{one_at, sum_list, gather}
use Rattle.rules.specs.Anodes.{Anodes, limit, anodes_of}
use Rattle.rules.specs.Walk.{Dir, dir_made, Entered, Item, Scanned, faulty, fine, scan, Walk, fault, done, visited, walk, walk_of, items_of, dirs_in, reached_dirs}
use Rattle.rules.specs.Folding.{folded}
use Rattle.rules.specs.Lookup.{no_directory, entries_of, entry_named, of_entry}
use Rattle.rules.specs.Changes.{parent_of}
use Rattle.laws.specs.Tests.{eqb_cases, T_true}
use Rattle.laws.specs.Sums.{one_at-same, one_at_cases, one_below, one_below_cases}
use Rattle.laws.specs.Bags.{list_nil, list_cons, list_add, list_mono, list_length}
use Rattle.laws.specs.Items.{headed}
use Rattle.laws.specs.Members.{Member, member-first, member-later, member-left, member_right}
use Rattle.change_laws.specs.Image.{AcceptedImage, accepted_whole, ReachedDir, reached-headed}
use Rattle.change_laws.specs.Reached.{EntryIn, entry-facts, reached_dir}
use Rattle.change_laws.specs.NamedOnce.{only_home}
use Rattle.paths.specs.FoundNames.{named_name}
use Rattle.paths.specs.Paths.{Path, Site, site, site_from, of_site, entry_from, entry_at}
use Rattle.paths.specs.Reached.{found_in, root-reached, sub-reached, sub_lower, dir_weight, site-reached}
use Rattle.differences.specs.Listed.{directory_name, directory_path, entry_path, paths}
use Rattle.difference_laws.specs.NoDifference.{SamePath, Complete}

-- ---- lists

member-map {ℓ κ} : {X : Type ℓ} {Y : Type κ} (f : X → Y) (x : X) (l : List X) → Member x l → Member (f x) (map f l)
member-map f x l (before, after, e) = (map f before, map f after, rw e (map-append f before (x ∷ after)))

pub member_gathered {ℓ κ} : {X : Type ℓ} {Y : Type κ} (f : X → List Y) (x : X) (y : Y) → Member y (f x) → (l : List X) → Member x l → Member y (gather f l)
unfolding gather
member_gathered f x y m l ([], after, e) = rw e (member-left y (f x) (gather f after) m)
member_gathered f x y m l (z ∷ before, after, e) = rw e (member_right y (f z) (gather f (before ++ (x ∷ after))) (member_gathered f x y m (before ++ (x ∷ after)) (before, after, refl)))

-- ---- the parent of a directory, and its name there

-- of the directories with the head a, of which there is one at most, one has the parent g
abbrev child : ℕ → ℕ → Dir → ℕ
child a g c = cond (eqb c.parent g) (one_at c.head a) 0

child-le : (a g : ℕ) (c : Dir) → child a g c ≤ one_at c.head a
child-le a g c = elim (eqb_cases {A = ℕ} c.parent g (one_at c.head a) 0) [ inl q ↦ omega (arith, q.1) | inr q ↦ omega (arith, q.1) ]

parent-found : (a g : ℕ) (l : List Dir) → 0 < sum_list (child a g) l → headed a l ≤ 1 → parent_of l a ≡ g
unfolding parent_of
parent-found a g [] p q = absurd (omega (arith, p, list_nil (child a g)))
parent-found a g (c ∷ l) p q =
    let heads = list_cons (λ d. one_at d.head a) c l in
    let sum = list_cons (child a g) c l in
    let le = list_mono (child a g) (λ d. one_at d.head a) l (child-le a g) in
    elim (one_at_cases c.head a) [
      | inl i ↦ elim (eqb_cases {A = ℕ} c.parent g (one_at c.head a) 0) [
        | inl e ↦ rw (T_true (eqb c.head a) (rw i.0 (eqb_refl a))) e.0
        | inr e ↦ absurd (omega (arith, p, q, heads, sum, le, e.1, i.1))
      ]
      | inr n ↦ rw (ne_eqb c.head a n.0) (parent-found a g l (omega (arith, p, sum, child-le a g c, n.1)) (omega (arith, q, heads)))
    ]

-- the first entry that names a directory x
name_found : (img : List ℕ) (x : ℕ) (before : List Entered) (e : Entered) (after : List Entered) → e.dir ≡ true → e.anode ≡ x →
    ((c : Entered) → Member c before → c.anode ≢ x) → directory_name x (before ++ (e ∷ after)) ≡ e.name
unfolding directory_name
name_found img x [] e after d i others = rw (d, T_true (eqb e.anode x) (rw i (eqb_refl x)))
name_found img x (c ∷ before) e after d i others =
    rw (ne_eqb c.anode x (others c (member-first c before))) (go c.dir (name_found img x before e after d i (λ y m. others y (member-later y c before m))))
  where
    go : (b : Bool) → directory_name x (before ++ (e ∷ after)) ≡ e.name → cond (b && false) c.name (directory_name x (before ++ (e ∷ after))) ≡ e.name
    go true q = q
    go false q = q

-- a walk takes k directories at most
visited-length : (d : Dir) (o : Walk) → length (dirs_in (visited d o)) ≤ suc (length (dirs_in o))
unfolding visited
visited-length d (fault n) = omega arith
visited-length d (done l) = omega arith

walk-length : (items : Dir → List Item) (k : ℕ) (q : List Dir) (named : List ℕ) → length (dirs_in (walk items k q named)) ≤ k
unfolding walk
walk-length items zero [] named = omega arith
walk-length items zero (d ∷ q) named = omega arith
walk-length items (suc k) [] named = omega arith
walk-length items (suc k) (d ∷ q) named = go (scan d (items d) q named) (walk-length items k)
  where
    go : (c : Scanned) → ((q : List Dir) (named : List ℕ) → length (dirs_in (walk items k q named)) ≤ k) →
        length (dirs_in (elim c [ faulty n ↦ fault n | fine r l ↦ visited d (walk items k r l) ])) ≤ suc k
    go (faulty n) rest = omega arith
    go (fine r l) rest = omega (arith, rest r l, visited-length d (walk items k r l))

pub few_dirs : (img : List ℕ) → length (reached_dirs img (anodes_of img)) ≤ limit
unfolding reached_dirs walk_of
few_dirs img = walk-length (items_of img (anodes_of img)) limit _ _

-- ---- along a path

-- how many directories a path goes through
abbrev depth : Path → ℕ
depth [] = 0
depth (x ∷ []) = 0
depth (x ∷ y ∷ l) = suc (depth (y ∷ l))

module _ {img : List ℕ} (image : AcceptedImage img) where
  abbrev s : Anodes
  s = anodes_of img

  abbrev dirs : List Dir
  dirs = reached_dirs img s

  abbrev pub height : ℕ → ℕ
  height = (accepted_whole image).tree.height

  -- how many reached directories are lower
  abbrev pub lower_than : ℕ → ℕ
  lower_than t = sum_list (λ c. one_below (height c.head) t) dirs

  abbrev there : (g : ℕ) → no_directory img s g ≡ false → ReachedDir img g
  there g r = record { image = image; reached = r }

  -- a directory e, named in the directory g
  module _ (g : ℕ) (r : no_directory img s g ≡ false) (name : List ℕ) (e : Entered) (is : entry_named img s g name ≡ some e) (dir : e.dir ≡ true) where
    abbrev m : EntryIn img g e
    m = record { directory = there g r; member = (found_in (there g r) name e is).member }

    below : ReachedDir img e.anode
    below = sub-reached m dir

    parent_is : parent_of dirs e.anode ≡ g
    parent_is = parent-found e.anode g dirs (omega (arith, dir_weight m dir (child e.anode g), one)) (omega (arith, reached-headed below))
      where
        one : child e.anode g (dir_made e.anode g) ≡ 1
        one = rw (T_true (eqb g g) (eqb_refl g)) (one_at-same e.anode e.anode refl)

    name_is : directory_name e.anode (entries_of img s g) ≡ e.name
    name_is =
        let (before, after, parted) = m.member in
        rw parted (name_found img e.anode before e after dir refl (λ c q. only_home image (entry-facts m) before after parted c (inl q)))

    pub path_step : (k : ℕ) → directory_path img s (suc k) e.anode ≡ directory_path img s k g ++ (e.name ∷ [])
    unfolding directory_path
    path_step k = rw (ne_eqb e.anode 5 (λ z. omega (arith, z, (entry-facts m).from_6)), parent_is, name_is)

    lower_one : (c : Dir) → one_below (height c.head) (height e.anode) + one_at c.head e.anode ≤ one_below (height c.head) (height g)
    lower_one c =
        let l = sub_lower m dir in
        let a = one_below_cases (height c.head) (height e.anode) in
        let b = one_below_cases (height c.head) (height g) in
        elim (one_at_cases c.head e.anode) [
          | inl i ↦ elim a [
            | inl x ↦ absurd (omega (arith, x.0, ap height i.0))
            | inr x ↦ elim b [ inl y ↦ omega (arith, x.1, y.1, i.1) | inr y ↦ absurd (omega (arith, y.0, ap height i.0, l)) ]
          ]
          | inr i ↦ elim b [
            | inl y ↦ elim a [ inl x ↦ omega (arith, x.1, y.1, i.1) | inr x ↦ omega (arith, x.1, y.1, i.1) ]
            | inr y ↦ elim a [ inl x ↦ absurd (omega (arith, x.0, y.0, l)) | inr x ↦ omega (arith, x.1, y.1, i.1) ]
          ]
        ]

    pub lower_more : suc (lower_than (height e.anode)) ≤ lower_than (height g)
    lower_more = omega (
      arith,
      list_add (λ c. one_below (height c.head) (height e.anode)) (λ c. one_at c.head e.anode) dirs,
      list_mono (λ c. one_below (height c.head) (height e.anode) + one_at c.head e.anode) (λ c. one_below (height c.head) (height g)) dirs lower_one,
      reached-headed below,
    )

  -- a path from g goes through no more directories than are lower, and the listed path of its site is that of g with the path behind it
  record Led (path : Path) (g : ℕ) (p : Site) : Type 0 where
    few : depth path ≤ lower_than (height g)
    same : (k : ℕ) → SamePath (directory_path img s (k + depth path) p.directory ++ (p.name ∷ [])) (directory_path img s k g ++ path)

  led : (path : Path) (g : ℕ) → no_directory img s g ≡ false → (p : Site) → site_from img s g path ≡ some p → Led path g p
  unfolding site_from
  led [] g r p is = absurd (none-ne-some p is)
  led (x ∷ []) g r p is = rw (sym (some-injective (site g x) p is)) (record { few = omega arith; same = λ k. rw (add-zero k) })
  led (x ∷ y ∷ rest) g r p is = go (entry_named img s g x) refl is (led (y ∷ rest))
    where
      behind : (e : Entered) (named : entry_named img s g x ≡ some e) (d : e.dir ≡ true) → Led (y ∷ rest) e.anode p → Led (x ∷ y ∷ rest) g p
      behind e named d l = record {
        few = omega (arith, l.few, lower_more g r x e named d);
        same = λ k.
            let F = map folded in
            let A = directory_path img s k g in
            let n = e.name in
            let fuel : k + suc (depth (y ∷ rest)) ≡ suc k + depth (y ∷ rest) = omega arith in
            rw fuel (l.same (suc k)
            ∙ ap (λ (q : Path). F (q ++ (y ∷ rest))) (path_step g r x e named d k)
            ∙ ap F (append_assoc A (n ∷ []) (y ∷ rest))
            ∙ map-append folded A (n ∷ y ∷ rest)
            ∙ ap (λ (q : List ℕ). F A ++ (q ∷ F (y ∷ rest))) (named_name img s g x e named)
            ∙ sym (map-append folded A (x ∷ y ∷ rest)));
      }

      go : (o : Option Entered) → entry_named img s g x ≡ o → of_entry o (λ e. cond e.dir (site_from img s e.anode (y ∷ rest)) none) none ≡ some p →
          ((h : ℕ) → no_directory img s h ≡ false → (q : Site) → site_from img s h (y ∷ rest) ≡ some q → Led (y ∷ rest) h q) → Led (x ∷ y ∷ rest) g p
      go none named is deeper = absurd (none-ne-some p is)
      go (some e) named is deeper = at_dir e.dir refl is
        where
          at_dir : (b : Bool) → e.dir ≡ b → cond b (site_from img s e.anode (y ∷ rest)) none ≡ some p → Led (x ∷ y ∷ rest) g p
          at_dir true d is = behind e named d (deeper e.anode (below g r x e named d).reached p is)
          at_dir false d is = absurd (none-ne-some p is)

  pub root-path : (k : ℕ) → directory_path img s k 5 ≡ []
  unfolding directory_path
  root-path zero = refl
  root-path (suc k) = refl

  -- an entry of a reached directory has its path among the listed ones
  pub path-listed : {h : ℕ} {e : Entered} → EntryIn img h e → Member (entry_path img s h e) (paths img)
  unfolding paths
  path-listed {h} {e} m =
      let (d, in_tree, head) = reached_dir m.directory in
      let here : Member (entry_path img s h e) (map (entry_path img s d.head) (entries_of img s d.head)) = rw head (member-map (entry_path img s h) e (entries_of img s h) m.member) in
      member_gathered (λ c. map (entry_path img s c.head) (entries_of img s c.head)) d _ here dirs in_tree

  pub lower_few : (t : ℕ) → lower_than t ≤ limit
  lower_few t = omega (arith, list_mono (λ c. one_below (height c.head) t) (λ c. 1) dirs (λ c. at_most (height c.head)), list_length dirs, few_dirs img)
    where
      at_most : (a : ℕ) → one_below a t ≤ 1
      at_most a = elim (one_below_cases a t) [ inl c ↦ omega (arith, c.1) | inr c ↦ omega (arith, c.1) ]

  -- a path that names an entry is, after folding, the entry's own
  pub path-found : (path : Path) (e : Entered) → entry_at img path ≡ some e → (h : ℕ) × EntryIn img h e × SamePath (entry_path img s h e) path
  unfolding entry_from entry_path
  path-found path e is = go (site_from img s 5 path) refl is
    where
      own : (p : Site) → site_from img s 5 path ≡ some p → entry_named img s p.directory p.name ≡ some e → (h : ℕ) × EntryIn img h e × SamePath (directory_path img s limit h ++ (e.name ∷ [])) path
      own p led-to found =
          let F = map folded in
          let start = root-reached image in
          let l = led path 5 start.reached p led-to in
          let k = limit - depth path in
          let fuel : k + depth path ≡ limit = omega (arith, l.few, lower_few (height 5)) in
          let A = directory_path img s limit p.directory in
          let n = e.name in (
            p.directory,
            found_in (site-reached path 5 start p led-to) p.name e found,
            map-append folded A (n ∷ [])
                ∙ ap (λ (q : List ℕ). F A ++ (q ∷ [])) (named_name img s p.directory p.name e found)
                ∙ sym (map-append folded A (p.name ∷ []))
                ∙ rw (fuel, root-path k) at (l.same k),
          )

      go : (o : Option Site) → site_from img s 5 path ≡ o → of_site o (λ p. entry_named img s p.directory p.name) none ≡ some e → (h : ℕ) × EntryIn img h e × SamePath (directory_path img s limit h ++ (e.name ∷ [])) path
      go none led-to found = absurd (none-ne-some e found)
      go (some p) led-to found = own p led-to found

  -- THE LISTED PATHS ARE COMPLETE
  pub complete : Complete img
  complete path e is =
      let (h, m, same) = path-found path e is in
      (entry_path img s h e, path-listed m, same)
