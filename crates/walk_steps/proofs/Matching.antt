-- The walk by tables and the walk of the rules, item by item and directory by directory. Assumes nothing.
use Prim.Native.Nat.{ℕ, zero, suc, ◌+◌, ◌<◌, ◌≤◌}
use mathlib.Core.Path.{◌≡◌, refl, sym, ◌∙◌}
use mathlib.Core.Bool.{Bool, true, false, cond}
use mathlib.Core.Logic.{⊎_elim}
use mathlib.Core.List.{List, [], ◌∷◌, ◌++◌, append-nil, append_assoc}
use native.Mathlib.Omega.{arith}
use lib.Dec.{eqb}
use lib.ListN.{length, get_or, set, length-set}
use lib.Seq.{get_or-set_same, get_or-set_other}
use borrow.Author.Tests.{le-leb, lt-leb, eqb-true, eqb-false}
use Rattle.endian.proofs.Laws.{same?}
use Rattle.rules.specs.Counting.{first_of, one_at, sum_list, occurrences, gather}
use Rattle.rules.specs.Anodes.{limit}
use Rattle.rules.specs.Walk.{Dir, Item, sub_dirs, fault_of, Scanned, faulty, fine, scan, Walk, fault, done, visited, walk, dir_made}
use Rattle.laws.specs.Sums.{one_at-same, one_at_other}
use Rattle.laws.specs.Bags.{list_append, occurrences-cons}
use Rattle.laws.specs.Each.{Each}
use Rattle.laws.specs.Walks.{scan_next, scan_stops}
use Rattle.walk_steps.specs.Steps.{Progress, stopped, going, enter_item, enter_all, Run, halted, ended, after_dir, run_from}

-- ---- counts over a list of items

-- how often the items name anode x
unfoldable pub namings : ℕ → List Item → ℕ
namings x is = sum_list (λ i. one_at i.anode x) is

-- how many files they name
unfoldable pub files_in : List Item → ℕ
files_in is = sum_list (λ i. cond i.dir 0 1) is

-- ---- marks

-- an anode from 6 up is marked where t is not 0
abbrev pub Agree : List ℕ → (ℕ → ℕ) → Type 0
Agree marks t = (x : ℕ) → 6 ≤ x → x < limit → (get_or marks x 0 ≡ 0 → t x ≡ 0) × ((get_or marks x 0 ≡ 0 → ⊥) → 1 ≤ t x)

pub agree_same : (marks : List ℕ) (t u : ℕ → ℕ) → ((x : ℕ) → t x ≡ u x) → Agree marks t → Agree marks u
agree_same marks t u e h x lo hi = (λ z. sym (e x) ∙ (h x lo hi).0 z, λ n. rw (sym (e x)) ((h x lo hi).1 n))

agree_more : (marks : List ℕ) (a : ℕ) (named : List ℕ) → length marks ≡ limit → a < limit → Agree marks (λ x. occurrences x named)
    → Agree (set marks a 1) (λ x. occurrences x (a ∷ named))
agree_more marks a named whole room h x lo hi =
    ⊎_elim
    (λ e. let one : get_or (set marks a 1) x 0 ≡ 1 = rw e (get_or-set_same marks a 1 0 (omega arith)) in
    let more : occurrences x (a ∷ named) ≡ 1 + occurrences x named = occurrences-cons x a named ∙ rw (one_at-same a x (sym e)) in
    (λ z. absurd (omega arith), λ n. omega arith))
    (λ n. let same = get_or-set_other marks a x 1 0 n in
    let less : occurrences x (a ∷ named) ≡ occurrences x named = occurrences-cons x a named ∙ rw (one_at_other a x (λ q. n (sym q))) (omega arith) in
    (λ z. less ∙ (h x lo hi).0 (sym same ∙ z), λ m. rw less ((h x lo hi).1 (λ z. m (same ∙ z)))))
    (same? x a)

-- ---- the items of one directory

-- an item without an early fault names an anode that has a mark
abbrev pub InRange : Item → Type 0
InRange i = i.early ≡ 0 → (6 ≤ i.anode) × (i.anode < limit)

-- what both walks come to after the items: one fault, or one queue, with marks for the named anodes and the files counted
abbrev ScanMatch : List Item → ℕ → List ℕ → Progress → Scanned → Type 0
ScanMatch is files named (stopped n) (faulty m) = (n ≡ m) × (1 ≤ n)
ScanMatch is files named (stopped n) (fine q l) = ⊥
ScanMatch is files named (going q m f) (faulty n) = ⊥
ScanMatch is files named (going q m f) (fine r l) =
    (q ≡ r) × (length m ≡ limit) × Agree m (λ x. occurrences x l) × ((x : ℕ) → occurrences x l ≡ namings x is + occurrences x named) × (f ≡ files + files_in is)

-- one item more in front
scan_widen : (i : Item) (is : List Item) (files g : ℕ) (named : List ℕ) (p : Progress) (s : Scanned) → g ≡ files + cond i.dir 0 1
    → ScanMatch is g (i.anode ∷ named) p s → ScanMatch (i ∷ is) files named p s
unfolding namings files_in sum_list
scan_widen i is files g named (stopped n) (faulty m) e h = h
scan_widen i is files g named (stopped n) (fine q l) e h = h
scan_widen i is files g named (going q m f) (faulty n) e h = h
scan_widen i is files g named (going q m f) (fine r l) e h =
    (h.0, h.1, h.2, λ x. omega (arith, h.3 x, occurrences-cons x i.anode named), omega arith)

fault_named : (i : Item) (named : List ℕ) → i.early ≡ 0 → 1 ≤ occurrences i.anode named → fault_of i named ≡ 14
unfolding fault_of first_of
fault_named i named e h = rw (e, le-leb 1 (occurrences i.anode named) h)

fault_late : (i : Item) (named : List ℕ) → i.early ≡ 0 → occurrences i.anode named ≡ 0 → fault_of i named ≡ i.late
unfolding fault_of first_of
fault_late i named e h = rw (e, lt-leb 1 (occurrences i.anode named) (omega arith))

-- an item, by its fields
abbrev item_made : ℕ → ℕ → Bool → ℕ → List ℕ → ℕ → Item
item_made early late dir a name start = record { early = early; late = late; dir = dir; anode = a; name = name; start = start }

module _ (d : Dir) where
  item_match : (early late : ℕ) (dir : Bool) (a : ℕ) (name : List ℕ) (start : ℕ) (is : List Item) (queue : List Dir) (marks : List ℕ) (files : ℕ) (named : List ℕ)
      → (early ≡ 0 → (6 ≤ a) × (a < limit)) → length marks ≡ limit → Agree marks (λ x. occurrences x named)
      → ((q : List Dir) (m : List ℕ) (f : ℕ) (l : List ℕ) → length m ≡ limit → Agree m (λ x. occurrences x l) → ScanMatch is f l (enter_all d.head is q m f) (scan d is q l))
      → ScanMatch (item_made early late dir a name start ∷ is) files named
      (enter_all d.head (item_made early late dir a name start ∷ is) queue marks files)
      (scan d (item_made early late dir a name start ∷ is) queue named)
  unfolding enter_all enter_item fault_of first_of sub_dirs
  item_match (suc e) late dir a name start is queue marks files named range whole agree ih = rw (scan_stops d (item_made (suc e) late dir a name start) is queue named e refl) (refl, omega arith)
  item_match zero late dir a name start is queue marks files named range whole agree ih = go (eqb (get_or marks a 0) 0) refl late dir where
    -- the item without an early fault
    made : ℕ → Bool → Item
    made late dir = item_made 0 late dir a name start

    none : eqb (get_or marks a 0) 0 ≡ true → occurrences a named ≡ 0
    none e = (agree a (range refl).0 (range refl).1).0 (eqb-true (get_or marks a 0) 0 e)

    behind : (dir : Bool) (q : List Dir) (f : ℕ) → f ≡ files + cond dir 0 1
        → ScanMatch (made 0 dir ∷ is) files named (enter_all d.head is q (set marks a 1) f) (scan d is q (a ∷ named))
    behind dir q f e =
        scan_widen (made 0 dir) is files f named (enter_all d.head is q (set marks a 1) f) (scan d is q (a ∷ named)) e
        (ih q (set marks a 1) f (a ∷ named) (length-set marks a 1 ∙ whole) (agree_more marks a named whole (range refl).1 agree))

    go : (b : Bool) → eqb (get_or marks a 0) 0 ≡ b → (late : ℕ) (dir : Bool)
        → ScanMatch (made late dir ∷ is) files named (enter_all d.head (made late dir ∷ is) queue marks files) (scan d (made late dir ∷ is) queue named)
    go false e late dir =
        rw (e, scan_stops d (made late dir) is queue named 13 (fault_named (made late dir) named refl ((agree a (range refl).0 (range refl).1).1 (eqb-false (get_or marks a 0) 0 e))))
        (refl, omega arith)
    go true e (suc l) dir = rw (e, scan_stops d (made (suc l) dir) is queue named l (fault_late (made (suc l) dir) named refl (none e))) (refl, omega arith)
    go true e zero false =
        rw (e, scan_next d (made 0 false) is queue named (fault_late (made 0 false) named refl (none e)), append-nil queue)
        (behind false queue (files + 1) refl)
    go true e zero true =
        rw (e, scan_next d (made 0 true) is queue named (fault_late (made 0 true) named refl (none e)))
        (behind true (queue ++ (dir_made a d.head ∷ [])) files (omega arith))

  scan_match : (is : List Item) (queue : List Dir) (marks : List ℕ) (files : ℕ) (named : List ℕ) → Each InRange is → length marks ≡ limit → Agree marks (λ x. occurrences x named)
      → ScanMatch is files named (enter_all d.head is queue marks files) (scan d is queue named)
  unfolding enter_all scan namings files_in sum_list
  scan_match [] queue marks files named range whole agree = (refl, whole, agree, λ x. omega arith, omega arith)
  scan_match (i ∷ is) queue marks files named range whole agree =
      item_match i.early i.late i.dir i.anode i.name i.start is queue marks files named range.0 whole agree
      (λ q m f l. scan_match is q m f l range.1)

-- ---- the whole walk

module _ (items : Dir → List Item) where
  -- one fault in both walks, or the directories that the rules' walk reached, with marks and files for them
  abbrev pub WalkMatch : ℕ → List Dir → List ℕ → Run → Walk → Type 0
  WalkMatch files taken named (halted r) (fault m) = (r ≡ m) × (1 ≤ r)
  WalkMatch files taken named (halted r) (done ds) = ⊥
  WalkMatch files taken named (ended m f all) (fault r) = ⊥
  WalkMatch files taken named (ended m f all) (done ds) =
      Agree m (λ x. namings x (gather items ds) + occurrences x named) × (f ≡ files + files_in (gather items ds)) × (all ≡ taken ++ ds)

  -- one directory more in front
  walk_widen : (d : Dir) (files g : ℕ) (taken : List Dir) (named l : List ℕ) (r : Run) (w : Walk) → g ≡ files + files_in (items d)
      → ((x : ℕ) → occurrences x l ≡ namings x (items d) + occurrences x named) → WalkMatch g (taken ++ (d ∷ [])) l r w → WalkMatch files taken named r (visited d w)
  unfolding visited gather namings files_in
  walk_widen d files g taken named l (halted r) (fault m) e t h = h
  walk_widen d files g taken named l (halted r) (done ds) e t h = h
  walk_widen d files g taken named l (ended m f all) (fault r) e t h = h
  walk_widen d files g taken named l (ended m f all) (done ds) e t h = (
    agree_same m (λ x. namings x (gather items ds) + occurrences x l) (λ x. namings x (items d ++ gather items ds) + occurrences x named)
        (λ x. omega (arith, t x, list_append (λ i. one_at i.anode x) (items d) (gather items ds))) h.0,
    omega (arith, list_append (λ i. cond i.dir 0 1) (items d) (gather items ds)),
    h.2 ∙ append_assoc taken (d ∷ []) ds,
  )

  after_match : (d : Dir) (k files : ℕ) (taken : List Dir) (named : List ℕ) (p : Progress) (s : Scanned) → ScanMatch (items d) files named p s
      → ((q : List Dir) (m : List ℕ) (f : ℕ) (t : List Dir) (l : List ℕ) → length m ≡ limit → Agree m (λ x. occurrences x l) → WalkMatch f t l (run_from items k q m f t) (walk items k q l))
      → WalkMatch files taken named (after_dir p (λ q m f. run_from items k q m f (taken ++ (d ∷ []))))
      (elim s [ faulty r ↦ fault r | fine q l ↦ visited d (walk items k q l) ])
  after_match d k files taken named (stopped r) (faulty m) h ih = h
  after_match d k files taken named (stopped r) (fine q l) h ih = absurd h
  after_match d k files taken named (going q m f) (faulty r) h ih = absurd h
  after_match d k files taken named (going q m f) (fine r l) h ih =
      rw (← h.0) (walk_widen d files f taken named l (run_from items k q m f (taken ++ (d ∷ []))) (walk items k q l) h.4 h.3 (ih q m f (taken ++ (d ∷ [])) l h.1 h.2))

  -- nothing is left in the queue
  walk_none : (marks : List ℕ) (files : ℕ) (taken : List Dir) (named : List ℕ) → Agree marks (λ x. occurrences x named) → WalkMatch files taken named (ended marks files taken) (done [])
  unfolding gather namings files_in sum_list
  walk_none marks files taken named agree =
      (agree_same marks (λ x. occurrences x named) (λ x. 0 + occurrences x named) (λ x. omega arith) agree, omega arith, sym (append-nil taken))

  pub walk_match : ((d : Dir) → Each InRange (items d)) → (k : ℕ) (queue : List Dir) (marks : List ℕ) (files : ℕ) (taken : List Dir) (named : List ℕ)
      → length marks ≡ limit → Agree marks (λ x. occurrences x named) → WalkMatch files taken named (run_from items k queue marks files taken) (walk items k queue named)
  unfolding run_from walk
  walk_match range zero [] marks files taken named whole agree = walk_none marks files taken named agree
  walk_match range zero (d ∷ queue) marks files taken named whole agree = (refl, omega arith)
  walk_match range (suc k) [] marks files taken named whole agree = walk_none marks files taken named agree
  walk_match range (suc k) (d ∷ queue) marks files taken named whole agree =
      after_match d k files taken named (enter_all d.head (items d) queue marks files) (scan d (items d) queue named)
      (scan_match d (items d) queue marks files named (range d) whole agree)
      (λ q m f t l. walk_match range k q m f t l)
