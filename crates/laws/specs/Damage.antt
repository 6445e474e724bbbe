-- Which numbers the check answers: the walk's faults are 12 to 17, and damage found in anodes and directories is 6 to 17.
use Rattle.std.specs.Prelude.{ℕ, zero, suc, ◌≤◌, ◌≡◌, refl, ◌⊎◌, Bool, true, false, cond, ◌&&◌, List, [], ◌∷◌, ◌++◌, eqb, leb}
use Rattle.std.proofs.Common.{inl, inr, arith}
use Rattle.rules.specs.Counting.{◌if◌else◌, first_of, occurrences, any_below, any_in, same_bytes}
use Rattle.rules.specs.Anodes.{Anodes, limit}
use Rattle.rules.specs.Chains.{chain_of, one_if_head, block_count}
use Rattle.rules.specs.Walk.{Dir, Entered, Item, Scanned, faulty, fine, Walk, fault, done, walk, walk_of, visited, fault_in, scan, fault_of, sub_dirs, item_of, items_at, items_by, as_twin, twins, items_of, wrong_anode, wrong_file_size, blocks_for, entries_in, is_block_of, root}
use Rattle.rules.specs.Accepted.{disk_size, last_reserved, wrong_fixed, out_of_range, wrong_links, wrong_free_list, two_owners, no_owner, unnamed_chain, tree_fault, damage_in}
use Rattle.laws.specs.Each.{Each, each_gather}
use Rattle.laws.specs.Items.{each_item}

-- 0, or one of the numbers from a up to b
abbrev pub NoneOr : ℕ → ℕ → ℕ → Type 0
NoneOr a b n = (n ≡ 0) ⊎ ((a ≤ n) × (n ≤ b))

either_number : (t : Bool) (a b x y : ℕ) → NoneOr a b x → NoneOr a b y → NoneOr a b (cond t x y)
either_number true a b x y p q = p
either_number false a b x y p q = q

first_number : (a b x y : ℕ) → NoneOr a b x → NoneOr a b y → NoneOr a b (first_of x y)
unfolding first_of
first_number a b zero y p q = q
first_number a b (suc x) y p q = p

pub if_number : (n : ℕ) (t : Bool) (a b rest : ℕ) → a ≤ n → n ≤ b → NoneOr a b rest → NoneOr a b (n if t else rest)
if_number n true a b rest l m q = inr (l, m)
if_number n false a b rest l m q = q

-- what the walk may say of an item
abbrev Told : Item → Type 0
Told i = NoneOr 12 17 i.early × NoneOr 12 17 i.late

told_entry : (s : Anodes) (e : Entered) → Told (item_of s e)
unfolding item_of wrong_anode wrong_file_size
told_entry s e = (
  either_number e.broken 12 17 12 _ (inr (omega arith, omega arith)) (either_number (leb 6 e.anode && eqb (one_if_head limit s.next s.block e.anode) 1) 12 17 0 13 (inl refl) (inr (omega arith, omega arith))),
  either_number e.dir 12 17 0 _ (inl refl) (either_number (eqb (block_count s e.anode) (blocks_for e.size)) 12 17 0 15 (inl refl) (inr (omega arith, omega arith))),
)

-- 17 for a twin
told_twin : (i : Item) (t : Bool) → Told i → Told (cond t (as_twin i) i)
unfolding as_twin
told_twin i true p = (either_number (eqb i.early 12) 12 17 12 17 (inr (omega arith, omega arith)) (inr (omega arith, omega arith)), p.1)
told_twin i false p = p

told_twins : (seen : List (List ℕ)) (is : List Item) → Each Told is → Each Told (twins seen is)
unfolding twins
told_twins seen [] p = tt
told_twins seen (i ∷ is) p = (told_twin i (any_in (same_bytes i.name) seen) p.0, told_twins (i.name ∷ seen) is p.1)

told_items : (img : List ℕ) (s : Anodes) (d : Dir) → Each Told (items_of img s d)
unfolding items_of items_by
told_items img s d =
    told_twins [] (items_by (entries_in img) (is_block_of img) s d)
    (each_gather Told (items_at (entries_in img) (is_block_of img) s d)
    (each_item Told (item_of s) (told_entry s) (inr (omega arith, omega arith), inl refl) (entries_in img) (is_block_of img) s d) (chain_of s.next limit d.head))

fault_told : (i : Item) (named : List ℕ) → Told i → NoneOr 12 17 (fault_of i named)
unfolding fault_of
fault_told i named p = first_number 12 17 i.early _ p.0 (if_number 14 (leb 1 (occurrences i.anode named)) 12 17 i.late (omega arith) (omega arith) p.1)

-- a fault that a scan answers, and one that a walk answers
abbrev Faulty : Scanned → Type 0
Faulty (faulty n) = (12 ≤ n) × (n ≤ 17)
Faulty (fine q l) = Unit {0}

abbrev pub Faulted : Walk → Type 0
Faulted (fault n) = (12 ≤ n) × (n ≤ 17)
Faulted (done ds) = Unit {0}

scan_told : (d : Dir) (is : List Item) (q : List Dir) (named : List ℕ) → Each Told is → Faulty (scan d is q named)
unfolding scan
scan_told d [] q named p = tt
scan_told d (i ∷ is) q named p = go (fault_of i named) (fault_told i named p.0) (scan_told d is (q ++ sub_dirs d i) (i.anode ∷ named) p.1)
  where
    go : (n : ℕ) → NoneOr 12 17 n → Faulty (scan d is (q ++ sub_dirs d i) (i.anode ∷ named)) → Faulty (elim n [ zero ↦ scan d is (q ++ sub_dirs d i) (i.anode ∷ named) | suc m ↦ faulty (suc m) ])
    go zero r rest = rest
    go (suc m) (inl z) rest = absurd (omega arith)
    go (suc m) (inr r) rest = r

visited_told : (d : Dir) (w : Walk) → Faulted w → Faulted (visited d w)
unfolding visited
visited_told d (fault n) p = p
visited_told d (done ds) p = tt

walk_told : (items : Dir → List Item) → ((d : Dir) → Each Told (items d)) → (k : ℕ) (q : List Dir) (named : List ℕ) → Faulted (walk items k q named)
unfolding walk
walk_told items p zero [] named = tt
walk_told items p zero (d ∷ q) named = (omega arith, omega arith)
walk_told items p (suc k) [] named = tt
walk_told items p (suc k) (d ∷ q) named = go (scan d (items d) q named) (scan_told d (items d) q named (p d)) (walk_told items p k)
  where
    go : (c : Scanned) → Faulty c → ((q : List Dir) (l : List ℕ) → Faulted (walk items k q l)) → Faulted (elim c [ faulty n ↦ fault n | fine q l ↦ visited d (walk items k q l) ])
    go (faulty n) r rest = r
    go (fine q l) r rest = visited_told d (walk items k q l) (rest q l)

-- the walk is done, or has a fault from 12 to 17
pub walk_faulted : (img : List ℕ) (s : Anodes) → Faulted (walk_of img s)
unfolding walk_of
walk_faulted img s = walk_told (items_of img s) (told_items img s) limit (root ∷ []) []

-- so it answers 0, or one of these
pub walk_range : (img : List ℕ) (s : Anodes) → NoneOr 12 17 (fault_in (walk_of img s))
walk_range img s = go (walk_of img s) (walk_faulted img s)
  where
    go : (w : Walk) → Faulted w → NoneOr 12 17 (fault_in w)
    go (fault n) p = inr p
    go (done ds) p = inl refl

-- a range within a wider one
pub wider : (a b c d n : ℕ) → c ≤ a → b ≤ d → NoneOr a b n → NoneOr c d n
wider a b c d n l m (inl z) = inl z
wider a b c d n l m (inr r) = inr (omega arith, omega arith)

-- what the check finds in anodes and directories is 0, or a number from 6 to 17
pub damage_range : (img : List ℕ) (s : Anodes) → NoneOr 6 17 (damage_in img s)
unfolding damage_in tree_fault
damage_range img s =
    if_number 6 (wrong_fixed s) 6 17 _ (omega arith) (omega arith)
    (if_number 7 (any_below (out_of_range s (disk_size img)) limit) 6 17 _ (omega arith) (omega arith)
    (if_number 8 (wrong_links s) 6 17 _ (omega arith) (omega arith)
    (if_number 9 (wrong_free_list s (last_reserved img)) 6 17 _ (omega arith) (omega arith)
    (if_number 10 (two_owners img s) 6 17 _ (omega arith) (omega arith)
    (if_number 11 (no_owner img s) 6 17 _ (omega arith) (omega arith)
    (first_number 6 17 (fault_in (walk_of img s)) _ (wider 12 17 6 17 (fault_in (walk_of img s)) (omega arith) (omega arith) (walk_range img s))
    (if_number 16 (any_below (unnamed_chain img s) limit) 6 17 0 (omega arith) (omega arith) (inl refl))))))))
