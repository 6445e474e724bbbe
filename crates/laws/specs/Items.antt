-- What the items of a directory name, and how much is wrong with them.
use Rattle.std.specs.Prelude.{ℕ, ◌+◌, ◌≤◌, ◌≡◌, Bool, true, false, cond, ◌&&◌, List, [], ◌∷◌, map, eqb}
use Rattle.std.proofs.Common.{◌∙◌, arith}
use Rattle.rules.specs.Counting.{one_at, sum_list, occurrences, gather}
use Rattle.rules.specs.Anodes.{Anodes}
use Rattle.rules.specs.Walk.{Dir, dir_made, Entered, Item, broken_item, items_for, sub_dirs}
use Rattle.laws.specs.Bags.{list_nil, list_one, list_mono, list_congr, gather-sum, map-sum}
use Rattle.laws.specs.Each.{Each, each_given}

-- what holds of the item of each entry, and of a broken one, holds of all that an anode gives
pub each_item : (P : Item → Type 0) (item : Entered → Item) → ((e : Entered) → P (item e)) → P broken_item → (entries : ℕ → List Entered) (marked : Dir → ℕ → Bool) (s : Anodes) (d : Dir) (a : ℕ) →
    Each P (items_for item entries marked s d a)
unfolding items_for
each_item P item h b entries marked s d a = go (eqb (s.count a) 1 && marked d (s.block a)) where
  go : (t : Bool) → Each P (cond t (map item (entries (s.block a))) (broken_item ∷ []))
  go true = each_given P item h (entries (s.block a))
  go false = (b, tt)

-- the numbers of the faults of an item: what is tried before 14, and after it
unfoldable pub wrong : Item → ℕ
wrong i = i.early + i.late

-- a weight of an item, its place aside: what is wrong, whether it names a directory, the anode and the name
abbrev pub weigh_item : (ℕ → Bool → ℕ → List ℕ → ℕ) → Item → ℕ
weigh_item w i = w (wrong i) i.dir i.anode i.name

-- a weight of what an item names, its faults aside too
abbrev pub weigh_named : (Bool → ℕ → List ℕ → ℕ) → Item → ℕ
weigh_named w i = w i.dir i.anode i.name

abbrev pub names : List Item → List ℕ
names is = map (λ i. i.anode) is

pub names-sum : (x : ℕ) (is : List Item) → occurrences x (names is) ≡ sum_list (λ i. one_at i.anode x) is
unfolding occurrences
names-sum x is = map-sum (λ i. i.anode) (λ y. one_at y x) is

-- the weight of the directory that an item names, in the directory with head h
abbrev pub giving : (Dir → ℕ) → ℕ → Item → ℕ
giving w h i = cond i.dir (w (dir_made i.anode h)) 0

pub giving-le : (w : Dir → ℕ) (h : ℕ) (i : Item) → giving w h i ≤ w (dir_made i.anode h)
giving-le w h i = go i.dir
  where
    go : (b : Bool) → cond b (w (dir_made i.anode h)) 0 ≤ w (dir_made i.anode h)
    go true = omega arith
    go false = omega arith

-- how many directories have the head h
abbrev pub headed : ℕ → List Dir → ℕ
headed h l = sum_list (λ d. one_at d.head h) l

-- the directories that items name, one by one
dirs-sum : (w : Dir → ℕ) (d : Dir) (is : List Item) → sum_list w (gather (sub_dirs d) is) ≡ sum_list (giving w d.head) is
unfolding sub_dirs
dirs-sum w d is = gather-sum (sub_dirs d) w is ∙ list_congr (λ i. sum_list w (sub_dirs d i)) (giving w d.head) is (λ i. one i.dir (dir_made i.anode d.head))
  where
    one : (b : Bool) (e : Dir) → sum_list w (cond b (e ∷ []) []) ≡ cond b (w e) 0
    one true e = list_one w e
    one false e = list_nil w

-- a weight that is at most one of the head is at most that of the names
dirs-named : (w : Dir → ℕ) (u : ℕ → ℕ) → ((e : Dir) → w e ≤ u e.head) → (d : Dir) (is : List Item) → sum_list w (gather (sub_dirs d) is) ≤ sum_list u (names is)
dirs-named w u le d is = omega (
  arith,
  dirs-sum w d is,
  map-sum (λ i. i.anode) u is,
  list_mono (giving w d.head) (λ i. u i.anode) is (λ i. omega (arith, giving-le w d.head i, le (dir_made i.anode d.head))),
)

module _ (items : Dir → List Item) where
  -- the directories that d names
  unfoldable pub subs : Dir → List Dir
  subs d = gather (sub_dirs d) (items d)

  -- a weight of the directories that d names, how often d names x, and what is wrong with its items
  abbrev pub below : (Dir → ℕ) → Dir → ℕ
  below w d = sum_list w (subs d)

  abbrev pub named_in : ℕ → Dir → ℕ
  named_in x d = occurrences x (names (items d))

  abbrev pub faults : Dir → ℕ
  faults d = sum_list wrong (items d)

  pub below-items : (w : Dir → ℕ) (d : Dir) → below w d ≡ sum_list (giving w d.head) (items d)
  unfolding subs
  below-items w d = dirs-sum w d (items d)

  -- each is named by its head
  pub subs-named : (x : ℕ) (d : Dir) → headed x (subs d) ≤ named_in x d
  unfolding subs occurrences
  subs-named x d = dirs-named (λ e. one_at e.head x) (λ y. one_at y x) (λ e. omega arith) d (items d)

  pub subs_few : (d : Dir) → sum_list (λ e. 1) (subs d) ≤ sum_list (λ x. 1) (names (items d))
  unfolding subs
  subs_few d = dirs-named (λ e. 1) (λ x. 1) (λ e. omega arith) d (items d)
