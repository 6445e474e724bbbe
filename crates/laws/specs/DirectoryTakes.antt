-- A reached directory takes a block with no entries into an anode of its own.
use Rattle.std.specs.Prelude.{ℕ, ◌<◌, ◌≡◌, refl, ◌≢◌, Bool, true, List, [], ◌∷◌, map, T}
use Rattle.std.proofs.Common.{sym, ap, ◌∙◌, map-id, arith}
use Rattle.rules.specs.Counting.{sum_list, occurrences}
use Rattle.rules.specs.Anodes.{limit, Anodes, exists_by}
use Rattle.rules.specs.Chains.{chain_of}
use Rattle.rules.specs.Walk.{Dir, Entered, Item, item_of, items_at, items_by}
use Rattle.rules.specs.Plans.{Slotted, slotted}
use Rattle.laws.specs.Bags.{list_nil, list_append, list_one, list_zero, kept-sum_where}
use Rattle.laws.specs.Heads.{Head}
use Rattle.laws.specs.Moves.{with_these, Moved}
use Rattle.laws.specs.Take.{Takes, takes_moved}
use Rattle.laws.specs.OwnBlock.{Appended, own_appended}
use Rattle.laws.specs.Each.{Each, each_both, each_pair, member_each, each_zero}
use Rattle.laws.specs.Items.{wrong, weigh_named, faults, headed}
use Rattle.laws.specs.TreeChanges.{headed-member, AlikeItems}
use Rattle.laws.specs.Totals.{named_by_files}
use Rattle.laws.specs.Entries.{broken_wrong, items-sum, items_at_whole, anodes_fine, at_alike}
use Rattle.laws.specs.Whole.{DirHead, tree_heads}
use Rattle.laws.specs.Orphan.{Orphaned, amiss, still_fine, none-amiss, orphan_shift, dir_no_file}

-- one of the directories has the head h, and what holds of each
pub find_headed : (P : Dir → Type 0) (h : ℕ) (l : List Dir) → Each P l → 0 < headed h l → (d : Dir) × (d.head ≡ h) × P d
find_headed P h l e p = let (d, m, q) = headed-member h l p in (d, q, member_each P d l m e)

module _ {ex : ℕ → Bool} {n last f : ℕ} {old : Dir → List Item} {s : Anodes} {system hd sd : ℕ → ℕ} {entries : ℕ → List Entered} {marked : Dir → ℕ → Bool} {dirs : List Dir}
    (o : Orphaned ex n last f old s system hd sd entries marked dirs) (h : ℕ) (reached : headed h dirs ≡ 1) where
  abbrev items : Dir → List Item
  items = items_by entries marked s

  no_file : named_by_files items h dirs ≡ 0
  no_file = dir_no_file o h reached

  the_dir : (d : Dir) × (d.head ≡ h) × (DirHead s d × (faults items d ≡ 0))
  the_dir = find_headed (λ d. DirHead s d × (faults items d ≡ 0)) h dirs
      (each_pair (DirHead s) (λ d. faults items d ≡ 0) dirs (tree_heads o.good entries marked o.tree) (each_zero (faults items) dirs o.tree.faultless)) (omega (arith, reached))

  pub dir_head : Head s.next s.block h
  dir_head = rw the_dir.1 at the_dir.2.0.0

  pub dir_not-1 : h ≢ 1
  dir_not-1 = rw the_dir.1 at the_dir.2.0.1

  -- every anode of it has one block
  dir_ones : (a : ℕ) → 0 < occurrences a (chain_of s.next limit h) → s.count a ≡ 1
  dir_ones a p = (anodes_fine entries marked s the_dir.0 the_dir.2.1 a (rw the_dir.1 p)).0

  module _ {slots : ℕ → ℕ} {u : Slotted} {ys : List ℕ} (k : Takes limit n last (slotted s slots) system hd true h u ys) where
    abbrev t : Anodes
    t = u.anodes

    pub dir_taken : (y : ℕ) × (ys ≡ y ∷ []) × Appended limit s u.anodes h y
    dir_taken = own_appended o.good h dir_head dir_not-1 k dir_ones

    abbrev w : Moved limit n last (slotted s slots) system hd 1 h h ys k.gs u
    w = takes_moved h dir_head dir_not-1 k

    module _ (none : (y : ℕ) → ys ≡ y ∷ [] → entries y ≡ []) (its : (y : ℕ) → ys ≡ y ∷ [] → Each (λ d. d.head ≡ h → T (marked d y)) dirs) where
      abbrev items' : Dir → List Item
      items' = items_by entries marked t

      -- the new anode gives no item
      new_none : (d : Dir) → T (marked d dir_taken.0) → (u : Item → ℕ) → sum_list u (items_at entries marked t d dir_taken.2.anode) ≡ 0
      new_none d m u =
          let a = dir_taken.2 in
          ap (sum_list u) (items_at_whole entries marked t d a.anode a.one (rw a.at m) ∙ ap (map (item_of t)) (ap entries a.at ∙ none dir_taken.0 dir_taken.1)) ∙ list_nil u

      -- the others give what they gave
      longer : (d : Dir) → d.head ≡ h → T (marked d dir_taken.0) → (u v : Item → ℕ) →
          ((a : ℕ) → 0 < occurrences a (chain_of s.next limit h) → sum_list (amiss h) (items_at entries marked s d a) ≡ 0 → sum_list u (items_at entries marked t d a) ≡ sum_list v (items_at entries marked s d a)) →
          sum_list (amiss h) (items d) ≡ 0 → sum_list u (items' d) ≡ sum_list v (items d)
      longer d q m u v each z =
          let l = chain_of s.next limit h in
          let U : ℕ → ℕ = λ a. sum_list u (items_at entries marked t d a) in
          let along : (x : Anodes) (k : Item → ℕ) → sum_list k (items_by entries marked x d) ≡ sum_list (λ a. sum_list k (items_at entries marked x d a)) (chain_of x.next limit h) =
          λ x k. items-sum entries marked x d k ∙ ap (λ (i : ℕ). sum_list (λ a. sum_list k (items_at entries marked x d a)) (chain_of x.next limit i)) q in
          along t u ∙ ap (sum_list U) dir_taken.2.chain ∙ list_append U l (dir_taken.2.anode ∷ [])
          ∙ omega (
            arith,
            list_one U dir_taken.2.anode,
            new_none d m u,
            kept-sum_where (λ a. sum_list (amiss h) (items_at entries marked s d a)) (λ a. sum_list v (items_at entries marked s d a)) U l (sym (along s (amiss h)) ∙ z) each,
            along s v,
          )

      alike : (d : Dir) → T (marked d dir_taken.0) × (sum_list (amiss h) (items d) ≡ 0) → d.head ≡ h → AlikeItems items items' d
      alike d p q = (
        λ k. longer d q p.0 (weigh_named k) (weigh_named k) (λ a on z. (at_a a on z).0 k) p.1,
        longer d q p.0 wrong (λ j. 0) (λ a on z. (at_a a on z).1 ∙ sym (list_zero {X = Item} (λ j. 0) (items_at entries marked s d a) (λ j. refl))) p.1 ∙ list_zero {X = Item} (λ j. 0) (items d) (λ j. refl),
      )
        where
          at_a : (a : ℕ) → 0 < occurrences a (chain_of s.next limit h) → sum_list (amiss h) (items_at entries marked s d a) ≡ 0 →
              ((k : Bool → ℕ → List ℕ → ℕ) → sum_list (weigh_named k) (items_at entries marked t d a) ≡ sum_list (weigh_named k) (items_at entries marked s d a))
              × (sum_list wrong (items_at entries marked t d a) ≡ 0)
          at_a a on z = let c = dir_taken.2.kept a on in
              at_alike s t (λ j. j) (amiss h) (λ y. omega (arith, y, broken_wrong)) (λ j y. (refl, refl, refl, still_fine o h no_file w.good w.shift j y)) entries entries marked marked d a
              c.0 c.1 (λ i. (sym (map-id (entries (s.block a))), refl)) z

      -- the state stays accepted but for the chain that nothing names
      pub directory_takes : Orphaned (exists_by u.slots) n last f old u.anodes (with_these system k.gs) (takes_moved h dir_head dir_not-1 k).hd' (takes_moved h dir_head dir_not-1 k).sd' entries marked dirs
      directory_takes = orphan_shift o h no_file w.good w.shift
          (each_both (λ d. d.head ≡ h → T (marked d dir_taken.0)) (λ d. sum_list (amiss h) (items d) ≡ 0) (λ d. d.head ≡ h → AlikeItems items items' d) dirs
          (λ d a b q. alike d (a q, b) q) (its dir_taken.0 dir_taken.1) (none-amiss o h no_file w.good w.shift))
