-- An entry of a reached directory is the only one, in all reached directories, that names its chain.
use Rattle.std.specs.Prelude.{ℕ, ◌+◌, ◌≤◌, ◌<◌, ◌≡◌, ◌≢◌, ◌⊎◌, Bool, List, ◌∷◌, ◌++◌}
use Rattle.std.proofs.Math.Path.{refl, ap}
use Rattle.std.proofs.Common.{sym, ◌∙◌}
use Rattle.std.proofs.Math.Logic.{inl, inr}
use native.Mathlib.Omega.{arith}
use Rattle.rules.specs.Counting.{one_at, sum_list, occurrences, gather}
use Rattle.rules.specs.Anodes.{Anodes, limit, anodes_of}
use Rattle.rules.specs.Chains.{chain_of}
use Rattle.rules.specs.Walk.{Dir, Entered, Item, entries_in, item_of, items_at, items_by, reached_dirs}
use Rattle.rules.specs.Lookup.{entries_of}
use Rattle.laws.specs.Sums.{one_at-same}
use Rattle.laws.specs.Bags.{list_cons, list_append, list_congr, gather-sum, map-sum}
use Rattle.laws.specs.Items.{names-sum, named_in}
use Rattle.laws.specs.Entries.{item_anode, items-sum}
use Rattle.laws.specs.Whole.{Whole}
use Rattle.laws.specs.Members.{Member, member-sum, member-occurrences, member_congr, two_members, gather-part}
use Rattle.change_laws.specs.Image.{AcceptedImage, accepted_whole}
use Rattle.change_laws.specs.Reached.{its-items, EntryFacts}

-- how often the entries of a list name x
unfoldable names_of : ℕ → List Entered → ℕ
names_of x l = sum_list (λ e. one_at e.anode x) l

-- where one of them does, they do
some_names : (x : ℕ) (l : List Entered) (e : Entered) → Member e l → e.anode ≡ x → 0 < names_of x l
unfolding names_of
some_names x l e m q = omega (arith, member-sum (λ e. one_at e.anode x) e l m, one_at-same e.anode x q)

-- where they never do, none of them does
none-names : (x : ℕ) (l : List Entered) → names_of x l ≡ 0 → (e : Entered) → Member e l → e.anode ≢ x
none-names x l z e m q = omega (arith, z, some_names x l e m q)

module _ {ex : ℕ → Bool} {n last : ℕ} {s : Anodes} {system hd sd : ℕ → ℕ} {entries : ℕ → List Entered} {marked : Dir → ℕ → Bool} {dirs : List Dir}
    (w : Whole ex n last s system hd sd entries marked dirs) (x : ℕ) where
  abbrev items : Dir → List Item
  items = items_by entries marked s

  -- the anodes of all directories
  abbrev all_anodes : List ℕ
  all_anodes = gather (λ d. chain_of s.next limit d.head) dirs

  abbrev names_at : ℕ → ℕ
  names_at a = names_of x (entries (s.block a))

  at_names : (d : Dir) → Member d dirs → (a : ℕ) → Member a (chain_of s.next limit d.head) → sum_list (λ i. one_at i.anode x) (items_at entries marked s d a) ≡ names_at a
  unfolding names_of
  at_names d m a on =
      ap (sum_list (λ i. one_at i.anode x)) (its-items w d m a on).2 ∙ map-sum (item_of s) (λ i. one_at i.anode x) (entries (s.block a))
      ∙ list_congr (λ e. one_at (item_of s e).anode x) (λ e. one_at e.anode x) (entries (s.block a)) (λ e. ap (λ (y : ℕ). one_at y x) (item_anode s e))

  all-names : sum_list names_at all_anodes ≡ sum_list (named_in items x) dirs
  all-names =
      gather-sum (λ d. chain_of s.next limit d.head) names_at dirs
      ∙ member_congr (λ d. sum_list names_at (chain_of s.next limit d.head)) (named_in items x) dirs (λ d m. sym (names-sum x (items d) ∙ items-sum entries marked s d (λ i. one_at i.anode x)
      ∙ member_congr (λ a. sum_list (λ i. one_at i.anode x) (items_at entries marked s d a)) names_at (chain_of s.next limit d.head) (at_names d m)))

  on_all : (d : Dir) → Member d dirs → (a : ℕ) → Member a (chain_of s.next limit d.head) → 0 < occurrences a all_anodes
  unfolding occurrences
  on_all d m a on = omega (arith, gather-part (λ d. chain_of s.next limit d.head) (λ y. one_at y a) d dirs m, member-occurrences a (chain_of s.next limit d.head) on)

  -- at most one anode has a block that names x, and it does so once
  names_apart : (a b : ℕ) → a ≢ b → 0 < occurrences a all_anodes → 0 < occurrences b all_anodes → names_at a + names_at b ≤ 1
  names_apart a b apart p q = omega (arith, two_members names_at all_anodes a b apart p q, all-names, w.tree.once x)

  names_once : (d : Dir) → Member d dirs → sum_list names_at (chain_of s.next limit d.head) ≤ 1
  names_once d m = omega (arith, gather-part (λ d. chain_of s.next limit d.head) names_at d dirs m, all-names, w.tree.once x)

module _ {img : List ℕ} (image : AcceptedImage img) {h : ℕ} {e : Entered} (f : EntryFacts img h e) where
  abbrev s : Anodes
  s = anodes_of img

  its-chain : Member f.a₀ (chain_of s.next limit f.block_facts.dir.head)
  its-chain = rw f.block_facts.dir_head f.member-chain

  names_it : 0 < names_of e.anode (entries_in img (s.block f.a₀))
  names_it = some_names e.anode (entries_in img (s.block f.a₀)) e f.member refl

  -- no entry in another block of a reached directory names its chain
  pub only_here : (d : Dir) → Member d (reached_dirs img s) → (a : ℕ) → Member a (chain_of s.next limit d.head) → a ≢ f.a₀ →
      (c : Entered) → Member c (entries_in img (s.block a)) → c.anode ≢ e.anode
  only_here d m a on apart =
      let w = accepted_whole image in
      none-names e.anode (entries_in img (s.block a)) (omega (
        arith,
        names_apart w e.anode a f.a₀ apart (on_all w e.anode d m a on) (on_all w e.anode f.block_facts.dir f.block_facts.reached f.a₀ its-chain),
        names_it,
      ))

  -- a list of entries that name it once names it there
  elsewhere : (l before after : List Entered) → names_of e.anode l ≤ 1 → l ≡ before ++ (e ∷ after) → (c : Entered) → Member c before ⊎ Member c after → c.anode ≢ e.anode
  unfolding names_of
  elsewhere l before after once parted c m =
      let x = e.anode in
      let sum : names_of x before + names_of x after ≡ 0 = omega (
        arith,
        rw parted at once,
        list_append (λ c. one_at c.anode x) before (e ∷ after),
        list_cons (λ c. one_at c.anode x) e after,
        one_at-same x x refl,
      ) in
      elim m [ inl q ↦ none-names x before (omega arith) c q | inr q ↦ none-names x after (omega arith) c q ]

  names-home : sum_list (λ a. names_of e.anode (entries_in img (s.block a))) (chain_of s.next limit h) ≤ 1
  names-home = rw f.block_facts.dir_head at (names_once (accepted_whole image) e.anode f.block_facts.dir f.block_facts.reached)

  -- nor another in its own block
  pub only_this : (before after : List Entered) → entries_in img (s.block f.a₀) ≡ before ++ (e ∷ after) → (c : Entered) → Member c before ⊎ Member c after → c.anode ≢ e.anode
  only_this before after = elsewhere (entries_in img (s.block f.a₀)) before after
      (omega (arith, names-home, member-sum (λ a. names_of e.anode (entries_in img (s.block a))) f.a₀ (chain_of s.next limit h) f.member-chain))

  -- nor another in its own directory
  pub only_home : (before after : List Entered) → entries_of img s h ≡ before ++ (e ∷ after) → (c : Entered) → Member c before ⊎ Member c after → c.anode ≢ e.anode
  unfolding names_of entries_of
  only_home before after = elsewhere (entries_of img s h) before after
      (omega (arith, names-home, gather-sum (λ a. entries_in img (s.block a)) (λ c. one_at c.anode e.anode) (chain_of s.next limit h)))
