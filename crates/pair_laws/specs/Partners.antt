-- The partner of each directory, as the pairs give it when the walk takes the directory, is the one at its path.
use Rattle.std.specs.Prelude.{ℕ, ◌≡◌, ◌⊎◌, Bool, cond, length, get_or, set, replicate}
use Rattle.std.proofs.Math.Path.{refl, sym, ap, subst}
use Rattle.std.proofs.Common.{◌∙◌, arith}
use Rattle.std.proofs.Math.Logic.{inl, inr}
use Rattle.std.proofs.Math.Bool.{true, false}
use mathlib.Core.List.{List, [], ◌∷◌, ◌++◌, map}
use Rattle.std.proofs.Math.Option.{Option, none, some}
use Rattle.std.proofs.Math.ListN.{length-set}
use Rattle.std.proofs.lemmas.List.{length-replicate}
use Rattle.std.proofs.Math.Seq.{get_or-set_same, get_or-set_other}
use Rattle.rules.specs.Anodes.{limit, anodes_of}
use Rattle.rules.specs.Chains.{chain_of}
use Rattle.rules.specs.Walk.{Dir, dir_made, root, Entered, Item, entries_in, is_block_of, item_of, items_at, items_by, sub_dirs, reached_dirs}
use Rattle.rules.specs.Lookup.{entries_of}
use Rattle.laws.specs.Tests.{same?}
use Rattle.laws.specs.Items.{subs}
use Rattle.laws.specs.Walks.{Order, walk-found}
use Rattle.laws.specs.Entries.{item_dir, item_anode}
use Rattle.laws.specs.Members.{Member, no_member, member-first, member-later, member-cons, member-append, member-gather}
use Rattle.change_laws.specs.Image.{AcceptedImage, accepted_plain, accepted_whole, ReachedDir}
use Rattle.change_laws.specs.Reached.{EntryIn, entry-facts, its-items, member-reached, not-file}
use Rattle.paths.specs.Paths.{entry_at}
use Rattle.paths.specs.Reached.{root-reached, sub-reached}
use Rattle.differences.specs.Listed.{directory_path, entry_path}
use Rattle.differences.specs.Pairs.{counterpart, partner_of, Pairs, paired, paired_all, partner_in, pairs_along, first_pairs}
use Rattle.difference_laws.specs.Complete.{member_gathered, root-path}
use Rattle.pair_laws.specs.Followed.{directory_of, comes_to, name_behind, directory_behind, comes_reached}
use Rattle.pair_laws.specs.ChildPaths.{child-path}

-- an element of a list that was mapped comes from one of the list
pub member_mapped {ℓ κ} : {X : Type ℓ} {Y : Type κ} (f : X → Y) (l : List X) (y : Y) → Member y (map f l) → (x : X) × Member x l × (y ≡ f x)
member_mapped f [] y m = absurd (no_member y m)
member_mapped f (x ∷ l) y m = elim (member-cons y (f x) (map f l) m) [
  | inl e ↦ (x, member-first x l, e)
  | inr n ↦ (let r = member_mapped f l y n in (r.0, member-later r.0 x l r.1, r.2))
]

-- ---- the walk's queue

module _ {img : List ℕ} (image : AcceptedImage img) where
  -- what the walk is given of a directory
  abbrev pub given : Dir → List Item
  given = items_by (entries_in img) (is_block_of img) (anodes_of img)

  -- the order in which the walk takes the directories
  pub walk_order : Order given (root ∷ []) (reached_dirs img (anodes_of img))
  walk_order = (walk-found given limit (root ∷ []) [] (reached_dirs img (anodes_of img)) (accepted_plain image)).order

  -- an entry of the directory h names the directory c
  record NamedBy (h : ℕ) (c : Dir) : Type 0 where
    entry : Entered
    entry_in : EntryIn img h entry
    is_dir_lem : entry.dir ≡ true
    its_head : c.head ≡ entry.anode

  module _ (d : Dir) (in_tree : Member d (reached_dirs img (anodes_of img))) where
    -- an item of a directory is made of one of its entries
    item_entry : (i : Item) → Member i (given d) → (e : Entered) × Member e (entries_of img (anodes_of img) d.head) × (i ≡ item_of (anodes_of img) e)
    unfolding items_by entries_of
    item_entry i m =
        let s = anodes_of img in
        let (b, on, in_b) = member-gather (items_at (entries_in img) (is_block_of img) s d) (chain_of s.next limit d.head) i m in
        let (e, in_block, is) = member_mapped (item_of s) (entries_in img (s.block b)) i (rw (its-items (accepted_whole image) d in_tree b on).2 at in_b) in
        (e, member_gathered (λ a. entries_in img (s.block a)) b e in_block (chain_of s.next limit d.head) on, is)

    -- an item names one directory at most
    one-named : (i : Item) (b : Bool) → i.dir ≡ b → (c : Dir) → Member c (cond b (dir_made i.anode d.head ∷ []) []) → (i.dir ≡ true) × (c.head ≡ i.anode)
    one-named i false e c m = absurd (no_member c m)
    one-named i true e c m = elim (member-cons c (dir_made i.anode d.head) [] m) [ inl q ↦ (e, ap (λ (x : Dir). x.head) q) | inr n ↦ absurd (no_member c n) ]

    -- so a directory that is put into the queue is one that an entry names
    sub-named : (c : Dir) → Member c (subs given d) → NamedBy d.head c
    unfolding subs sub_dirs
    sub-named c m =
        let s = anodes_of img in
        let (i, mi, mc) = member-gather (sub_dirs d) (given d) c m in
        let n = one-named i i.dir refl c mc in
        let (e, me, is) = item_entry i mi in
        record {
          entry = e;
          entry_in = record { directory = member-reached image d in_tree; member = me };
          is_dir_lem = sym (item_dir s e) ∙ ap (λ (x : Item). x.dir) (sym is) ∙ n.0;
          its_head = n.1 ∙ ap (λ (x : Item). x.anode) is ∙ item_anode s e;
        }

-- ---- the table of partners

-- the partner of the directory h of the first, by its path: the directory of the second that the path comes to
unfoldable pub partner_at : List ℕ → List ℕ → ℕ → ℕ
partner_at img j h = comes_to j (anodes_of j) 5 (directory_path img (anodes_of img) limit h)

module _ {img : List ℕ} (image : AcceptedImage img) (j : List ℕ) where
  -- the two roots are partners
  root_partner : partner_at img j 5 ≡ 5
  unfolding partner_at comes_to
  root_partner = rw (root-path image limit)

  -- the table says so of the directory x
  abbrev Paired : Pairs → ℕ → Type 0
  Paired t x = get_or t.partners x 0 ≡ partner_at img j x

  -- the table has a place for every anode
  abbrev Long : Pairs → Type 0
  Long t = length t.partners ≡ limit

  -- the counterpart of an entry is what its path names
  pub counterpart-at : (h : ℕ) (e : Entered) → counterpart j (partner_at img j h) e.name ≡ entry_at j (entry_path img (anodes_of img) h e)
  unfolding counterpart partner_at entry_path
  counterpart-at h e = sym (name_behind j (anodes_of j) (directory_path img (anodes_of img) limit h) 5 e.name)

  -- of an entry that names a directory
  partner_both : (e : Entered) → e.dir ≡ true → (o : Option Entered) → partner_of e o ≡ directory_of o
  unfolding partner_of
  partner_both e dir none = refl
  partner_both e dir (some f) = rw dir

  module _ {h : ℕ} {e : Entered} (m : EntryIn img h e) where
    -- the partner of the directory that an entry names
    child_partner : e.dir ≡ true → partner_of e (counterpart j (partner_at img j h) e.name) ≡ partner_at img j e.anode
    unfolding counterpart partner_at
    child_partner dir =
        partner_both e dir (counterpart j (partner_at img j h) e.name)
        ∙ sym (directory_behind j (anodes_of j) (directory_path img (anodes_of img) limit h) 5 e.name)
        ∙ ap (comes_to j (anodes_of j) 5) (sym (child-path m dir))

    module _ (t : Pairs) (long : Long t) where
      one_long : Long (paired j (partner_at img j h) t e)
      unfolding paired
      one_long = simp length-set long

      -- an entry that names a directory writes its partner
      one-made : e.dir ≡ true → Paired (paired j (partner_at img j h) t e) e.anode
      unfolding paired
      one-made dir = get_or-set_same t.partners e.anode _ 0 (rw long (entry-facts m).below) ∙ child_partner dir

      -- and none writes another
      one_kept : (x : ℕ) → ReachedDir img x → Paired t x → Paired (paired j (partner_at img j h) t e) x
      unfolding paired
      one_kept x r p = elim (same? e.anode x) [
        | inl q ↦ subst (Paired (paired j (partner_at img j h) t e)) q (one-made (is_directory e.dir refl (sym q)))
        | inr q ↦ get_or-set_other t.partners e.anode x _ 0 (λ i. q (sym i)) ∙ p
      ]
        where
          is_directory : (b : Bool) → e.dir ≡ b → x ≡ e.anode → e.dir ≡ true
          is_directory true i q = i
          is_directory false i q = absurd (not-file r (entry-facts m) i q)

  -- the entries of one directory
  module _ (h : ℕ) where
    -- the pairs behind some of them
    abbrev after : Pairs → List Entered → Pairs
    after = paired_all j (partner_at img j h)

    -- these are entries of it
    abbrev InIt : List Entered → Type 0
    InIt es = (e : Entered) → Member e es → EntryIn img h e

    all_long : (es : List Entered) → InIt es → (t : Pairs) → Long t → Long (after t es)
    unfolding paired_all
    all_long [] in_it t long = long
    all_long (e ∷ es) in_it t long = all_long es (λ c m. in_it c (member-later c e es m)) (paired j (partner_at img j h) t e) (one_long (in_it e (member-first e es)) t long)

    -- the partners that the table has stay
    all-kept : (es : List Entered) → InIt es → (t : Pairs) → Long t → (x : ℕ) → ReachedDir img x → Paired t x → Paired (after t es) x
    unfolding paired_all
    all-kept [] in_it t long x r p = p
    all-kept (e ∷ es) in_it t long x r p =
        let here = in_it e (member-first e es) in
        all-kept es (λ c m. in_it c (member-later c e es m)) (paired j (partner_at img j h) t e) (one_long here t long) x r (one_kept here t long x r p)

    -- and each entry that names a directory adds one
    all_made : (es : List Entered) → InIt es → (t : Pairs) → Long t → (e : Entered) → Member e es → e.dir ≡ true → Paired (after t es) e.anode
    unfolding paired_all
    all_made [] in_it t long e m dir = absurd (no_member e m)
    all_made (c ∷ es) in_it t long e m dir =
        let here = in_it c (member-first c es) in
        let later : InIt es = λ x n. in_it x (member-later x c es n) in
        elim (member-cons e c es m) [
          | inl q ↦ rw q (all-kept es later (paired j (partner_at img j h) t c) (one_long here t long) c.anode
              (sub-reached here (ap (λ (x : Entered). x.dir) (sym q) ∙ dir)) (one-made here t long (ap (λ (x : Entered). x.dir) (sym q) ∙ dir)))
          | inr q ↦ all_made es later (paired j (partner_at img j h) t c) (one_long here t long) e q dir
        ]

  -- ---- along the queue

  -- the table has the partner of every directory in the queue
  pub record Right (queue : List Dir) (t : Pairs) : Type 0 where
    pub long : length t.partners ≡ limit
    pub reached : (c : Dir) → Member c queue → ReachedDir img c.head
    pub right : (c : Dir) → Member c queue → get_or t.partners c.head 0 ≡ partner_at img j c.head

  -- so it is at the start
  pub right_first : Right (root ∷ []) first_pairs
  right_first = record {
    long = simp (length-set, length-replicate);
    reached = λ c m. elim (member-cons c root [] m) [ inl q ↦ rw q (root-reached image) | inr n ↦ absurd (no_member c n) ];
    right = λ c m. elim (member-cons c root [] m) [ inl q ↦ rw q (at-root ∙ sym root_partner) | inr n ↦ absurd (no_member c n) ];
  }
    where
      at-root : get_or {A = ℕ} (set (replicate limit 0) 5 5) 5 0 ≡ 5
      at-root = get_or-set_same {A = ℕ} (replicate limit 0) 5 5 0 (rw (length-replicate {A = ℕ} limit 0) (omega arith))

  -- and behind each directory that is taken
  pub right_next : (d : Dir) (queue : List Dir) (t : Pairs) → Member d (reached_dirs img (anodes_of img)) → Right (d ∷ queue) t →
      Right (queue ++ subs (given image) d) (paired_all j (partner_at img j d.head) t (entries_of img (anodes_of img) d.head))
  right_next d queue t in_tree r = record {
    long = all_long d.head es in_it t r.long;
    reached = λ c m. elim (member-append c queue (subs (given image) d) m) [
      | inl q ↦ r.reached c (member-later c d queue q)
      | inr q ↦ (let n = sub-named image d in_tree c q in rw n.its_head (sub-reached n.entry_in n.is_dir_lem))
    ];
    right = λ c m. elim (member-append c queue (subs (given image) d) m) [
      | inl q ↦ all-kept d.head es in_it t r.long c.head (r.reached c (member-later c d queue q)) (r.right c (member-later c d queue q))
      | inr q ↦ (let n = sub-named image d in_tree c q in rw n.its_head (all_made d.head es in_it t r.long n.entry n.entry_in.member n.is_dir_lem))
    ];
  }
    where
      es : List Entered
      es = entries_of img (anodes_of img) d.head

      in_it : (e : Entered) → Member e es → EntryIn img d.head e
      in_it e m = record { directory = member-reached image d in_tree; member = m }

  -- with its partner p a directory is taken
  pub pairs_next : (t : Pairs) (d : Dir) (ds : List Dir) (p : ℕ) → partner_in t d ≡ p → pairs_along img j t (d ∷ ds) ≡ pairs_along img j (paired_all j p t (entries_of img (anodes_of img) d.head)) ds
  unfolding pairs_along
  pairs_next t d ds p e = ap (λ (n : ℕ). pairs_along img j (paired_all j n t (entries_of img (anodes_of img) d.head)) ds) e

  -- the pairs of the directories before d have the partner of d
  partner_is : (front : List Dir) (d : Dir) (back queue : List Dir) (t : Pairs) → Order (given image) queue (front ++ (d ∷ back)) →
      ((x : Dir) → Member x (front ++ (d ∷ back)) → Member x (reached_dirs img (anodes_of img))) → Right queue t → partner_in (pairs_along img j t front) d ≡ partner_at img j d.head
  unfolding pairs_along
  partner_is [] d back queue t (q, e, o) in_tree r = r.right d (rw e (member-first d q))
  partner_is (c ∷ front) d back queue t (q, e, o) in_tree r =
      let r' : Right (c ∷ q) t = subst (λ (l : List Dir). Right l t) e r in
      ap (λ (u : Pairs). partner_in u d) (pairs_next t c front (partner_at img j c.head) (r'.right c (member-first c q)))
      ∙ partner_is front d back (q ++ subs (given image) c) (paired_all j (partner_at img j c.head) t (entries_of img (anodes_of img) c.head)) o
      (λ x m. in_tree x (member-later x c (front ++ (d ∷ back)) m)) (right_next c q t (in_tree c (member-first c (front ++ (d ∷ back)))) r')

-- when the walk takes a directory, the pairs so far have the directory of the second disk at its path
pub partner_found : {img : List ℕ} → AcceptedImage img → (j : List ℕ) (front : List Dir) (d : Dir) (back : List Dir) → reached_dirs img (anodes_of img) ≡ front ++ (d ∷ back) →
    partner_in (pairs_along img j first_pairs front) d ≡ partner_at img j d.head
partner_found image j front d back parted =
    partner_is image j front d back (root ∷ []) first_pairs (subst (λ (l : List Dir). Order (given image) (root ∷ []) l) parted (walk_order image)) (λ x m. rw parted m) (right_first image j)

-- THE PARTNER THAT THE PAIRS HAVE IS NONE, OR A REACHED DIRECTORY OF THE SECOND
pub partner_reached : {img j : List ℕ} → AcceptedImage img → AcceptedImage j → (front : List Dir) (d : Dir) (back : List Dir) → reached_dirs img (anodes_of img) ≡ front ++ (d ∷ back) →
    (partner_in (pairs_along img j first_pairs front) d ≡ 0) ⊎ ReachedDir j (partner_in (pairs_along img j first_pairs front) d)
unfolding partner_at
partner_reached {img} {j} image second front d back parted =
    rw (partner_found image j front d back parted) (comes_reached (directory_path img (anodes_of img) limit d.head) 5 (root-reached second))
