-- The path of a directory is its parent's with its name there, and no two reached entries name one anode.
use Rattle.std.specs.Prelude.{ℕ, zero, suc, ◌+◌, ◌-◌, ◌≤◌, ◌<◌, ◌≡◌, true, List, [], ◌∷◌, ◌++◌}
use Rattle.std.proofs.Common.{sym, ap, ◌∙◌, inl, inr, arith}
use Rattle.rules.specs.Counting.{one_at}
use Rattle.rules.specs.Anodes.{Anodes, limit, anodes_of}
use Rattle.rules.specs.Walk.{Dir, Entered, reached_dirs}
use Rattle.laws.specs.Tests.{same?}
use Rattle.laws.specs.Sums.{one_at_cases, one_below, one_below_cases}
use Rattle.laws.specs.Bags.{list_add, list_mono}
use Rattle.laws.specs.Members.{Member, member-append, member-cons}
use Rattle.change_laws.specs.Image.{AcceptedImage, reached-headed}
use Rattle.change_laws.specs.Reached.{EntryIn, entry-facts, Reaches, top, under, walked_reaches, reaches_walked}
use Rattle.change_laws.specs.NamedOnce.{only_here, only_home}
use Rattle.paths.specs.Paths.{Path}
use Rattle.paths.specs.Reached.{root-reached}
use Rattle.differences.specs.Listed.{directory_path}
use Rattle.difference_laws.specs.Complete.{height, lower_than, path_step, lower_more, lower_few, root-path}
use Rattle.difference_laws.specs.OwnPaths.{own_name}

-- ---- paths of directories

module _ {img : List ℕ} (image : AcceptedImage img) where
  abbrev s : Anodes
  s = anodes_of img

  -- from some depth on, which is no more than there are directories above, the path of the directory h stays the same
  record Steady (h : ℕ) : Type 0 where
    deep : ℕ
    few : deep + lower_than image (height image h) ≤ lower_than image (height image 5)
    same : (k : ℕ) → deep ≤ k → directory_path img s k h ≡ directory_path img s deep h

  -- a directory that an entry of g names
  module _ (g : ℕ) (e : Entered) (m : EntryIn img g e) (dir : e.dir ≡ true) where
    step : (k : ℕ) → directory_path img s (suc k) e.anode ≡ directory_path img s k g ++ (e.name ∷ [])
    step = path_step image g m.directory.reached e.name e (own_name m) dir

    under_steady : Steady g → Steady e.anode
    under_steady l = record { deep = suc l.deep; few = omega (arith, l.few, lower_more image g m.directory.reached e.name e (own_name m) dir); same = same_under }
      where
        same_under : (k : ℕ) → suc l.deep ≤ k → directory_path img s k e.anode ≡ directory_path img s (suc l.deep) e.anode
        same_under zero deep = absurd (omega arith)
        same_under (suc k) deep = step k ∙ ap (λ (p : Path). p ++ (e.name ∷ [])) (l.same k (omega arith)) ∙ sym (step l.deep)

  -- so it is for every directory, by steps from the root
  steady : (h : ℕ) → Reaches img h → Steady h
  steady h top = record { deep = 0; few = omega arith; same = λ k l. root-path image k ∙ sym (root-path image 0) }
  steady h (under g e r m dir) = under_steady g e (record { directory = record { image = image; reached = reaches_walked image g r }; member = m }) dir (steady g r)

  -- the root is not lower than itself, so that one directory less than there may be is lower
  lower_root : lower_than image (height image 5) < limit
  lower_root = omega (
    arith,
    list_add (λ c. one_below (height image c.head) (height image 5)) (λ c. one_at c.head 5) dirs,
    list_mono (λ c. one_below (height image c.head) (height image 5) + one_at c.head 5) (λ c. one_below (height image c.head) (suc (height image 5))) dirs one,
    reached-headed (root-reached image),
    lower_few image (suc (height image 5)),
  )
    where
      dirs : List Dir
      dirs = reached_dirs img (anodes_of img)

      one : (c : Dir) → one_below (height image c.head) (height image 5) + one_at c.head 5 ≤ one_below (height image c.head) (suc (height image 5))
      one c =
          let a = one_below_cases (height image c.head) (height image 5) in
          let b = one_below_cases (height image c.head) (suc (height image 5)) in
          elim (one_at_cases c.head 5) [
            | inl i ↦ elim a [
              | inl x ↦ absurd (omega (arith, x.0, ap (height image) i.0))
              | inr x ↦ elim b [ inl y ↦ omega (arith, x.1, y.1, i.1) | inr y ↦ absurd (omega (arith, y.0, ap (height image) i.0)) ]
            ]
            | inr i ↦ elim a [
              | inl x ↦ elim b [ inl y ↦ omega (arith, x.1, y.1, i.1) | inr y ↦ absurd (omega (arith, x.0, y.0)) ]
              | inr x ↦ omega (arith, x.1, i.1)
            ]
          ]

-- the path of a directory that an entry names is that of the entry's directory with its name behind it
pub child-path : {img : List ℕ} {h : ℕ} {e : Entered} → EntryIn img h e → e.dir ≡ true →
    directory_path img (anodes_of img) limit e.anode ≡ directory_path img (anodes_of img) limit h ++ (e.name ∷ [])
child-path {img} {h} {e} m dir =
    let image = m.directory.image in
    let l = steady image h (walked_reaches image h m.directory.reached) in
    let few : l.deep ≤ limit - 1 = omega (arith, l.few, lower_root image) in
    step image h e m dir (limit - 1) ∙ ap (λ (p : Path). p ++ (e.name ∷ [])) (l.same (limit - 1) few ∙ sym (l.same limit (omega arith)))

-- ---- entries and their anodes

-- entries of two directories that name one anode stand in one directory
one-home : {img : List ℕ} {g h : ℕ} {c e : Entered} → EntryIn img g c → EntryIn img h e → c.anode ≡ e.anode → g ≡ h
one-home {img} {c = c} {e = e} n m is =
    let f = entry-facts m in
    let k = entry-facts n in
    elim (same? k.a₀ f.a₀) [
      | inl q ↦ sym k.block_facts.on_chain_lem ∙ rw q f.block_facts.on_chain_lem
      | inr q ↦ absurd (only_here m.directory.image f k.block_facts.dir k.block_facts.reached k.a₀ (rw k.block_facts.dir_head k.member-chain) q c k.member is)
    ]

-- and are one entry
pub one_entry : {img : List ℕ} {g h : ℕ} {c e : Entered} → EntryIn img g c → EntryIn img h e → c.anode ≡ e.anode → (g ≡ h) × (c ≡ e)
one_entry {img} {g} {h} {c} {e} n m is =
    let home = one-home n m is in
    let (before, after, parted) = m.member in
    let apart = only_home m.directory.image (entry-facts m) before after parted c in
    let there : Member c (before ++ (e ∷ after)) = rw (home, parted) at n.member in (
      home,
      elim (member-append c before (e ∷ after) there) [
        | inl q ↦ absurd (apart (inl q) is)
        | inr q ↦ elim (member-cons c e after q) [ inl i ↦ i | inr i ↦ absurd (apart (inr i) is) ]
      ],
    )
