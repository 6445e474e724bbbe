-- The differences worked out directory by directory are those of the paths.
use Rattle.std.specs.Prelude.{ℕ, ◌≡◌, ◌≢◌, get_or, replicate}
use Rattle.std.proofs.Math.Path.{refl, sym, ap, ap₂, subst}
use Rattle.std.proofs.Common.{◌∙◌}
use mathlib.Core.List.{List, [], ◌∷◌, ◌++◌, map}
use Rattle.std.proofs.Math.Option.{Option, none, some, none-ne-some, some-injective}
use Rattle.std.proofs.lemmas.List.{length-replicate, get_or-replicate}
use Rattle.rules.specs.Counting.{gather}
use Rattle.rules.specs.Anodes.{limit, anodes_of}
use Rattle.rules.specs.Walk.{Dir, root, Entered, reached_dirs}
use Rattle.rules.specs.Folding.{folded}
use Rattle.rules.specs.Lookup.{entries_of}
use Rattle.laws.specs.Bags.{gather_append}
use Rattle.laws.specs.Items.{subs}
use Rattle.laws.specs.Walks.{Order}
use Rattle.laws.specs.Members.{Member, member-first, member-later, member-gather, gather_congr}
use Rattle.change_laws.specs.Image.{AcceptedImage}
use Rattle.change_laws.specs.Reached.{EntryIn, entry-facts, member-reached}
use Rattle.paths.specs.Paths.{Path, entry_at}
use Rattle.differences.specs.Listed.{entry_path, paths}
use Rattle.differences.specs.Differences.{Difference, difference_at, only_second_at, differences}
use Rattle.differences.specs.Pairs.{Pairs, entry_difference, paired, paired_all, partner_in, differences_along, pairs_along, unmet, first_pairs, differences_by_pairs}
use Rattle.difference_laws.specs.NoDifference.{SamePath, entry-folded}
use Rattle.difference_laws.specs.Complete.{path-listed, complete}
use Rattle.difference_laws.specs.OwnPaths.{own_path}
use Rattle.pair_laws.specs.ChildPaths.{one_entry}
use Rattle.pair_laws.specs.Partners.{member_mapped, given, walk_order, partner_at, counterpart-at, Right, right_first, right_next, pairs_next}
use Rattle.pair_laws.specs.Marks.{met_along, met_append, marked, unmarked}

-- ---- lists

gather_mapped : {X Y Z : Type 0} (f : Y → List Z) (g : X → Y) (l : List X) → gather f (map g l) ≡ gather (λ x. f (g x)) l
unfolding gather
gather_mapped f g [] = refl
gather_mapped f g (x ∷ l) = ap (λ (m : List _). f (g x) ++ m) (gather_mapped f g l)

gather_gathered : {X Y Z : Type 0} (f : Y → List Z) (g : X → List Y) (l : List X) → gather f (gather g l) ≡ gather (λ x. gather f (g x)) l
unfolding gather
gather_gathered f g [] = refl
gather_gathered f g (x ∷ l) = gather_append f (g x) (gather g l) ∙ ap (λ (m : List _). gather f (g x) ++ m) (gather_gathered f g l)

-- ---- the paths of one directory

-- the paths of the entries of a directory
abbrev paths_in : List ℕ → Dir → List Path
paths_in img d = map (entry_path img (anodes_of img) d.head) (entries_of img (anodes_of img) d.head)

-- a listed path is that of an entry
record Listed (img : List ℕ) (path : Path) : Type 0 where
  directory : ℕ
  entry : Entered
  entry_in : EntryIn img directory entry
  is : path ≡ entry_path img (anodes_of img) directory entry

listed : {img : List ℕ} → AcceptedImage img → (path : Path) → Member path (paths img) → Listed img path
unfolding paths
listed {img} image path m =
    let (d, in_tree, here) = member-gather (paths_in img) (reached_dirs img (anodes_of img)) path m in
    let (e, in_it, is) = member_mapped (entry_path img (anodes_of img) d.head) (entries_of img (anodes_of img) d.head) path here in
    record { directory = d.head; entry = e; entry_in = record { directory = member-reached image d in_tree; member = in_it }; is = is }

-- ---- the first half: along the walk of the first disk

module _ {img : List ℕ} (image : AcceptedImage img) (j : List ℕ) where
  -- an entry's difference is that of its path
  entry_difference_lem : (h : ℕ) (e : Entered) → EntryIn img h e → entry_difference img j (partner_at img j h) e ≡ difference_at img j (entry_path img (anodes_of img) h e)
  unfolding entry_difference difference_at
  entry_difference_lem h e m = rw (counterpart-at image j h e, own_path m)

  -- and so for a directory
  directory_differences : (d : Dir) → Member d (reached_dirs img (anodes_of img)) →
      gather (entry_difference img j (partner_at img j d.head)) (entries_of img (anodes_of img) d.head) ≡ gather (difference_at img j) (paths_in img d)
  directory_differences d in_tree =
      let path = entry_path img (anodes_of img) d.head in
      let es = entries_of img (anodes_of img) d.head in
      gather_congr (entry_difference img j (partner_at img j d.head)) (λ e. difference_at img j (path e)) es
      (λ e m. entry_difference_lem d.head e (record { directory = member-reached image d in_tree; member = m }))
      ∙ sym (gather_mapped (difference_at img j) path es)

  -- the entries that are met are those at the paths
  directory_met : (h : ℕ) (es : List Entered) (t : Pairs) → (paired_all j (partner_at img j h) t es).met ≡ met_along j t.met (map (entry_path img (anodes_of img) h) es)
  unfolding paired_all paired met_along
  directory_met h [] t = refl
  directory_met h (e ∷ es) t = directory_met h es (paired j (partner_at img j h) t e) ∙ rw (counterpart-at image j h e)

  -- what the walk gives, from a queue on
  record Walked (t : Pairs) (ds : List Dir) : Type 0 where
    listed-first : differences_along img j t ds ≡ gather (difference_at img j) (gather (paths_in img) ds)
    marks : (pairs_along img j t ds).met ≡ met_along j t.met (gather (paths_in img) ds)

  -- with its partner p a directory is taken
  differences_next : (t : Pairs) (d : Dir) (ds : List Dir) (p : ℕ) → partner_in t d ≡ p → differences_along img j t (d ∷ ds)
      ≡ gather (entry_difference img j p) (entries_of img (anodes_of img) d.head) ++ differences_along img j (paired_all j p t (entries_of img (anodes_of img) d.head)) ds
  unfolding differences_along
  differences_next t d ds p e =
      ap (λ (n : ℕ). gather (entry_difference img j n) (entries_of img (anodes_of img) d.head) ++ differences_along img j (paired_all j n t (entries_of img (anodes_of img) d.head)) ds) e

  -- each directory is taken with the partner at its path
  walked : (ds queue : List Dir) (t : Pairs) → Order (given image) queue ds → ((x : Dir) → Member x ds → Member x (reached_dirs img (anodes_of img))) → Right image j queue t → Walked t ds
  unfolding differences_along pairs_along gather met_along
  walked [] queue t o in_tree r = record { listed-first = refl; marks = refl }
  walked (d ∷ ds) queue t (q, e, o) in_tree r =
      let r' : Right image j (d ∷ q) t = subst (λ (l : List Dir). Right image j l t) e r in
      let is = r'.right d (member-first d q) in
      let p = partner_at img j d.head in
      let here = in_tree d (member-first d ds) in
      let es = entries_of img (anodes_of img) d.head in
      let rest = walked ds (q ++ subs (given image) d) (paired_all j p t es) o (λ x m. in_tree x (member-later x d ds m)) (right_next image j d q t here r') in
      let behind = gather (paths_in img) ds in
      record {
        listed-first =
            differences_next t d ds p is ∙ ap₂ (λ (l m : List Difference). l ++ m) (directory_differences d here) rest.listed-first
            ∙ sym (gather_append (difference_at img j) (paths_in img d) behind);
        marks =
            ap (λ (u : Pairs). u.met) (pairs_next image j t d ds p is) ∙ rest.marks ∙ ap (λ (m : List ℕ). met_along j m behind) (directory_met d.head es t)
            ∙ sym (met_append j t.met (paths_in img d) behind);
      }

  all_walked : Walked first_pairs (reached_dirs img (anodes_of img))
  all_walked = walked (reached_dirs img (anodes_of img)) (root ∷ []) first_pairs (walk_order image) (λ x m. m) (right_first image j)

-- ---- the second half: the entries of the second disk that were not met

-- what a path names is an entry of a reached directory, whose own path is the same
record NamedAt (img : List ℕ) (path : Path) (e : Entered) : Type 0 where
  directory : ℕ
  entry_in : EntryIn img directory e
  same : SamePath (entry_path img (anodes_of img) directory e) path

named-at : {img : List ℕ} → AcceptedImage img → (path : Path) (e : Entered) → entry_at img path ≡ some e → NamedAt img path e
named-at {img} image path e is =
    let (q, m, same) = complete image path e is in
    let l = listed image q m in
    let own : entry_at img q ≡ some l.entry = ap (entry_at img) l.is ∙ own_path l.entry_in in
    let one : l.entry ≡ e = some-injective l.entry e (sym own ∙ entry-folded img (anodes_of img) q path 5 same ∙ is) in
    let its : SamePath (entry_path img (anodes_of img) l.directory l.entry) path = ap (map folded) (sym l.is) ∙ same in
    record {
      directory = l.directory;
      entry_in = subst (λ (x : Entered). EntryIn img l.directory x) one l.entry_in;
      same = subst (λ (x : Entered). SamePath (entry_path img (anodes_of img) l.directory x) path) one its;
    }

module _ {img j : List ℕ} (image : AcceptedImage img) (second : AcceptedImage j) where
  -- the marks of the entries that the paths of the first name
  abbrev marks_made : List ℕ
  marks_made = met_along j (replicate limit 0) (paths img)

  module _ {h : ℕ} {f : Entered} (m : EntryIn j h f) where
    -- its own path
    abbrev path : Path
    path = entry_path j (anodes_of j) h f

    -- an entry whose path names one of the first is marked
    met_there : (e : Entered) → entry_at img path ≡ some e → get_or marks_made f.anode 0 ≡ 1
    met_there e is =
        let n = named-at image path e is in
        let q = entry_path img (anodes_of img) n.directory e in
        marked j (paths img) (replicate limit 0) q f (path-listed image n.entry_in) (entry-folded j (anodes_of j) q path 5 n.same ∙ own_path m)
        (rw (length-replicate {A = ℕ} limit 0) (entry-facts m).below)

    -- and no other
    not_met : entry_at img path ≡ none → get_or marks_made f.anode 0 ≡ 0
    not_met missing = unmarked j (paths img) (replicate limit 0) f.anode others (get_or-replicate {A = ℕ} limit f.anode 0 0 (entry-facts m).below)
      where
        others : (q : Path) → Member q (paths img) → (c : Entered) → entry_at j q ≡ some c → c.anode ≢ f.anode
        others q in_first c is i =
            let n = named-at second q c is in
            let one = one_entry n.entry_in m i in
            let l = listed image q in_first in
            let same : SamePath path q = subst (λ (x : Entered). SamePath (entry_path j (anodes_of j) h x) q) one.1 (subst (λ (g : ℕ). SamePath (entry_path j (anodes_of j) g c) q) one.0 n.same) in
            none-ne-some l.entry (sym missing ∙ entry-folded img (anodes_of img) path q 5 same ∙ ap (entry_at img) l.is ∙ own_path l.entry_in)

    -- so what is listed of it is what is listed of its path
    unmet-at : unmet marks_made f ≡ only_second_at img j path
    unfolding unmet only_second_at
    unmet-at = go (entry_at img path) refl
      where
        go : (o : Option Entered) → entry_at img path ≡ o → unmet marks_made f ≡ only_second_at img j path
        go none is = rw (not_met is, is, own_path m)
        go (some e) is = rw (met_there e is, is)

  second_listed : gather (λ d. gather (unmet marks_made) (entries_of j (anodes_of j) d.head)) (reached_dirs j (anodes_of j)) ≡ gather (only_second_at img j) (paths j)
  unfolding paths
  second_listed =
      gather_congr (λ d. gather (unmet marks_made) (entries_of j (anodes_of j) d.head)) (λ d. gather (only_second_at img j) (paths_in j d)) (reached_dirs j (anodes_of j)) (λ d in_tree.
      gather_congr (unmet marks_made) (λ f. only_second_at img j (entry_path j (anodes_of j) d.head f)) (entries_of j (anodes_of j) d.head)
      (λ f m. unmet-at (record { directory = member-reached second d in_tree; member = m }))
      ∙ sym (gather_mapped (only_second_at img j) (entry_path j (anodes_of j) d.head) (entries_of j (anodes_of j) d.head)))
      ∙ sym (gather_gathered (only_second_at img j) (paths_in j) (reached_dirs j (anodes_of j)))

-- THE DIFFERENCES WORKED OUT DIRECTORY BY DIRECTORY ARE THOSE OF THE PATHS
pub by_pairs : {img j : List ℕ} → AcceptedImage img → AcceptedImage j → differences_by_pairs img j ≡ differences img j
unfolding differences_by_pairs differences paths
by_pairs {img} {j} image second =
    let w = all_walked image j in
    ap₂ (λ (l m : List Difference). l ++ m) w.listed-first (
    ap (λ (met : List ℕ). gather (λ d. gather (unmet met) (entries_of j (anodes_of j) d.head)) (reached_dirs j (anodes_of j))) w.marks
    ∙ second_listed image second)
