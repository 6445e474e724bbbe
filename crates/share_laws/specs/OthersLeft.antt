-- 02, No. 9: a party's call leaves every byte of the others' directories and files, in the blocks where they were.
use Rattle.std.specs.Prelude.{ℕ, ◌≡◌, ◌≢◌, ◌⊎◌, Bool, true, false, List, eqb, length}
use Rattle.std.proofs.Math.Path.{refl, sym}
use Rattle.std.proofs.Common.{ap, ◌∙◌, true≢false, arith}
use Rattle.std.proofs.Math.Logic.{inl, inr}
use Rattle.rules.specs.Counting.{one_at}
use Rattle.rules.specs.Anodes.{limit, anodes_of}
use Rattle.rules.specs.Chains.{blocks_of}
use Rattle.rules.specs.Walk.{Dir, Entered, blocks_for}
use Rattle.rules.specs.Accepted.{disk_size, last_reserved, check_answer}
use Rattle.rules.specs.Lookup.{entries_of, bytes_of}
use Rattle.rules.specs.Plans.{table_of, Growth}
use Rattle.rules.specs.Changes.{new_entry, resize_plan, resized_image, resized, written, remove_plan, removed_image, removed}
use Rattle.laws.specs.Tests.{same?}
use Rattle.laws.specs.Sums.{one_at-same, one_at_other}
use Rattle.laws.specs.Heads.{Head}
use Rattle.laws.specs.Moves.{Grows}
use Rattle.laws.specs.Members.{Member, member-sum}
use Rattle.frames.specs.DisjointBlocks.{chains_apart}
use Rattle.frames.specs.StoredBytes.{bytes_of-kept, written-kept}
use Rattle.change_laws.specs.Image.{AcceptedImage, accepted_own, accepted_whole, ReachedDir}
use Rattle.change_laws.specs.Reached.{EntryIn, named-member, entry-facts, entry-not-1, reached_head, reached-not-1, not-file}
use Rattle.change_laws.specs.KeptChains.{same-chain_own, same_blocks, OthersLeft, entries_left}
use Rattle.change_laws.specs.PlannedChange.{left_cases}
use Rattle.change_laws.specs.Write.{written-disk}
use Rattle.change_laws.specs.ResizeStores as ResizeStores
use Rattle.change_laws.specs.ResizeStores.{PlannedResize, resized-disk}
use Rattle.change_laws.specs.MadeImage.{made-disk}
use Rattle.change_laws.specs.MakeEffects as MakeEffects
use Rattle.change_laws.specs.RemoveStores.{PlannedRemove, removed-disk}
use Rattle.change_laws.specs.RemoveEffects as RemoveEffects
use Rattle.share_rules.specs.Shares.{Shares, lies_in, party_of}
use Rattle.share_rules.specs.SharedCalls.{SharedCall, shared_read, shared_list, shared_make, shared_resize, shared_write, shared_remove, named_directory, unshared_refusal, unshared_left, shared_outcome}
use Rattle.share_laws.specs.PassedCalls.{passed_parent, passed_entry, make_passed, resize_passed, span_passed, remove_passed}
use Rattle.share_laws.specs.LetPass.{LetPass, let_pass}
use Rattle.share_laws.specs.Accepted.{growth_grows, shared_cases, steps_refused}
use Rattle.share_laws.specs.KeptWays.{IsReached, walked_dirs, lies_kept}
use Rattle.share_laws.specs.Ways.{sub_lies}
use Rattle.share_laws.specs.ChangedUse.{names-its}
use Rattle.share_laws.specs.CallUse.{RemovesDir, made_ways, call_use, call_keeps}
use Rattle.share_laws.specs.SharesHold.{not_top, party_directory}

-- a chain has the blocks that it had, and they the bytes
pub record ChainLeft (img j : List ℕ) (h : ℕ) : Type 0 where
  pub its-blocks : blocks_of (anodes_of j) h ≡ blocks_of (anodes_of img) h
  pub its-bytes : bytes_of j (anodes_of j) h ≡ bytes_of img (anodes_of img) h

-- directory h is reached and the same party's still; its blocks, its entries and the files that it names are as they were
pub record LeftAlone (sh : Shares) (img j : List ℕ) (h : ℕ) : Type 0 where
  pub still_there : IsReached j h
  pub same_party : party_of (walked_dirs j) sh h ≡ party_of (walked_dirs img) sh h
  pub directory : ChainLeft img j h
  pub its_entries : entries_of j (anodes_of j) h ≡ entries_of img (anodes_of img) h
  pub its-files : (e : Entered) → Member e (entries_of img (anodes_of img) h) → e.dir ≡ false → ChainLeft img j e.anode

-- ---- what a call touches

-- the call left alone every chain but 1's and one other, and every block but those of its directory: the other is that of its directory, or of an entry there
record Touched (img j : List ℕ) (call : SharedCall) : Type 0 where
  own : ℕ
  others : OthersLeft img j (anodes_of j) own (named_directory call)
  own_is : (own ≡ named_directory call) ⊎ ((e : Entered) × EntryIn img (named_directory call) e × (e.anode ≡ own) × (e.dir ≡ true → RemovesDir img call own))

module _ {img : List ℕ} (image : AcceptedImage img) {growth : Growth} (grows : Grows limit (disk_size img) (last_reserved img) growth) where
  written_others : {h : ℕ} {e : Entered} (m : EntryIn img h e) → e.dir ≡ false → (offset : ℕ) (bytes : List ℕ) → OthersLeft img (written img (anodes_of img) e offset bytes) (anodes_of img) e.anode h
  written_others {e = e} m file offset bytes =
      let g = (accepted_whole image).good in
      let f = entry-facts m in
      record {
        same_chains = λ k d k1 ko. same-chain_own (anodes_of img) k;
        blocks-kept = λ k d k1 ko kh y q. (written-kept img g e f.head offset bytes).block_kept y (chains_apart g k e.anode d f.head ko y q);
      }

  touched : (call : SharedCall) → unshared_refusal img call ≡ 0 → ((unshared_left growth img call).image ≡ img) ⊎ Touched img (unshared_left growth img call).image call
  unfolding resized removed
  touched (shared_read h name offset out) z = inl refl
  touched (shared_list h place) z = inl refl
  touched (shared_make h type name comment day minute tick protection) z =
      let p = make_passed img h type name comment z in
      made_ways grows (passed_parent image p) (new_entry (eqb type 2) name comment day minute tick protection) p refl refl
      (λ l. (l.image ≡ img) ⊎ Touched img l.image (shared_make h type name comment day minute tick protection)) (λ k q. inl refl)
      (λ f ys t zs m g r. inr (record { own = h; others = rw (made-disk m).anodes (MakeEffects.others_left m); own_is = inl refl }))
  touched (shared_resize h name new) z =
      let (p, file) = resize_passed img h name z in
      let e = p.entered in
      let m = passed_entry image p in
      rw p.is (left_cases (λ l. (l.image ≡ img) ⊎ Touched img l.image (shared_resize h name new)) img (resized_image img (anodes_of img) e new) (resize_plan growth (last_reserved img) (table_of img) e.anode (blocks_for new)) (λ k q. inl refl)
      (λ t ys q.
      let plan : PlannedResize img e new t ys = record { home = h; entry = m; plan = record { file = file; growth = growth; grows = grows; steps = q } } in
      inr (record { own = e.anode; others = rw (resized-disk plan).anodes (ResizeStores.others_left plan); own_is = inr (e, m, refl, λ d. absurd (true≢false (sym d ∙ file))) })))
  touched (shared_write h name offset bytes) z =
      let (p, file, fits) = span_passed img h name offset (length bytes) z in
      let e = p.entered in
      let m = passed_entry image p in
      rw p.is (inr (record { own = e.anode; others = rw (written-disk m file offset bytes).anodes (written_others m file offset bytes); own_is = inr (e, m, refl, λ d. absurd (true≢false (sym d ∙ file))) }))
  touched (shared_remove h name) z =
      let (p, empty) = remove_passed img h name z in
      let e = p.entered in
      let m = passed_entry image p in
      rw p.is (left_cases (λ l. (l.image ≡ img) ⊎ Touched img l.image (shared_remove h name)) img (λ t ys. removed_image img e t) (remove_plan growth (last_reserved img) (table_of img) e.anode) (λ k q. inl refl)
      (λ t ys q.
      let plan : PlannedRemove img e t ys = record { home = h; entry = m; plan = record { growth = growth; grows = grows; steps = q } } in
      inr (record { own = e.anode; others = rw (removed-disk plan).anodes (RemoveEffects.others_left plan); own_is = inr (e, m, refl, λ d. (e, p.is, d, refl)) })))

-- ---- the others' directories

-- a chain that is neither of the two, nor 1's
chain_left : {img j : List ℕ} {own home : ℕ} → OthersLeft img j (anodes_of j) own home → (m : ℕ) → Head (anodes_of img).next (anodes_of img).block m → m ≢ 1 → m ≢ own → m ≢ home → ChainLeft img j m
unfolding bytes_of
chain_left {img} {j} o m d m1 mo mh =
    let same = same_blocks (o.same_chains m d m1 mo) in
    record { its-blocks = same; its-bytes = rw same (bytes_of-kept img j (anodes_of img) m (o.blocks-kept m d m1 mo mh)) }

-- a call that leaves the image
alone_same : {sh : Shares} {img j : List ℕ} {h : ℕ} → IsReached img h → j ≡ img → LeftAlone sh img j h
alone_same r e = rw e (record { still_there = r; same_party = refl; directory = record { its-blocks = refl; its-bytes = refl }; its_entries = refl; its-files = λ c m f. record { its-blocks = refl; its-bytes = refl } })

-- the directory that a call removes is named by an entry of its own
removed-entry : {img : List ℕ} → AcceptedImage img → (call : SharedCall) (x : ℕ) → IsReached img (named_directory call) → RemovesDir img call x → (e : Entered) × EntryIn img (named_directory call) e × (e.dir ≡ true) × (e.anode ≡ x)
removed-entry image (shared_read h name offset out) x r q = absurd q
removed-entry image (shared_list h place) x r q = absurd q
removed-entry image (shared_make h type name comment day minute tick protection) x r q = absurd q
removed-entry image (shared_resize h name new) x r q = absurd q
removed-entry image (shared_write h name offset bytes) x r q = absurd q
removed-entry {img} image (shared_remove h name) x r (e, is, dir, at) = (e, record { directory = record { image = image; reached = r }; member = named-member img (anodes_of img) h name e is }, dir, at)

module _ {img : List ℕ} (image : AcceptedImage img) (party : ℕ) (sh : Shares) (call : SharedCall) (p : LetPass img party sh call) {growth : Growth} (grows : Grows limit (disk_size img) (last_reserved img) growth)
    (h : ℕ) (r : IsReached img h) (foreign : party_of (walked_dirs img) sh h ≢ party) where
  abbrev D : List Dir
  D = walked_dirs img

  abbrev j : List ℕ
  j = (unshared_left growth img call).image

  -- the directory that the call names
  abbrev home : ℕ
  home = named_directory call

  home_own : IsReached img home × (party_of D sh home ≡ party)
  home_own = party_directory img (anodes_of img) party sh home p.own

  there : ReachedDir img h
  there = record { image = image; reached = r }

  not_home : h ≢ home
  not_home i = foreign (ap (party_of D sh) i ∙ home_own.1)

  -- it is no directory that the call removes
  not-removed : (x : ℕ) → RemovesDir img call x → h ≢ x
  unfolding party_of
  not-removed x q i =
      let (e, m, dir, at) = removed-entry image call x home_own.0 q in
      let off : (top : ℕ) → (top ≡ sh.first) ⊎ (top ≡ sh.second) → e.anode ≢ top = λ top is k. not_top img sh call p.no_top top is (rw (sym at ∙ k) at q) in
      foreign (ap (party_of D sh) (i ∙ sym at) ∙ rw (sub_lies image m dir sh.first (off sh.first (inl refl)), sub_lies image m dir sh.second (off sh.second (inr refl))) home_own.1)

  module _ (c : Touched img j call) where
    not_own : h ≢ c.own
    not_own i = elim c.own_is [
      | inl q ↦ not_home (i ∙ q)
      | inr (e, m, at, gone) ↦ by_kind e m at gone e.dir refl
    ]
      where
        by_kind : (e : Entered) → EntryIn img home e → e.anode ≡ c.own → (e.dir ≡ true → RemovesDir img call c.own) → (b : Bool) → e.dir ≡ b → ⊥
        by_kind e m at gone true d = not-removed c.own (gone d) i
        by_kind e m at gone false d = not-file there (entry-facts m) d (i ∙ sym at)

    file_off : (f : Entered) → Member f (entries_of img (anodes_of img) h) → f.dir ≡ false → f.anode ≢ c.own
    file_off f n file i = elim c.own_is [
      | inl q ↦ not-file (record { image = image; reached = home_own.0 }) (entry-facts (mine f n)) file (sym (i ∙ q))
      | inr (e, m, at, gone) ↦ omega (
        arith,
        names-its image m h r,
        one_at_other h home not_home,
        member-sum (λ (x : Entered). one_at x.anode e.anode) f (entries_of img (anodes_of img) h) n,
        one_at-same f.anode e.anode (i ∙ sym at),
      )
    ]
      where
        mine : (f : Entered) → Member f (entries_of img (anodes_of img) h) → EntryIn img h f
        mine f n = record { directory = there; member = n }

    left_alone : (unshared_left growth img call).answer ≡ 0 → LeftAlone sh img j h
    unfolding party_of
    left_alone done =
        let u = call_use image grows call p.no_other done in
        let still = call_keeps image grows call p.no_other h (λ q. not-removed h q refl) r in
        let lies : (top : ℕ) → lies_in (walked_dirs j) top h ≡ lies_in D top h = λ top. lies_kept image u.image' u.parents top h r still in
        record {
          still_there = still;
          same_party = rw (lies sh.first, lies sh.second);
          directory = chain_left c.others h (reached_head there) (reached-not-1 there) not_own not_home;
          its_entries = entries_left c.others there not_own not_home;
          its-files = λ f n file.
              let g = entry-facts {e = f} (record { directory = there; member = n }) in
              chain_left c.others f.anode g.head (entry-not-1 g) (file_off f n file) (λ i. not-file (record { image = image; reached = home_own.0 }) g file (sym i));
        }

  steps_left : LeftAlone sh img (unshared_left growth img call).image h
  steps_left = elim (same? (unshared_left growth img call).answer 0) [
    | inr d ↦ alone_same r (steps_refused growth img call d)
    | inl d ↦ elim (touched image grows call p.no_other) [ inl e ↦ alone_same r e | inr c ↦ left_alone c d ]
  ]

-- OTHERS LEFT: a shared call leaves every directory that is not its party's own, and the files there
pub others_left_alone : (img blocks anodes : List ℕ) (party : ℕ) (sh : Shares) (call : SharedCall) → check_answer img (disk_size img) limit ≡ 0 → (h : ℕ) → IsReached img h → party_of (walked_dirs img) sh h ≢ party →
    LeftAlone sh img (shared_outcome img blocks anodes party sh call).image h
others_left_alone img blocks anodes party sh call ok h r foreign = shared_cases img blocks anodes party sh call (λ l. LeftAlone sh img l.image h) (λ k e. alone_same r refl)
    (λ e. steps_left (accepted_own img ok) party sh call (let_pass img blocks anodes party sh call e) (growth_grows (disk_size img) (last_reserved img) img party sh call) h r foreign)
