-- What the files hold after a resize: other files what they held, the file its bytes up to the lesser size, and zeros above.
use Rattle.std.specs.Prelude.{ℕ, suc, ◌+◌, ◌-◌, ◌*◌, ◌/◌, ◌%◌, ◌≤◌, ◌<◌, ◌≡◌, refl, ◌≢◌, true, false, ltb}
use Rattle.std.proofs.Math.Path.{sym, ap, ap₂}
use Rattle.std.proofs.Common.{◌∙◌, drop_of_length-le, take_all, take_at, length-take-le}
use Rattle.std.proofs.Math.Logic.{inl, inr}
use mathlib.Core.List.{List, [], ◌∷◌, ◌++◌, append-nil, append_assoc}
use native.Mathlib.Omega.{arith}
use Rattle.std.proofs.Math.ListN.{length, take, replicate}
use Rattle.std.proofs.lemmas.List.{length-replicate, replicate-append-replicate}
use Rattle.std.proofs.Math.Seq.{take-take, take-append-add, split_at}
use borrow.Author.Tests.{lt-ltb, le-ltb, ne_eqb}
use Rattle.endian.proofs.Laws.{cleared-rest, take_zeros}
use Rattle.disk.specs.Blocks.{block_of}
use Rattle.disk.proofs.Laws.{length-block_of}
use Rattle.rules.specs.Counting.{occurrences, gather}
use Rattle.rules.specs.Anodes.{Anodes, anodes_of}
use Rattle.rules.specs.Chains.{blocks_of}
use Rattle.rules.specs.Walk.{Entered, blocks_for}
use Rattle.rules.specs.Plans.{Slotted}
use Rattle.rules.specs.Lookup.{bytes_of, contents}
use Rattle.rules.specs.Format.{zero_block}
use Rattle.rules.specs.Table.{in_block, with_table}
use Rattle.rules.specs.Changes.{zero_tail, zero_taken, resized_image}
use Rattle.laws.specs.Chains.{Inside}
use Rattle.laws.specs.Tests.{same?}
use Rattle.laws.specs.Sums.{one_at-same}
use Rattle.laws.specs.Bags.{occurrences-cons, occurrences-append, gather_append, occurrences-here, occurrences-later, gather-kept}
use Rattle.laws.specs.Whole.{blocks-count}
use Rattle.laws.specs.ChainBlocks.{length-blocks_of}
use Rattle.laws.specs.Members.{member-occurrences}
use Rattle.frames.specs.StoredBlocks.{in_block-kept, block_of-in_block}
use Rattle.frames.specs.StoredBytes.{length-gather, block_of-with_blocks}
use Rattle.frames.specs.DisjointBlocks.{chain_once}
use Rattle.change_laws.specs.Reached.{EntryIn, entry_data}
use Rattle.change_laws.specs.KeptChains.{contents-left}
use Rattle.change_laws.specs.Read.{bytes_long, file_long}
use Rattle.change_laws.specs.NewSize.{sized}
use Rattle.change_laws.specs.Image.{disk_long}
use Rattle.change_laws.specs.ResizePlan.{plan_shorter}
use Rattle.change_laws.specs.PlannedChange.{image, w, facts, not-1, off_chain}
use Rattle.change_laws.specs.ResizeStores.{PlannedResize, steps, table, steps_good, file_data, longer, head_not-file, home_apart, zeroed, stored, taken-kept, old_last, tail_cleared, tail_in, tail_long, tail-kept, size_kept, others_left}

gather_zeros : (f : ℕ → List ℕ) (l : List ℕ) → ((y : ℕ) → 0 < occurrences y l → f y ≡ zero_block) → gather f l ≡ replicate (length l * 512) 0
unfolding gather
gather_zeros f [] z = refl
gather_zeros f (x ∷ l) z =
    let e : 512 + length l * 512 ≡ suc (length l) * 512 = omega arith in
    ap₂ ◌++◌ (z x (occurrences-here x l)) (gather_zeros f l (λ y p. z y (occurrences-later y x l p))) ∙ replicate-append-replicate {A = ℕ} 512 (length l * 512) 0 ∙ ap (λ (n : ℕ). replicate n 0) e

module _ {img : List ℕ} {e : Entered} {new : ℕ} {u : Slotted} {ys : List ℕ} (p : PlannedResize img e new u ys) where
  abbrev t : Anodes
  t = u.anodes

  abbrev s : Anodes
  s = anodes_of img

  abbrev chain : List ℕ
  chain = blocks_of s e.anode

  -- the image that a resize leaves
  abbrev j : List ℕ
  j = resized_image img s e new u ys

  -- ---- other files

  -- every other file has the bytes that it had
  pub contents-resized_other : {k : ℕ} {f : Entered} → EntryIn img k f → f.dir ≡ false → f.anode ≢ e.anode → contents j t f ≡ contents img s f
  contents-resized_other = contents-left (others_left p) p.entry.directory

  -- ---- the file

  -- no block of it has its entry
  off_home : (y : ℕ) → 0 < occurrences y chain → y ≢ e.start / 512
  off_home y q = off_chain p e.anode (facts p).head (λ i. head_not-file p p.entry.directory (sym i)) y q

  inside : Inside img chain
  inside y q = (entry_data p.entry y q).inside

  module _ (less : new ≤ e.size) where
    shorter : (rest : List ℕ) × (chain ≡ blocks_of t e.anode ++ rest)
    unfolding blocks_for
    shorter =
        let q = plan_shorter img p.plan.grows (w p).good e.anode (facts p).head (not-1 p) (blocks_for new) u ys p.plan.steps (omega (arith, (facts p).sized p.plan.file)) in
        (q.0, q.1)

    abbrev left-blocks : List ℕ
    left-blocks = blocks_of t e.anode

    still_in : (y : ℕ) → 0 < occurrences y left-blocks → 0 < occurrences y chain
    still_in y q = rw shorter.1 (omega (arith, q, occurrences-append y left-blocks shorter.0))

    -- nothing of it is stored but its entry's size
    block_left : (y : ℕ) → 0 < occurrences y left-blocks → block_of j y ≡ block_of img y
    unfolding resized_image zero_tail zero_taken
    block_left y q =
        let small = le-ltb e.size new less in
        let c = still_in y q in
        (size_kept p).block_kept y (off_home y c) ∙ rw (small) ((stored p).block_kept y (file_data p y q))

    -- a file that shrinks has the bytes of the blocks that it keeps
    pub bytes_shrunk : bytes_of j t e.anode ≡ take (blocks_for new * 512) (bytes_of img s e.anode)
    unfolding bytes_of
    bytes_shrunk =
        let room = blocks_for new * 512 in
        let long : length (gather (block_of img) left-blocks) ≡ room = omega (
          arith,
          length-gather img left-blocks (λ y q. inside y (still_in y q)),
          length-blocks_of t e.anode,
          blocks-count (steps_good p) e.anode ((steps p).moves.shift.stays e.anode (facts p).head),
          (steps p).has,
        ) in
        gather-kept (block_of img) (block_of j) left-blocks block_left ∙ sym (take_at (gather (block_of img) left-blocks) (gather (block_of img) shorter.0) room long)
        ∙ ap (take room) (sym (gather_append (block_of img) left-blocks shorter.0)) ∙ ap (λ (l : List ℕ). take room (gather (block_of img) l)) (sym shorter.1)

    -- and as contents those up to the new size
    pub contents_shrunk : contents j t (sized new e) ≡ take new (contents img s e)
    unfolding contents blocks_for
    contents_shrunk =
        let held = bytes_of img s e.anode in
        ap (take new) bytes_shrunk ∙ take-take new (blocks_for new * 512) held (omega arith) ∙ sym (take-take new e.size held less)

  module _ (more : e.size < new) where
    big : ltb e.size new ≡ true
    big = lt-ltb e.size new more

    -- a block stands in the new chain once
    once : (y : ℕ) → occurrences y chain + occurrences y ys ≤ 1
    once y = omega (
      arith,
      occurrences-append y chain ys,
      rw (longer p more).0 at (chain_once (steps_good p) e.anode ((steps p).moves.shift.stays e.anode (facts p).head) y),
    )

    -- a block that was taken is one of the file's then, and so is one that it had
    now_in : (y : ℕ) → 0 < occurrences y chain + occurrences y ys → 0 < occurrences y (blocks_of t e.anode)
    now_in y q = rw (longer p more).0 (omega (arith, q, occurrences-append y chain ys))

    taken_inside : (y : ℕ) → 0 < occurrences y ys → y * 512 + 512 ≤ length img
    taken_inside y q = rw (← disk_long (image p) (table p)) (file_data p y (now_in y (omega (arith, q)))).inside

    -- a block that was taken is zeroed
    taken-zero : (y : ℕ) → 0 < occurrences y ys → block_of j y ≡ zero_block
    unfolding resized_image zero_taken
    taken-zero y q =
        (size_kept p).block_kept y (λ i. omega (arith, rw i at (now_in y (omega (arith, q))), home_apart p))
        ∙ (tail-kept p).block_kept y (λ m. omega (arith, once y, q))
        ∙ rw big (block_of-with_blocks (with_table img u) ys zero_block y (length-replicate {A = ℕ} 512 0) q
        (rw (stored p).length-kept (taken_inside y q)))

    -- the others keep their bytes, up to the clearing of the last one's end
    before-tail : (y : ℕ) → 0 < occurrences y chain → block_of (zeroed p) y ≡ block_of img y
    before-tail y q =
        (taken-kept p).block_kept y (λ m. omega (arith, once y, q)) ∙ (stored p).block_kept y (file_data p y (now_in y (omega (arith, q))))

    zeros : gather (block_of j) ys ≡ replicate (length ys * 512) 0
    zeros = gather_zeros (block_of j) ys taken-zero

    -- the size ends within the last block: it is cleared from there on
    module _ (odd : e.size % 512 ≢ 0) where
      abbrev full : ℕ
      full = e.size / 512

      abbrev front : List ℕ
      front = take full chain

      chain_long : length chain ≡ full + 1
      unfolding blocks_for
      chain_long = omega (arith, length-blocks_of s e.anode, (facts p).sized p.plan.file)

      parted : chain ≡ front ++ (old_last p ∷ [])
      parted = split_at chain full 0 (omega (arith, chain_long)) ∙ ap (λ (l : List ℕ). front ++ (old_last p ∷ l)) (drop_of_length-le chain {i = suc full} (omega (arith, chain_long)))

      last_in : 0 < occurrences (old_last p) chain
      last_in = member-occurrences (old_last p) chain (tail_in p odd)

      in_front : (y : ℕ) → 0 < occurrences y front → (0 < occurrences y chain) × (y ≢ old_last p)
      in_front y q =
          let all : occurrences y chain ≡ occurrences y front + occurrences y (old_last p ∷ []) = ap (occurrences y) parted ∙ occurrences-append y front (old_last p ∷ []) in (
            omega (arith, q, all),
            λ i. omega (arith, q, all, occurrences-cons y (old_last p) [], one_at-same (old_last p) y (sym i), once y),
          )

      stored-tail : zero_tail (zeroed p) s e new ≡ in_block (zeroed p) (old_last p) (tail_cleared p)
      unfolding zero_tail
      stored-tail = rw (big, ne_eqb (e.size % 512) 0 odd)

      front-left : (y : ℕ) → 0 < occurrences y front → block_of j y ≡ block_of img y
      unfolding resized_image
      front-left y q =
          let i = in_front y q in
          (size_kept p).block_kept y (off_home y i.0) ∙ rw stored-tail ((in_block-kept (zeroed p) (old_last p) (tail_cleared p) (tail_long p)).block_kept y i.1) ∙ before-tail y i.0

      last-left : block_of j (old_last p) ≡ take (e.size % 512) (block_of img (old_last p)) ++ replicate (512 - e.size % 512) 0
      unfolding resized_image
      last-left =
          (size_kept p).block_kept (old_last p) (off_home (old_last p) last_in) ∙ rw stored-tail (block_of-in_block (zeroed p) (old_last p) (tail_cleared p) (tail_long p)) ∙ ap (tail_cleared p) (before-tail (old_last p) last_in)
          ∙ cleared-rest (block_of img (old_last p)) (e.size % 512) (512 - e.size % 512) (omega (arith, length-block_of img (old_last p) (inside (old_last p) last_in)))

      odd-contents : contents img s e ≡ gather (block_of img) front ++ take (e.size % 512) (block_of img (old_last p))
      unfolding contents bytes_of gather
      odd-contents =
          let front_long : length (gather (block_of img) front) ≡ full * 512 =
          length-gather img front (λ y q. inside y (in_front y q).0) ∙ ap (λ (n : ℕ). n * 512) (length-take-le full chain (omega (arith, chain_long))) in
          let size_is : e.size ≡ length (gather (block_of img) front) + e.size % 512 = omega (arith, front_long) in
          ap (λ (l : List ℕ). take e.size (gather (block_of img) l)) parted ∙ ap (take e.size) (gather_append (block_of img) front (old_last p ∷ []))
          ∙ ap (λ (n : ℕ). take n (gather (block_of img) front ++ (block_of img (old_last p) ++ []))) size_is
          ∙ take-append-add (gather (block_of img) front) (block_of img (old_last p) ++ []) (e.size % 512)
          ∙ ap (λ (l : List ℕ). gather (block_of img) front ++ take (e.size % 512) l) (append-nil (block_of img (old_last p)))

      odd-bytes : gather (block_of j) chain ≡ contents img s e ++ replicate (512 - e.size % 512) 0
      unfolding gather
      odd-bytes =
          let part = take (e.size % 512) (block_of img (old_last p)) in
          ap (gather (block_of j)) parted ∙ gather_append (block_of j) front (old_last p ∷ [])
          ∙ ap₂ ◌++◌ (gather-kept (block_of img) (block_of j) front front-left) (append-nil (block_of j (old_last p)) ∙ last-left)
          ∙ sym (append_assoc (gather (block_of img) front) part (replicate (512 - e.size % 512) 0))
          ∙ ap (λ (l : List ℕ). l ++ replicate (512 - e.size % 512) 0) (sym odd-contents)

    even_left : e.size % 512 ≡ 0 → (y : ℕ) → 0 < occurrences y chain → block_of j y ≡ block_of img y
    unfolding resized_image zero_tail
    even_left even y q = (size_kept p).block_kept y (off_home y q) ∙ rw (big, even) (before-tail y q)

    old-bytes : gather (block_of j) chain ≡ contents img s e ++ replicate (blocks_for e.size * 512 - e.size) 0
    unfolding contents bytes_of blocks_for
    old-bytes = elim (same? (e.size % 512) 0) [
      | inr odd ↦ (let pad : 512 - e.size % 512 ≡ (e.size + 511) / 512 * 512 - e.size = omega arith in rw (← pad) (odd-bytes odd))
      | inl even ↦ (let none : (e.size + 511) / 512 * 512 - e.size ≡ 0 = omega arith in
          gather-kept (block_of img) (block_of j) chain (even_left even)
          ∙ sym (take_all e.size (gather (block_of img) chain) (omega (arith, bytes_long p.entry p.plan.file)))
          ∙ sym (append-nil (take e.size (gather (block_of img) chain))) ∙ ap (λ (n : ℕ). take e.size (gather (block_of img) chain) ++ replicate n 0) (sym none))
    ]

    -- a file that grows has its bytes, and zeros behind them, up to the end of its blocks
    pub bytes-grown : bytes_of j t e.anode ≡ contents img s e ++ replicate (blocks_for new * 512 - e.size) 0
    unfolding bytes_of blocks_for
    bytes-grown =
        let a = blocks_for e.size * 512 - e.size in
        let b = length ys * 512 in
        let c = contents img s e in
        let all : a + b ≡ blocks_for new * 512 - e.size = omega (arith, (longer p more).1, (facts p).sized p.plan.file) in
        ap (gather (block_of j)) (longer p more).0 ∙ gather_append (block_of j) chain ys ∙ ap₂ ◌++◌ old-bytes zeros ∙ append_assoc c (replicate a 0) (replicate b 0)
        ∙ ap (λ (l : List ℕ). c ++ l) (replicate-append-replicate {A = ℕ} a b 0) ∙ ap (λ (n : ℕ). c ++ replicate n 0) all

    -- and as contents those up to the new size
    pub contents-grown : contents j t (sized new e) ≡ contents img s e ++ replicate (new - e.size) 0
    unfolding contents blocks_for
    contents-grown =
        let c = contents img s e in
        let rest = blocks_for new * 512 - e.size in
        let up_to : new ≡ length c + (new - e.size) = omega (arith, file_long p.entry p.plan.file) in
        ap (take new) bytes-grown ∙ ap (λ (n : ℕ). take n (c ++ replicate rest 0)) up_to ∙ take-append-add c (replicate rest 0) (new - e.size)
        ∙ ap (λ (l : List ℕ). c ++ l) (take_zeros (new - e.size) rest (omega arith))
