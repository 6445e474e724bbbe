-- The own steps of each of the four safe changes of an accepted image take as many blocks as were counted, and leave the directory block that changes alone.
use Prim.Native.Nat.{ℕ, ◌+◌, ◌-◌, ◌*◌, ◌/◌, ◌%◌, ◌≤◌, ◌<◌}
use Rattle.std.specs.Prelude.{◌≡◌, ◌≢◌, ◌⊎◌, Bool, true, cond, eqb, length, replicate, ltb}
use Rattle.std.proofs.Math.Path.{refl, ap}
use Rattle.std.proofs.Common.{sym, ◌∙◌, arith, length-take, length-append}
use Rattle.std.proofs.Math.Logic.{inl, inr}
use Rattle.std.proofs.Math.Bool.{false}
use mathlib.Core.List.{List, [], ◌∷◌, ◌++◌}
use Rattle.disk.specs.Root.{slot_of}
use Rattle.rules.specs.Counting.{one_at, changed, occurrences}
use Rattle.rules.specs.Anodes.{limit, exists_by, anodes_of}
use Rattle.rules.specs.Chains.{system_owns, blocks_of, block_count}
use Rattle.endian.specs.Bytes.{put32, cleared}
use Rattle.endian.proofs.Laws.{length-put32, length-stored}
use Rattle.disk.specs.Blocks.{block_of}
use Rattle.rules.specs.Lookup.{bytes_of}
use Rattle.std.proofs.lemmas.List.{length-replicate}
use Rattle.laws.specs.ChainBlocks.{length-blocks_of}
use Rattle.frames.specs.DisjointBlocks.{occurrences-held}
use Rattle.frames.specs.StoredBytes.{length-gather}
use Rattle.change_laws.specs.Gap.{length-closed}
use Rattle.rules.specs.Walk.{Entered, blocks_for}
use Rattle.rules.specs.Accepted.{disk_size, last_reserved}
use Rattle.rules.specs.Plans.{Slotted, planned, table_of}
use Rattle.rules.specs.Space.{rewritten, on_chain, dropped}
use Rattle.rules.specs.Changes.{head_made}
use Rattle.laws.specs.Tests.{less?, not_above}
use Rattle.laws.specs.Sums.{changed-same, changed_other}
use Rattle.laws.specs.Bags.{occurrences-nil}
use Rattle.laws.specs.Ownership.{covers_none}
use Rattle.laws.specs.LinkChanges.{without}
use Rattle.laws.specs.Heads.{Head}
use Rattle.laws.specs.Blocks.{blocks, blocks_fresh}
use Rattle.laws.specs.Held.{held, held_fresh}
use Rattle.laws.specs.OwnerTable.{held_data}
use Rattle.laws.specs.Space.{Good, FreeAnode, head_good}
use Rattle.laws.specs.Owners.{self_headed}
use Rattle.laws.specs.Plans.{planned_same}
use Rattle.laws.specs.Take.{StartOwned}
use Rattle.laws.specs.FixedSlots.{start_owned, takes_slots}
use Rattle.change_laws.specs.Image.{AcceptedWhole, head_in, accepted_whole}
use Rattle.change_laws.specs.Reached.{EntryIn, EntryFacts, entry-facts, entry_data, block_entry, reached-not-1, not_itself}
use Rattle.safe_rules.specs.SafePlans.{chain_zeroed, taken_anew, resized_bytes, resize_change, write_change, remove_change}
use Rattle.safe_laws.specs.Cleared.{cleared-good, cleared_stays, cleared_alike, cleared_head, cleared-blocks, cleared-held}
use Rattle.safe_laws.specs.Taking.{Took, TakesBlocks, Elsewhere, takes_less, takes_from, takes_planned, takes_many}
use Rattle.safe_laws.specs.AllTaken.{OwnSteps}

-- ---- a head is made of a free anode

module _ {n last : ℕ} (s : Slotted) (system hd sd : ℕ → ℕ) (g : Good limit (exists_by s.slots) n last s.anodes system hd sd) (f : ℕ) (low : f < limit) (u : FreeAnode (exists_by s.slots) s.anodes f) where
  none-there : s.anodes.count f ≡ 0
  none-there = g.present.free-none f u.unused

  pub took_headed : Took n last s system hd (λ a. s.anodes.block a ≢ 0) [] (head_made s f)
  unfolding rewritten
  took_headed = record {
    system' = system;
    hd' = changed hd f f;
    sd' = changed sd f f;
    good = unfold rewritten in head_good g f 65535 low u (omega arith);
    more = λ x. omega arith;
    fewer = omega (arith, blocks_fresh limit hd s.anodes.count f f 0 low none-there 1);
    lost = λ x. omega (arith, occurrences-nil x, held_fresh limit hd s.anodes.count s.anodes.block f f 0 65535 low none-there 1 x, ap (λ (k : ℕ). one_at f 1 * k) (covers_none 65535 x));
    alone = λ a l. (
      record { same_count = changed_other s.anodes.count f 0 a (off a l); same_block = changed_other s.anodes.block f 65535 a (off a l); same_next = refl },
      changed_other hd f f a (off a l),
    );
  }
    where
      off : (a : ℕ) → s.anodes.block a ≢ 0 → a ≢ f
      off a l e = l (ap s.anodes.block e ∙ u.unused)

  -- and it heads a chain
  pub headed_head : Head (head_made s f).anodes.next (head_made s f).anodes.block f
  unfolding took_headed changed
  headed_head = self_headed took_headed.good f (λ z. omega (arith, z, u.from_6)) (changed-same hd f f)

  -- with no block more, the system's or its own
  pub headed_system : (x : ℕ) → took_headed.system' x ≡ system x
  unfolding took_headed
  headed_system x = refl

  pub headed-blocks : (m : ℕ) → blocks limit took_headed.hd' (head_made s f).anodes.count m ≡ blocks limit hd s.anodes.count m
  unfolding took_headed rewritten
  headed-blocks m = omega (arith, blocks_fresh limit hd s.anodes.count f f 0 low none-there m)

-- ---- a chain goes

module _ {n last : ℕ} (s : Slotted) (system hd sd : ℕ → ℕ) (g : Good limit (exists_by s.slots) n last s.anodes system hd sd) (h : ℕ) (h6 : 6 ≤ h) (d : Head s.anodes.next s.anodes.block h) where
  not-1 : 1 ≢ h
  not-1 e = omega (arith, e, h6)

  -- it is zeroed
  pub took_zeroed : Took n last s system hd (Elsewhere s.anodes hd h) [] (chain_zeroed s h)
  took_zeroed = record {
    system' = λ x. system x + held limit hd s.anodes.count s.anodes.block h x;
    hd' = without (on_chain limit s.anodes h) hd;
    sd' = without (on_chain limit s.anodes h) sd;
    good = cleared-good g h h6 d;
    more = λ x. omega arith;
    fewer = omega (arith, cleared-blocks g h h6 d 1 (omega arith) not-1);
    lost = λ x. omega (arith, occurrences-nil x, cleared-held g h h6 d 1 (omega arith) not-1 x);
    alone = λ a l. (cleared_alike g h h6 d a l.2, cleared_stays g h h6 d hd a l.2);
  }

  -- its blocks are the system's then
  pub zeroed_system : (x : ℕ) → took_zeroed.system' x ≡ system x + held limit hd s.anodes.count s.anodes.block h x
  unfolding took_zeroed
  zeroed_system x = refl

  -- its head is kept, emptied, and takes all its blocks anew
  pub takes_anew : StartOwned system → (k : ℕ) → TakesBlocks n last s system hd (Elsewhere s.anodes hd h) (taken_anew h k s) k
  unfolding taken_anew
  takes_anew start k =
      let z = took_zeroed in
      let low = g.linked.view.below h d.in_use in
      let free : FreeAnode (exists_by s.slots) (dropped limit s.anodes h) h = record { from_6 = h6; unused = cleared_head g h h6 d; there = g.present.exist h d.in_use } in
      let m = took_headed (chain_zeroed s h) z.system' z.hd' z.sd' z.good h low free in
      let d' = headed_head (chain_zeroed s h) z.system' z.hd' z.sd' z.good h low free in
      let used : (a : ℕ) → Elsewhere s.anodes hd h a → (chain_zeroed s h).anodes.block a ≢ 0 = λ a l. rw (z.alone a l).0.same_block l.0 in
      let there : (a : ℕ) → Elsewhere s.anodes hd h a → Elsewhere (head_made (chain_zeroed s h) h).anodes m.hd' h a = λ a l.
      let p = z.alone a l in let q = m.alone a (used a l) in (λ i. used a l (sym q.0.same_block ∙ i), λ i. l.1 (sym (q.1 ∙ p.1) ∙ i), λ i. l.2 (sym (q.1 ∙ p.1) ∙ i)) in
      takes_from (λ a l. l) z (takes_from used m (takes_less there
      (takes_many (head_made (chain_zeroed s h) h) m.system' m.hd' m.sd' (λ x q. omega (arith, start x q, z.more x, m.more x)) m.good h (λ e. not-1 (sym e)) d' false k)))

-- a resized file's bytes fill its blocks
pub length-resized : (bytes : List ℕ) (old new : ℕ) → length (resized_bytes bytes old new) ≡ blocks_for new * 512
unfolding resized_bytes
length-resized bytes old new =
    let front = cond (ltb old new) (cleared bytes old (length bytes - old)) bytes in
    omega (arith, length-take (blocks_for new * 512) (front ++ replicate (blocks_for new * 512) 0), length-append front (replicate (blocks_for new * 512) 0), length-replicate {A = ℕ} (blocks_for new * 512) 0)

-- ---- the changes of an entry

module _ {img : List ℕ} {k : ℕ} {e : Entered} (m : EntryIn img k e) where
  abbrev s : Slotted
  s = table_of img

  w : AcceptedWhole img
  w = accepted_whole m.directory.image

  abbrev facts : EntryFacts img k e
  facts = entry-facts m

  -- the entry's block is that of an anode of its directory, which is none of the file's
  abbrev Left : ℕ → Type 0
  Left = Elsewhere (anodes_of img) (head_in img) e.anode

  home_away : head_in img facts.a₀ ≢ 1
  home_away i = reached-not-1 m.directory (sym facts.block_facts.on_chain_lem ∙ i)

  pub home-left : Elsewhere (anodes_of img) (head_in img) e.anode (entry-facts m).a₀
  home-left = (facts.block_facts.in_use, home_away, λ i. not_itself m.directory facts (sym facts.block_facts.on_chain_lem ∙ i))

  -- the entry's directory block changes
  home_changes : (ys : List ℕ) → ys ≡ e.start / 512 ∷ [] → (a : ℕ) × (ys ≡ (anodes_of img).block a ∷ []) × ((anodes_of img).count a ≡ 1) × (head_in img a ≢ 1) × Left a
  home_changes ys q = (facts.a₀, q ∙ ap (λ (y : ℕ). y ∷ []) facts.in_block_lem, facts.block_facts.one, home_away, home-left)

  -- Remove
  pub remove_own : OwnSteps img (Elsewhere (anodes_of img) (head_in img) e.anode) (remove_change img (table_of img) e)
  unfolding remove_change
  remove_own = record {
    takes = takes_planned (took_zeroed s (system_owns img) (head_in img) _ w.good e.anode facts.from_6 facts.head);
    slots_stay = λ r ys q. ap (λ (t : Slotted). t.slots) (sym (planned_same (chain_zeroed s e.anode) r [] ys q).0);
    bytes_long = omega (arith, length-closed (block_entry facts));
    changes = inr (home_changes _ refl);
  }

  -- a file takes its blocks anew
  anew : (j : ℕ) → TakesBlocks (disk_size img) (last_reserved img) s (system_owns img) (head_in img) Left (taken_anew e.anode j s) j
  anew j = takes_anew s (system_owns img) (head_in img) _ w.good e.anode facts.from_6 facts.head (start_owned (slot_of img)) j

  anew_slots : (j : ℕ) (r : Slotted) (ys : List ℕ) → taken_anew e.anode j s ≡ planned r ys → r.slots ≡ slot_of img
  unfolding taken_anew
  anew_slots j r ys q = takes_slots limit false j e.anode (head_made (chain_zeroed s e.anode) e.anode) r ys q

  -- the bytes of its chain
  chain_long : length (bytes_of img (anodes_of img) e.anode) ≡ block_count (anodes_of img) e.anode * 512
  unfolding bytes_of
  chain_long = length-gather img (blocks_of (anodes_of img) e.anode) (λ y p. (entry_data m y p).inside) ∙ ap (λ (j : ℕ). j * 512) (length-blocks_of (anodes_of img) e.anode)

  -- its chain holds the blocks that stand there
  pub chain_holds : (x : ℕ) → occurrences x (blocks_of (anodes_of img) e.anode) ≡ held limit (head_in img) (anodes_of img).count (anodes_of img).block e.anode x
  chain_holds x = elim (less? x (disk_size img)) [
    | inl l ↦ occurrences-held w.good e.anode facts.head x l
    | inr l ↦ not_above (occurrences x (blocks_of (anodes_of img) e.anode)) (λ q. omega (arith, l, (entry_data m x q).below))
        ∙ sym (not_above (held limit (head_in img) (anodes_of img).count (anodes_of img).block e.anode x) (λ q. omega (arith, l, (held_data w.good e.anode x q).0)))
  ]

  -- Write
  pub write_own : (offset : ℕ) (bytes : List ℕ) → OwnSteps img (Elsewhere (anodes_of img) (head_in img) e.anode) (write_change img (table_of img) e offset bytes)
  unfolding write_change
  write_own offset bytes = record { takes = anew (block_count (anodes_of img) e.anode); slots_stay = anew_slots (block_count (anodes_of img) e.anode); bytes_long = omega (arith, length-stored (bytes_of img (anodes_of img) e.anode) offset bytes, chain_long); changes = inl refl }

  -- Resize
  pub resize_own : (new : ℕ) → OwnSteps img (Elsewhere (anodes_of img) (head_in img) e.anode) (resize_change img (table_of img) e new)
  unfolding resize_change
  resize_own new = record { takes = anew (blocks_for new); slots_stay = anew_slots (blocks_for new); bytes_long = long (eqb e.size new); changes = at_size (eqb e.size new) }
    where
      own_bytes : List ℕ
      own_bytes = resized_bytes (bytes_of img (anodes_of img) e.anode) e.size new

      long : (b : Bool) → (blocks_for new + length (cond b [] (e.start / 512 ∷ []))) * 512 ≤ length (own_bytes ++ cond b [] (put32 (block_of img (e.start / 512)) (e.start % 512 + 4) new))
      long true = omega (arith, length-append own_bytes [], length-resized (bytes_of img (anodes_of img) e.anode) e.size new)
      long false = omega (arith, length-append own_bytes (put32 (block_of img (e.start / 512)) (e.start % 512 + 4) new), length-resized (bytes_of img (anodes_of img) e.anode) e.size new, length-put32 (block_of img (e.start / 512)) (e.start % 512 + 4) new, (block_entry facts).whole)

      at_size : (b : Bool) → (cond b [] (e.start / 512 ∷ []) ≡ []) ⊎ ((a : ℕ) × (cond b [] (e.start / 512 ∷ []) ≡ (anodes_of img).block a ∷ []) × ((anodes_of img).count a ≡ 1) × (head_in img a ≢ 1) × Left a)
      at_size true = inl refl
      at_size false = inr (home_changes _ refl)
