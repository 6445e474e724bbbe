-- The own steps of a safe make in an accepted image take as many blocks as were counted, and leave the directory block alone that has room.
use Rattle.std.specs.Prelude.{ℕ, ◌+◌, ◌*◌, ◌/◌, ◌%◌, ◌≤◌, ◌<◌, ◌≢◌, ◌⊎◌, Bool, cond, length}
use Rattle.std.proofs.Math.Path.{◌≡◌, refl, ap}
use Rattle.std.proofs.Common.{sym, ◌∙◌, arith, length-append}
use Rattle.std.proofs.Math.Logic.{inl, inr}
use Rattle.std.proofs.Math.Bool.{true, false}
use mathlib.Core.List.{List, [], ◌∷◌, ◌++◌}
use Rattle.std.proofs.Math.Option.{Option, none, some}
use Rattle.disk.specs.Blocks.{block_of}
use Rattle.disk.proofs.Laws.{length-block_of}
use Rattle.disk.specs.Root.{slot_of}
use Rattle.directory.proofs.Laws.{length-put_entry}
use Rattle.rules.specs.Anodes.{limit, exists_by, anodes_of}
use Rattle.rules.specs.Chains.{chain_of, run, system_owns, blocks_of}
use Rattle.rules.specs.Walk.{reached_dirs}
use Rattle.rules.specs.Accepted.{disk_size, last_reserved}
use Rattle.rules.specs.Plans.{Slotted, Plan, refused, planned, ◌and_then◌, at_slots, no_growth, table_of}
use Rattle.rules.specs.Space.{lowest_free, need_anode, with_spare}
use Rattle.rules.specs.Space as Space
use Rattle.laws.specs.Sums.{least_cases}
use Rattle.rules.specs.Changes.{NewEntry, entry_of, no_room, room_for, parent_of, needed_block, head_made}
use Rattle.rules.specs.Format.{new_directory_block}
use Rattle.laws.specs.NewDirectory.{length-new}
use Rattle.change_laws.specs.SingleBlocks.{single_data}
use Rattle.laws.specs.Heads.{Head}
use Rattle.laws.specs.Space.{Good, FreeAnode, free_is}
use Rattle.laws.specs.Owners.{self_headed}
use Rattle.laws.specs.Members.{Member, no_member, member-cons, member-gather, occurrences-member}
use Rattle.laws.specs.Plans.{refused≢planned, refused_same, after_none, then_planned, then_stop, afresh_fixed}
use Rattle.laws.specs.Arriving.{need_cases}
use Rattle.laws.specs.Moves.{none_grows}
use Rattle.laws.specs.Take.{StartOwned, take-moved}
use Rattle.laws.specs.FixedSlots.{start_owned, take_slots, needed_slots}
use Rattle.laws.specs.RefusedSteps.{take_refused, take-27_exactly}
use Rattle.change_laws.specs.Image.{AcceptedWhole, head_in, accepted_whole, ReachedDir}
use Rattle.change_laws.specs.Reached.{dir_block, reached_head, reached-not-1}
use Rattle.change_laws.specs.NewEntry.{room-found}
use Rattle.safe_rules.specs.SafePlans.{make_steps, entry_block, room_block, make_in, make_change}
use Rattle.safe_laws.specs.Taking.{Elsewhere, Took, TakesBlocks, took_none, takes_less, takes_from, takes_then, takes_planned, takes_is, moved_took}
use Rattle.safe_laws.specs.AllTaken.{OwnSteps}
use Rattle.safe_laws.specs.OwnChanges.{took_headed, headed_head}

-- ---- a directory takes a block where it needs one

module _ {n last : ℕ} (s : Slotted) (system hd sd : ℕ → ℕ) (start : StartOwned system) (g : Good limit (exists_by s.slots) n last s.anodes system hd sd) (h : ℕ) (h1 : h ≢ 1) (d : Head s.anodes.next s.anodes.block h) where
  takes_needed : (needed : Bool) → TakesBlocks n last s system hd (Elsewhere s.anodes hd h) (needed_block no_growth needed h s) (cond needed 1 0)
  unfolding needed_block
  takes_needed true = record {
    done = λ t ys e. let (gs, w, l) = take-moved (none_grows limit n last) start g h d h1 true t ys e in (moved_took s system hd sd start g h h1 d t ys gs w (take_slots limit true h s t ys e), l);
    stops = λ j e enough. elim (take_refused limit no_growth true h j s e) [ inl q ↦ absurd (omega (arith, enough, (take-27_exactly g no_growth s.slots true h).0 (rw q at e))) | inr q ↦ q ];
  }
  takes_needed false = takes_planned (took_none g)

-- ---- an anode to be had, without growth

module _ (s : Slotted) where
  abbrev f : ℕ
  f = lowest_free limit (exists_by s.slots) s.anodes

  -- the lowest free anode is to be had, or none is
  pub spare_cases : ((with_spare limit no_growth s ≡ planned s []) × (lowest_free limit (exists_by s.slots) s.anodes < limit) × FreeAnode (exists_by s.slots) s.anodes (lowest_free limit (exists_by s.slots) s.anodes))
      ⊎ (with_spare limit no_growth s ≡ refused 28)
  unfolding with_spare at_slots
  spare_cases =
      let e = afresh_fixed (need_anode limit) s in
      elim (need_cases limit (exists_by s.slots) s.anodes) [ inl (l, u, q) ↦ inl (e ∙ rw q, l, u) | inr (q, stuck) ↦ inr (e ∙ rw q) ]

-- a plan behind no step
then_none : {X Y : Type 0} (s : X) (f : X → Plan Y) → planned s [] and_then f ≡ f s
unfolding ◌and_then◌
then_none s f = after_none (f s)

-- ---- the steps

-- what stays alone: where room was found, the anodes of other chains than the new one's
abbrev pub MakeLeft : List ℕ → ℕ → Option ℕ → ℕ → Type 0
MakeLeft img f none a = ⊥
MakeLeft img f (some start) a = Elsewhere (anodes_of img) (head_in img) f a

module _ {img : List ℕ} {h : ℕ} (r : ReachedDir img h) where
  abbrev s : Slotted
  s = table_of img

  w : AcceptedWhole img
  w = accepted_whole r.image

  abbrev n : ℕ
  n = disk_size img

  abbrev last : ℕ
  last = last_reserved img

  home : head_in img h ≡ h
  home = w.good.heads.at_head h (reached_head r)

  -- the new head f, free before
  module _ (f : ℕ) (low : f < limit) (free : FreeAnode (exists_by s.slots) s.anodes f) where
    abbrev made : Slotted
    made = head_made s f

    m : Took n last s (system_owns img) (head_in img) (λ a. s.anodes.block a ≢ 0) [] made
    m = took_headed s (system_owns img) (head_in img) _ w.good f low free

    start : StartOwned m.system'
    start x l = omega (arith, start_owned (slot_of img) x l, m.more x)

    f1 : f ≢ 1
    f1 e = omega (arith, e, free.from_6)

    -- an anode elsewhere stays there
    still : (a : ℕ) → Elsewhere (anodes_of img) (head_in img) f a → Elsewhere made.anodes m.hd' f a
    still a l = let p = m.alone a l.0 in (λ i. l.0 (sym p.0.same_block ∙ i), λ i. l.1 (sym p.1 ∙ i), λ i. l.2 (sym p.1 ∙ i))

    -- the parent is
    parent_away : Elsewhere (anodes_of img) (head_in img) f h
    parent_away = ((reached_head r).in_use, λ i. reached-not-1 r (sym home ∙ i), λ i. (reached_head r).in_use (ap (anodes_of img).block (sym home ∙ i) ∙ free.unused))

    -- the new directory's block
    takes_own : (dir : Bool) → TakesBlocks n last s (system_owns img) (head_in img) (Elsewhere (anodes_of img) (head_in img) f) (needed_block no_growth dir f made) (cond dir 1 0)
    takes_own dir = takes_from (λ a l. l.0) m (takes_less still (takes_needed made m.system' m.hd' m.sd' start m.good f f1 (headed_head s (system_owns img) (head_in img) _ w.good f low free) dir))

    -- then the parent's
    takes_parent : (room : Option ℕ) (q : Slotted) (ys : List ℕ) → (v : Took n last s (system_owns img) (head_in img) (Elsewhere (anodes_of img) (head_in img) f) ys q) →
        TakesBlocks n last q v.system' v.hd' (MakeLeft img f room) (needed_block no_growth (no_room room) h q) (cond (no_room room) 1 0)
    unfolding needed_block
    takes_parent none q ys v =
        let p = v.alone h parent_away in
        takes_less (λ a l. absurd l) (takes_needed q v.system' v.hd' v.sd' (λ x l. omega (arith, start_owned (slot_of img) x l, v.more x)) v.good h (reached-not-1 r) (self_headed v.good h (reached_head r).pos (p.1 ∙ home)) true)
    takes_parent (some at) q ys v = takes_planned (took_none v.good)

    less_left : (room : Option ℕ) (a : ℕ) → MakeLeft img f room a → Elsewhere (anodes_of img) (head_in img) f a
    less_left none a l = absurd l
    less_left (some at) a l = l

    -- both
    takes_both : (dir : Bool) (room : Option ℕ) → TakesBlocks n last s (system_owns img) (head_in img) (MakeLeft img f room) (needed_block no_growth dir f made and_then needed_block no_growth (no_room room) h) (cond dir 1 0 + cond (no_room room) 1 0)
    takes_both dir room = takes_then (needed_block no_growth dir f made) (needed_block no_growth (no_room room) h) (less_left room) (takes_own dir) (λ q ys e v. takes_parent room q ys v)

    both_slots : (dir : Bool) (room : Option ℕ) (t : Slotted) (ys : List ℕ) → needed_block no_growth dir f made and_then needed_block no_growth (no_room room) h ≡ planned t ys → t.slots ≡ slot_of img
    both_slots dir room t ys e =
        let (q, xs, us, i, k, z) = then_planned (needed_block no_growth dir f made) (needed_block no_growth (no_room room) h) t ys e in
        needed_slots (no_room room) h q t us k ∙ needed_slots dir f made q xs i

  -- ---- the room that was found

  module _ (new : NewEntry) where
    abbrev f₀ : ℕ
    f₀ = lowest_free limit (exists_by s.slots) s.anodes

    -- the parent's head is in use, so it is not the lowest free anode
    parent_off : h ≢ f₀
    unfolding lowest_free
    parent_off e = elim (least_cases (Space.free (exists_by s.slots) s.anodes) limit) [
      | inl c ↦ (reached_head r).in_use (ap (anodes_of img).block e ∙ (free_is (exists_by s.slots) s.anodes f₀ c.1).unused)
      | inr c ↦ omega (arith, e, c.0, w.good.linked.view.below h (reached_head r).in_use)
    ]

    room_changes : (room : Option ℕ) → room_for img (anodes_of img) h new ≡ room →
        (room_block room ≡ []) ⊎ ((a : ℕ) × (room_block room ≡ (anodes_of img).block a ∷ []) × ((anodes_of img).count a ≡ 1) × (head_in img a ≢ 1) × MakeLeft img f₀ room a)
    unfolding room_for blocks_of run
    room_changes none e = inl refl
    room_changes (some at) e =
        let (y, p, is, fits) = room-found img _ (blocks_of (anodes_of img) h) at e in
        let (a, on, in_run) = member-gather (λ a. run ((anodes_of img).block a) ((anodes_of img).count a)) (chain_of (anodes_of img).next limit h) y (occurrences-member y (blocks_of (anodes_of img) h) p) in
        let b = dir_block r a on in
        let only : Member y ((anodes_of img).block a ∷ []) = rw b.one at in_run in
        let same : y ≡ (anodes_of img).block a = elim (member-cons y ((anodes_of img).block a) [] only) [ inl q ↦ q | inr q ↦ absurd (no_member y q) ] in
        let part : at / 512 ≡ y = omega (arith, is, fits) in
        let away : head_in img a ≢ 1 = λ i. reached-not-1 r (sym b.on_chain_lem ∙ i) in
        inr (a, ap (λ (x : ℕ). x ∷ []) (part ∙ same), b.one, away, (b.in_use, away, λ i. parent_off (sym b.on_chain_lem ∙ i)))

    -- the block that has the entry is a whole one
    pub entry_whole : (room : Option ℕ) → room_for img (anodes_of img) h new ≡ room → length (entry_block img (anodes_of img) h new (lowest_free limit (exists_by (slot_of img)) (anodes_of img)) room) ≡ 512
    unfolding block_of
    entry_whole none e = length-put_entry (new_directory_block h (parent_of (reached_dirs img (anodes_of img)) h)) 16 (entry_of new f₀) new.name new.comment ∙ length-new h (parent_of (reached_dirs img (anodes_of img)) h)
    entry_whole (some at) e = length-put_entry (block_of img (at / 512)) (at % 512) (entry_of new f₀) new.name new.comment ∙ elim (room_changes (some at) e) [
      | inl q ↦ absurd (let z : ◌≡◌ {A = ℕ} 0 1 = cc in omega arith)
      | inr (a, q, one, away, l) ↦ (let y : at / 512 ≡ (anodes_of img).block a = cc in rw y (length-block_of img ((anodes_of img).block a) (single_data img w.good a one).inside))
    ]

    make_long : (room : Option ℕ) → room_for img (anodes_of img) h new ≡ room → (dir : Bool) → (cond dir 1 0 + cond (no_room room) 1 0 + length (room_block room)) * 512 ≤ length (cond dir (new_directory_block f₀ h) [] ++ entry_block img (anodes_of img) h new f₀ room)
    make_long room e dir = omega (arith, length-append (cond dir (new_directory_block f₀ h) []) (entry_block img (anodes_of img) h new f₀ room), entry_whole room e, one_block room, own_block dir)
      where
        one_block : (o : Option ℕ) → cond (no_room o) 1 0 + length (room_block o) ≡ 1
        one_block none = refl
        one_block (some at) = refl

        own_block : (d : Bool) → length (cond d (new_directory_block f₀ h) []) ≡ cond d 1 0 * 512
        own_block true = length-new f₀ h
        own_block false = refl

    -- Make, where an anode is free
    make_spared : (room : Option ℕ) → room_for img (anodes_of img) h new ≡ room → with_spare limit no_growth s ≡ planned s [] → f₀ < limit → FreeAnode (exists_by s.slots) s.anodes f₀ → OwnSteps img (MakeLeft img f₀ room) (make_in img s h new f₀ room)
    unfolding make_in make_steps
    make_spared room e spare low free =
        let both : Slotted → Plan Slotted = λ q. needed_block no_growth new.dir f₀ (head_made q f₀) and_then needed_block no_growth (no_room room) h in
        let is : with_spare limit no_growth s and_then both ≡ both s = ap (λ (p : Plan Slotted). p and_then both) spare ∙ then_none s both in
        record {
          takes = takes_is is refl (takes_both f₀ low free new.dir room);
          slots_stay = λ t ys q. both_slots f₀ low free new.dir room t ys (sym is ∙ q);
          bytes_long = make_long room e new.dir;
          changes = room_changes room e;
        }

    -- and where none is: 28
    make_stuck : (room : Option ℕ) → room_for img (anodes_of img) h new ≡ room → with_spare limit no_growth s ≡ refused 28 → OwnSteps img (MakeLeft img f₀ room) (make_in img s h new f₀ room)
    unfolding make_in make_steps
    make_stuck room e stuck =
        let is = then_stop (with_spare limit no_growth s) (λ q. needed_block no_growth new.dir f₀ (head_made q f₀) and_then needed_block no_growth (no_room room) h) 28 stuck in
        record {
          takes = record { done = λ t ys q. absurd (refused≢planned 28 t ys (sym is ∙ q)); stops = λ j q enough. refused_same {X = Slotted} j 28 (sym q ∙ is) };
          slots_stay = λ t ys q. absurd (refused≢planned 28 t ys (sym is ∙ q));
          bytes_long = make_long room e new.dir;
          changes = room_changes room e;
        }

    -- Make
    pub make_own : OwnSteps img (MakeLeft img (lowest_free limit (exists_by (slot_of img)) (anodes_of img)) (room_for img (anodes_of img) h new)) (make_change img (table_of img) h new)
    unfolding make_change
    make_own = elim (spare_cases s) [ inl (spare, low, free) ↦ make_spared (room_for img (anodes_of img) h new) refl spare low free | inr stuck ↦ make_stuck (room_for img (anodes_of img) h new) refl stuck ]
