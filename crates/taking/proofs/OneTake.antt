-- What a take meets in a good state: where its anodes are, that its sums fit, and what it leaves to the next.
use Prim.Native.Nat.{ℕ, ◌<◌}
use mathlib.Core.Path.{◌≡◌, refl, sym, ap, ◌∙◌}
use mathlib.Core.Logic.{◌≢◌}
use mathlib.Core.Bool.{Bool}
use mathlib.Core.List.{List}
use mathlib.Core.Option.{Option, none, some}
use native.Mathlib.Omega.{arith}
use Rattle.std.specs.Prelude.{Result, Ok, Err}
use Rattle.disk.specs.declared.BlockNo.{BlockNo}
use Rattle.disk.specs.declared.Refusal.{Refusal}
use Rattle.disk.specs.Refusals.{number_of}
use Rattle.rules.specs.Counting.{occurrences, last_of}
use Rattle.rules.specs.Anodes.{Anodes, limit, exists_by}
use Rattle.rules.specs.Chains.{chain_of, cut, run, side}
use Rattle.rules.specs.Plans.{Slotted, slotted, Plan, refused, planned, at_slots, Growth, regrown}
use Rattle.rules.specs.Space.{found, rewritten, unlinked, without_run, without_first, free_extent, chain_end, put, put_to, take_from, take_block}
use Rattle.laws.specs.Sums.{changed_other}
use Rattle.laws.specs.Segments.{Chain, seg_keep}
use Rattle.laws.specs.Links.{the_chain, chain_the}
use Rattle.laws.specs.LinkChanges.{first, second, third}
use Rattle.laws.specs.Heads.{Head}
use Rattle.laws.specs.Cut.{cut_other, cut-linked}
use Rattle.laws.specs.Ownership.{handed}
use Rattle.laws.specs.Space.{Good, on_chain_lem}
use Rattle.laws.specs.Sides.{SideHead}
use Rattle.laws.specs.Searches.{FoundIn}
use Rattle.laws.specs.Owners.{full_used, full_inside, last_head, last_used}
use Rattle.laws.specs.Moves.{RunOut, with_these}
use Rattle.laws.specs.Leaving.{without_run_cases}
use Rattle.laws.specs.Plans.{refused_same, slots_refused, afresh-done, afresh_again}
use Rattle.laws.specs.FreeExtent.{extent-found, take_found}
use Rattle.laws.specs.Frame.{shift_chain}
use Rattle.laws.specs.Take.{Takes, free_head, without_first-out, end_in, take_steps, takes_moved}
use Rattle.laws.specs.Carried.{shrunk_extent, kept-extent, end_after, put-end}
use Rattle.laws.specs.RefusedSteps.{put-28}
use Rattle.placing.specs.Steps.{step_plan, UnlessMoved}
use Rattle.placing.specs.States.{Ready}
use Rattle.placing.proofs.Found.{extent-at, left_so}
use Rattle.growing.specs.Grown.{growth_if}
use Rattle.growing.proofs.States.{growth-if_grows, grown_shift, grown-end}
use Rattle.taking.specs.Turns.{PutReady}

-- ---- the chain of a head other than 1

module _ {A : ℕ} {ex : ℕ → Bool} {n last : ℕ} {s : Anodes} {system hd sd : ℕ → ℕ} (g : Good A ex n last s system hd sd) (h : ℕ) (d : Head s.next s.block h) (h1 : h ≢ 1) where
  -- it does not come to 2
  cut-chain : chain_of (cut s.next) A h ≡ chain_of s.next A h
  cut-chain = chain_the (cut-linked g.linked) h (chain_of s.next A h) (λ z. d.in_use)
      (seg_keep s.next (cut s.next) h 0 (chain_of s.next A h) (λ x p. cut_other s.next x (λ e. h1 (sym (on x p) ∙ sym (g.heads.along x (λ z. omega (arith, e, z))) ∙ ap hd e ∙ g.two_on))) chain)
    where
      chain : Chain s.next h (chain_of s.next A h)
      chain = the_chain g.linked h (λ z. d.in_use)

      on : (x : ℕ) → 0 < occurrences x (chain_of s.next A h) → hd x ≡ h
      on x p = (on_chain_lem g h d x p).0

-- a step on the chain of h
module _ {last : ℕ} {s : Slotted} {h : ℕ} (ready : Ready last s h) where
  -- the last anode of the chain, as the search before 2 finds it
  pub end-found : (z : ℕ) → z ≡ last_of h (chain_of (cut s.anodes.next) 3444 h) → z ≡ chain_end 3444 s.anodes h
  unfolding chain_end
  end-found z e = e ∙ ap (last_of h) (cut-chain ready.0.good h ready.1.0 ready.1.1)

  end_head : ready.0.hd (chain_end 3444 s.anodes h) ≡ h
  unfolding chain_end
  end_head = last_head ready.0.good h ready.1.0

  end_used : s.anodes.block (chain_end 3444 s.anodes h) ≢ 0
  unfolding chain_end
  end_used = last_used ready.0.good h ready.1.0

  -- a block may be put behind it
  pub end_ready : PutReady (chain_end 3444 s.anodes h) s
  end_ready = record {
    last = last;
    state = ready.0;
    used = end_used;
    apart = λ q. ready.1.1 (sym end_head ∙ q);
    below = ready.0.good.linked.view.below (chain_end 3444 s.anodes h) end_used;
  }

-- growth leaves the anode that a block is put behind
pub grown_used : (b : Bool) {z : ℕ} {s t : Slotted} (ready : PutReady z s) → growth_if b s ≡ some t → t.anodes.block z ≢ 0
grown_used b {z} ready e = rw ((grown_shift b ready.state e).apart z ready.used ready.apart ready.apart).same_block ready.used

-- ---- block y put behind z, on what growth leaves of s

module _ (growth : Growth) (dir : Bool) (z y : ℕ) (s : Slotted) where
  -- there is no growth
  pub puts_nowhere : growth s ≡ none → regrown (put 3444 dir z y) 28 (growth s) ≡ refused 28
  unfolding regrown
  puts_nowhere e = rw e

  -- it is the put at the slots that have grown
  pub puts_grown : (r : Slotted) → growth s ≡ some r → regrown (put 3444 dir z y) 28 (growth s) ≡ at_slots r.slots (put 3444 dir z y (exists_by r.slots) r.anodes)
  unfolding regrown
  puts_grown r e = rw e

  -- refused with 28 alone
  pub puts_28 : (k : ℕ) → regrown (put 3444 dir z y) 28 (growth s) ≡ refused k → k ≡ 28
  unfolding regrown
  puts_28 k e = go (growth s) e
    where
      go : (o : Option Slotted) → regrown (put 3444 dir z y) 28 o ≡ refused k → k ≡ 28
      go none q = refused_same {X = Slotted} k 28 (sym q)
      go (some r) q = ((put-28 3444 (exists_by r.slots) r.anodes dir z y k).0 (slots_refused r.slots (put 3444 dir z y (exists_by r.slots) r.anodes) k q)).0

-- ---- a take that is done

module _ (b : Bool) {last : ℕ} {s : Slotted} {h : ℕ} (ready : Ready last s h) (dir : Bool) (t : Slotted) (ys : List ℕ) (e : take_block 3444 (growth_if b) dir h s ≡ planned t ys) where
  steps : Takes limit ready.0.n last s ready.0.system ready.0.hd dir h t ys
  steps = take_steps (growth-if_grows b ready.0.n last) ready.0.start ready.0.good h dir t ys e

  -- the next may follow
  pub taken_ready : Ready last t h
  taken_ready =
      let w = takes_moved h ready.1.0 ready.1.1 steps in
      (record { n = ready.0.n; system = with_these ready.0.system steps.gs; hd = w.hd'; sd = w.sd'; small = ready.0.small; start = λ y l. omega (arith, ready.0.start y l); good = w.good }, (w.shift.stays h ready.1.0, ready.1.1))

  -- the chain ends in the anode behind its last one, if there is one now, else in the same
  pub taken-end : chain_end 3444 t.anodes h ≡ end_after t.anodes.next (chain_end 3444 s.anodes h)
  taken-end = put-end steps.out.good h (steps.out.shift.stays h ready.1.0) dir (s.anodes.block steps.x) steps.some t.anodes ys steps.puts ∙ ap (end_after t.anodes.next) same
    where
      same : chain_end 3444 steps.between.anodes h ≡ chain_end 3444 s.anodes h
      same = unfold chain_end in ap (last_of h) (shift_chain ready.0.good steps.out.good steps.out.shift h ready.1.0 ready.1.1 ready.1.1)

-- ---- a take by what it finds: the extent x after p

module _ {last : ℕ} {s : Slotted} {h : ℕ} (ready : Ready last s h) (dir : Bool) (p x : ℕ) (e : free_extent 3444 dir s.anodes ≡ found p x) where
  abbrev y : ℕ
  y = s.anodes.block x

  -- the state with its first block in hand
  abbrev rest : Slotted
  rest = slotted (without_first s.anodes p x) s.slots

  side-found : (m : ℕ) × SideHead m × FoundIn s.anodes.count (cut s.anodes.next) m (side 3444 s.anodes m) 0 p x
  side-found = extent-found 3444 dir s.anodes ready.0.good p x e

  -- it is not the chain's last anode
  pub end_apart : chain_end 3444 s.anodes h ≢ x
  end_apart q = ready.1.1 (sym (end_head ready) ∙ ap ready.0.hd q ∙ free_head ready.0.good side-found.0 side-found.1 p x side-found.2)

  out : RunOut limit (exists_by s.slots) ready.0.n last s.anodes ready.0.system ready.0.hd 1 1 (s.anodes.block x) (without_first s.anodes p x)
  out = without_first-out ready.0.good side-found.0 side-found.1 p x side-found.2

  -- without the block the chain is the same
  rest_ready : Ready last rest h
  rest_ready = (record { n = ready.0.n; system = handed ready.0.system 1 y; hd = out.hd'; sd = out.sd'; small = ready.0.small; start = λ z l. omega (arith, ready.0.start z l); good = out.good }, (out.shift.stays h ready.1.0, ready.1.1))

  same_end : chain_end 3444 rest.anodes h ≡ chain_end 3444 s.anodes h
  unfolding chain_end
  same_end = ap (last_of h) (shift_chain ready.0.good out.good out.shift h ready.1.0 ready.1.1 ready.1.1)

  -- and the block may be put behind it
  pub rest_puts : PutReady (chain_end 3444 s.anodes h) rest
  rest_puts = rw same_end at (end_ready rest_ready)

  module _ (b : Bool) where
    -- the put, afresh behind the end of the chain then
    abbrev putting : (ℕ → Bool) → Anodes → Plan Anodes
    putting ex t = put 3444 dir (chain_end 3444 t h) y ex t

    -- the put at these slots is done: so is the take
    pub taken : (t : Anodes) (ys : List ℕ) → put 3444 dir (chain_end 3444 s.anodes h) y (exists_by s.slots) rest.anodes ≡ planned t ys → take_block 3444 (growth_if b) dir h s ≡ planned (slotted t s.slots) ys
    unfolding take_from put_to
    taken t ys q = take_found 3444 (growth_if b) dir h s p x e ∙ afresh-done (growth_if b) putting rest t ys (rw same_end q)

    -- on what growth leaves the chain still ends there
    put_again : (o : Option Slotted) → growth_if b rest ≡ o → regrown putting 28 o ≡ regrown (put 3444 dir (chain_end 3444 s.anodes h) y) 28 o
    unfolding regrown
    put_again none q = refl
    put_again (some r) q = rw (grown-end b rest_ready q ∙ same_end)

    -- it is refused: the take is the put on what growth leaves
    pub taken_again : (k : ℕ) → put 3444 dir (chain_end 3444 s.anodes h) y (exists_by s.slots) rest.anodes ≡ refused k →
        take_block 3444 (growth_if b) dir h s ≡ regrown (put 3444 dir (chain_end 3444 s.anodes h) y) 28 (growth_if b rest)
    unfolding take_from put_to
    taken_again k q = take_found 3444 (growth_if b) dir h s p x e ∙ afresh_again (growth_if b) putting rest k (rw same_end q)
        ∙ ap (λ (i : ℕ). regrown putting i (growth_if b rest)) ((put-28 3444 (exists_by s.slots) rest.anodes dir (chain_end 3444 s.anodes h) y k).0 q).0 ∙ put_again (growth_if b rest) refl

  -- where the extent has another block, the next take finds it again
  pub taken-extent : (t : Anodes) (ys : List ℕ) → put 3444 dir (chain_end 3444 s.anodes h) y (exists_by s.slots) rest.anodes ≡ planned t ys → s.anodes.count x ≢ 1 → free_extent 3444 dir t ≡ found p x
  taken-extent t ys q more =
      let full = side-found.2.full in
      let w = (end_in ready.0.system y out.good (full_used ready.0.good x full) (omega (arith, full_inside ready.0.good x full, full)) h (out.shift.stays h ready.1.0) ready.1.1 dir t ys (rw same_end q)).0 in
      kept-extent out.good w.good h ready.1.1 w.shift dir ∙ shrunk_extent 3444 dir s.anodes p x full more ∙ e

-- ---- a take by the step that the code makes: the first block of x, after p, is put behind z at these slots

module _ {last : ℕ} {s : Slotted} {h : ℕ} (ready : Ready last s h) (dir : Bool) (p x : ℕ) (e : free_extent 3444 dir s.anodes ≡ found p x) (z : ℕ) (ends : z ≡ chain_end 3444 s.anodes h) where
  -- the anodes are in the tables, and the sums fit
  pub step_fits : (p < 3444) × (x < 3444) × (z < 3444) × (0 < s.anodes.count x) × (s.anodes.block x < 65535) × (z ≢ x) × (s.anodes.block z ≢ 0)
  step_fits =
      let w = extent-at ready.0 dir p x e in
      let k = end_ready ready in
      (w.0, w.1, rw ends k.below, w.2, w.3, λ q. end_apart ready dir p x e (sym ends ∙ q), rw ends k.used)

  module _ (step : Result BlockNo Refusal) (t : Anodes) (plan : step_plan step 1 t ≡ put 3444 dir z (s.anodes.block x) (exists_by s.slots) (without_first s.anodes p x)) where
    -- done, it is the take
    pub step_done : (w : BlockNo) → step ≡ Ok w → put 3444 dir (chain_end 3444 s.anodes h) (s.anodes.block x) (exists_by s.slots) (without_first s.anodes p x) ≡ planned t (run w.0 1)
    step_done w q = rw (← ends) (sym plan ∙ ap (λ (r : Result BlockNo Refusal). step_plan r 1 t) q)

    -- refused, it has left what has the block in hand
    module _ (unmoved : UnlessMoved step (without_first s.anodes p x) t) (why : Refusal) (q : step ≡ Err why) where
      same : t ≡ without_first s.anodes p x
      same = left_so step (without_first s.anodes p x) t unmoved why q

      -- where it may be put on what growth leaves
      pub step_ready : PutReady z (slotted t s.slots)
      step_ready = rw (ends, same) (rest_puts ready dir p x e)

      -- and so it is taken
      pub step_again : (b : Bool) (y : ℕ) → y ≡ s.anodes.block x → take_block 3444 (growth_if b) dir h s ≡ regrown (put 3444 dir z y) 28 (growth_if b (slotted t s.slots))
      step_again b y here = rw (here, ends, same) (taken_again ready dir p x e b (number_of why) (rw (← ends) (sym plan ∙ ap (λ (r : Result BlockNo Refusal). step_plan r 1 t) q)))

-- ---- the extent's first block out, in other tables

-- another anode keeps its block
pub other_block : (s : Anodes) (p x z b : ℕ) → z ≢ x → (without_run s 2 p x 1 b).block z ≡ s.block z
unfolding rewritten unlinked
other_block s p x z b n = elim (without_run_cases s 2 p x 1 b) [
  | first c ↦ rw c.1 (changed_other s.block x b z n)
  | second c ↦ rw c.2 (changed_other s.block x 65535 z n)
  | third c ↦ rw c.2 (changed_other s.block x 0 z n)
]
