-- A take that is done leaves a good state, and one block has gone from the free list to the taker's chain.
use Rattle.std.specs.Prelude.{ℕ, ◌+◌, ◌<◌, ◌≡◌, refl, ◌≢◌, Bool, List, length}
use Rattle.std.proofs.Common.{sym, ap, ◌∙◌}
use Rattle.std.proofs.Math.Logic.{inl, inr}
use native.Mathlib.Omega.{arith}
use Rattle.rules.specs.Anodes.{Anodes, exists_by}
use Rattle.rules.specs.Chains.{run, cut, side}
use Rattle.rules.specs.Plans.{Slotted, planned, Growth}
use Rattle.rules.specs.Space.{without_first, found, free_extent, chain_end, put, put_to, take_from, take_block}
use Rattle.laws.specs.Chains.{length_run}
use Rattle.laws.specs.Ownership.{handed}
use Rattle.laws.specs.Heads.{Head}
use Rattle.laws.specs.Cut.{cut_cases}
use Rattle.laws.specs.Space.{Good}
use Rattle.laws.specs.Owners.{full_used, full_inside, full-0, full-1, last_head, last_used, last-0}
use Rattle.laws.specs.Sides.{SideHead, head_of_1, side-free, side_sd}
use Rattle.laws.specs.Searches.{FoundIn}
use Rattle.laws.specs.Moves.{RunOut, RunIn, with_these, Grows, InHand, Moved, out_hand, afresh_hand, moved_by}
use Rattle.laws.specs.Leaving.{first-gone, without_run-out}
use Rattle.laws.specs.FreeExtent.{extent-found, take_cases}
use Rattle.laws.specs.Plans.{refused≢planned}
use Rattle.laws.specs.Arriving.{put_in}

module _ {A : ℕ} {ex : ℕ → Bool} {n last : ℕ} {s : Anodes} {system hd sd : ℕ → ℕ} (g : Good A ex n last s system hd sd) where
  -- ---- out of the free list

  module _ (m : ℕ) (o : SideHead m) (p x : ℕ) (f : FoundIn s.count (cut s.next) m (side A s m) 0 p x) where
    pub free_head : hd x ≡ 1
    free_head = side-free g m o x (full-0 g x f.full) (full_used g x f.full) (side_sd g m o x f.on)

    -- one that is not 2 stands after p
    pub free-after : x ≢ 2 → s.next p ≡ x
    free-after x2 = elim f.before [
      | inl c ↦ absurd (elim o [ inl e ↦ full-1 g x f.full (c.0 ∙ e) | inr e ↦ x2 (c.0 ∙ e) ])
      | inr c ↦ elim (cut_cases s.next p) [ inl d ↦ absurd (full-0 g x f.full (sym c ∙ d.1)) | inr d ↦ sym d.1 ∙ c ]
    ]

    pub without_first-out : RunOut A ex n last s system hd 1 1 (s.block x) (without_first s p x)
    unfolding without_first
    without_first-out = rw free_head at
        (without_run-out g x f.full 2 p 1 (s.block x + 1) (s.block x) f.full (omega arith) (omega arith, omega arith) (λ w. first-gone (s.count x) (s.block x) 1 w f.full) (λ e. refl) (λ e. (free-after e, e)))

-- ---- into the taker's chain

module _ {A : ℕ} {ex : ℕ → Bool} {n last : ℕ} {s : Anodes} (system : ℕ → ℕ) {hd sd : ℕ → ℕ} (y : ℕ) (g : Good A ex n last s (handed system 1 y) hd sd) (y0 : y ≢ 0) (yn : y < n)
    (h : ℕ) (d : Head s.next s.block h) (h1 : h ≢ 1) where
  abbrev end : ℕ
  end = chain_end A s h

  pub end_in : (dir : Bool) (t : Anodes) (ys : List ℕ) → put A dir (chain_end A s h) y ex s ≡ planned t ys → RunIn A ex n last s system hd h 1 y t × (ys ≡ run y 1)
  unfolding chain_end
  end_in dir t ys e = rw e_head at (put_in system y g y0 yn end (last-0 g h d) (last_used g h d) (λ q. absurd (not-1 (off 1 (inl refl) q))) (λ q. absurd (not-1 (off 2 (inr refl) q))) (λ q. not-1 (ap hd q ∙ head_of_1 g)) dir t ys e)
    where
      e_head : hd end ≡ h
      e_head = last_head g h d

      not-1 : hd end ≢ 1
      not-1 q = h1 (sym e_head ∙ q)

      off : (m : ℕ) → SideHead m → sd end ≡ m → hd end ≡ 1
      off m o = side-free g m o end (last-0 g h d) (last_used g h d)

-- ---- the whole

-- a take that is done: x after p is the first extent with a block on one of the two sides, its first block is in hand in the state `between`, and is put behind the last anode of the taker's chain
pub record Takes (A n last : ℕ) (s : Slotted) (system hd : ℕ → ℕ) (dir : Bool) (h : ℕ) (t : Slotted) (ys : List ℕ) : Type 0 where
  pub m : ℕ
  pub one_side : SideHead m
  pub p : ℕ
  pub x : ℕ
  pub first : free_extent A dir s.anodes ≡ found p x
  pub on : FoundIn s.anodes.count (cut s.anodes.next) m (side A s.anodes m) 0 p x
  pub some : s.anodes.block x ≢ 0
  pub inside : s.anodes.block x < n
  pub gs : List ℕ
  pub between : Slotted
  pub out : InHand A n last s system hd 1 1 (s.anodes.block x) gs between
  pub puts : put A dir (chain_end A between.anodes h) (s.anodes.block x) (exists_by between.slots) between.anodes ≡ planned t.anodes ys
  pub slots_are : t.slots ≡ between.slots

-- blocks 0 to 2 are among these
abbrev pub StartOwned : (ℕ → ℕ) → Type 0
StartOwned system = (x : ℕ) → x < 3 → 0 < system x

module _ {A n last : ℕ} {growth : Growth} (grows : Grows A n last growth) {s : Slotted} {system hd sd : ℕ → ℕ} (start : StartOwned system) (g : Good A (exists_by s.slots) n last s.anodes system hd sd) (h : ℕ) where
  -- a take that is done has made these steps
  pub take_steps : (dir : Bool) (t : Slotted) (ys : List ℕ) → take_block A growth dir h s ≡ planned t ys → Takes A n last s system hd dir h t ys
  unfolding take_from put_to
  take_steps dir t ys e = elim (take_cases A growth dir h s) [
    | inl c ↦ absurd (refused≢planned 27 t ys (sym c.1 ∙ e))
    | inr (p, x, q, i) ↦ (let (m, o, f) = extent-found A dir s.anodes g p x q in
        let y = s.anodes.block x in
        let (r, gs, out, puts, same) = afresh_hand grows start (out_hand (without_first-out g m o p x f)) (λ ex t. put A dir (chain_end A t h) y ex t) t ys (sym i ∙ e) in
        record {
          m = m;
          one_side = o;
          p = p;
          x = x;
          first = q;
          on = f;
          some = full_used g x f.full;
          inside = omega (arith, full_inside g x f.full, f.full);
          gs = gs;
          between = r;
          out = out;
          puts = puts;
          slots_are = same;
        })
  ]

module _ {A n last : ℕ} {s : Slotted} {system hd : ℕ → ℕ} (h : ℕ) (d : Head s.anodes.next s.anodes.block h) (h1 : h ≢ 1) {dir : Bool} {t : Slotted} {ys : List ℕ} (k : Takes A n last s system hd dir h t ys) where
  -- the block in hand has come to the chain of h
  pub take_in : RunIn A (exists_by k.between.slots) n last k.between.anodes (with_these system k.gs) k.out.hd' h 1 (s.anodes.block k.x) t.anodes × (ys ≡ run (s.anodes.block k.x) 1)
  take_in = end_in (with_these system k.gs) (s.anodes.block k.x) k.out.good k.some k.inside h (k.out.shift.stays h d) h1 dir t.anodes ys k.puts

  -- one block has gone from the free list to the chain of h
  pub takes_moved : Moved A n last s system hd 1 h h ys k.gs t
  takes_moved = moved_by h (inl refl) (inr refl) k.out take_in.0 k.slots_are take_in.1

-- a take moves one block from the free list to the chain of h
pub take-moved : {A n last : ℕ} {growth : Growth} → Grows A n last growth → {s : Slotted} {system hd sd : ℕ → ℕ} → StartOwned system → Good A (exists_by s.slots) n last s.anodes system hd sd → (h : ℕ) →
    Head s.anodes.next s.anodes.block h → h ≢ 1 → (dir : Bool) (t : Slotted) (ys : List ℕ) → take_block A growth dir h s ≡ planned t ys → (gs : List ℕ) × Moved A n last s system hd 1 h h ys gs t × (length ys ≡ 1)
take-moved grows {s} start g h d h1 dir t ys e =
    let k = take_steps grows start g h dir t ys e in
    (k.gs, takes_moved h d h1 k, ap length (take_in h d h1 k).1 ∙ length_run (s.anodes.block k.x) 1)
