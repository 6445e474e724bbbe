-- A file resized: takes, one block at a time, or runs that go back, and its entry's new size.
use Rattle.std.specs.Prelude.{ℕ, zero, suc, ◌≤◌, ◌≡◌, refl, ◌≢◌, Bool, List, [], ◌++◌, length}
use Rattle.std.proofs.Common.{sym, ap, ◌∙◌, arith, length-append}
use Rattle.rules.specs.Anodes.{limit, exists_by}
use Rattle.rules.specs.Walk.{Dir, Entered, blocks_for, items_by}
use Rattle.rules.specs.Plans.{Slotted, Plan, planned, repeated, Growth}
use Rattle.rules.specs.Space.{take_block, take_many}
use Rattle.laws.specs.Heads.{Head}
use Rattle.laws.specs.Blocks.{blocks}
use Rattle.laws.specs.Space.{Good}
use Rattle.laws.specs.Moves.{with_these, Grows, Moved, moved_none, moved-after}
use Rattle.laws.specs.Plans.{repeated-none, repeated-done}
use Rattle.laws.specs.Take.{StartOwned, take-moved}
use Rattle.laws.specs.Totals.{named_by_files}
use Rattle.laws.specs.Whole.{Whole, SizesChanged, blocks-count, file_head, change_file}

module _ {A n last : ℕ} {growth : Growth} (grows : Grows A n last growth) where
  -- steps one after the other, each of which moves blocks of the chain of h
  steps_moved : (from to h : ℕ) (step : Slotted → Plan Slotted) →
      ((s : Slotted) (system hd sd : ℕ → ℕ) → StartOwned system → Good A (exists_by s.slots) n last s.anodes system hd sd → Head s.anodes.next s.anodes.block h → (t : Slotted) (ys : List ℕ) → step s ≡ planned t ys →
      (gs : List ℕ) × Moved A n last s system hd from to h ys gs t × (length ys ≡ 1)) →
      (k : ℕ) (t : Slotted) (zs : List ℕ) (s : Slotted) (system hd sd : ℕ → ℕ) → StartOwned system → Good A (exists_by s.slots) n last s.anodes system hd sd → Head s.anodes.next s.anodes.block h →
      repeated step k s ≡ planned t zs → (gs : List ℕ) × Moved A n last s system hd from to h zs gs t × (length zs ≡ k)
  steps_moved from to h step each zero t zs s system hd sd start g d e =
      let q = repeated-none step s t zs e in rw (← q.0, q.1) ([], moved_none g from to h, refl)
  steps_moved from to h step each (suc k) t zs s system hd sd start g d e =
      let (r, ys, xs, q, f, z) = repeated-done step k s t zs e in
      let (gs, w, one) = each s system hd sd start g d r ys q in
      let (hs, v, rest) = steps_moved from to h step each k t xs r (with_these system gs) w.hd' w.sd' (λ x l. omega (arith, start x l)) w.good (w.shift.stays h d) f in
      (gs ++ hs, moved-after w v z, ap length z ∙ length-append ys xs ∙ omega (arith, one, rest))

  -- k takes that are done
  pub takes_moved : (k h : ℕ) → h ≢ 1 → (dir : Bool) (t : Slotted) (zs : List ℕ) (s : Slotted) (system hd sd : ℕ → ℕ) → StartOwned system → Good A (exists_by s.slots) n last s.anodes system hd sd →
      Head s.anodes.next s.anodes.block h → take_many A growth dir k h s ≡ planned t zs → (gs : List ℕ) × Moved A n last s system hd 1 h h zs gs t × (length zs ≡ k)
  unfolding take_many
  takes_moved k h h1 dir t zs s system hd sd start g d e =
      steps_moved 1 h h (take_block A growth dir h) (λ s system hd sd start g d t ys q. take-moved grows start g h d h1 dir t ys q) k t zs s system hd sd start g d e

-- a file resized leaves an accepted state: after the steps its chain has as many blocks as its entry's new size asks for
pub resized : {ex : ℕ → Bool} {n last : ℕ} {s : Slotted} {system hd sd : ℕ → ℕ} {entries : ℕ → List Entered} {marked : Dir → ℕ → Bool} {dirs : List Dir} →
    Whole ex n last s.anodes system hd sd entries marked dirs → (h : ℕ) → 1 ≤ named_by_files (items_by entries marked s.anodes) h dirs →
    {from to size : ℕ} {ys gs : List ℕ} {t : Slotted} → (moves : Moved limit n last s system hd from to h ys gs t) → blocks limit moves.hd' t.anodes.count h ≡ size →
    (φ : Entered → Entered) (entries' : ℕ → List Entered) (marked' : Dir → ℕ → Bool) →
    SizesChanged s.anodes hd h φ entries entries' marked marked' → ((e : Entered) → e.anode ≡ h → blocks_for (φ e).size ≡ size) →
    Whole (exists_by t.slots) n last t.anodes (with_these system gs) moves.hd' moves.sd' entries' marked' dirs
resized w h file moves has φ entries' marked' c mine =
    change_file w h file moves.good moves.shift φ entries' marked' c (λ e i. sym (blocks-count moves.good h (moves.shift.stays h (file_head w h file).2)) ∙ has ∙ sym (mine e i))
