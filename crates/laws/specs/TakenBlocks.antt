-- A take puts its block behind the blocks of the taker's chain.
use Rattle.std.specs.Prelude.{ℕ, zero, suc, ◌+◌, ◌<◌, ◌≡◌, ◌≢◌, Bool, length}
use Rattle.std.proofs.Math.Path.{refl, sym, ap}
use Rattle.std.proofs.Common.{◌∙◌, arith, length-append}
use Rattle.std.proofs.Math.Logic.{inl, inr}
use mathlib.Core.List.{List, [], ◌∷◌, ◌++◌, append-nil, append_assoc}
use Rattle.rules.specs.Counting.{gather, last_of}
use Rattle.rules.specs.Anodes.{Anodes, limit, exists_by}
use Rattle.rules.specs.Chains.{chain_of, run, blocks_of}
use Rattle.rules.specs.Plans.{Slotted, planned, Growth}
use Rattle.rules.specs.Space.{rewritten, inserted_after, lowest_free, chain_end, put, take_block, take_many}
use Rattle.laws.specs.Bags.{occurrences-nil, gather_append, gather_off, gather-last}
use Rattle.laws.specs.Segments.{chain-end}
use Rattle.laws.specs.LinkChanges.{first, second, third}
use Rattle.laws.specs.Heads.{Head, head_chain}
use Rattle.laws.specs.Space.{Good, free_off, FreeAnode}
use Rattle.laws.specs.Plans.{refused≢planned, planned_same, repeated-none, repeated-done}
use Rattle.laws.specs.Arriving.{append_cases, put_cases}
use Rattle.laws.specs.Moves.{Grows, with_these}
use Rattle.laws.specs.Take.{Takes, StartOwned, take_steps, take-moved}
use Rattle.laws.specs.ChainBlocks.{extent, extent-here, extent_other, blocks_of_extents, extent-filled, extent-longer, shift_blocks, stands_once, appended_chain}

-- ---- into the taker's chain

module _ {ex : ℕ → Bool} {n last : ℕ} {s : Anodes} {system hd sd : ℕ → ℕ} (g : Good limit ex n last s system hd sd) (h : ℕ) (d : Head s.next s.block h) (y : ℕ) (y0 : y ≢ 0) where
  abbrev end : ℕ
  end = last_of h (chain_of s.next limit h)

  abbrev its : List ℕ
  its = run y 1

  split : (pre : List ℕ) × (chain_of s.next limit h ≡ pre ++ (end ∷ []))
  split = chain-end s.next h (chain_of s.next limit h) d.pos (head_chain g.linked h d)

  -- the last anode gains the block
  gained : (c b : ℕ) → run b c ≡ extent s end ++ run y 1 → blocks_of (rewritten s end c b) h ≡ blocks_of s h ++ run y 1
  unfolding rewritten gather
  gained c b more =
      blocks_of_extents (rewritten s end c b) h ∙ ap (gather (extent (rewritten s end c b))) split.1
      ∙ gather-last (extent (rewritten s end c b)) (extent s) split.0 [] end its (λ a i. sym (extent_other s (rewritten s end c b) end c b refl refl a i))
      (stands_once g h d end split.0 [] split.1).0 (occurrences-nil end) refl (extent-here s (rewritten s end c b) end c b refl refl ∙ more)
      ∙ ap (λ (l : List ℕ). l ++ its) (sym (blocks_of_extents s h ∙ ap (gather (extent s)) split.1))

  -- or a fresh anode after it has the block
  appended : (f : ℕ) → f < limit → FreeAnode ex s f → blocks_of (inserted_after s end f 1 y) h ≡ blocks_of s h ++ run y 1
  unfolding inserted_after gather
  appended f f_a u =
      let t = inserted_after s end f 1 y in
      let l = chain_of s.next limit h in
      let chain : chain_of t.next limit h ≡ l ++ (f ∷ []) = appended_chain g h d f 1 y f_a u y0 in
      let same : gather (extent t) l ≡ gather (extent s) l = gather_off (extent s) (extent t) f (extent_other s t f 1 y refl refl) l (free_off g h d f u.unused) in
      let new : extent t f ≡ its = extent-here s t f 1 y refl refl in
      blocks_of_extents t h ∙ ap (gather (extent t)) chain ∙ gather_append (extent t) l (f ∷ [])
      ∙ ap (λ (k : List ℕ). k ++ (extent t f ++ [])) same ∙ ap (λ (k : List ℕ). gather (extent s) l ++ (k ++ [])) new ∙ ap (λ (k : List ℕ). gather (extent s) l ++ k) (append-nil its)
      ∙ ap (λ (k : List ℕ). k ++ its) (sym (blocks_of_extents s h))

  put-blocks : (dir : Bool) (t : Anodes) (ys : List ℕ) → put limit dir (chain_end limit s h) y ex s ≡ planned t ys → blocks_of t h ≡ blocks_of s h ++ ys
  unfolding chain_end
  put-blocks dir t ys e = elim (put_cases limit ex dir s end y) [
    | first c ↦ by (rewritten s end 1 y) (sym c.1 ∙ e) (gained 1 y (extent-filled s end 1 y c.0))
    | second c ↦ by (rewritten s end (s.count end + 1) (s.block end)) (sym c.3 ∙ e) (gained (s.count end + 1) (s.block end) (extent-longer s end 1 y c.2))
    | third c ↦ elim (append_cases limit ex s end 1 y) [
      | inl f ↦ by (inserted_after s end (lowest_free limit ex s) 1 y) (sym f.2 ∙ sym c.1 ∙ e) (appended (lowest_free limit ex s) f.0 f.1)
      | inr f ↦ absurd (refused≢planned 28 t ys (sym f.0 ∙ sym c.1 ∙ e))
    ]
  ]
    where
      by : (r : Anodes) → planned r (run y 1) ≡ planned t ys → blocks_of r h ≡ blocks_of s h ++ run y 1 → blocks_of t h ≡ blocks_of s h ++ ys
      by r q w = let i = planned_same r t (run y 1) ys q in rw (← i.0, i.1) w

-- ---- the whole

-- a take puts its block behind the blocks of the taker's chain
pub take-blocks : {n last : ℕ} {s : Slotted} {system hd sd : ℕ → ℕ} → Good limit (exists_by s.slots) n last s.anodes system hd sd → (h : ℕ) → Head s.anodes.next s.anodes.block h → h ≢ 1 →
    {dir : Bool} {t : Slotted} {ys : List ℕ} → Takes limit n last s system hd dir h t ys → blocks_of t.anodes h ≡ blocks_of s.anodes h ++ ys
take-blocks {s = s} g h d h1 {dir} {t} {ys} k =
    put-blocks k.out.good h (k.out.shift.stays h d) (s.anodes.block k.x) k.some dir t.anodes ys k.puts ∙ ap (λ (l : List ℕ). l ++ ys) (shift_blocks g k.out.good k.out.shift h d h1 h1)

-- k takes, one after the other, put their blocks behind those of the taker's chain in order
pub takes_blocks : {n last : ℕ} {growth : Growth} → Grows limit n last growth → (k h : ℕ) → h ≢ 1 → (dir : Bool) (t : Slotted) (zs : List ℕ) (s : Slotted) (system hd sd : ℕ → ℕ) → StartOwned system →
    Good limit (exists_by s.slots) n last s.anodes system hd sd → Head s.anodes.next s.anodes.block h → take_many limit growth dir k h s ≡ planned t zs → (blocks_of t.anodes h ≡ blocks_of s.anodes h ++ zs) × (length zs ≡ k)
unfolding take_many
takes_blocks {growth = growth} grows zero h h1 dir t zs s system hd sd start g d e = let q = repeated-none (take_block limit growth dir h) s t zs e in rw (← q.0, q.1) (sym (append-nil (blocks_of s.anodes h)), refl)
takes_blocks {growth = growth} grows (suc k) h h1 dir t zs s system hd sd start g d e =
    let (r, ys, xs, q, f, z) = repeated-done (take_block limit growth dir h) k s t zs e in
    let steps = take_steps grows start g h dir r ys q in
    let (gs, w, one) = take-moved grows start g h d h1 dir r ys q in
    let b = takes_blocks grows k h h1 dir t xs r (with_these system gs) w.hd' w.sd' (λ x l. omega (arith, start x l)) w.good (w.shift.stays h d) f in (
      b.0 ∙ ap (λ (l : List ℕ). l ++ xs) (take-blocks g h d h1 steps) ∙ append_assoc (blocks_of s.anodes h) ys xs ∙ ap (λ (l : List ℕ). blocks_of s.anodes h ++ l) (sym z),
      ap length z ∙ length-append ys xs ∙ omega (arith, one, b.1),
    )
