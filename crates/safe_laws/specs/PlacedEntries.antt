-- The entries of directories of which one block has another place: those of that block stand in the new one, all others where they stood.
use Rattle.std.specs.Prelude.{ℕ, zero, suc, ◌+◌, ◌*◌, ◌/◌, ◌%◌, ◌≤◌, ◌≡◌, refl, ◌≢◌, ◌⊎◌, Bool, true, false, cond, List, [], ◌∷◌, map, eqb, get_or, Some, None, Ok, Err}
use Rattle.std.proofs.Common.{sym, ap, ap₂, ◌∙◌, inl, inr, map-id, arith, eq-eqb, ne_eqb}
use Rattle.disk.specs.Blocks.{block_of}
use Rattle.directory.specs.Entries.{Walked}
use Rattle.directory.specs.Entries.{name_in, walked_at}
use Rattle.directory.proofs.Laws.{found_at}
use Rattle.rules.specs.Counting.{gather}
use Rattle.rules.specs.Anodes.{Anodes, limit}
use Rattle.rules.specs.Chains.{chain_of}
use Rattle.rules.specs.Walk.{Dir, Entered, with_rest, entries_from, entries_in, is_block_of}
use Rattle.rules.specs.Lookup.{entries_of}
use Rattle.laws.specs.Members.{Member, gather_congr, map-gather}
use Rattle.safe_laws.specs.MovedEntries.{placed_at, placed_fields, entries_placed}

-- the same entry, where what was block y is block z
unfoldable pub placed_if : ℕ → ℕ → Entered → Entered
placed_if y z e = cond (eqb (e.start / 512) y) (placed_at y z e) e

-- it says what it said
pub if_fields : (y z : ℕ) (e : Entered) → ((placed_if y z e).broken ≡ e.broken) × ((placed_if y z e).dir ≡ e.dir) × ((placed_if y z e).anode ≡ e.anode) × ((placed_if y z e).name ≡ e.name) × ((placed_if y z e).size ≡ e.size)
unfolding placed_if
if_fields y z e = go (eqb (e.start / 512) y)
  where
    go : (b : Bool) → ((cond b (placed_at y z e) e).broken ≡ e.broken) × ((cond b (placed_at y z e) e).dir ≡ e.dir) × ((cond b (placed_at y z e) e).anode ≡ e.anode) × ((cond b (placed_at y z e) e).name ≡ e.name) × ((cond b (placed_at y z e) e).size ≡ e.size)
    go true = placed_fields y z e
    go false = (refl, refl, refl, refl, refl)

-- an entry of another block stands where it stood
pub if_other : (y z : ℕ) (e : Entered) → e.start / 512 ≢ y → placed_if y z e ≡ e
unfolding placed_if
if_other y z e o = rw (ne_eqb (e.start / 512) y o) refl

-- an entry of that block is in the new one
pub if-moved : (y z : ℕ) (e : Entered) → e.start / 512 ≡ y → placed_if y z e ≡ placed_at y z e
unfolding placed_if
if-moved y z e q = rw (eq-eqb (e.start / 512) y q) refl

-- block x of the one image is block x' of the other
abbrev pub Placed : ℕ → ℕ → ℕ → ℕ → Type 0
Placed y z x x' = ((x ≢ y) × (x' ≡ x)) ⊎ ((x ≡ y) × (x' ≡ z))

-- the place of an entry then
pub if_place : (y z x x' : ℕ) (e : Entered) → e.start / 512 ≡ x → Placed y z x x' → ((placed_if y z e).start / 512 ≡ x') × ((placed_if y z e).start % 512 ≡ e.start % 512)
unfolding placed_at
if_place y z x x' e at (inl (o, q)) = let i = ap (λ (a : Entered). a.start) (if_other y z e (λ k. o (sym at ∙ k))) in (ap (λ (n : ℕ). n / 512) i ∙ at ∙ sym q, ap (λ (n : ℕ). n % 512) i)
if_place y z x x' e at (inr (o, q)) = let i = ap (λ (a : Entered). a.start) (if-moved y z e (at ∙ o)) in (omega (arith, i, at, o, q), omega (arith, i, at, o))

-- the entries of a block lie in it
entries_under : (y z x : ℕ) (g : Entered → Entered) → ((e : Entered) → e.start / 512 ≡ x → placed_if y z e ≡ g e) → (b : List ℕ) (k at : ℕ) → at ≤ 510 → map (placed_if y z) (entries_from k b x at) ≡ map g (entries_from k b x at)
unfolding entries_from
entries_under y z x g same b zero at l = refl
entries_under y z x g same b (suc k) at l = go (walked_at b at) refl (entries_under y z x g same b k)
  where
    go : (w : Walked) → walked_at b at ≡ w → ((at' : ℕ) → at' ≤ 510 → map (placed_if y z) (entries_from k b x at') ≡ map g (entries_from k b x at')) →
        map (placed_if y z) (with_rest w (name_in b at) (x * 512 + at) (entries_from k b x (at + get_or b at 0))) ≡ map g (with_rest w (name_in b at) (x * 512 + at) (entries_from k b x (at + get_or b at 0)))
    go (Ok None) is rest = refl
    go (Ok (Some e)) is rest = ap₂ (λ (a : Entered) (r : List Entered). a ∷ r) (same _ (omega (arith, l))) (rest (at + get_or b at 0) (found_at b at e is).room)
    go (Err r) is rest = ap (λ (a : Entered). a ∷ []) (same _ (omega (arith, l)))

-- the entries of one block
pub entries_relocated : (i j : List ℕ) (y z x x' : ℕ) → block_of j x' ≡ block_of i x → Placed y z x x' → entries_in j x' ≡ map (placed_if y z) (entries_in i x)
unfolding entries_in
entries_relocated i j y z x x' same (inl (o, q)) =
    ap₂ (λ (b : List ℕ) (n : ℕ). entries_from 28 b n 16) same q ∙ sym (map-id (entries_from 28 (block_of i x) x 16))
    ∙ sym (entries_under y z x (λ e. e) (λ e at. if_other y z e (λ k. o (sym at ∙ k))) (block_of i x) 28 16 (omega arith))
entries_relocated i j y z x x' same (inr (o, q)) =
    ap₂ (λ (b : List ℕ) (n : ℕ). entries_from 28 b n 16) same q ∙ entries_placed (block_of i x) y z 28 16
    ∙ ap (λ (n : ℕ). map (placed_at y z) (entries_from 28 (block_of i x) n 16)) (sym o)
    ∙ sym (entries_under y z x (placed_at y z) (λ e at. if-moved y z e (at ∙ o)) (block_of i x) 28 16 (omega arith))

-- and its marks
pub marks_relocated : (i j : List ℕ) (x x' : ℕ) → block_of j x' ≡ block_of i x → (d : Dir) → is_block_of j d x' ≡ is_block_of i d x
unfolding is_block_of
marks_relocated i j x x' same d = rw same refl

-- the entries of a directory
pub directory_relocated : (i j : List ℕ) (s t : Anodes) (y z k : ℕ) → chain_of t.next limit k ≡ chain_of s.next limit k →
    ((a : ℕ) → Member a (chain_of s.next limit k) → (block_of j (t.block a) ≡ block_of i (s.block a)) × Placed y z (s.block a) (t.block a)) → entries_of j t k ≡ map (placed_if y z) (entries_of i s k)
unfolding entries_of
directory_relocated i j s t y z k chain at =
    ap (gather (λ a. entries_in j (t.block a))) chain
    ∙ gather_congr (λ a. entries_in j (t.block a)) (λ a. map (placed_if y z) (entries_in i (s.block a))) (chain_of s.next limit k) (λ a on. let (same, placed) = at a on in entries_relocated i j y z (s.block a) (t.block a) same placed)
    ∙ sym (map-gather (placed_if y z) (λ a. entries_in i (s.block a)) (chain_of s.next limit k))
