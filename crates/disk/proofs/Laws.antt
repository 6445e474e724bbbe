-- Laws of the definitions of `specs/`, one for each case of a definition. Assumes nothing.
use mathlib.Core.Path.{◌≡◌, refl, sym, ap, ◌∙◌}
use mathlib.Core.Logic.{⊎_elim}
use Prim.Native.Nat.{ℕ, zero, suc, ◌+◌, ◌*◌, ◌/◌, ◌%◌, ◌-◌, ◌<◌, ◌≤◌, min}
use mathlib.Core.List.{List, [], append-nil}
use native.Mathlib.Omega.{arith}
use native.Mathlib.Nat.{not-suc-le-zero, zero-add, add-zero}
use lib.ListN.{length, get_or, take, drop, length-take, length-drop, take-append-drop, drop_of_length-le, get_or-eq_default}
use lib.Seq.{take_all, drop-drop}
use borrow.Author.Tests.{le-ltb, lt-ltb, eq-eqb, ne_eqb}
use borrow.Rule.Slice.PartMut.{put_mid, Post-is}
use Rattle.endian.proofs.Laws.{less?, length-put16}
use Rattle.disk.specs.declared.Refusal.{Refusal}
use Rattle.disk.specs.declared.Refusal.TheVariants.{ImageSize, TableSize, DiskType, RootBlock, AnodeBlock, FixedAnode, AnodeRange, ChainLinks, FreeList, TwoOwners, NoOwner, DirectoryBlock, EntryAnode, NamedTwice, FileSize, UnnamedChain, NamesAlike, BadArgument, NoDirectory, NotFound, AlreadyThere, IsDirectory, NotEmpty, PastEnd, NoFreeBlock, NoFreeAnode, ReportFull, ShortWriteList, BitmapSize, SettingsForm, LongSeconds, ShortOutput}
use Rattle.disk.specs.Refusals.{number_of}
use Rattle.disk.specs.Blocks.{block_of, with_block}
use Rattle.disk.specs.Root.{slot_in, slot_of}
use Rattle.disk.specs.AnodeBlocks.{anode_made, anode_in, put_anode, listed, anodes_in, anode_slots, anode_at, anode_of, set_anode}
use Rattle.disk.specs.declared.Anode.{Anode}

-- ---- blocks

-- as many bytes as the image has from the block's start on, 512 at most
pub length-block_of-min : (img : List ℕ) (b : ℕ) → length (block_of img b) ≡ min 512 (length img - b * 512)
unfolding block_of
length-block_of-min img b = simp (length-take, length-drop)

-- so all 512 where the image has them
pub length-block_of : (img : List ℕ) (b : ℕ) → b * 512 + 512 ≤ length img → length (block_of img b) ≡ 512
length-block_of img b h = omega (arith, length-block_of-min img b)

pub with_block-out : (img : List ℕ) (b : ℕ) (new : List ℕ) → length img ≤ b * 512 → with_block img b new ≡ img
unfolding with_block
with_block-out img b new h =
    let e : length (block_of img b) ≡ 0 = omega (arith, length-block_of-min img b) in
    rw (e, take_all (b * 512) img h, drop_of_length-le img {i = b * 512 + 512} (omega arith)) (append-nil img)

-- a block's own bytes stored in it change nothing
pub with_block_own : (img : List ℕ) (b : ℕ) → with_block img b (block_of img b) ≡ img
unfolding with_block block_of
with_block_own img b =
    rw (take_all (length (take 512 (drop (b * 512) img))) (take 512 (drop (b * 512) img)) (omega arith), ← drop-drop 512 (b * 512) img, take-append-drop 512 (drop (b * 512) img))
    (take-append-drop (b * 512) img)

-- a block that is lent up to `e`: 512 bytes on, or the image's end before that
module _ (img : List ℕ) (b e : ℕ) (end : e ≡ min (b * 512 + 512) (length img)) where
  -- nothing of it is there
  pub with_block-none : (new : List ℕ) → e ≤ b * 512 → img ≡ with_block img b new
  with_block-none new h = sym (with_block-out img b new (omega arith))

  module _ (starts : b * 512 ≤ e) where
    pub part_block : take (e - b * 512) (drop (b * 512) img) ≡ block_of img b
    unfolding block_of
    part_block =
        let l = length-drop (b * 512) img in
        ⊎_elim
        (λ s. take_all (e - b * 512) (drop (b * 512) img) (omega arith) ∙ sym (take_all 512 (drop (b * 512) img) (omega arith)))
        (λ w. let n : e - b * 512 ≡ 512 = omega arith in rw n)
        (less? (length img) (b * 512 + 512))

    -- the bytes after it
    pub after_block : drop e img ≡ drop (b * 512 + 512) img
    after_block =
        ⊎_elim
        (λ s. drop_of_length-le img {i = e} (omega arith) ∙ sym (drop_of_length-le img {i = b * 512 + 512} (omega arith)))
        (λ w. let n : e ≡ b * 512 + 512 = omega arith in rw n)
        (less? (length img) (b * 512 + 512))

    -- the part that was lent and is back
    pub block_back : (new : List ℕ) → length new ≡ length (block_of img b) → put_mid (b * 512) (e - b * 512) img new ≡ with_block img b new
    unfolding with_block
    block_back new same =
        rw (Post-is (b * 512) e img starts, after_block, take_all (length (block_of img b)) new (omega arith))

    -- the part that was lent and is back, changed by f
    pub block_changed : (new : List ℕ) → length new ≡ length (take (e - b * 512) (drop (b * 512) img)) → (f : List ℕ → List ℕ) → new ≡ f (take (e - b * 512) (drop (b * 512) img))
        → put_mid (b * 512) (e - b * 512) img new ≡ with_block img b (f (block_of img b))
    block_changed new same f is = block_back new (same ∙ ap length part_block) ∙ ap (with_block img b) (is ∙ ap f part_block)

-- ---- slots

pub slot_of_high : (img : List ℕ) (s : ℕ) → 42 ≤ s → slot_of img s ≡ 0
unfolding slot_of
slot_of_high img s h = simp (le-ltb s 42 h)

pub slot_of-there : (img : List ℕ) (s : ℕ) → s < 42 → slot_of img s ≡ slot_in (block_of img 2) s
unfolding slot_of
slot_of-there img s h = simp (lt-ltb s 42 h)

-- ---- anodes

pub get_or-listed {ℓ} : {A : Type ℓ} (f : ℕ → A) (k n i : ℕ) (d : A) → i < n → get_or (listed f k n) i d ≡ f (k + i)
unfolding listed
get_or-listed f k zero i d h = absurd (not-suc-le-zero h)
get_or-listed f k (suc n) zero d h = rw (add-zero k)
get_or-listed f k (suc n) (suc i) d h =
    let e : k + suc i ≡ suc k + i = omega arith in
    rw e (get_or-listed f (suc k) n i d (omega arith))

pub length-listed {ℓ} : {A : Type ℓ} (f : ℕ → A) (k n : ℕ) → length (listed f k n) ≡ n
unfolding listed
length-listed f k zero = refl
length-listed f k (suc n) = ap suc (length-listed f (suc k) n)

get_or-listed-out {ℓ} : {A : Type ℓ} (f : ℕ → A) (k n i : ℕ) (d : A) → n ≤ i → get_or (listed f k n) i d ≡ d
get_or-listed-out f k n i d h = get_or-eq_default (listed f k n) d (rw (length-listed f k n) h)

anodes_in-none : (img : List ℕ) → anodes_in img 0 ≡ []
unfolding anodes_in
anodes_in-none img = refl

anodes_in_some : (img : List ℕ) (s : ℕ) → (s ≡ 0 → ⊥) → anodes_in img s ≡ listed (anode_in (block_of img s)) 0 82
unfolding anodes_in
anodes_in_some img zero n = absurd (n refl)
anodes_in_some img (suc b) n = refl

-- the anodes of a slot; a slot from 42 on has none, as one that holds 0
pub anode_slots-at : (img : List ℕ) (s : ℕ) → get_or (anode_slots img) s [] ≡ anodes_in img (slot_of img s)
unfolding anode_slots
anode_slots-at img s =
    ⊎_elim
    (λ h. get_or-listed (λ s. anodes_in img (slot_of img s)) 0 42 s [] h ∙ rw (zero-add s))
    (λ h. get_or-listed-out (λ s. anodes_in img (slot_of img s)) 0 42 s [] h ∙ rw (slot_of_high img s h) (sym (anodes_in-none img)))
    (less? s 42)

anode_of_slot : (img : List ℕ) (a s : ℕ) → slot_of img (a / 82) ≡ s → anode_of img a ≡ get_or (anodes_in img s) (a % 82) (anode_made 0 0 0)
unfolding anode_of anode_at
anode_of_slot img a s e = rw (anode_slots-at img (a / 82), e)

pub anode_of_missing : (img : List ℕ) (a : ℕ) → slot_of img (a / 82) ≡ 0 → anode_of img a ≡ anode_made 0 0 0
anode_of_missing img a e = anode_of_slot img a 0 e ∙ rw (anodes_in-none img)

pub anode_of-there : (img : List ℕ) (a s : ℕ) → slot_of img (a / 82) ≡ s → (s ≡ 0 → ⊥) → anode_of img a ≡ anode_in (block_of img s) (a % 82)
anode_of-there img a s e n =
    anode_of_slot img a s e
    ∙ rw (anodes_in_some img s n, get_or-listed (anode_in (block_of img s)) 0 82 (a % 82) (anode_made 0 0 0) (omega arith), zero-add (a % 82))

pub set_anode_missing : (img : List ℕ) (a : ℕ) (x : Anode) → slot_of img (a / 82) ≡ 0 → set_anode img a x ≡ img
unfolding set_anode
set_anode_missing img a x e = simp (eq-eqb _ _ e)

pub set_anode-there : (img : List ℕ) (a s : ℕ) (x : Anode) → slot_of img (a / 82) ≡ s → (s ≡ 0 → ⊥)
    → set_anode img a x ≡ with_block img s (put_anode (block_of img s) (a % 82) x)
unfolding set_anode
set_anode-there img a s x e n = rw e (simp (ne_eqb s 0 n))

pub length-put_anode : (l : List ℕ) (p : ℕ) (x : Anode) → length (put_anode l p x) ≡ length l
unfolding put_anode
length-put_anode l p x = simp length-put16

-- ---- refusals

-- no refusal is 0, the answer of a call that is done
pub number_some : (r : Refusal) → 1 ≤ number_of r
number_some ImageSize = omega arith
number_some TableSize = omega arith
number_some DiskType = omega arith
number_some RootBlock = omega arith
number_some AnodeBlock = omega arith
number_some FixedAnode = omega arith
number_some AnodeRange = omega arith
number_some ChainLinks = omega arith
number_some FreeList = omega arith
number_some TwoOwners = omega arith
number_some NoOwner = omega arith
number_some DirectoryBlock = omega arith
number_some EntryAnode = omega arith
number_some NamedTwice = omega arith
number_some FileSize = omega arith
number_some UnnamedChain = omega arith
number_some NamesAlike = omega arith
number_some BadArgument = omega arith
number_some NoDirectory = omega arith
number_some NotFound = omega arith
number_some AlreadyThere = omega arith
number_some IsDirectory = omega arith
number_some NotEmpty = omega arith
number_some PastEnd = omega arith
number_some NoFreeBlock = omega arith
number_some NoFreeAnode = omega arith
number_some ReportFull = omega arith
number_some ShortWriteList = omega arith
number_some BitmapSize = omega arith
number_some SettingsForm = omega arith
number_some LongSeconds = omega arith
number_some ShortOutput = omega arith
