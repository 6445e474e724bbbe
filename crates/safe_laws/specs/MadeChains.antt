-- The chains that a safe make leaves, beside those of its own steps: the entry's block has perhaps a new place, and of all others the free list alone is touched.
use Rattle.std.specs.Prelude.{ℕ, ◌<◌, ◌≡◌, ◌≢◌, List}
use Rattle.std.proofs.Common.{sym, ap, ◌∙◌, inl, inr}
use Rattle.std.proofs.Math.Option.{Option}
use Rattle.rules.specs.Counting.{occurrences}
use Rattle.rules.specs.Anodes.{limit}
use Rattle.rules.specs.Chains.{chain_of}
use Rattle.rules.specs.Plans.{Slotted}
use Rattle.rules.specs.Changes.{NewEntry}
use Rattle.laws.specs.Tests.{same?}
use Rattle.laws.specs.Heads.{Head, head_while}
use Rattle.laws.specs.Space.{Alike, on_chain_lem}
use Rattle.laws.specs.Frame.{shift_chain}
use Rattle.change_laws.specs.MadeImage.{Making, plan, table, spot}
use Rattle.safe_laws.specs.LeftTable.{LeftTable}
use Rattle.safe_laws.specs.PlacedEntries.{Placed}
use Rattle.safe_laws.specs.SafeMade.{MadeMoved}

module _ {img : List ℕ} {h : ℕ} {new : NewEntry} {f : ℕ} {room : Option ℕ} {ys : List ℕ} {u : Slotted} {zs : List ℕ} (m : Making img h new f room ys u zs) {r : Slotted} {vs : List ℕ} (mm : MadeMoved m r vs)
    {t : Slotted} (left : LeftTable img r mm.hd' t) where
  -- an anode in use, not the free list's
  module _ (a : ℕ) (used : u.anodes.block a ≢ 0) (away : (plan m).hd' a ≢ 1) where
    -- it stays as it is while a block comes out of the free list
    pub out_alike : Alike u.anodes mm.between a
    out_alike = mm.out.apart a used away away

    -- another than the entry's has its block still
    r_other : a ≢ (spot m).anode → r.anodes.block a ≡ u.anodes.block a
    r_other o = mm.others a o ∙ out_alike.same_block

    -- it stays in use
    r_used : r.anodes.block a ≢ 0
    r_used z = elim (same? a (spot m).anode) [ inl e ↦ mm.spot_used (ap r.anodes.block (sym e) ∙ z) | inr o ↦ used (sym (r_other o) ∙ z) ]

    -- and stays as it is after that
    left_alike : Alike r.anodes t.anodes a
    left_alike = let off : mm.hd' a ≢ 1 = λ i. away (sym (mm.out.same_hd a used away away) ∙ i) in left.shift.apart a r_used off off

    -- its block, behind its own steps and the new place
    pub now_block : t.anodes.block a ≡ r.anodes.block a
    now_block = left_alike.same_block

    -- its count is the one that it was
    pub now-count : t.anodes.count a ≡ u.anodes.count a
    now-count = left_alike.same_count ∙ mm.count a ∙ out_alike.same_count

    -- another than the entry's
    pub now_other : a ≢ (spot m).anode → t.anodes.block a ≡ u.anodes.block a
    now_other o = now_block ∙ r_other o

    -- one of one block
    pub now-placed : u.anodes.count a ≡ 1 → Placed mm.y mm.z (u.anodes.block a) (t.anodes.block a)
    now-placed one = elim (same? a (spot m).anode) [
      | inr o ↦ inl (mm.not-y a one o, now_other o)
      | inl e ↦ elim mm.at_spot [
        | inl (off, is) ↦ inl (λ i. off (ap u.anodes.block (sym e) ∙ i), now_block ∙ ap r.anodes.block e ∙ is ∙ ap mm.between.block (sym e) ∙ out_alike.same_block)
        | inr (on, is) ↦ inr (ap u.anodes.block e ∙ on, now_block ∙ ap r.anodes.block e ∙ is)
      ]
    ]

  -- a chain, not the free list
  module _ (k : ℕ) (d : Head u.anodes.next u.anodes.block k) (k1 : k ≢ 1) where
    -- an anode of it
    pub chain_used : (a : ℕ) → 0 < occurrences a (chain_of u.anodes.next limit k) → (u.anodes.block a ≢ 0) × ((plan m).hd' a ≢ 1) × ((plan m).hd' a ≡ k)
    chain_used a p = let o = on_chain_lem (table m).good k d a p in (o.1, λ i. k1 (sym o.0 ∙ i), o.0)

    -- its head is its own
    away : (plan m).hd' k ≢ 1
    away i = k1 (sym ((table m).good.heads.at_head k d) ∙ i)

    -- it is headed still
    r_head : Head r.anodes.next r.anodes.block k
    r_head = rw mm.next (head_while (mm.out.stays k d) (r_used k d.in_use away))

    -- it stays while a block comes out of the free list
    pub out-chain : chain_of mm.between.next limit k ≡ chain_of u.anodes.next limit k
    out-chain = shift_chain (table m).good mm.out-good mm.out k d k1 k1

    -- it has the anodes that it had
    pub now-chain : chain_of t.anodes.next limit k ≡ chain_of u.anodes.next limit k
    now-chain = shift_chain mm.good left.table.good left.shift k r_head k1 k1 ∙ ap (λ (g : ℕ → ℕ). chain_of g limit k) mm.next ∙ out-chain
