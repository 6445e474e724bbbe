use mathlib.Core.Path.{◌≡◌, sym, ap, ◌∙◌}
use mathlib.Core.List.{List}
use Prim.Native.Nat.{ℕ, ◌+◌}
use native.Mathlib.Omega.{arith}
use borrow.Author.Rules.{rules}
use Rattle.disk.specs.Blocks.{block_of}
use Rattle.format.proofs.Parts.{block_lent, with_anode_blocks-none, with_anode_blocks_next, block_of-with_anode_blocks_other}
use Rattle.format.proofs.put_anode_blocks.Goals as goal

pub loop-s-init : goal.loop-s-init
loop-s-init c = sym (with_anode_blocks-none _ _ _ _)

pub put_anode_block-requires : goal.put_anode_block-requires
put_anode_block-requires c = let l = c.loop-s in
    let x = c.args in (
      block_lent l.image (3 + l.s) (omega arith)
          ∙ ap (λ (i : List ℕ). block_of i (3 + l.s)) l.invariant
          ∙ block_of-with_anode_blocks_other x.n x.last x.slots x.image.now l.s (3 + l.s) (λ t h e. omega arith)
          ∙ c.requires.3 l.s (omega arith),
      search rules,
      search rules,
    )

pub loop-s-preserved : goal.loop-s-preserved
loop-s-preserved c = with_anode_blocks_next _ _ _ _ c.loop-s.s c.loop-s.image _ (omega arith) c.loop-s.invariant c.put_anode_block.ensures

pub returns : goal.returns
returns c = let e : c.loop-s.s ≡ c.args.slots = omega arith in rw e at c.loop-s.invariant
