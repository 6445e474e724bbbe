use mathlib.Core.Path.{◌≡◌, sym, ◌∙◌}
use mathlib.Core.Bool.{true}
use Prim.Native.Nat.{◌+◌, ◌<◌, ◌≤◌}
use native.Mathlib.Omega.{arith}
use lib.ListN.{get_or, set}
use Rattle.walk_steps.specs.Steps.{head_at, marked}
use Rattle.walk_steps.proofs.Laws.{marked-room, queue_push, enter_no_head, enter_twice, enter_size, enter_file, enter_dir}
use borrow.Author.Rules.{rules}
use Rattle.walk_steps.proofs.enter.Goals as goal

pub returns-then-not-head_at : goal.returns-then-not-head_at
returns-then-not-head_at c = λ name start. (sym (enter_no_head _ _ _ _ c.args.e name start _ _ _ (sym c.head_at.ensures ∙ c.if-not-head_at.true)), search rules)

pub returns-then-entry-ne0 : goal.returns-then-entry-ne0
returns-then-entry-ne0 c = let a-head : let g = (c).args in head_at g.heads.now g.e.anode.0 ≡ true = sym c.head_at.ensures ∙ c.if-not-head_at.false in
    λ name start. (sym (enter_twice _ _ _ _ c.args.e name start _ _ _ a-head (λ z. c.if-entry-ne0.true (c.entry.ensures ∙ z))), search rules)

pub returns-then-chain_sum-blocks_for : goal.returns-then-chain_sum-blocks_for
returns-then-chain_sum-blocks_for c = let a-head : let g = (c).args in head_at g.heads.now g.e.anode.0 ≡ true = sym c.head_at.ensures ∙ c.if-not-head_at.false in
    let unmarked : let g = (c).args in get_or g.marks.now g.e.anode.0 0 ≡ 0 = sym c.entry.ensures ∙ c.if-entry-ne0.false in
    λ name start. (sym (enter_size _ _ _ _ c.args.e name start _ _ _ a-head unmarked c.in-File.is (λ z. c.if-chain_sum-blocks_for.true (c.chain_sum.ensures ∙ z ∙ sym c.blocks_for.ensures))), search rules)

pub with_file-requires : goal.with_file-requires
with_file-requires c = let a-head : let g = (c).args in head_at g.heads.now g.e.anode.0 ≡ true = sym c.head_at.ensures ∙ c.if-not-head_at.false in
    let unmarked : let g = (c).args in get_or g.marks.now g.e.anode.0 0 ≡ 0 = sym c.entry.ensures ∙ c.if-entry-ne0.false in
    let room : let g = (c).args in (g.t.last + g.t.files < 3444) × (g.t.last + g.t.files + 1 ≤ marked (set g.marks.now g.e.anode.0 1)) = let s = c in marked-room s.args.heads.now _ _ _ a-head unmarked s.requires.0 s.requires.3 in
    omega (arith, room.0)

pub with_directory-requires : goal.with_directory-requires
with_directory-requires c = let a-head : let g = (c).args in head_at g.heads.now g.e.anode.0 ≡ true = sym c.head_at.ensures ∙ c.if-not-head_at.false in
    let unmarked : let g = (c).args in get_or g.marks.now g.e.anode.0 0 ≡ 0 = sym c.entry.ensures ∙ c.if-entry-ne0.false in
    let room : let g = (c).args in (g.t.last + g.t.files < 3444) × (g.t.last + g.t.files + 1 ≤ marked (set g.marks.now g.e.anode.0 1)) = let s = c in marked-room s.args.heads.now _ _ _ a-head unmarked s.requires.0 s.requires.3 in
    omega (arith, room.0)

pub returns-else-chain_sum-blocks_for : goal.returns-else-chain_sum-blocks_for
returns-else-chain_sum-blocks_for c = let a-head : let g = (c).args in head_at g.heads.now g.e.anode.0 ≡ true = sym c.head_at.ensures ∙ c.if-not-head_at.false in
    let unmarked : let g = (c).args in get_or g.marks.now g.e.anode.0 0 ≡ 0 = sym c.entry.ensures ∙ c.if-entry-ne0.false in
    let room : let g = (c).args in (g.t.last + g.t.files < 3444) × (g.t.last + g.t.files + 1 ≤ marked (set g.marks.now g.e.anode.0 1)) = let s = c in marked-room s.args.heads.now _ _ _ a-head unmarked s.requires.0 s.requires.3 in
    let size = sym c.chain_sum.ensures ∙ c.if-chain_sum-blocks_for.false ∙ c.blocks_for.ensures in
    rw (c.with_file.ensures, c.set_entry.ensures)
    (λ name start. (sym (enter_file _ _ _ _ c.args.e name start _ _ _ a-head unmarked c.in-File.is size), omega (arith, room.1)))

pub returns-in-Directory : goal.returns-in-Directory
returns-in-Directory c = let a-head : let g = (c).args in head_at g.heads.now g.e.anode.0 ≡ true = sym c.head_at.ensures ∙ c.if-not-head_at.false in
    let unmarked : let g = (c).args in get_or g.marks.now g.e.anode.0 0 ≡ 0 = sym c.entry.ensures ∙ c.if-entry-ne0.false in
    let room : let g = (c).args in (g.t.last + g.t.files < 3444) × (g.t.last + g.t.files + 1 ≤ marked (set g.marks.now g.e.anode.0 1)) = let s = c in marked-room s.args.heads.now _ _ _ a-head unmarked s.requires.0 s.requires.3 in
    let s = c in
    let x = s.args in
    let r = room in
    let push = queue_push x.queue.now x.parents.now x.t.last x.e.anode.0 x.head.0 (omega (arith, r.0, s.requires.1)) (omega (arith, r.0, s.requires.2)) in
    rw (c.with_directory.ensures, c.set_entry-in-Directory.ensures, c.set_entry-in-Directory-2.ensures, c.set_entry-in-Directory-3.ensures)
    (λ name start. (rw push (sym (enter_dir _ _ _ _ x.e name start _ _ _ a-head unmarked c.in-Directory.is)), omega (arith, r.1)))
