use Prim.Native.Nat.{◌+◌, ◌≤◌}
use native.Mathlib.Omega.{arith}
use Rattle.directory.specs.Entries.{entry_length}
use Rattle.directory.proofs.Laws.{put_entry_stores}
use Rattle.directory.proofs.put_entry.Goals as goal

pub overflow_add-at-7 : goal.overflow_add-at-7
overflow_add-at-7 c = omega (arith, c.requires)

pub overflow_add-at-8 : goal.overflow_add-at-8
overflow_add-at-8 c = omega (arith, c.requires)

pub overflow_add-at-9 : goal.overflow_add-at-9
overflow_add-at-9 c = omega (arith, c.requires)

pub overflow_add-name_end-3 : goal.overflow_add-name_end-3
overflow_add-name_end-3 c = omega (arith, c.requires, c.struct_known-1.given)

pub overflow_add-at-10 : goal.overflow_add-at-10
unfolding entry_length
overflow_add-at-10 c = let small-end : let k = c in k.args.at + k.entry_len-len.result ≤ 1040 = let k = c in omega (arith, k.requires, k.entry_len-len.ensures, k.struct_known-1.given, k.struct_known-2-1.given) in
    omega (arith, small-end)

pub overflow_add-at-11 : goal.overflow_add-at-11
unfolding entry_length
overflow_add-at-11 c = let small-end : let k = c in k.args.at + k.entry_len-len.result ≤ 1040 = let k = c in omega (arith, k.requires, k.entry_len-len.ensures, k.struct_known-1.given, k.struct_known-2-1.given) in
    omega (arith, small-end)

pub overflow_sub-at : goal.overflow_sub-at
unfolding entry_length
overflow_sub-at c = let k = c in omega (arith, k.requires, k.entry_len-len.ensures)

pub returns : goal.returns
returns c =
    put_entry_stores _ _ _ _ _ _ _ c.entry_len-len.ensures c.from.ensures _ _ _ _ _ _ _ _ _ _ _ _ _
    c.write8.ensures
    c.write8-2.ensures
    c.write16.ensures
    c.write32.ensures
    c.write16-2.ensures
    c.write16-3.ensures
    c.write16-4.ensures
    c.write8-3.ensures
    c.write8-4.ensures
    c.store.ensures
    c.write8-5.ensures
    c.store-2.ensures
    c.clear.ensures
