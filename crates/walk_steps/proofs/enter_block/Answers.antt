use mathlib.Core.Path.{◌≡◌, refl, sym, ap, ◌∙◌}
use mathlib.Core.List.{List, [], ◌∷◌, map}
use Prim.Native.Nat.{ℕ, ◌+◌, ◌-◌, ◌*◌, ◌<◌, ◌≤◌}
use Rattle.disk.specs.Blocks.{block_of}
use Rattle.directory.specs.Entries.{name_in}
use Rattle.std.proofs.Common.{Some, Err}
use Rattle.std.proofs.lemmas.Result.{err_from_is_err_and}
use Rattle.reader.specs.Reads.{ReadsEntry, Reads}
use Rattle.rules.specs.Folding.{folded}
use Rattle.rules.specs.Walk.{entries_in}
use Rattle.names.specs.Index.{folded_in, seen_in, Indexed}
use Rattle.laws.specs.Entries.{block_whole, entered_at, entries_left, reads_more, reads_none, reads_fault, read_within, read_fault}
use Rattle.walk_steps.specs.Steps.{item_in, queue_of, number_in, seen_by}
use Rattle.walk_steps.proofs.Laws.{enter_none, enter_fault, enter_alike, enter_stop, enter_step, seen_step, twins-none, seen_none}
use Rattle.walk_steps.proofs.Tallies.{number_more, numbered_more, seen_more, number_room}
use borrow.Author.Rules.{rules}
use Rattle.walk_steps.proofs.enter_block.Goals as goal
use Rattle.walk_steps.proofs.enter_block.Goals.{In_ok-read}

-- an entry was read at the reader's place
reads : (c : In_ok-read) → ReadsEntry c.loop-item.item-iterator c.in_ok-read.read c.next.new.self
reads c = rw c.in_ok-read.was at c.in-Some.ensures.steps

-- it is the first of the entries that are left
first_left : (c : In_ok-read) → let it = c.loop-item.item-iterator in let x = c.in_ok-read.read in let y = c.args.b.0 in
    entries_left y it ≡ entered_at x.entry (name_in (block_of c.args.image.now y) x.at) (y * 512 + x.at) ∷ entries_left y c.next.new.self
first_left c = let l = c.loop-item in let x = c.in_ok-read.read in let y = c.args.b.0 in
    reads_more y l.item-iterator c.next.new.self x (reads c) ∙ ap (λ (b : List ℕ). entered_at x.entry (name_in b x.at) (y * 512 + x.at) ∷ entries_left y c.next.new.self) l.invariant.2

room : (c : In_ok-read) → (number_in c.loop-item.tally < 3444) × (c.loop-item.tally.last ≤ 3444)
room c = let l = c.loop-item in number_room _ _ l.marks _ l.tally l.invariant.1 l.invariant.0.3 l.invariant.0.0

pub loop-item-init : goal.loop-item-init
loop-item-init c = let o = c.of-item-items.ensures in
    let whole : entries_left c.args.b.0 c.into_iter-item-iterator.result ≡ entries_in c.args.image.now c.args.b.0 = rw (c.into_iter-item-iterator.ensures.into_iter_gives, o.0, o.1, o.2) (block_whole _ _ _ c.block_part-block.ensures) in
    (c.requires.0, c.requires.1, rw (c.into_iter-item-iterator.ensures.into_iter_gives, o.0) c.block_part-block.ensures, rw whole, rw whole)

pub returns-in_err-read : goal.returns-in_err-read
returns-in_err-read c = let l = c.loop-item in
    let it = l.item-iterator in
    let f = c.in_err-read.field-0.0 in
    let gives : Reads it (Some (Err f)) c.next.new.self = rw c.in_err-read.was at c.in-Some.ensures.steps in
    let left = reads_fault c.args.b.0 it c.next.new.self f gives in
    let p = err_from_is_err_and c.from_residual.result c.from_residual.ensures.1 in
    rw (p.1, p.2) (record {
      entered = (sym (enter_fault _ _ _ _ _ (name_in it.block.now it.at) (c.args.b.0 * 512 + it.at) [] (queue_of l.queue l.parents l.tally.last) l.marks l.tally.files (Err f) f refl (read_fault c.args.b.0 it c.next.new.self f gives)) ∙ (rw left at l.invariant.3), tt);
      seen = tt;
    })

pub number_in-requires : goal.number_in-requires
number_in-requires c = (c.loop-item.invariant.1.1, (room (goal.at.number_in-requires c).In_ok-read).1)

pub enter_name-requires : goal.enter_name-requires
enter_name-requires c = let p = (goal.at.enter_name-requires c).In_ok-read in let l = c.loop-item in
    rw c.number_in.ensures (l.invariant.1.0, (room p).0, l.invariant.1.2, read_within c.args.b.0 l.item-iterator c.next.new.self c.in_ok-read.read (reads p))

pub returns-then-enter_name : goal.returns-then-enter_name
unfolding folded_in
returns-then-enter_name c = let p = (goal.at.returns-then-enter_name c).In_ok-read in let l = c.loop-item in
    let alike = rw c.number_in.ensures at (sym c.enter_name.ensures.found) in
    record { entered = (sym (enter_alike _ _ _ _ _ _ _ (entries_left c.args.b.0 c.next.new.self) (queue_of l.queue l.parents l.tally.last) l.marks l.tally.files c.in_ok-read.read.entry (alike ∙ c.if-enter_name.true)) ∙ (rw (first_left p) at l.invariant.3), tt); seen = tt }

pub returns-in_err-tally : goal.returns-in_err-tally
unfolding folded_in
returns-in_err-tally c = let p = (goal.at.returns-in_err-tally c).In_ok-read in let l = c.loop-item in
    let x = c.in_ok-read.read in
    let name = name_in (block_of c.args.image.now c.args.b.0) x.at in
    let start = c.args.b.0 * 512 + x.at in
    let alike = rw c.number_in.ensures at (sym c.enter_name.ensures.found) in
    let e = rw c.in_err-tally.was at c.enter.ensures in
    let q = err_from_is_err_and c.from_residual-in_err-tally.result c.from_residual-in_err-tally.ensures.1 in
    rw (q.1, q.2) (record {
      entered = (sym (enter_stop _ _ _ _ _ name start (entries_left c.args.b.0 c.next.new.self) _ _ _ x.entry (alike ∙ c.if-enter_name.false) _ (sym (e name start).0)) ∙ (rw (first_left p) at l.invariant.3), tt);
      seen = tt;
    })

pub loop-item-preserved : goal.loop-item-preserved
unfolding folded_in
loop-item-preserved c = let p = (goal.at.loop-item-preserved c).In_ok-read in let l = c.loop-item in
    let x = c.in_ok-read.read in
    let t = c.in_ok-tally.tally in
    let name = name_in (block_of c.args.image.now c.args.b.0) x.at in
    let start = c.args.b.0 * 512 + x.at in
    let rest = entries_left c.args.b.0 c.next.new.self in
    let alike = rw c.number_in.ensures at (sym c.enter_name.ensures.found) in
    let indexed : Indexed c.args.image.now c.enter_name.new.index (number_in l.tally + 1) = rw c.number_in.ensures at c.enter_name.ensures.indexed in
    let more : let g = c.args in seen_in g.image.now c.enter_name.new.index g.from (number_in l.tally + 1 - g.from) ≡ folded name ∷ seen_by g.image.now l.index g.from l.tally = rw c.number_in.ensures at c.enter_name.ensures.seen in
    let e = rw c.in_ok-tally.was at c.enter.ensures in
    let step = sym (e name start).0 in
    let next = number_more _ _ _ _ _ l.tally _ _ _ t (sym step) in
    let seen = seen_more _ l.index _ _ (folded name) l.tally t next l.invariant.1 more in (
      (search rules, search rules, search rules, (e [] 0).1),
      numbered_more _ l.index _ _ (folded name) l.tally t next l.invariant.1 indexed,
      ap (λ b. b.now) (reads p).same_block ∙ l.invariant.2,
      sym (enter_step _ _ _ _ _ name start rest _ _ _ x.entry (alike ∙ c.if-enter_name.false) _ _ _ _ seen step) ∙ (rw (first_left p) at l.invariant.3),
      sym (seen_step _ _ _ c.args.head.0 _ name start rest [] [] 0 x.entry _ seen) ∙ (rw (first_left p) at l.invariant.4),
    )

pub returns : goal.returns
returns c = let l = c.loop-item in
    let none = reads_none c.args.b.0 l.item-iterator c.next.new.self c.in-None.ensures.steps in
    let items = ap (map (item_in c.args.counts.now c.args.nexts.now c.args.heads.now)) none in
    record { entered = (sym (enter_none _ _ _ _ _ (twins-none _ _ items)) ∙ l.invariant.3, l.invariant.0.3); seen = (l.invariant.1, sym (seen_none _ _ items) ∙ l.invariant.4) }
