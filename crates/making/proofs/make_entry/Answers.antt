use native.Mathlib.Omega.{arith}
use lib.ListN.{length}
use borrow.Author.Tests.{leb-true}
use Rattle.directory.specs.Entries.{good_comment, is_dir}
use Rattle.directory.proofs.Laws.{good_name-length}
use Rattle.rules.specs.Changes.{new_entry}
use Rattle.growing.specs.Grown.{growth_if}
use Rattle.growing.proofs.States.{growth-if_grows}
use Rattle.change_tables.specs.Chains.{loaded_copies}
use Rattle.making.proofs.Done.{stopped, planned_made}
use Rattle.placing.proofs.Found.{passed_on}
use borrow.Author.Rules.{rules}
use Rattle.making.proofs.make_entry.Goals as goal

pub overflow_cast-name : goal.overflow_cast-name
overflow_cast-name c = omega (arith, good_name-length c.args.name.now c.requires.name_value.0)

pub overflow_cast-comment : goal.overflow_cast-comment
unfolding good_comment
overflow_cast-comment c = omega (arith, leb-true (length c.args.comment.now) 79 c.requires.name_value.1)

pub plan_make-requires : goal.plan_make-requires
plan_make-requires c = let s = c in
    record { loaded = (loaded_copies s.requires.loaded.0 _ _ _ c.copied-new_counts.ensures c.copied-new_firsts.ensures c.copied-new_nexts.ensures, s.requires.head_value.0); slots_value = (c.slots_of-slots.ensures, search rules) }

pub returns-in_err-plan : goal.returns-in_err-plan
returns-in_err-plan c = let a = c.args in
    rw (passed_on c.from_residual.result _ c.from_residual.ensures.1)
    (stopped a.image.now (growth_if a.growing) _ (new_entry (is_dir a.kind) a.name.now a.comment.now a.day a.minute a.tick a.protection) _ (rw (c.in_err-plan.was, c.entry_len.ensures) at c.plan_make.ensures) _ _)

pub commit_make-requires : goal.commit_make-requires
commit_make-requires c = let s = c in
    record { loaded = (s.requires.loaded.0, s.requires.loaded.1, search rules); head_value = s.requires.head_value; name_value = s.requires.name_value; grows = (growth_if s.args.growing, growth-if_grows s.args.growing _ _, rw (c.in_ok-plan.was, c.entry_len.ensures) at c.plan_make.ensures) }

pub returns : goal.returns
returns c = let a = c.args in
    rw (planned_made a.image.now (growth_if a.growing) _ (new_entry (is_dir a.kind) a.name.now a.comment.now a.day a.minute a.tick a.protection) _ _ (rw (c.in_ok-plan.was, c.entry_len.ensures) at c.plan_make.ensures)) c.commit_make.ensures
