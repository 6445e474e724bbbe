use Rattle.entry_pairs.proofs.Laws.{partner_both, partner_none, partner_missing}
use mathlib.Core.Path.{sym, ap, ◌∙◌}
use mathlib.Core.Logic.{inl, inr}
use Rattle.directory.specs.Entries.{is_dir}
use Rattle.lookup.specs.Answers.{entered}
use Rattle.entry_pairs.proofs.partner.Goals as goal

pub returns-in_default : goal.returns-in_default
returns-in_default c = λ img j e k. rw c.in_default.is (partner_missing (entered img e))

pub returns-then-not-is_directory : goal.returns-then-not-is_directory
returns-then-not-is_directory c = λ img j e k. rw c.in-Some.is (partner_none (entered img e) _ (inl (ap is_dir k ∙ sym c.is_directory.ensures ∙ c.if-not-is_directory.true)))

pub returns-then-not-is_directory-2 : goal.returns-then-not-is_directory-2
returns-then-not-is_directory-2 c = λ img j e k. rw c.in-Some.is (partner_none (entered img e) _ (inr (sym c.is_directory-2.ensures ∙ c.if-not-is_directory-2.true)))

pub returns : goal.returns
returns c = λ img j e k. rw c.in-Some.is (partner_both (entered img e) _ (ap is_dir k ∙ sym c.is_directory.ensures ∙ c.if-not-is_directory.false) (sym c.is_directory-2.ensures ∙ c.if-not-is_directory-2.false))
