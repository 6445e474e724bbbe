use Rattle.safe_named.proofs.Laws.{call_refused, call_changes}
use Rattle.named_changes.proofs.Laws.{wrong_type, right_type, made_kind, right_entry, there_said, none_said, make_wrong, make_nowhere, make_there, make_fine}
use Rattle.lookup.specs.Answers.{entry_of}
use Rattle.find.proofs.Laws.{reached_said, own_heads, open_unbroken, by_image}
use Rattle.safe_rules.specs.SafePlans.{make_change}
use Rattle.rules.specs.Plans.{table_of}
use Rattle.rules.specs.Changes.{new_entry, parent_of}
use Rattle.rules.specs.Lookup.{entry_named}
use Rattle.rules.specs.Calls.{wrong_entry}
use Rattle.rules.specs.Walk.{Dir}
use Rattle.rules.specs.Anodes.{Anodes, anodes_of}
use Rattle.directory.specs.Entries.{kind_read}
use mathlib.Core.List.{List}
use mathlib.Core.Bool.{Bool}
use mathlib.Core.Path.{◌≡◌, sym, ap, ◌∙◌}
use Rattle.std.specs.Prelude.{Ok}
use Rattle.safe_named.proofs.safe_make_named.Goals as goal
use Rattle.safe_named.proofs.safe_make_named.Goals.{After-wrong_entry, After-entry_named}

pub returns-in_default : goal.returns-in_default
returns-in_default c = call_refused _ _ _ _ (make_wrong _ _ _ _ _ _ (wrong_type _ _ _ _ (sym c.try_from.ensures ∙ c.in_default.is)))

-- what was read of the type
read_as : (c : After-wrong_entry) → kind_read c.args.kind ≡ Ok c.in-Ok.k
read_as c = sym c.try_from.ensures ∙ c.in-Ok.is

wrong_as : (c : After-wrong_entry) → let g = c.args in wrong_entry g.kind g.name.now g.comment.now ≡ c.wrong_entry.result
wrong_as c = right_type _ _ (read_as c) _ _ ∙ sym c.wrong_entry.ensures

-- what was found of the name
found_as : (c : After-entry_named) → let a = c.args in entry_of a.image.now c.entry_named.result ≡ entry_named a.image.now (anodes_of a.image.now) a.head.0 a.name.now
found_as c = by_image c.requires.0 (λ (s : Anodes). entry_named c.args.image.now s c.args.head.0 c.args.name.now) _ c.entry_named.ensures

pub returns-then-wrong_entry : goal.returns-then-wrong_entry
returns-then-wrong_entry c = call_refused _ _ _ _ (make_wrong _ _ _ _ _ _ (wrong_as (goal.at.returns-then-wrong_entry c).After-wrong_entry ∙ c.if-wrong_entry.true))

pub is_reached-requires : goal.is_reached-requires
is_reached-requires c = own_heads c.requires.0

pub returns-then-not-is_reached : goal.returns-then-not-is_reached
returns-then-not-is_reached c =
    call_refused _ _ _ _ (make_nowhere _ _ _ _ _ _ (wrong_as (goal.at.returns-then-not-is_reached c).After-wrong_entry ∙ c.if-wrong_entry.false) (reached_said c.requires.0 _ _ _ c.is_reached.ensures c.if-not-is_reached.true))

pub entry_named-requires : goal.entry_named-requires
entry_named-requires c = open_unbroken c.requires.0 _ (reached_said c.requires.0 _ _ _ c.is_reached.ensures c.if-not-is_reached.false)

pub returns-then-is_some : goal.returns-then-is_some
returns-then-is_some c =
    let there = there_said _ _ (sym c.if-is_some.ensures) in
    call_refused _ _ _ _
    (make_there _ _ _ _ _ _ (wrong_as (goal.at.returns-then-is_some c).After-wrong_entry ∙ c.if-wrong_entry.false) there.0 (reached_said c.requires.0 _ _ _ c.is_reached.ensures c.if-not-is_reached.false)
    (sym (found_as (goal.at.returns-then-is_some c).After-entry_named) ∙ there.1))

pub safe_make_entry-requires : goal.safe_make_entry-requires
safe_make_entry-requires c =
    let p = c.requires in
    let g = right_entry _ _ (sym c.wrong_entry.ensures ∙ c.if-wrong_entry.false) in
    record {
      loaded = (p.0.loaded, p.1);
      head_value = (reached_said p.0 _ _ _ c.is_reached.ensures c.if-not-is_reached.false, c.parent_of-parent.ensures ∙ ap (λ (l : List Dir). parent_of l c.args.head.0) p.0.queued);
      name_value = g;
    }

pub returns : goal.returns
returns c =
    let a = c.args in
    call_changes _ _ _ (make_fine _ _ _ _ _ _ (wrong_as (goal.at.returns c).After-wrong_entry ∙ c.if-wrong_entry.false) (reached_said c.requires.0 _ _ _ c.is_reached.ensures c.if-not-is_reached.false)
    (sym (found_as (goal.at.returns c).After-entry_named) ∙ none_said _ _ (sym c.if-is_some.ensures)))
    _ (ap (λ (d : Bool). make_change a.image.now (table_of a.image.now) a.head.0 (new_entry d a.name.now a.comment.now a.day a.minute a.tick a.protection)) (sym (made_kind _ _ (read_as (goal.at.returns c).After-wrong_entry))))
    _ _ _ c.safe_make_entry.ensures
