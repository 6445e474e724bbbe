use Rattle.rules.specs.Lookup.{entries_of, nth}
use Rattle.rules.specs.Anodes.{Anodes}
use Rattle.change_laws.specs.Answers.{list_search}
use Rattle.find.proofs.Laws.{reached_said, own_heads, open_unbroken, search_answered}
use Rattle.find.proofs.find_nth.Goals as goal

pub is_reached-requires : goal.is_reached-requires
is_reached-requires c = own_heads c.requires.2

pub returns-then-not-is_reached : goal.returns-then-not-is_reached
returns-then-not-is_reached c = rw (list_search _ _ _ _, reached_said c.requires.2 _ _ _ c.is_reached.ensures c.if-not-is_reached.true)

pub nth_entry-requires : goal.nth_entry-requires
nth_entry-requires c = open_unbroken c.requires.2 _ (reached_said c.requires.2 _ _ _ c.is_reached.ensures c.if-not-is_reached.false)

pub returns : goal.returns
returns c = let a = c.args in
    rw (list_search _ _ _ _) (search_answered c.requires.2 _ (reached_said c.requires.2 _ _ _ c.is_reached.ensures c.if-not-is_reached.false) (λ (s : Anodes). nth (entries_of a.image.now s a.head.0) a.n) c.nth_entry.result c.nth_entry.ensures c.ok_or.result c.ok_or.ensures.value)
