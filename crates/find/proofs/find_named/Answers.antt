use Rattle.rules.specs.Lookup.{entry_named}
use Rattle.rules.specs.Anodes.{Anodes}
use Rattle.find.proofs.Laws.{reached_said, own_heads, open_unbroken, search_answered}
use Rattle.find.proofs.find_named.Goals as goal

pub is_reached-requires : goal.is_reached-requires
is_reached-requires c = own_heads c.requires.2

pub returns-then-not-is_reached : goal.returns-then-not-is_reached
returns-then-not-is_reached c = rw (reached_said c.requires.2 _ _ _ c.is_reached.ensures c.if-not-is_reached.true)

pub entry_named-requires : goal.entry_named-requires
entry_named-requires c = open_unbroken c.requires.2 _ (reached_said c.requires.2 _ _ _ c.is_reached.ensures c.if-not-is_reached.false)

pub returns : goal.returns
returns c = let a = c.args in
    search_answered c.requires.2 _ (reached_said c.requires.2 _ _ _ c.is_reached.ensures c.if-not-is_reached.false) (λ (s : Anodes). entry_named a.image.now s a.head.0 a.name.now) c.entry_named.result c.entry_named.ensures c.ok_or.result c.ok_or.ensures.value
