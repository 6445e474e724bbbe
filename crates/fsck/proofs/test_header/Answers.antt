use mathlib.Core.Path.{◌≡◌, sym, ◌∙◌}
use mathlib.Core.Bool.{false}
use native.Mathlib.Omega.{arith}
use Rattle.rules.specs.Accepted.{wrong_size, short_tables, wrong_type}
use Rattle.fsck.proofs.Laws.{header_1, header_2, header_3, header_4, header_none}
use Rattle.fsck.proofs.test_header.Goals as goal

pub returns-then-wrong_size : goal.returns-then-wrong_size
returns-then-wrong_size c = (header_1 _ _ _ (sym c.wrong_size.ensures ∙ c.if-wrong_size.true), omega arith)

pub returns-then-short_tables : goal.returns-then-short_tables
returns-then-short_tables c = let size_right : wrong_size c.args.image.now ≡ false = sym c.wrong_size.ensures ∙ c.if-wrong_size.false in
    (header_2 _ _ _ size_right (sym c.short_tables.ensures ∙ c.if-short_tables.true), omega arith)

pub returns-then-wrong_type : goal.returns-then-wrong_type
returns-then-wrong_type c = let size_right : wrong_size c.args.image.now ≡ false = sym c.wrong_size.ensures ∙ c.if-wrong_size.false in
    let tables-right : let g = c.args in short_tables g.image.now g.blocks g.anodes ≡ false = sym c.short_tables.ensures ∙ c.if-short_tables.false in
    (header_3 _ _ _ size_right tables-right (sym c.wrong_type.ensures ∙ c.if-wrong_type.true), omega arith)

pub returns-then-wrong_root : goal.returns-then-wrong_root
returns-then-wrong_root c = let size_right : wrong_size c.args.image.now ≡ false = sym c.wrong_size.ensures ∙ c.if-wrong_size.false in
    let tables-right : let g = c.args in short_tables g.image.now g.blocks g.anodes ≡ false = sym c.short_tables.ensures ∙ c.if-short_tables.false in
    let type_right : wrong_type c.args.image.now ≡ false = sym c.wrong_type.ensures ∙ c.if-wrong_type.false in
    (header_4 _ _ _ size_right tables-right type_right (sym c.wrong_root.ensures ∙ c.if-wrong_root.true), omega arith)

pub returns : goal.returns
returns c = let size_right : wrong_size c.args.image.now ≡ false = sym c.wrong_size.ensures ∙ c.if-wrong_size.false in
    let tables-right : let g = c.args in short_tables g.image.now g.blocks g.anodes ≡ false = sym c.short_tables.ensures ∙ c.if-short_tables.false in
    let type_right : wrong_type c.args.image.now ≡ false = sym c.wrong_type.ensures ∙ c.if-wrong_type.false in
    header_none _ _ _ size_right tables-right type_right (sym c.wrong_root.ensures ∙ c.if-wrong_root.false)
