use Rattle.std.proofs.Common.{rules}
use Rattle.sheet.proofs.Widths.{name_cell-narrow, name_cell-wide}
use Rattle.sheet.proofs.layout.put_name.Goals as goal

pub returns-then-width-le-NAME_WIDTH : goal.returns-then-width-le-NAME_WIDTH
returns-then-width-le-NAME_WIDTH c =
    rw (← name_cell-narrow _ _ _ c.columns-width.ensures c.if-width-le-NAME_WIDTH.true) (search rules)

pub returns-in_ok-push : goal.returns-in_ok-push
returns-in_ok-push c =
    rw (← name_cell-wide _ _ _ c.columns-width.ensures c.if-width-le-NAME_WIDTH.false) (search rules)
