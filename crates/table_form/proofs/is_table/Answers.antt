use borrow.Author.Rules.{rules}
use mathlib.Core.Path.{sym}
use Rattle.table_form.specs.Table.{is_table}
use Rattle.table_form.proofs.RoomLaws.{not_long}
use borrow.Author.Tests.{eq-eqb}
use Rattle.table_form.proofs.is_table.Goals as goal

pub returns-then-t-ne-TABLE_SIZE : goal.returns-then-t-ne-TABLE_SIZE
returns-then-t-ne-TABLE_SIZE c = sym (not_long _ c.if-t-ne-TABLE_SIZE.true)

pub returns : goal.returns
unfolding is_table
returns c =
    rw (eq-eqb _ _ c.if-t-ne-TABLE_SIZE.false)
    (rw (c.is_right-4.ensures, c.is_right-3.ensures, c.is_right-2.ensures, c.is_right.ensures, c.byte-d.ensures, c.byte-c.ensures, c.byte-b.ensures, c.byte-a.ensures))
