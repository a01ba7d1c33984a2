use borrow.Author.Rules.{rules}
use Prim.Native.Nat.{◌+◌, ◌*◌}
use borrow.Author.Tests.{lt-ltb, le-ltb}
use Rattle.bits.proofs.FieldLaws.{field_lt}
use Rattle.mask_reading.proofs.mask_byte.Goals as goal

pub returns-then-j-lt31 : goal.returns-then-j-lt31
returns-then-j-lt31 c = rw (lt-ltb _ _ c.if-j-lt31.true) c.get8.ensures

pub overflow_mul-result : goal.overflow_mul-result
overflow_mul-result c =
    let a = c.args in
    let h = field_lt a.s.now (a.at + 8 * a.j) 7 in
    search rules

pub returns : goal.returns
returns c = rw (le-ltb _ _ c.if-j-lt31.false, c.get8-2.ensures)
