use borrow.Author.Rules.{rules}
use mathlib.Core.Path.{◌≡◌}
use lib.ListN.{length}
use Rattle.flat_biases.proofs.FlatLaws.{codes_two}
use Rattle.flat_biases.proofs.put_code_part.Goals as goal

pub returns : goal.returns
returns c =
    let a = c.args in
    let long : length a.u.codes ≡ 70 = let g = c.type_inv in search rules in
    rw (c.store-2.ensures, c.store.ensures, c.code_head.ensures) (codes_two a.room.now a.u long)
