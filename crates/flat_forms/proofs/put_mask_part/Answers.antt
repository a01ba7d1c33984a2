use borrow.Author.Rules.{rules}
use mathlib.Core.Path.{◌≡◌}
use lib.ListN.{length}
use Rattle.flat_forms.proofs.FlatLaws.{mask_two}
use Rattle.flat_forms.proofs.put_mask_part.Goals as goal

pub returns : goal.returns
returns c =
    let a = c.args in
    let long : length a.m.bytes ≡ 32 = let g = c.type_inv in search rules in
    rw (c.store-2.ensures, c.store.ensures, c.mask_head-head.ensures) (mask_two a.room.now a.kind a.m long)
