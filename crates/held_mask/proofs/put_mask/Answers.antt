use borrow.Author.Rules.{rules}
use mathlib.Core.Path.{sym}
use Rattle.held_mask.proofs.MaskLaws.{mask_put}
use Rattle.held_mask.proofs.put_mask.Goals as goal

pub returns : goal.returns
returns c =
    let a = c.args in
    rw (c.store-2.ensures, c.store.ensures) (sym (mask_put a.t.now a.m (search rules)))
