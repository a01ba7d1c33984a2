use Rattle.std.proofs.Common.{rules}
use Rattle.parity_making.proofs.WalkLaws.{parity_is}
use Rattle.parity_making.proofs.parity_of.Goals as goal

pub returns : goal.returns
returns c =
    parity_is c.args.m c.all_added-d.result c.around-y.result _ (let g = c.well_formed in search rules)
    c.all_added-d.ensures c.around-y.ensures c.in_order.ensures
