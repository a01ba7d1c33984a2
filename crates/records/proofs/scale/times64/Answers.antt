use borrow.Author.Rules.{rules}
use mir.Facts.{to_z-of_z}
use Rattle.records.proofs.ScaleLaws.{wider, scaled}
use Rattle.records.proofs.scale.times64.Goals as goal

pub overflow_cast-result : goal.overflow_cast-result
overflow_cast-result c = rw (to_z-of_z c.ranges.raw) (wider c.args.raw c.ranges.raw)

pub overflow_mul-result : goal.overflow_mul-result
overflow_mul-result c =
    let z = c.args.raw in
    rw (to_z-of_z c.ranges.raw, to_z-of_z (wider z c.ranges.raw)) (scaled _ z (search rules) c.ranges.raw)

pub returns : goal.returns
returns c =
    let z = c.args.raw in
    rw (to_z-of_z c.ranges.raw, to_z-of_z (wider z c.ranges.raw), to_z-of_z (scaled 64 z (search rules) c.ranges.raw))
