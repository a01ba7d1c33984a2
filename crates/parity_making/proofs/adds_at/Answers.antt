use Rattle.parity_making.specs.Walk.{adds}
use Rattle.parity_making.proofs.WalkLaws.{link_lt}
use Rattle.parity_making.proofs.adds_at.Goals as goal

pub bounds-m-link : goal.bounds-m-link
bounds-m-link c = rw c.link-2.ensures (link_lt c.args.k c.requires).0

pub bounds-m-link-2 : goal.bounds-m-link-2
bounds-m-link-2 c = rw c.link-4.ensures (link_lt c.args.k c.requires).1

pub returns : goal.returns
unfolding adds
returns c = rw (c.times-b.ensures, c.link-4.ensures, c.link-3.ensures, c.times-a.ensures, c.link-2.ensures, c.link.ensures)
