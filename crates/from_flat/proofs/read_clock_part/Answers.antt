use borrow.Author.Rules.{rules}
use Rattle.from_flat.specs.Read.{flat_clocks_in}
use Rattle.from_flat.proofs.read_clock_part.Goals as goal

pub returns : goal.returns
unfolding flat_clocks_in
returns c =
    rw (c.read_clocks-clocks.ensures, c.byte-count.ensures, c.two-start.ensures, c.byte-iodp.ensures, c.byte-ssr.ensures, c.four-epoch.ensures)
