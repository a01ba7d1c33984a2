use native.Mathlib.Omega.{arith}
use borrow.Author.Tests.{eq-eqb, ne_eqb}
use mathlib.Core.Path.{◌∙◌}
use Rattle.bits.proofs.FieldLaws.{got_field}
use Rattle.contents.specs.Parts.{clocks_in}
use Rattle.clock_reading.proofs.clocks_in.Goals as goal

pub returns-then-l-eq0 : goal.returns-then-l-eq0
unfolding clocks_in
returns-then-l-eq0 c = rw (eq-eqb _ _ c.if-l-eq0.true) c.no_clocks.ensures

pub returns : goal.returns
unfolding clocks_in
returns c =
    let l = c.args.l in
    rw (
      ne_eqb _ _ c.if-l-eq0.false,
      c.read_clocks-clocks.ensures,
      c.get16-start.ensures ∙ got_field 16 _ _ l.start (omega arith),
      c.get8-iodp.ensures ∙ got_field 8 _ _ l.iodp (omega arith),
      c.get8-ssr.ensures,
      c.get32-epoch.ensures,
    )
