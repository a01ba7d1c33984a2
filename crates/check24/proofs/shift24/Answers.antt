use mathlib.Core.Path.{ap, ◌∙◌}
use Rattle.check24.specs.Eight.{shifted}
use Rattle.check24.proofs.EightLaws.{shifted_lt, shifted_add}
use Rattle.check24.proofs.shift24.Goals as goal

pub shift8-requires-2 : goal.shift8-requires-2
shift8-requires-2 c = rw c.shift8.ensures (shifted_lt 8 _ c.requires)

pub shift8-requires-3 : goal.shift8-requires-3
shift8-requires-3 c = rw (c.shift8-2.ensures, c.shift8.ensures) (shifted_lt 8 _ (shifted_lt 8 _ c.requires))

pub returns : goal.returns
returns c =
    rw (c.shift8-3.ensures, c.shift8-2.ensures, c.shift8.ensures) (ap (shifted 8) (shifted_add 8 8 _) ∙ shifted_add 8 16 _)
