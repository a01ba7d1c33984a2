use Prim.Native.Nat.{ℕ}
use mathlib.Core.Path.{ap, ◌∙◌}
use mathlib.Core.List.{List}
use Rattle.in_force.specs.Bytes.{fresh}
use Rattle.table_form.proofs.PartLaws.{lent_part, back_part}
use Rattle.table.proofs.open_room.Goals as goal

pub returns : goal.returns
returns c =
    let a = c.args in
    back_part a.t.now _ _ a.i (c.make_fresh.ensures ∙ ap (λ (r : List ℕ). fresh r a.prn) (lent_part a.t.now a.i))
