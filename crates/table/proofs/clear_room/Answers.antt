use Prim.Native.Nat.{ℕ}
use mathlib.Core.Path.{ap, ◌∙◌}
use lib.ListN.{length, replicate}
use mathlib.Core.List.{List}
use Rattle.table_form.proofs.PartLaws.{lent_part, back_part}
use Rattle.table.proofs.clear_room.Goals as goal

pub returns : goal.returns
returns c =
    let a = c.args in
    back_part a.t.now _ _ a.i (c.clear.ensures ∙ ap (λ (r : List ℕ). replicate (length r) 0) (lent_part a.t.now a.i))
