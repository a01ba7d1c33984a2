use Prim.Native.Nat.{ℕ}
use mathlib.Core.Path.{ap, ◌∙◌}
use Rattle.in_force.specs.Bytes.{take_says, take_bytes}
use Rattle.table_form.proofs.PartLaws.{lent_part, back_part}
use mathlib.Core.List.{List}
use Rattle.table.proofs.take_room.Goals as goal

pub returns : goal.returns
returns c =
    let a = c.args in
    let p = lent_part a.t.now a.i in
    let e = c.take_in.ensures in
    record {
      verdict = e.verdict ∙ ap (λ (r : List ℕ). take_says r a.frame.now) p;
      bytes = back_part a.t.now _ _ a.i (e.bytes ∙ ap (λ (r : List ℕ). take_bytes r a.frame.now) p);
    }
