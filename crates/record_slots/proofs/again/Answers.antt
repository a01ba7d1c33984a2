use borrow.Author.Rules.{rules}
use borrow.Author.Tests.{tests, ne_eqb}
use Prim.Native.Nat.{ℕ}
use mathlib.Core.Path.{◌∙◌}
use lib.Dec.{eqb}
use Rattle.std.proofs.lemmas.Iterator.{YieldsList-from_slice}
use Rattle.std.proofs.lemmas.Iterator.Search.{any_from_yields_List}
use Rattle.record_slots.proofs.SlotLaws.{any_slot}
use Rattle.record_slots.proofs.again.Goals as goal

pub returns-then-x-ne0 : goal.returns-then-x-ne0
returns-then-x-ne0 g c =
    let slot = g.T.Slotted.slot_in in
    let test = λ (x : ℕ). eqb x c.args.x in
    rw (ne_eqb _ _ c.if-x-ne0.true)
    (any_from_yields_List (λ r. test (slot r)) _ _ c.any.result c.any.ensures.ran (YieldsList-from_slice c.args.records.now cc) (λ x b q k. search (rules, tests))
    ∙ any_slot slot test c.args.records.now)
