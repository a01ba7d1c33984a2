use borrow.Author.Rules.{rules}
use borrow.Author.Tests.{tests}
use Prim.Native.Nat.{ℕ}
use mathlib.Core.Path.{◌∙◌}
use lib.Dec.{ltb}
use Rattle.std.proofs.lemmas.Iterator.{YieldsList-from_slice}
use Rattle.std.proofs.lemmas.Iterator.Search.{any_from_yields_List}
use Rattle.record_slots.proofs.SlotLaws.{any_slot}
use Rattle.record_slots.proofs.any_high.Goals as goal

pub returns : goal.returns
returns g c =
    let slot = g.T.Slotted.slot_in in
    let test = λ (x : ℕ). ltb 255 x in
    any_from_yields_List (λ r. test (slot r)) _ _ c.any.result c.any.ensures.ran (YieldsList-from_slice c.args.records.now cc) (λ x b q k. search (rules, tests))
    ∙ any_slot slot test c.args.records.now
