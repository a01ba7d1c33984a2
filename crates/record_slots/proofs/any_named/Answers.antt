use borrow.Author.Rules.{rules}
use borrow.Author.Tests.{tests}
use Prim.Native.Nat.{ℕ}
use mathlib.Core.Bool.{not}
use mathlib.Core.Path.{◌≡◌, refl, subst, ◌∙◌}
use lib.Dec.{eqb}
use Rattle.std.specs.List.{list_any}
use Rattle.std.proofs.lemmas.Fn.{fold_over, slice_gives, fronts}
use Rattle.record_slots.proofs.SlotLaws.{any_more, any_slot}
use Rattle.record_slots.proofs.any_named.Goals as goal

pub returns : goal.returns
returns g c =
    let slot = g.T.Slotted.slot_in in
    let test = λ (x : ℕ). not (eqb x 0) in
    subst (λ rs. c.fold.result ≡ list_any (λ r. test (slot r)) rs) c.iter.ensures.rest
    (fold_over fronts (λ y. y.now) _ (λ ys b. b ≡ list_any (λ r. test (slot r)) ys) _
    (λ ys a x b f' j k. (any_more (λ r. test (slot r)) ys x.now a b j (search (rules, tests)), search (rules, tests)))
    _ _ _ _ (slice_gives c.iter.result) refl c.fold.ensures.ran)
    ∙ any_slot slot test c.args.records.now
