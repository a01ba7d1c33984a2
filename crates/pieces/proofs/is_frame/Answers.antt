use borrow.Author.Tests.{eq-eqb, ne_eqb}
use mathlib.Core.Path.{◌≡◌, sym, ap, ◌∙◌}
use mathlib.Core.Bool.{true, false, true≢false}
use Prim.Native.Nat.{ℕ}
use lib.Dec.{eqb}
use Rattle.bits.specs.Bits.{field_at}
use Rattle.pieces.specs.Pieces.{is_frame}
use Rattle.pieces.proofs.is_frame.Goals as goal
use Rattle.pieces.proofs.is_frame.Goals.{then-f-eq125, else-f-eq125}

pub returns-then-get16-eq60304 : goal.returns-then-get16-eq60304
unfolding is_frame
returns-then-get16-eq60304 c =
    let so = c.if-get16-eq60304.true in
    elim c.if-f-eq125.branch [
      | then-f-eq125 w ↦
          let sync : eqb (field_at c.args.f.now 0 16) 0xEB90 ≡ true = ap (λ (n : ℕ). eqb n 0xEB90) (sym w.get16.ensures) ∙ sym w.value-is ∙ so in
          rw (eq-eqb _ _ w.if-f-eq125.true, sync) c.parity_ok.ensures
      | else-f-eq125 w ↦ absurd (true≢false (sym so ∙ w.value-is ∙ ne_eqb _ _ w.if-f-eq125.false))
    ]

pub returns-else-get16-eq60304 : goal.returns-else-get16-eq60304
unfolding is_frame
returns-else-get16-eq60304 c =
    let so = c.if-get16-eq60304.false in
    elim c.if-f-eq125.branch [
      | then-f-eq125 w ↦
          let sync : eqb (field_at c.args.f.now 0 16) 0xEB90 ≡ false = ap (λ (n : ℕ). eqb n 0xEB90) (sym w.get16.ensures) ∙ sym w.value-is ∙ so in
          rw (so, eq-eqb _ _ w.if-f-eq125.true, sync)
      | else-f-eq125 w ↦ rw (w.value-is, ne_eqb _ _ w.if-f-eq125.false)
    ]
