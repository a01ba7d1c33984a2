use mathlib.Core.Path.{refl}
use Rattle.flat_forms.specs.Write.{flat_clock_row}
use Rattle.flat_numbers.proofs.RowLaws.{rows_start, rows_next}
use Rattle.flat_forms.proofs.put_clocks.Goals as goal

pub loop-i-init : goal.loop-i-init
loop-i-init c = let a = c.args in rows_start (flat_clock_row a.ks.now) 5 (λ i. refl) a.room.now 48

pub loop-i-preserved : goal.loop-i-preserved
loop-i-preserved c =
    let l = c.loop-i in
    let a = c.args in
    rw (c.store.ensures, c.clock_bytes.ensures) (rows_next (flat_clock_row a.ks.now) 5 (λ i. refl) a.room.now l.room 48 l.i _ l.invariant refl)
