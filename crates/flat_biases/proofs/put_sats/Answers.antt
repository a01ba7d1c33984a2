use mathlib.Core.Path.{refl}
use Rattle.flat_biases.specs.Biases.{flat_sat_row}
use Rattle.flat_numbers.proofs.RowLaws.{rows_start, rows_next}
use Rattle.flat_biases.proofs.put_sats.Goals as goal

pub loop-i-init : goal.loop-i-init
loop-i-init c = let a = c.args in rows_start (flat_sat_row a.rs.now) 3 (λ i. refl) a.room.now 271

pub loop-i-preserved : goal.loop-i-preserved
loop-i-preserved c =
    let l = c.loop-i in
    let a = c.args in
    rw (c.store.ensures, c.sat_bytes.ensures) (rows_next (flat_sat_row a.rs.now) 3 (λ i. refl) a.room.now l.room 271 l.i _ l.invariant refl)
