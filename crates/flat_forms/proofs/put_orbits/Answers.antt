use mathlib.Core.Path.{refl}
use Rattle.flat_forms.specs.Write.{flat_orbit_row}
use Rattle.flat_numbers.proofs.RowLaws.{rows_start, rows_next}
use Rattle.flat_forms.proofs.put_orbits.Goals as goal

pub loop-i-init : goal.loop-i-init
loop-i-init c = let a = c.args in rows_start (flat_orbit_row a.os.now) 16 (λ i. refl) a.room.now 169

pub loop-i-preserved : goal.loop-i-preserved
loop-i-preserved c =
    let l = c.loop-i in
    let a = c.args in
    rw (c.store.ensures, c.orbit_bytes.ensures) (rows_next (flat_orbit_row a.os.now) 16 (λ i. refl) a.room.now l.room 169 l.i _ l.invariant refl)
