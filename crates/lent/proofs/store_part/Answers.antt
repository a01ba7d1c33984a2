use native.Mathlib.Omega.{arith}
use Prim.Native.Nat.{ℕ}
use mathlib.Core.Path.{refl, sym, ◌∙◌}
use lib.ListN.{length, get_or, take, length-set, length-take}
use Rattle.std.proofs.lemmas.List.{get_or-take}
use Rattle.bits.proofs.TableLaws.{fill_start, fill_step, fill_done, table_ext, table_same}
use Rattle.lent.proofs.store_part.Goals as goal

pub loop-i-init : goal.loop-i-init
loop-i-init c = (refl, fill_start _ _)

pub loop-i-preserved : goal.loop-i-preserved
loop-i-preserved c =
    let l = c.loop-i in
    (length-set l.room l.i (get_or c.args.r.now l.i 0) ∙ l.invariant.0, fill_step _ l.i _ _ _ 0 (omega arith) l.invariant.1 refl)

pub returns : goal.returns
returns c =
    let l = c.loop-i in
    let a = c.args in
    let n = length a.room.now in
    fill_done _ l.i n _ _ (omega arith) refl l.invariant.1
    ∙ table_ext _ (λ (i : ℕ). get_or (take n a.r.now) i 0) n (λ i h. sym (get_or-take n a.r.now i 0 h))
    ∙ table_same (take n a.r.now) n 0 (omega (arith, length-take {A = ℕ}))
