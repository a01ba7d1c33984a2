use borrow.Author.Tests.{lt-ltb, le-ltb}
use lib.IntN.{negsuc}
use mir.Syntax.{w32}
use mir.Facts.{to_z_pos, to_z-of_z}
use borrow.Author.Rules.{rules}
use native.Mathlib.Omega.{arith}
use Prim.Native.Nat.{◌-◌}
use Rattle.bits.proofs.SignLaws.{neg_sub}
use Rattle.sheet_reading.proofs.signed32.Goals as goal

pub overflow_sub-result : goal.overflow_sub-result
overflow_sub-result c =
    let x = c.args.x in rw (to_z_pos w32 {n = 4294967295 - x} (omega arith), neg_sub (4294967295 - x)) (record { sfits = omega arith })

pub returns-then-x-lt2147483648 : goal.returns-then-x-lt2147483648
returns-then-x-lt2147483648 c = simp (lt-ltb _ _ c.if-x-lt2147483648.true)

pub returns-else-x-lt2147483648 : goal.returns-else-x-lt2147483648
returns-else-x-lt2147483648 c =
    let x = c.args.x in
    rw (to_z_pos w32 {n = 4294967295 - x} (omega arith), neg_sub (4294967295 - x))
    (simp (le-ltb _ _ c.if-x-lt2147483648.false) (to_z-of_z {w = w32} {z = negsuc (4294967295 - x)} (record { sfits = omega arith })))
