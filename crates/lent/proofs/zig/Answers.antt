use native.Mathlib.Omega.{arith}
use Prim.Native.Nat.{◌*◌}
use mathlib.Core.Path.{◌≡◌}
use mathlib.Core.Bool.{false}
use lib.IntN.{ℤ, pos, negsuc, nat_abs}
use lib.Signed.{lt_z}
use mir.Syntax.{w16}
use mir.Val.{SFits, Fits}
use Rattle.bits.proofs.SignLaws.{not_neg}

zig-fits : (z : ℤ) → SFits w16 z → lt_z z (pos 0) ≡ false → Fits w16 (2 * nat_abs z)
zig-fits (pos x) f e = omega (arith, f.sfits)
zig-fits (negsuc m) f e = absurd (not_neg m e)
