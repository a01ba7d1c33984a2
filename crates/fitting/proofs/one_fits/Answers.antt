use native.Mathlib.Omega.{arith}
use Prim.Native.Nat.{◌^◌}
use mathlib.Core.Path.{sym, ◌∙◌}
use lib.Pow.{pow_mono}
use borrow.Author.Tests.{lt-ltb}
use Rattle.fitting.proofs.one_fits.Goals as goal

pub returns-then-w-gt63 : goal.returns-then-w-gt63
returns-then-w-gt63 c =
    let a = c.args in
    lt-ltb 63 a.w (omega arith) ∙ sym (lt-ltb a.v (2 ^ a.w) (omega (arith, pow_mono {i = 64} {j = a.w} (omega arith))))
