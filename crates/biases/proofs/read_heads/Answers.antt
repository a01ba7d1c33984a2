use mathlib.Core.Path.{refl}
use Rattle.biases.specs.Biases.{no_biases}
use native.Mathlib.Omega.{arith}
use Prim.Native.Nat.{◌+◌}
use Rattle.bits.proofs.FieldLaws.{field_lt}
use Rattle.biases.proofs.read_heads.Goals as goal

pub read_sats-sats-requires : goal.read_sats-sats-requires
read_sats-sats-requires c =
    let a = c.args in
    let h = field_lt a.s.now (a.at + 17 + 4 + 2 + 0) 5 in
    (omega arith, omega arith)

pub returns : goal.returns
unfolding no_biases
returns c = rw (c.no_biases-none.ensures, c.read_sats-sats.ensures, c.get8-count.ensures, c.get8-ssr.ensures, c.get32-epoch.ensures) refl
