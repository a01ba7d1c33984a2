use Prim.Native.Nat.{◌-◌}
use mathlib.Core.Path.{◌≡◌}
use Rattle.ura.specs.Ura.{code_from}
use Rattle.ura.proofs.seek_code.Given as goal

abbrev pub invariant-loop-c : goal.invariant-loop-c
invariant-loop-c l = code_from l.q l.c (63 - l.c) ≡ code_from l.q 1 62
