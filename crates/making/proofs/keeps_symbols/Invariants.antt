use mathlib.Core.Path.{◌≡◌}
use Rattle.making.specs.Check.{keeps}
use Rattle.making.proofs.keeps_symbols.Given as goal

abbrev pub invariant-loop-n : goal.invariant-loop-n
invariant-loop-n l = keeps l.message l.frame l.n ≡ keeps l.message l.frame 81
