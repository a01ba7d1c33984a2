use Rattle.std.proofs.Common.{◌≡◌, ◌*◌, ◌++◌, drop, replicate}
use Rattle.bits.specs.Table.{table}
use Rattle.parity.specs.Unpacked.{symbol_log}
use Rattle.parity.proofs.symbol_logs.Given as goal

abbrev pub invariant-loop-q : goal.invariant-loop-q
invariant-loop-q l = l.out ≡ table (symbol_log l.frame) (4 * l.q) ++ drop (4 * l.q) (replicate 256 0)
