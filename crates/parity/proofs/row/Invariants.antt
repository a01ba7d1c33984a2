use Rattle.std.proofs.Common.{◌≡◌}
use lib.Bits.{bit_xor}
use Rattle.field64.specs.Padded.{pad_logs, pad_powers}
use Rattle.parity.specs.Unpacked.{row_by}
use Rattle.parity.proofs.row.Given as goal

abbrev pub invariant-loop-p : goal.invariant-loop-p
invariant-loop-p l =
    bit_xor l.s (row_by pad_logs pad_powers l.ls l.p-iterator.a.rest.now l.p-iterator.b.rest.now) ≡ row_by pad_logs pad_powers l.ls l.fn.ps l.fn.fs
