use mathlib.Core.Path.{refl}
use Rattle.bits.specs.Poly.{times_x}
use Rattle.bits.specs.Table.{table}
use Rattle.field64.specs.Field.{twice_of}
use Rattle.field64.specs.Logarithms.{log_from}
use Rattle.field64.specs.Padded.{pad_logs, pad_log}
use Rattle.field64.proofs.padded.padded_log.Goals as goal

pub returns : goal.returns
unfolding pad_logs pad_log log_from table twice_of times_x
returns c = refl
