use Rattle.std.proofs.Common.{◌≡◌, ◌+◌, ◌%◌, get_or, ◌∙◌, rules}
use Rattle.field64.specs.Padded.{pad_logs, pad_powers}
use Rattle.field64.proofs.PaddedLaws.{padded, pad_at}
use Rattle.parity_making.proofs.times.Goals as goal

pub returns : goal.returns
returns c =
    let a = c.args.a in
    let b = c.args.b in
    let e : c.padded_power.result ≡ get_or pad_powers ((get_or pad_logs a 0 + get_or pad_logs b 0) % 256) 0 = cc in
    e ∙ padded a b _ (search rules) (pad_at b (search rules))
