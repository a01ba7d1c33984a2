use Rattle.flat_biases.specs.Codes.{flat_codes_in}
use Rattle.flat_biases.proofs.read_code_part.Goals as goal

pub returns : goal.returns
unfolding flat_codes_in
returns c =
    rw (
      c.read_codes-codes.ensures,
      c.byte-sub.ensures,
      c.byte-iodp.ensures,
      c.byte-ssr.ensures,
      c.four-epoch.ensures,
    )
