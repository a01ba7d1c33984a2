use Rattle.judge.specs.Judge.{refusal_of}
use Rattle.judging.proofs.refusal_of.Goals as goal

pub returns : goal.returns
unfolding refusal_of
returns c =
    rw (
      c.refusal_by.ensures,
      c.any_late.ensures,
      c.bad_start.ensures,
      c.sat_faults-bs.ensures.high,
      c.sat_faults-bs.ensures.again,
      c.orbit_faults-os.ensures.high,
      c.orbit_faults-os.ensures.again,
      c.clock_faults-ks.ensures.high,
      c.clock_faults-ks.ensures.again,
    )
