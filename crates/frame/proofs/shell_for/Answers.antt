use Rattle.frame.proofs.shell_for.Goals as goal

pub returns : goal.returns
returns c = rw (← c.prn_of.ensures, ← c.is_prn.ensures) c.shell_verdict.ensures
