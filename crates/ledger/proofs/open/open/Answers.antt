use mathlib.Core.Path.{sym, ◌∙◌}
use Rattle.ledger.proofs.open.open.Goals as goal

pub returns-then-not-is_prn : goal.returns-then-not-is_prn
returns-then-not-is_prn c =
    let no = sym c.is_prn.ensures ∙ c.if-not-is_prn.true in
    record { verdict = rw no; bytes = rw no }

pub returns : goal.returns
returns c =
    let yes = sym c.is_prn.ensures ∙ c.if-not-is_prn.false in
    record { verdict = rw yes; bytes = c.make_fresh.ensures ∙ rw yes }
