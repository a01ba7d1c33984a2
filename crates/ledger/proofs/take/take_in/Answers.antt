use Prim.Native.Nat.{ℕ}
use mathlib.Core.Path.{ap, ◌∙◌}
use Rattle.verdict.specs.Verdict.{says}
use Rattle.verdict.proofs.NumberLaws.{handed_on}
use Rattle.frame.specs.Frame.{shell_for}
use Rattle.ledger.proofs.WayLaws.{shell_bad, shell_good}
use Rattle.ledger.proofs.take.take_in.Goals as goal

pub returns-in_err-shell_for : goal.returns-in_err-shell_for
returns-in_err-shell_for c =
    let f = c.args.frame.now in
    let both = shell_bad c.args.t.now f _ (c.in_err-shell_for.ensures ∙ ap (λ (p : ℕ). shell_for p f) c.ledger_prn.ensures) in
    record { verdict = ap says (handed_on _ _ c.from_residual.ensures) ∙ both.0; bytes = both.1 }

pub take_message-requires : goal.take_message-requires
take_message-requires c =
    let f = c.args.frame.now in
    shell_good c.args.t.now f (c.in_ok-shell_for.ensures ∙ ap (λ (p : ℕ). shell_for p f) c.ledger_prn.ensures)
