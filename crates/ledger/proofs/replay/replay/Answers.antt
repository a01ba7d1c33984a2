use borrow.Author.Rules.{rules}
use Prim.Native.Nat.{ℕ}
use mathlib.Core.Path.{◌≡◌, ap, ◌∙◌}
use mathlib.Core.List.{List}
use lib.ListN.{length}
use Rattle.verdict.specs.Verdict.{says}
use Rattle.verdict.proofs.NumberLaws.{handed_on}
use Rattle.held_mask.specs.Size.{size}
use Rattle.in_force.specs.Bytes.{run_bytes, frames_of}
use Rattle.in_force.proofs.ReplayLaws.{replayed_not, replayed_all}
use Rattle.ledger.proofs.WayLaws.{opened_ten, refused_other}
use Rattle.ledger.proofs.replay.replay.Goals as goal

pub returns-in_err-open : goal.returns-in_err-open
returns-in_err-open c =
    let a = c.args in
    let e = c.in_err-open.ensures in
    let no = refused_other a.prn _ e.verdict in
    record {
      verdict = ap says (handed_on _ _ c.from_residual.ensures) ∙ e.verdict;
      ledger = rw (e.bytes, no) (replayed_not a.ledger.now a.prn a.log.now no);
    }

pub returns : goal.returns
returns c =
    let a = c.args in
    let e = c.in_ok-open.ensures in
    let yes = opened_ten a.prn e.verdict in
    let long : length a.ledger.now ≡ size = let g = c.type_inv in search rules in
    let opened = e.bytes ∙ rw yes in
    let ran = c.take_log.ensures ∙ ap (λ (s : List ℕ). run_bytes s (frames_of a.log.now)) opened in
    record { verdict = e.verdict; ledger = replayed_all a.ledger.now a.prn a.log.now yes long _ ran }
