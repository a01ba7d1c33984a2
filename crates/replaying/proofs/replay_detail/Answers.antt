use Prim.Native.Nat.{ℕ}
use mathlib.Core.Path.{sym, ap, ◌∙◌}
use mathlib.Core.List.{List}
use Rattle.in_force.specs.Bytes.{run_bytes, frames_of}
use Rattle.answers.specs.Detail.{detail_in}
use Rattle.verdict.proofs.NumberLaws.{none_said, one_said}
use Rattle.ledger_calls.specs.Ledger.{verdicts_of}
use Rattle.ledger_calls.proofs.ReplayLaws.{refusal_fits, replay_no, replay_yes}
use Rattle.replaying.proofs.replay_detail.Goals as goal

pub returns-in-Err : goal.returns-in-Err
returns-in-Err c =
    let a = c.args in
    let w = one_said _ _ c.in-Err.ensures in
    let p = replay_no detail_in a.ledger.now a.prn a.log.now a.details.now _ w.0 (λ z. w.1 (sym w.0 ∙ z)) in
    record { answer = p.0; bytes = p.1.0; answers = p.1.1 }

pub take_all_detail-requires : goal.take_all_detail-requires
take_all_detail-requires c = refusal_fits _ _ _ _ (none_said _ c.in_default.ensures)

pub returns : goal.returns
returns c =
    let a = c.args in
    let t = c.take_all_detail.ensures in
    let f = c.make_fresh.ensures in
    let p = replay_yes detail_in a.ledger.now a.prn a.log.now a.details.now _ _ (none_said _ c.in_default.ensures) (t.bytes ∙ ap (λ (s : List ℕ). run_bytes s (frames_of a.log.now)) f) (t.answers ∙ ap (λ (s : List ℕ). verdicts_of detail_in s a.log.now) f) in
    record { answer = p.0; bytes = p.1.0; answers = p.1.1 }
