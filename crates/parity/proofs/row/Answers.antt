use Rattle.std.proofs.Common.{refl, ◌∙◌}
use Rattle.std.proofs.lemmas.Slice.Zip.{either_empty_from_Zip}
use Rattle.field64.specs.Padded.{pad_logs, pad_powers}
use Rattle.parity.proofs.UnpackedLaws.{row_by_step, row_by_end}
use Rattle.parity.proofs.row.Goals as goal

pub loop-p-init : goal.loop-p-init
loop-p-init c =
    rw (c.into_iter-p-iterator.ensures.into_iter_gives, c.zip-p-items.ensures.first, c.iter.ensures.rest, c.zip-p-items.ensures.second.0) refl

pub loop-p-preserved : goal.loop-p-preserved
loop-p-preserved c =
    let h = c.in-Some.ensures.steps in
    rw c.term-s.ensures (row_by_step pad_logs pad_powers _ c.loop-p.s h.0 h.1 ∙ c.loop-p.invariant)

pub returns : goal.returns
returns c = row_by_end pad_logs pad_powers _ c.loop-p.s _ _ (either_empty_from_Zip _ c.next.new.self _ c.in-None.is c.next.ensures.steps) ∙ c.loop-p.invariant
