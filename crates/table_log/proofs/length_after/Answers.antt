use borrow.Author.Rules.{rules}
use mathlib.Core.Path.{sym, ap, ◌∙◌}
use mathlib.Core.Bool.{Bool}
use Rattle.bits.specs.Pick.{pick}
use Rattle.pieces.specs.Pieces.{piece_length}
use Rattle.table_log.proofs.length_after.Goals as goal

pub returns-then-n : goal.returns-then-n
returns-then-n c = sym (ap (λ (b : Bool). pick b 125 (piece_length c.args.s.now)) c.if-n.true)

pub returns : goal.returns
returns c =
    c.piece_length.ensures ∙ sym (ap (λ (b : Bool). pick b 125 (piece_length c.args.s.now)) c.if-n.false)
