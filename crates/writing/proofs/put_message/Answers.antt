use borrow.Author.Rules.{rules}
use Rattle.writing.proofs.TakenLaws.{narrow}
use Rattle.writing.proofs.WriteLaws.{message_made}
use Rattle.writing.proofs.put_message.Goals as goal

pub put_parts-requires : goal.put_parts-requires
put_parts-requires c = rw c.layout_of-l.ensures (narrow c.args.c c.requires.0)

pub returns : goal.returns
returns c =
    message_made c.args.room.now _ _ _ _ _ c.requires.1 c.clear.ensures c.layout_of-l.ensures c.put_parts.ensures c.put_check.ensures
