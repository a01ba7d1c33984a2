use borrow.Author.Rules.{rules}
use Rattle.bits.proofs.MadeLaws.{made_table}
use Rattle.making.specs.Make.{message_symbol, message_symbols}
use Rattle.making.proofs.symbols_of.Goals as goal

pub returns : goal.returns
unfolding message_symbols message_symbol
returns c = made_table (message_symbol c.args.message.now) _ _ _ c.from_fn.ensures.items (λ j y q k. search rules)
