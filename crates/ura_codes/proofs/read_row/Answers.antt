use borrow.Author.Rules.{rules}
use Rattle.bits.proofs.MadeLaws.{made_table}
use Rattle.ura_codes.specs.Codes.{codes_at, code_nth}
use Rattle.ura_codes.proofs.read_row.Goals as goal

pub returns : goal.returns
unfolding codes_at
returns c = made_table (code_nth c.args.s.now c.args.at) _ _ _ c.from_fn.ensures.items (λ j y q k. search rules)
