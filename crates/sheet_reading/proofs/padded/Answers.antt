use borrow.Author.Rules.{rules}
use Prim.Native.Nat.{ℕ, ◌+◌}
use lib.ListN.{get_or}
use Rattle.bits.proofs.MadeLaws.{made_table}
use Rattle.bits.specs.Bytes.{row_at}
use Rattle.sheet_reading.proofs.padded.Goals as goal

pub returns : goal.returns
unfolding row_at
returns c = made_table (λ (i : ℕ). get_or c.args.s.now (c.args.at + i) 0) _ _ _ c.from_fn.ensures.items (λ j y q k. search rules)
