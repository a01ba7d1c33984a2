use borrow.Author.Rules.{rules}
use Prim.Native.Nat.{ℕ, ◌+◌}
use lib.ListN.{get_or}
use Rattle.bits.specs.Bytes.{row_at}
use Rattle.bits.proofs.MadeLaws.{made_table}
use Rattle.flat_biases.proofs.read_codes.Goals as goal

pub returns : goal.returns
unfolding row_at
returns c = made_table (λ (k : ℕ). get_or c.args.t.now (446 + k) 0) _ _ _ c.from_fn.ensures.items (λ j y q k. search rules)
