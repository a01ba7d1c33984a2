use borrow.Author.Rules.{rules}
use Prim.Native.Nat.{ℕ, ◌+◌}
use lib.ListN.{get_or}
use Rattle.bits.specs.Bytes.{row_at}
use Rattle.bits.proofs.MadeLaws.{made_table}
use Rattle.from_flat.proofs.read_mask_bytes.Goals as goal

pub returns : goal.returns
unfolding row_at
returns c = made_table (λ (k : ℕ). get_or c.args.t.now (7 + k) 0) _ _ _ c.from_fn.ensures.items (λ j y q k. search rules)
