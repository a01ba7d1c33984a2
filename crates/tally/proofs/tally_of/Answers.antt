use borrow.Author.Rules.{rules}
use Prim.Native.Nat.{ℕ, ◌*◌}
use mathlib.Core.List.{List}
use mathlib.Core.Path.{ap}
use Rattle.bits.proofs.MadeLaws.{made_table}
use Rattle.lent.specs.Digits.{four_at}
use Rattle.tally.specs.Tally.{tally_of}
use Rattle.tally.specs.declared.Tally.{Tally}
use Rattle.tally.proofs.tally_of.Goals as goal

-- the counters as a tally
abbrev made : List ℕ → Tally
made l = record { counts = l }

pub returns : goal.returns
unfolding tally_of
returns c =
    ap made (made_table (λ (i : ℕ). four_at c.args.tally.now (4 * i)) _ _ _ c.from_fn.ensures.items (λ j y q k. search rules))
