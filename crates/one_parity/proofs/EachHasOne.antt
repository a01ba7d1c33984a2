-- 02, CR 9: every message has a parity, and only one.
use Prim.Native.Nat.{ℕ, ◌<◌}
use mathlib.Core.Path.{◌≡◌, sym, ap, ◌∙◌}
use mathlib.Core.List.{List, [], ◌++◌}
use native.Mathlib.Omega.{arith}
use lib.ListN.{get_or, length}
use lib.Seq.{ext_get_or}
use lib.Bits.{bit_xor, xor_self}
use Rattle.bits.specs.Table.{table}
use Rattle.bits.proofs.TableLaws.{length_table, get_or_table}
use Rattle.bits.proofs.XorLaws.{xor_zero}
use Rattle.field64.proofs.ProductLaws.{product_lt}
use Rattle.parity_tables.specs.Tables.{positions, factors}
use Rattle.one_parity.specs.Inverse.{second_half}
use Rattle.one_parity.specs.OneParity.{group_sum, IsParity, EachHasOne}
use Rattle.one_parity.proofs.SumLaws.{sum_lt}
use Rattle.one_parity.proofs.Test.{has_inverse}
use Rattle.one_parity.proofs.SolveLaws.{act, act_ext, there, back}
use Rattle.one_parity.proofs.GroupLaws.{given, halves}

module _ (m : List ℕ) (e : length m ≡ 81) where
  -- symbol i of the parity: the inverse times what the message adds to the sums
  made : ℕ → ℕ
  made = act 81 has_inverse.inverse (given m)

  made_long : length (table made 81) ≡ 81
  made_long = length_table made 81

  made_six : (i : ℕ) → i < 81 → get_or (table made 81) i 0 < 64
  unfolding made
  made_six i h = rw (get_or_table made 81 i 0 h) (sum_lt _ 81 (λ j. product_lt _ _))

  made_zero : (g : ℕ) → g < 81 → group_sum (m ++ table made 81) (get_or positions g []) (get_or factors g []) ≡ 0
  unfolding made
  made_zero g h =
      halves m (table made 81) g e h
      ∙ ap (bit_xor (given m g))
      (act_ext 81 second_half _ made g (λ j l. get_or_table made 81 j 0 l)
      ∙ there 81 second_half has_inverse (given m) g h (sum_lt _ 81 (λ k. product_lt _ _)))
      ∙ xor_self (given m g)

  made_is : IsParity m (table made 81)
  made_is = record { long = omega (arith, made_long); six = λ i h. omega (arith, made_six i h); zero = λ g h. made_zero g (omega arith) }

  made_only : (v : List ℕ) → IsParity m v → v ≡ table made 81
  unfolding made
  made_only v p =
      ext_get_or 0 v (table made 81) (p.long ∙ sym made_long)
      (λ i h.
      let l : i < 81 = omega (arith, p.long) in
      sym (back 81 second_half has_inverse (λ (j : ℕ). get_or v j 0) i l (p.six i l))
      ∙ act_ext 81 has_inverse.inverse _ (given m) i (λ g k. sym (xor_zero (given m g) _ (sym (halves m v g e k) ∙ p.zero g k)))
      ∙ sym (get_or_table made 81 i 0 l))

-- CR 9: no message is without parity symbols, and they are the only ones
pub each_has_one : EachHasOne
each_has_one m e = record { parity = table (made m e) 81; is = made_is m e; only = made_only m e }
