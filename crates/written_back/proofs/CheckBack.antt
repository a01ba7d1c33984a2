-- The check, put after the first 462 bits, is right.
use mathlib.Core.Path.{◌≡◌, sym, ap, ◌∙◌}
use mathlib.Core.Logic.{inl}
use mathlib.Core.Bool.{true}
use mathlib.Core.List.{List}
use Prim.Native.Nat.{ℕ, zero, suc, ◌+◌, ◌^◌, ◌<◌}
use lib.Dec.{lit<}
use lib.ListN.{length}
use native.Mathlib.Nat.{mod-eq_of_lt}
use native.Mathlib.Omega.{arith}
use borrow.Author.Tests.{eq-eqb}
use Rattle.bits.specs.Bits.{bit_at, bits_from, put_at}
use Rattle.bits.proofs.FieldLaws.{bit_lt}
use Rattle.bits.proofs.PutLaws.{field_put}
use Rattle.bits.proofs.RunLaws.{bits_ext}
use Rattle.check24.specs.Check.{feed_of, check_bits, check_of, check_ok}
use Rattle.check24.proofs.CheckLaws.{feed_lt}
use Rattle.writing.specs.Write.{check_put}
use Rattle.fitting.proofs.BesideLaws.{Beside, put_beside}

pub check_beside : (s : List ℕ) → Beside 462 486 s (check_put s)
unfolding check_put
check_beside s = put_beside s 462 24 (check_of s 0 462)

-- 01, Parity and check bits: the register stays within 24 bits
register_lt : (s : List ℕ) (i n r : ℕ) → r < 2 ^ 24 → check_bits r (bits_from s i n) < 2 ^ 24
unfolding check_bits bits_from
register_lt s i zero r h = h
register_lt s i (suc n) r h = register_lt s (i + 1) n (feed_of r (bit_at s i)) (feed_lt r (bit_at s i) h (bit_lt s i))

check_lt : (s : List ℕ) (at n : ℕ) → check_of s at n < 2 ^ 24
unfolding check_of
check_lt s at n = register_lt s at n 0 (lit< tt)

check_same : (s t : List ℕ) → Beside 462 486 s t → check_of t 0 462 ≡ check_of s 0 462
unfolding check_of
check_same s t b = ap (check_bits 0) (bits_ext t s 0 462 (λ j l h. b.out j (inl h)))

-- a check that was put is right
pub check_right : (s : List ℕ) → length s ≡ 61 → check_ok (check_put s) 0 462 ≡ true
unfolding check_put
check_right s e =
    eq-eqb _ _
    (check_same s (put_at s 462 24 (check_of s 0 462)) (check_beside s)
    ∙ sym (field_put s 462 24 (check_of s 0 462) (omega arith) ∙ mod-eq_of_lt (check_lt s 0 462)))
