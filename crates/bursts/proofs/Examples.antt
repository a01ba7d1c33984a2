-- 24 neighbouring positions are the most in a message: the polynomial's own pattern of 25 goes through.
use mathlib.Core.Path.{◌≡◌, refl, ap}
use mathlib.Core.List.{List, [], ◌∷◌, ◌++◌}
use Prim.Native.Nat.{ℕ}
use native.Mathlib.Omega.{arith}
use lib.ListN.{replicate}
use Rattle.bits.specs.Bits.{bit_at, bits_from, field_at}
use Rattle.bits.specs.Poly.{times_x}
use Rattle.check24.specs.Check.{feed_of, check_bits, check_of}
use Rattle.judge.specs.Judge.{refusal_of, refusal_at}
use Rattle.contents.specs.Parts.{contents_at}
use Rattle.verdict.specs.Verdict.{number_in}
use Rattle.message.specs.Read.{Answer, answer, read_message}
use Rattle.bursts.specs.Run.{Run}
use Rattle.bursts.specs.Burst.{refusal, refused_with, Caught}
use Rattle.bursts.proofs.TestLaws.{same_from, run_tested}

-- 01's all-zero message, and the same with the polynomial's 25 digits, 0x1864CFB, in bits 461 to 485
abbrev pub zeros : List ℕ
zeros = replicate 61 0

abbrev pub pattern : List ℕ
pattern = replicate 57 0 ++ 0x06 ∷ 0x19 ∷ 0x33 ∷ 0xEC ∷ []

-- both pass 1, 2 and 7, and are refused 8
pub both_8 : (refusal zeros ≡ 8) × (refusal pattern ≡ 8)
unfolding read_message answer refusal_of refusal_at contents_at check_of check_bits bits_from feed_of times_x field_at bit_at
both_8 = (refl, refl)

-- a run of 25
pub run_25 : Run 486 25 zeros pattern
unfolding same_from bit_at
run_25 = run_tested zeros pattern 461 2 refl refl tt tt (λ e. omega arith)

-- so of 25 positions the statement would be false
pub not_25 : Caught 25 → ⊥
not_25 h =
    let z : refusal zeros ≡ 8 = both_8.0 in
    let r : read_message pattern ≡ refused_with 7 = h zeros pattern (λ a. omega arith, λ a. omega arith, λ a. omega arith) run_25 in
    let e : refusal pattern ≡ 7 = ap (λ (x : Answer). number_in x.said) r in
    omega (arith, both_8.1)
