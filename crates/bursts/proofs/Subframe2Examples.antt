-- 24 neighbouring positions are the most in a subframe 2 too: the polynomial's own pattern of 25 goes through.
use mathlib.Core.Path.{◌≡◌, refl, ap}
use mathlib.Core.List.{List, [], ◌∷◌, ◌++◌}
use Prim.Native.Nat.{ℕ}
use native.Mathlib.Omega.{arith}
use lib.ListN.{replicate}
use Rattle.bits.specs.Bits.{bit_at, bits_from, field_at}
use Rattle.bits.specs.Poly.{times_x}
use Rattle.check24.specs.Check.{feed_of, check_bits, check_of}
use Rattle.verdict.specs.Verdict.{number_in}
use Rattle.subframe2.specs.Read.{Answer, answer, subframe2_refusal, read_subframe2}
use Rattle.bursts.specs.Run.{Run}
use Rattle.bursts.specs.Subframe2.{subframe2_number, subframe2_refused_with, Subframe2Caught}
use Rattle.bursts.proofs.TestLaws.{same_from, run_tested}

-- the all-zero subframe, and the same with the polynomial's 25 digits, 0x1864CFB, in bits 575 to 599
abbrev pub subframe2_zeros : List ℕ
subframe2_zeros = replicate 75 0

abbrev pub subframe2_pattern : List ℕ
subframe2_pattern = replicate 71 0 ++ 0x01 ∷ 0x86 ∷ 0x4C ∷ 0xFB ∷ []

-- both are taken
pub both_taken : (subframe2_number subframe2_zeros ≡ 0) × (subframe2_number subframe2_pattern ≡ 0)
unfolding answer subframe2_refusal check_of check_bits bits_from feed_of times_x field_at bit_at
both_taken = (refl, refl)

-- a run of 25
pub subframe2_run_25 : Run 600 25 subframe2_zeros subframe2_pattern
unfolding same_from bit_at
subframe2_run_25 = run_tested subframe2_zeros subframe2_pattern 575 0 refl refl tt tt (λ e. omega arith)

-- so of 25 positions the statement would be false
pub subframe2_not_25 : Subframe2Caught 25 → ⊥
subframe2_not_25 h =
    let z : subframe2_number subframe2_zeros ≡ 0 = both_taken.0 in
    let r : read_subframe2 subframe2_pattern ≡ subframe2_refused_with 36 = h subframe2_zeros subframe2_pattern (λ a. omega arith, λ a. omega arith) subframe2_run_25 in
    let e : subframe2_number subframe2_pattern ≡ 36 = ap (λ (x : Answer). number_in x.said) r in
    omega (arith, both_taken.1)
