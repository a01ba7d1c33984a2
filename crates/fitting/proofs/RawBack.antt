-- A signed number's bits, written and read.
use mathlib.Core.Path.{◌≡◌}
use mathlib.Core.Logic.{dite}
use Prim.Native.Nat.{ℕ, ◌*◌, ◌<◌}
use native.Mathlib.Decide.{dec_lt}
use native.Mathlib.Omega.{arith}
use lib.IntN.{ℤ}
use lib.Signed.{mag}
use borrow.Author.Tests.{lt-ltb, le-ltb}
use Rattle.records.specs.Signed.{signed_half}
use Rattle.records.proofs.SignedLaws.{signed_raw, raw_signed, raw_lt, signed_lt}
use Rattle.fitting.specs.Fits.{raw_or}

-- a number within its range has bits that fit
pub raw_or_lt : (half : ℕ) (z : ℤ) → mag z < half → raw_or half z < 2 * half
raw_or_lt half z h = rw (lt-ltb (mag z) half h) (raw_lt half z h)

-- bits that fit are those of a number within its range
pub raw_or_mag : (half : ℕ) (z : ℤ) → raw_or half z < 2 * half → mag z < half
raw_or_mag half z h =
    dite (dec_lt (mag z) half)
    (λ l. l)
    (λ n.
    let g : 2 * half < 2 * half = rw (le-ltb (mag z) half (omega arith)) at h in
    absurd (let y : ⊥ = omega arith in y))

-- and say the number
pub raw_back : (half : ℕ) (z : ℤ) → raw_or half z < 2 * half → signed_half half (raw_or half z) ≡ z
raw_back half z h =
    let l : mag z < half = raw_or_mag half z h in
    rw (lt-ltb (mag z) half l) (signed_raw half z l)

-- the bits that were read are those that are written
pub raw_or_read : (half x : ℕ) → x < 2 * half → raw_or half (signed_half half x) ≡ x
raw_or_read half x h = rw (lt-ltb (mag (signed_half half x)) half (signed_lt half x h)) (raw_signed half x h)
