-- 02, CR 9: reading a made frame whose first flag is 0 answers what reading its message alone answers.
use Rattle.std.specs.Prelude.{ℕ, ◌+◌, ◌<◌, ◌≡◌, List}
use Rattle.bits.specs.Bits.{bit_at}
use Rattle.message.specs.Read.{read_message}
use Rattle.frame.specs.Frame.{read_frame}
use Rattle.making.specs.Make.{Made, make_refusal}

-- 01, What arrives: the n bits of s from bit a on are those of t from bit b on
abbrev pub Agree : ℕ → List ℕ → ℕ → List ℕ → ℕ → Type 0
Agree n s a t b = (i : ℕ) → i < n → bit_at s (a + i) ≡ bit_at t (b + i)

-- 02, CR 9: the verdict and the contents are the same; flags below 32 have a first flag of 0
abbrev pub MadeRead : Type 0
MadeRead =
    (message room frame : List ℕ) (prn flags : ℕ)
    → make_refusal message prn flags room ≡ 0 → flags < 32 → Made message prn flags frame → read_frame frame ≡ read_message message
