-- Zero bytes, however many, are zero everywhere, and so is what lies past them.
use mathlib.Core.Path.{◌≡◌, refl}
use Prim.Native.Nat.{ℕ, zero, suc, ◌+◌, ◌≤◌}
use mathlib.Core.List.{List}
use native.Mathlib.Omega.{arith}
use lib.ListN.{length, get_or, replicate, get_or-eq_default}
use Rattle.lent.specs.Digits.{pair_of, two_at, four_at}

pub get_or_zeros : (n j : ℕ) → get_or (replicate {A = ℕ} n 0) j 0 ≡ 0
get_or_zeros zero j = refl
get_or_zeros (suc n) zero = refl
get_or_zeros (suc n) (suc j) = get_or_zeros n j

-- ---- numbers of which every byte lies past the end
pub pair_past : (s : List ℕ) (a b : ℕ) → length s ≤ a → length s ≤ b → pair_of (get_or s a 0) (get_or s b 0) ≡ 0
pair_past s a b h l = rw (get_or-eq_default s 0 h, get_or-eq_default s 0 l)

pub two_past : (s : List ℕ) (at : ℕ) → length s ≤ at → two_at s at ≡ 0
two_past s at h = pair_past s at (at + 1) h (omega arith)

pub four_past : (s : List ℕ) (at : ℕ) → length s ≤ at → four_at s at ≡ 0
four_past s at h = rw (pair_past s at (at + 1) h (omega arith), pair_past s (at + 2) (at + 3) (omega arith) (omega arith))
