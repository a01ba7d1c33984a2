-- Laws of the accuracy index: the search for a code, and index and code there and back.
use mathlib.Core.Path.{◌≡◌, refl, ap, ◌∙◌}
use mathlib.Core.Logic.{dite, ◌≢◌}
use mathlib.Core.Bool.{Bool}
use mathlib.Core.List.{List}
use Prim.Native.Nat.{ℕ, zero, suc, ◌+◌, ◌-◌, ◌*◌, ◌≤◌, ◌<◌}
use native.Mathlib.Decide.{ℕ_discrete}
use native.Mathlib.Omega.{arith}
use lib.Dec.{eqb, eqb→eq}
use borrow.Author.Tests.{eq-eqb, ne_eqb, lt-ltb}
use Rattle.bits.specs.Bits.{field_at}
use Rattle.bits.proofs.ByteWise.{field_split}
use Rattle.bits.proofs.Below.{below}
use Rattle.ura.specs.Ura.{quarters_of, ura_of, code_from, code_of, kind_of, quarters_in, held_ura}
use Rattle.ura.specs.declared.Ura.{Ura}
use Rattle.ura.specs.declared.Ura.TheVariants.{Unknown, Quarters, Above}

-- class and value side by side are the code
pub code_at : (s : List ℕ) (at : ℕ) → field_at s at 6 ≡ 8 * field_at s at 3 + field_at s (at + 3) 3
code_at s at = field_split s at 3 3 ∙ omega arith

-- the search, a turn at a time
pub code_hit : (q c : ℕ) → c < 63 → quarters_of c ≡ q → code_from q c (63 - c) ≡ c
unfolding code_from
code_hit q c l e = let m : 63 - c ≡ suc (62 - c) = omega arith in rw m (simp (eq-eqb (quarters_of c) q e))

pub code_miss : (q c : ℕ) → c < 63 → quarters_of c ≢ q → code_from q c (63 - c) ≡ code_from q (c + 1) (63 - (c + 1))
unfolding code_from
code_miss q c l ne =
    let m : 63 - c ≡ suc (63 - (c + 1)) = omega arith in
    rw m (simp (ne_eqb (quarters_of c) q ne))

pub code_none : (q c : ℕ) → 63 ≤ c → code_from q c (63 - c) ≡ 64
unfolding code_from
code_none q c l = let m : 63 - c ≡ 0 = omega arith in rw m

-- what the search finds gives the quarters
pub code_right : (q c n : ℕ) → code_from q c n < 64 → (quarters_of (code_from q c n) ≡ q) × (c ≤ code_from q c n) × (code_from q c n < c + n)
unfolding code_from
code_right q c zero h = absurd (let z : ⊥ = omega arith in z)
code_right q c (suc n) h =
    dite (ℕ_discrete (quarters_of c) q)
    (λ e. rw (eq-eqb (quarters_of c) q e) (e, omega arith, omega arith))
    (λ ne.
    let g : code_from q (c + 1) n < 64 = rw (ne_eqb (quarters_of c) q ne) at h in
    let r = code_right q (c + 1) n g in
    rw (ne_eqb (quarters_of c) q ne) (r.0, omega arith, omega arith))

-- an index that has a code is what its code says
pub ura_back : (u : Ura) → code_of u < 64 → ura_of (code_of u) ≡ u
ura_back Unknown h = refl
ura_back (Quarters q) h =
    let r = code_right q 1 62 h in
    let z : code_from q 1 62 ≢ 0 = (λ e. omega arith) in
    let l : code_from q 1 62 < 63 = omega arith in
    rw (ne_eqb _ _ z, lt-ltb _ _ l) (ap Quarters r.0)
ura_back Above h = refl

same : ℕ → Bool
same code = eqb (code_of (ura_of code)) code

-- and a code is the code of what it says: no two codes say the same
pub code_back : (code : ℕ) → code < 64 → code_of (ura_of code) ≡ code
unfolding same code_from
code_back code h = eqb→eq (code_of (ura_of code)) code (below same 64 tt code h)

-- the index of its own kind and quarters
pub kind_back : (u : Ura) → held_ura (kind_of u) (quarters_in u) ≡ u
kind_back Unknown = refl
kind_back (Quarters q) = refl
kind_back Above = refl
