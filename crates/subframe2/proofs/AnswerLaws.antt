-- What a reading says admits a single reading, and is judged by the field that it gives.
use mathlib.Core.Path.{◌≡◌, refl, sym, ap, ◌∙◌}
use mathlib.Core.List.{List}
use Prim.Native.Nat.{ℕ}
use lib.IntN.{ℤ, pos}
use Rattle.verdict.specs.Verdict.{refused_by}
use Rattle.std.specs.Prelude.{Result, Ok, Err}
use Rattle.verdict.specs.declared.Refusal.{Refusal}
use Rattle.verdict.proofs.NumberLaws.{says_once, some_said}
use Rattle.subframe2.specs.Fields.{rows, offset_of, field_of, fields_of}
use Rattle.subframe2.specs.Read.{hour_of, subframe2_refusal, Answer, answer, subframe2_says, read_subframe2}

-- readings that say the same are the same
pub subframe2_once : (r q : Result (List ℤ) Refusal) → subframe2_says r ≡ subframe2_says q → r ≡ q
subframe2_once (Ok f) (Ok g) e = ap (λ (a : Answer). Ok a.fields) e
subframe2_once (Ok f) (Err q) e = absurd (some_said q (ap (λ (a : Answer). a.said) e))
subframe2_once (Err r) (Ok g) e = absurd (some_said r (sym (ap (λ (a : Answer). a.said) e)))
subframe2_once (Err r) (Err q) e = let v = says_once (Err r) (Err q) (ap (λ (a : Answer). a.said) e) in cc

-- 001, table 7-2: the hour that 37 judges is the second field
pub hour_field : (s : List ℕ) → field_of s 1 ≡ pos (hour_of s)
unfolding rows offset_of
hour_field s = refl

-- what a reading gives, part by part: its number, and the fields where that is 0
module _ (s : List ℕ) (r : Result (List ℤ) Refusal) (e : subframe2_says r ≡ read_subframe2 s) where
  pub said_by : (subframe2_says r).said ≡ refused_by (subframe2_refusal s)
  unfolding answer
  said_by = ap (λ (a : Answer). a.said) e

  pub fields_by : subframe2_refusal s ≡ 0 → (subframe2_says r).fields ≡ fields_of s
  unfolding answer
  fields_by z = ap (λ (a : Answer). a.fields) e ∙ rw z
