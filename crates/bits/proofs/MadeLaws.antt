-- What std's calls of a closure make, as tables of a function: `from_fn` of an array, and `map` over one.
use mathlib.Core.Path.{◌≡◌, ◌∙◌, sym, refl, ap}
use mathlib.Core.Bool.{Bool, ◌||◌}
use mathlib.Core.Logic.{⊎_elim}
use Prim.Native.Nat.{ℕ, zero, suc, ◌+◌, ◌≤◌, ◌<◌}
use mathlib.Core.List.{List, [], ◌∷◌}
use lib.ListN.{get_or, length}
use lib.Seq.{ext_get_or}
use native.Mathlib.Nat.{eq-or-lt_of_le}
use native.Mathlib.Omega.{arith}
use denote.Param.Members.{Called, Mut}
use Rattle.std.specs.Array.{IsFromFnResult, IsFromFnResultFrom}
use Rattle.std.specs.List.{list_any}
use Rattle.bits.specs.Some.{any_of}
use Rattle.bits.specs.Table.{table}
use Rattle.bits.proofs.TableLaws.{length_table, get_or_table}

module _ {F B : Type 0} {g : Mut F (ℕ × Unit {0}) B} (h : ℕ → B) where
  -- element j of what the calls from i on give
  made_at : (f : F) (ys : List B) (i n : ℕ) → ((j : ℕ) (y : B) (q : F) → Called g f (j, tt) y q → (q ≡ f) × (y ≡ h j)) → IsFromFnResultFrom g f ys i n → (j : ℕ) (d : B) → i ≤ j → j < i + n → get_or ys j d ≡ h j
  made_at f ys i zero pure m j d l k = absurd (omega arith)
  made_at f ys i (suc n) pure m j d l k =
      let p = pure i m.1 m.0 m.3 in
      ⊎_elim
      (λ (e : i ≡ j). rw (← e) (m.2.1 d ∙ p.1))
      (λ (lt : i < j). made_at f ys (i + 1) n pure (rw p.0 at m.4) j d (omega arith) (omega arith))
      (eq-or-lt_of_le l)

  -- the closure leaves itself as it is, and gives what h does
  pub made_table : (f : F) (ys : List B) (n : ℕ) → IsFromFnResult g f ys n → ((j : ℕ) (y : B) (q : F) → Called g f (j, tt) y q → (q ≡ f) × (y ≡ h j)) → ys ≡ table h n
  made_table f ys n m pure =
      ext_get_or (h 0) ys (table h n) (m.long ∙ sym (length_table h n))
      (λ j l.
      let k : j < n = omega (arith, m.long) in
      made_at f ys 0 n pure m.each j (h 0) (omega arith) (omega arith) ∙ sym (get_or_table h n j (h 0) k))

-- std's test of a list is the one of specs/Some that looks at each element alone
pub any_alone : {A : Type 0} (p : A → Bool) (xs : List A) → list_any p xs ≡ any_of (λ x _. p x) xs
unfolding any_of
any_alone p [] = refl
any_alone p (x ∷ xs) = ap (λ b. p x || b) (any_alone p xs)
