-- The slots of records in a row: std's `any` over the records, and the table of their slots.
use mathlib.Core.Path.{◌≡◌, ◌∙◌, refl, sym, ap}
use mathlib.Core.Bool.{Bool, true, false, ◌||◌}
use mathlib.Core.List.{List, [], ◌∷◌, ◌++◌, map}
use Prim.Native.Nat.{ℕ, zero, suc}
use lib.ListN.{get_or, length}
use native.Mathlib.Omega.{arith}
use Rattle.std.specs.List.{list_any}
use Rattle.std.proofs.lemmas.List.{map-append}
use Rattle.std.proofs.lemmas.List.Folds.{list_any-append}
use Rattle.bits.specs.Some.{any_of}
use Rattle.bits.specs.Table.{table}
use Rattle.bits.proofs.TableLaws.{table_same}
use Rattle.judge.specs.Judge.{is_again}

or_false : (b : Bool) → (b || false) ≡ b
or_false true = refl
or_false false = refl

-- a fold that has met one more record
pub any_more : {A : Type 0} (p : A → Bool) (xs : List A) (x : A) (seen b : Bool) → seen ≡ list_any p xs → b ≡ seen || p x → b ≡ list_any p (xs ++ (x ∷ []))
any_more p xs x seen b e h = rw (h, e, list_any-append p xs (x ∷ []), or_false (p x))

module _ {A : Type 0} (slot : A → ℕ) where
  -- a test of each record's slot alone
  pub any_slot : (p : ℕ → Bool) (xs : List A) → list_any (λ x. p (slot x)) xs ≡ any_of (λ x _. p x) (map slot xs)
  unfolding any_of
  any_slot p [] = refl
  any_slot p (x ∷ xs) = ap (λ b. p (slot x) || b) (any_slot p xs)

  map_table : (f : ℕ → A) (n : ℕ) → map slot (table f n) ≡ table (λ (i : ℕ). slot (f i)) n
  unfolding table
  map_table f zero = refl
  map_table f (suc n) = map-append slot (table f n) (f n ∷ []) ∙ ap (λ t. t ++ (slot (f n) ∷ [])) (map_table f n)

  pub slots_table : (xs : List A) (n : ℕ) (d : A) → length xs ≡ n → map slot xs ≡ table (λ (i : ℕ). slot (get_or xs i d)) n
  slots_table xs n d e = ap (map slot) (sym (table_same xs n d e)) ∙ map_table (λ (i : ℕ). get_or xs i d) n

  -- a walk that takes a record a turn
  pub again_first : (rest : List A) (x : A) (xs : List A) (y : ℕ) (b : Bool) → rest ≡ x ∷ xs → y ≡ slot x → b ≡ is_again y (map slot xs)
      → any_of is_again (map slot rest) ≡ b || any_of is_again (map slot xs)
  unfolding any_of
  again_first rest x xs y b e f h = rw (e, h, f)

  pub again_end : (rest : List A) → length rest ≡ 0 → any_of is_again (map slot rest) ≡ false
  unfolding any_of
  again_end [] e = refl
  again_end (x ∷ xs) e = absurd (omega arith)
