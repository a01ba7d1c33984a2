-- The cases of the answer: a law for each refusal, in their order, and one for the sheet that is written.
use mathlib.Core.Path.{◌≡◌, refl, sym, ap, ◌∙◌}
use mathlib.Core.Logic.{dite}
use mathlib.Core.Bool.{true, false}
use mathlib.Core.List.{List}
use mathlib.Core.Option.{Option, none, some}
use Prim.Native.Nat.{ℕ, ◌≤◌, ◌<◌}
use native.Mathlib.Decide.{ℕ_discrete}
use native.Mathlib.Omega.{arith}
use borrow.Author.Tests.{ne_eqb, lt-ltb, le-ltb}
use lib.ListN.{length}
use Rattle.bits.specs.Bytes.{store_at}
use Rattle.held_mask.specs.Mask.{mask_at}
use Rattle.broadcast.specs.Issues.{issues_refusal}
use Rattle.list.specs.Rows.{list_in, count_says, count_answer}
use Rattle.sheet_form.specs.Layout.{sheet_of, sheet_length}
use Rattle.sheet_form.specs.declared.Header.{Header}
use Rattle.sheet_writing.specs.Writing.{sheet_says, header_of, header_for, sheet_for, sheet_refusal, sheet_answer, sheet_room}
use Rattle.std.specs.Prelude.{Result, Ok, Err}
use Rattle.verdict.specs.declared.Refused.{Refused}

-- refused with a number
abbrev pub refused : ℕ → Result ℕ Refused
refused n = Err (record { 0 = n })

module _ (s is room : List ℕ) where
  -- this answer, with this room left, is the one that is asked for
  abbrev pub Right : Result ℕ Refused → List ℕ → Type 0
  Right a t = (sheet_says a ≡ sheet_answer s is room) × (t ≡ sheet_room s is room)

  right_refused : (n : ℕ) → sheet_refusal s is room ≡ n → (n ≡ 0 → ⊥) → Right (refused n) room
  unfolding sheet_answer sheet_room
  right_refused n e z = rw (e, ne_eqb n 0 z) (refl, refl)

  -- 1 and 17
  pub right_issues : (n : ℕ) → issues_refusal is ≡ n → (n ≡ 0 → ⊥) → Right (refused n) room
  unfolding sheet_refusal
  right_issues n e z = right_refused n (rw (e, ne_eqb n 0 z)) z

  -- the others, of sound issues and a list of n rows
  module _ (sound : issues_refusal is ≡ 0) (n : ℕ) (rows : n ≡ length (list_in s is)) where
    pub right_20 : (mask_at s).has ≡ false → Right (refused 20) room
    unfolding sheet_refusal
    right_20 e = right_refused 20 (rw (sound, e)) (λ z. omega arith)

    module _ (mask : (mask_at s).has ≡ true) where
      pub right_22 : length room < sheet_length n → Right (refused 22) room
      unfolding sheet_refusal
      right_22 h = right_refused 22 (rw (sound, mask, ← rows, lt-ltb (length room) (sheet_length n) h)) (λ z. omega arith)

      pub right_written : (h : Header) (t : List ℕ) → sheet_length n ≤ length room → h ≡ header_of s n → t ≡ store_at room 0 (sheet_of h (list_in s is))
          → Right (Ok (sheet_length n)) t
      unfolding sheet_refusal sheet_answer sheet_room sheet_for header_for
      right_written h t l e b =
          rw (sound, mask, ← rows, le-ltb (length room) (sheet_length n) l)
          (refl, b ∙ ap (λ (g : Header). store_at room 0 (sheet_of g (list_in s is))) e)

-- answers that say the same are the same: a promise of what is said admits a single answer
back : ℕ → Option ℕ → Result ℕ Refused
back n (some k) = Ok k
back n none = refused n

back_says : (a : Result ℕ Refused) → back (sheet_says a).0 (sheet_says a).1 ≡ a
unfolding back
back_says (Ok k) = refl
back_says (Err n) = refl

pub sheet_once : (a b : Result ℕ Refused) → sheet_says a ≡ sheet_says b → a ≡ b
sheet_once a b e = sym (back_says a) ∙ ap (λ (x : ℕ × Option ℕ). back x.0 x.1) e ∙ back_says b
