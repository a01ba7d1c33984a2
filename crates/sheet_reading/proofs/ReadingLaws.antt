-- Laws of a sheet that is read: where it is wrong, row by row, and what the reader then says.
use Prim.Native.Nat.{ℕ, zero, suc, ◌+◌, ◌-◌, ◌≤◌, ◌<◌}
use mathlib.Core.Path.{◌≡◌, refl, sym, ap, ◌∙◌}
use mathlib.Core.Logic.{dite}
use mathlib.Core.Bool.{Bool, true, false, true≢false}
use mathlib.Core.List.{List}
use mathlib.Core.Option.{Option, none, some}
use native.Mathlib.Nat.{not-suc-le-zero}
use native.Mathlib.Decide.{dec_lt}
use native.Mathlib.Omega.{arith}
use borrow.Author.Tests.{lt-leb, eq-eqb, ne_eqb}
use lib.ListN.{length, get_or}
use Rattle.sheet_form.specs.Reading.{header_ok, row_ok, end_ok, wrong_from, wrong_at, header_said}
use Rattle.sheet_form.specs.declared.Header.{Header}
use Rattle.sheet_reading.specs.Answer.{read_says, said_of, read_answer}
use Rattle.std.specs.Prelude.{Result, Ok, Err}
use Rattle.sheet_reading.specs.declared.Wrong.{Wrong}

module _ (rising : Bool) (s : List ℕ) where
  -- a row that is cut short is wrong
  row_short : (before at : ℕ) → length s < at + 24 → row_ok rising before s at ≡ false
  unfolding row_ok
  row_short before at h = rw (lt-leb (at + 24) (length s) h)

  -- a row that is right is all there
  pub row_reaches : (before at : ℕ) → row_ok rising before s at ≡ true → at + 24 ≤ length s
  row_reaches before at e =
      dite (dec_lt (length s) (at + 24)) (λ h. absurd (true≢false (sym e ∙ row_short before at h))) (λ h. omega arith)

  -- a row is due, and is wrong
  pub wrong_row : (n before at : ℕ) → 0 < n → row_ok rising before s at ≡ false → wrong_from rising s n before at ≡ some at
  unfolding wrong_from
  wrong_row zero before at h e = absurd (not-suc-le-zero h)
  wrong_row (suc n) before at h e = rw e

  -- a row is due, and is right
  pub right_row : (n before at : ℕ) → 0 < n → row_ok rising before s at ≡ true →
      wrong_from rising s n before at ≡ wrong_from rising s (n - 1) (get_or s (at + 3) 0) (at + 24)
  unfolding wrong_from
  right_row zero before at h e = absurd (not-suc-le-zero h)
  right_row (suc n) before at h e = let q : suc n - 1 ≡ n = omega arith in rw (e, q)

  -- the end is due, and is wrong
  pub wrong_end : (n before at : ℕ) → n ≤ 0 → end_ok s at ≡ false → wrong_from rising s n before at ≡ some at
  unfolding wrong_from
  wrong_end zero before at h e = rw e
  wrong_end (suc n) before at h e = absurd (not-suc-le-zero h)

  -- the end is due and right, and a byte comes after it
  pub wrong_after : (n before at : ℕ) → n ≤ 0 → end_ok s at ≡ true → (length s ≡ at + 3 → ⊥) → wrong_from rising s n before at ≡ some (at + 3)
  unfolding wrong_from
  wrong_after zero before at h e l = rw (e, ne_eqb (length s) (at + 3) l)
  wrong_after (suc n) before at h e l = absurd (not-suc-le-zero h)

  -- the end is due and right, and nothing comes after it
  pub right_end : (n before at : ℕ) → n ≤ 0 → end_ok s at ≡ true → length s ≡ at + 3 → wrong_from rising s n before at ≡ none
  unfolding wrong_from
  right_end zero before at h e l = rw (e, eq-eqb (length s) (at + 3) l)
  right_end (suc n) before at h e l = absurd (not-suc-le-zero h)

-- wrong at an offset
abbrev pub wrong : ℕ → Result Header Wrong
wrong at = Err (record { 0 = at })

module _ (limit : ℕ) (rising : Bool) (s : List ℕ) where
  -- the header is wrong
  pub wrong_header : header_ok limit s ≡ false → wrong_at limit rising s ≡ some 0
  unfolding wrong_at
  wrong_header e = rw e

  -- the header is right: what follows decides
  pub right_header : (h : Header) → header_ok limit s ≡ true → h ≡ header_said s → wrong_from rising s h.rows 0 8 ≡ wrong_at limit rising s
  unfolding wrong_at
  right_header h e q = rw (e, q)

  -- what the reader says of a sheet that is wrong somewhere
  pub says_wrong : (at : ℕ) → wrong_at limit rising s ≡ some at → read_says (wrong at) ≡ read_answer limit rising s
  unfolding read_answer
  says_wrong at e = sym (ap (said_of s) e)

  -- what it says of one that is read
  pub says_read : (h : Header) → wrong_at limit rising s ≡ none → h ≡ header_said s → read_says (Ok h) ≡ read_answer limit rising s
  unfolding read_answer
  says_read h e q = rw (e, q)

  -- an offset was said: the sheet is wrong there
  pub read_wrong : (w : Wrong) → read_says (Err w) ≡ read_answer limit rising s → wrong_at limit rising s ≡ some w.0
  unfolding read_answer
  read_wrong w e = go (wrong_at limit rising s) e
    where
      go : (o : Option ℕ) → read_says (Err w) ≡ said_of s o → o ≡ some w.0
      go (some b) q = ap some (ap (λ (x : List ℕ × Option Header). get_or x.0 1 0) (sym q))
      go none q = absurd (let l = ap (λ (x : List ℕ × Option Header). length x.0) q in omega arith)

  -- a header was said: the sheet is read
  pub read_right : (h : Header) → read_says (Ok h) ≡ read_answer limit rising s → (wrong_at limit rising s ≡ none) × (h ≡ header_said s)
  unfolding read_answer
  read_right h e = go (wrong_at limit rising s) e
    where
      go : (o : Option ℕ) → read_says (Ok h) ≡ said_of s o → (o ≡ none) × (h ≡ header_said s)
      go (some b) q = absurd (let l = ap (λ (x : List ℕ × Option Header). length x.0) q in omega arith)
      go none q = let g : some h ≡ some (header_said s) = ap (λ (x : List ℕ × Option Header). x.1) q in (refl, cc)

-- the answer that says this
back : List ℕ → Option Header → Result Header Wrong
back said (some h) = Ok h
back said none = wrong (get_or said 1 0)

back_says : (a : Result Header Wrong) → back (read_says a).0 (read_says a).1 ≡ a
unfolding back
back_says (Ok h) = refl
back_says (Err w) = refl

-- answers that say the same are the same: a promise of what is said admits a single answer
pub read_once : (a b : Result Header Wrong) → read_says a ≡ read_says b → a ≡ b
read_once a b e = sym (back_says a) ∙ ap (λ (x : List ℕ × Option Header). back x.0 x.1) e ∙ back_says b
