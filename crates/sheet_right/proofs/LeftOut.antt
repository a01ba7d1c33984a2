-- 02, CR 10: the count of an accepted sheet is that of our rows that it left out.
use Prim.Native.Nat.{ℕ}
use mathlib.Core.Path.{◌≡◌, refl, sym, ap, ◌∙◌}
use mathlib.Core.Logic.{dite, ⊎_elim}
use mathlib.Core.Bool.{Bool, true, false, true≢false, ◌||◌}
use mathlib.Core.List.Memᴰ
use mathlib.Core.List.{List, [], ◌∷◌, Memᴰ}
use mathlib.Core.Option.{Option, none, some}
use native.Mathlib.Decide.{ℕ_discrete}
use native.Mathlib.Omega.{arith}
use lib.Dec.{eqb}
use borrow.Author.Tests.{eq-eqb, ne_eqb}
use Rattle.bits.specs.Pick.{pick}
use Rattle.lookback.specs.Walk.{rows}
use Rattle.lookback.proofs.WalkLaws.{rows_found, found_rows}
use Rattle.row.specs.declared.Row.{Row}
use Rattle.list.specs.Rows.{row_in, list_in}
use Rattle.sheet_form.specs.Reading.{rows_said}
use Rattle.sheet_checking.specs.Checking.{names, left_at, left_out}
use Rattle.sheet_checking.proofs.CheckLaws.{names_cons, names_none}
use Rattle.sheet_right.specs.Checked.{CountsLeftOut}
use Rattle.sheet_right.proofs.OurRow.{own_slot, our_slot}
use Rattle.sheet_right.proofs.Accepted.{left_is}

-- ---- a slot that rows name is that of one of them
record Named (rs : List Row) (slot : ℕ) : Type 0 where
  row : Row
  in_rows : Memᴰ row rs
  own : row.slot.0 ≡ slot

-- the one that names it
named : (rs : List Row) (slot : ℕ) → names rs slot ≡ true → Named rs slot
named [] slot e = absurd (true≢false (sym e ∙ sym (names_none slot)))
named (r ∷ rs) slot e =
    dite (ℕ_discrete r.slot.0 slot)
    (λ q. record { row = r; in_rows = Memᴰ.head refl; own = q })
    (λ q. (let p = named rs slot (rw (names_cons r rs slot, ne_eqb r.slot.0 slot q) at e) in record { row = p.row; in_rows = Memᴰ.tail p.in_rows; own = p.own }))

-- a test or one that holds
or_true : (b : Bool) → b || true ≡ true
or_true true = refl
or_true false = refl

-- and the slot of each row is named
names_it : (rs : List Row) (r : Row) → Memᴰ r rs → names rs r.slot.0 ≡ true
names_it [] r m = absurd (Memᴰ.not-nil m)
names_it (x ∷ rs) r m =
    rw (names_cons x rs r.slot.0)
    (⊎_elim
    (λ (e : r ≡ x). (let f : x.slot.0 ≡ r.slot.0 = sym (ap (λ (y : Row). y.slot.0) e) in rw (eq-eqb x.slot.0 r.slot.0 f)))
    (λ l. rw (names_it rs r l) (or_true (eqb x.slot.0 r.slot.0)))
    (Memᴰ.cases_cons m))

-- ---- the rows that are left out
-- what is left is what was there
left_there : (b : Bool) (o : Option Row) (r : Row) → pick b none o ≡ some r → (b ≡ false) × (o ≡ some r)
left_there true o r e = absurd (let z : ◌≡◌ {A = ℕ} 0 1 = cc in omega arith)
left_there false o r e = (refl, e)

module _ (s is : List ℕ) (rs : List Row) where
  -- they are ours, and none of the sheet's
  left_ours : (r : Row) → Memᴰ r (rows (left_at s is rs)) → Memᴰ r (list_in s is) × (Memᴰ r rs → ⊥)
  left_ours r m =
      let f = rows_found (left_at s is rs) 255 1 r m in
      let p = left_there (names rs f.slot) (row_in s is f.slot) r f.row in (
        found_rows (row_in s is) 255 1 r (record { slot = f.slot; low = f.low; high = f.high; row = p.1 }),
        λ l. true≢false (sym (names_it rs r l) ∙ ap (names rs) (own_slot s is f.slot r p.1) ∙ p.0),
      )

  module _ (ours : (r : Row) → Memᴰ r rs → Memᴰ r (list_in s is)) where
    -- a row of ours that is none of the sheet's has a slot that the sheet does not name
    not_named : (r : Row) → Memᴰ r (list_in s is) → (Memᴰ r rs → ⊥) → names rs r.slot.0 ≡ false
    not_named r m n = go (names rs r.slot.0) refl
      where
        go : (b : Bool) → names rs r.slot.0 ≡ b → names rs r.slot.0 ≡ false
        go false e = e
        go true e =
            absurd
            (let p = named rs r.slot.0 e in
            let f : some p.row ≡ some r = sym (our_slot s is p.row (ours p.row p.in_rows)) ∙ ap (row_in s is) p.own ∙ our_slot s is r m in
            let q : p.row ≡ r = cc in
            n (rw q at p.in_rows))

    -- so it is left out
    ours_left : (r : Row) → Memᴰ r (list_in s is) → (Memᴰ r rs → ⊥) → Memᴰ r (rows (left_at s is rs))
    ours_left r m n =
        let f = rows_found (row_in s is) 255 1 r m in
        let q : names rs f.slot ≡ false = ap (names rs) (sym (own_slot s is f.slot r f.row)) ∙ not_named r m n in
        found_rows (left_at s is rs) 255 1 r (record { slot = f.slot; low = f.low; high = f.high; row = rw q f.row })

-- OUR ROWS THAT WERE LEFT OUT ARE COUNTED
pub counts_left_out : CountsLeftOut
unfolding left_out
counts_left_out s is t n A = record {
  counted = sym (left_is s is t n A);
  which = λ r. (left_ours s is (rows_said t) r, λ p. ours_left s is (rows_said t) A.ours r p.0 p.1);
}
