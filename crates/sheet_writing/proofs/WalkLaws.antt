-- Laws of the fields put one after the other: a turn of the walk over the rows, its end, and the whole sheet.
use mathlib.Core.Path.{◌≡◌, refl, ap, ◌∙◌}
use Prim.Native.Nat.{ℕ, ◌+◌, ◌-◌, ◌*◌, ◌≤◌}
use mathlib.Core.List.{List, [], ◌∷◌, ◌++◌}
use native.Mathlib.Omega.{arith}
use lib.ListN.{length, take, drop, length-append}
use Rattle.bits.specs.Bytes.{store_at}
use Rattle.flat_numbers.proofs.StoreLaws.{store_two, part_store}
use Rattle.row.specs.declared.Row.{Row}
use Rattle.sheet_form.specs.Layout.{header_field, row_field, row_fields, end_field, sheet_of}
use Rattle.sheet_form.specs.declared.Header.{Header}
use Rattle.sheet_fields.proofs.FieldLaws.{header_long, row_long}

-- a row's field put into what is left of the room, and the other rows behind it
pub put_next : (room part : List ℕ) (at n : ℕ) (r : Row) (rs : List Row)
    → at + n ≤ length room → 24 ≤ n → part ≡ store_at (take n (drop at room)) 0 (row_field r)
    → store_at (take at room ++ (part ++ drop n (drop at room))) (at + 24) (row_fields rs) ≡ store_at room at (row_fields (r ∷ rs))
unfolding row_fields
put_next room part at n r rs h l e =
    rw (e, part_store room at n (row_field r) h (rw (row_long r) l)) (store_two room at (at + 24) (row_field r) (row_fields rs) (ap (λ (k : ℕ). at + k) (row_long r)))

-- no rows are left
pub put_over : (room : List ℕ) (at : ℕ) → store_at room at (row_fields []) ≡ room
unfolding row_fields store_at
put_over room at = refl

rows_long : (rs : List Row) → length (row_fields rs) ≡ 24 * length rs
unfolding row_fields
rows_long [] = refl
rows_long (r ∷ rs) = length-append (row_field r) (row_fields rs) ∙ omega (arith, row_long r, rows_long rs)

-- the header, the rows, and the end in what is left of the room
pub put_whole : (s t u part : List ℕ) (at n : ℕ) (h : Header) (rs : List Row)
    → t ≡ store_at s 0 (header_field h) → u ≡ store_at t 8 (row_fields rs) → part ≡ store_at (take n (drop at u)) 0 end_field
    → at ≡ 8 + 24 * length rs → at + n ≤ length u → 3 ≤ n
    → take at u ++ (part ++ drop n (drop at u)) ≡ store_at s 0 (sheet_of h rs)
unfolding sheet_of
put_whole s t u part at n h rs a b d e f g =
    ap (λ (p : List ℕ). take at u ++ (p ++ drop n (drop at u))) d
    ∙ part_store u at n end_field f g
    ∙ ap (λ (v : List ℕ). store_at v at end_field) b
    ∙ store_two t 8 at (row_fields rs) end_field (omega (arith, rows_long rs))
    ∙ ap (λ (v : List ℕ). store_at v 8 (row_fields rs ++ end_field)) a
    ∙ store_two s 0 8 (header_field h) (row_fields rs ++ end_field) (omega (arith, header_long h))
