-- 02, CR 7: the sheet of 01's example is the 35 bytes that the request prints, computed.
use Prim.Native.Nat.{ℕ}
use mathlib.Core.Path.{◌≡◌, refl, ap, ◌∙◌}
use mathlib.Core.List.{List, [], ◌∷◌}
use lib.ListN.{length}
use Rattle.ura.specs.Ura.{code_from}
use Rattle.held_mask.specs.Mask.{mask_at}
use Rattle.in_force.specs.Bytes.{prn_at}
use Rattle.list.specs.Rows.{list_in}
use Rattle.row.specs.declared.Row.{Row}
use Rattle.list_right.specs.Examples.{issues, row19}
use Rattle.list_right.proofs.ListRight.{list_held}
use Rattle.list_right.proofs.Examples.{mask_one, examples}
use Rattle.sheet_form.specs.Layout.{header_field, row_field, row_fields, sheet_of}
use Rattle.sheet_writing.specs.Writing.{header_for, sheet_for}
use Rattle.sheet_right.specs.Sheets.{example35, Example}

-- a ledger's sheet by its PRN, its mask and its list
sheet_by : (s is : List ℕ) (prn ssr iodp : ℕ) (rs : List Row) → prn_at s ≡ prn → (mask_at s).ssr ≡ ssr → (mask_at s).iodp ≡ iodp → list_in s is ≡ rs →
    sheet_for s is ≡ sheet_of (record { prn = prn; ssr = ssr; iodp = iodp; rows = length rs }) rs
unfolding sheet_for header_for
sheet_by s is prn ssr iodp rs a b c e = rw (a, b, c, e)

-- the bytes of its one row
row_35 : sheet_of (record { prn = 60; ssr = 1; iodp = 5; rows = 1 }) (row19 ∷ []) ≡ example35
unfolding sheet_of header_field row_fields row_field code_from
row_35 = refl

-- THE EXAMPLE
pub example : Example
example s h G H =
    let m = H.mask ∙ mask_one h G in
    sheet_by s issues 60 1 5 (row19 ∷ []) H.own (ap (λ x. x.ssr) m) (ap (λ x. x.iodp) m) (list_held s 60 h issues H ∙ examples.whole h G)
    ∙ row_35
