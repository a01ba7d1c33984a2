-- 02, CR 10: our own writer's sheet is accepted by the same ledger and issues.
use Prim.Native.Nat.{ℕ, ◌+◌}
use mathlib.Core.Path.{◌≡◌, sym, ap, ◌∙◌}
use mathlib.Core.Logic.{dite}
use mathlib.Core.Bool.{true}
use mathlib.Core.List.{List, [], ◌∷◌, Memᴰ}
use native.Mathlib.Decide.{dec_lt}
use native.Mathlib.Omega.{arith}
use lib.ListN.{length}
use Rattle.held_mask.specs.Mask.{HeldMask, mask_at}
use Rattle.broadcast.specs.Issues.{issues_refusal}
use Rattle.row.specs.declared.Row.{Row}
use Rattle.list.specs.Rows.{list_in}
use Rattle.list_right.specs.InForce.{list_in_force}
use Rattle.list_right.proofs.ListRight.{list_held}
use Rattle.sheet_form.specs.Layout.{sheet_of}
use Rattle.sheet_form.specs.Reading.{header_said, rows_said}
use Rattle.sheet_form.specs.declared.Header.{Header}
use Rattle.sheet_writing.specs.Writing.{most_sheet_rows}
use Rattle.sheet_checking.specs.Checking.{checked_answer}
use Rattle.sheet_right.specs.Sheets.{header_in_force}
use Rattle.sheet_right.specs.Checked.{NoneTwice, OwnAccepted, WrittenAccepted}
use Rattle.sheet_right.proofs.RiseLaws.{Rising}
use Rattle.sheet_right.proofs.AllRead.{AnyOrder, any_order, any_right, header_back, said_rows}
use Rattle.sheet_right.proofs.WrittenRead.{free, written, sheet_held, list_allowed}
use Rattle.sheet_right.proofs.Accepted.{Agrees, accepted_exactly}

-- ---- the sheet of a header that agrees, and of rows of our list in any order, none twice
module _ (s is : List ℕ) (right : issues_refusal is ≡ 0) (has : (mask_at s).has ≡ true) (h : Header) (a : Agrees s h) (rs : List Row) (A : AnyOrder most_sheet_rows h rs) where
  -- it says the header that it was made of
  agrees_said : Agrees s (header_said (sheet_of h rs))
  agrees_said = rw (header_back most_sheet_rows h rs A) a

  -- its rows are ours
  ours_said : ((r : Row) → Memᴰ r rs → Memᴰ r (list_in s is)) → (r : Row) → Memᴰ r (rows_said (sheet_of h rs)) → Memᴰ r (list_in s is)
  ours_said o = rw (said_rows most_sheet_rows h rs A) o

  -- none stands twice
  once_said : NoneTwice rs → NoneTwice (rows_said (sheet_of h rs))
  once_said o = rw (said_rows most_sheet_rows h rs A) o

  -- so many of ours are left
  left_said : (n : ℕ) → length (list_in s is) ≡ n + length rs → length (list_in s is) ≡ n + length (rows_said (sheet_of h rs))
  left_said n e = rw (said_rows most_sheet_rows h rs A) e

  -- so it is accepted
  pub sheet_accepted : (n : ℕ) → ((r : Row) → Memᴰ r rs → Memᴰ r (list_in s is)) → NoneTwice rs → length (list_in s is) ≡ n + length rs → checked_answer s is (sheet_of h rs) ≡ 0 ∷ n ∷ []
  sheet_accepted n ours once left =
      (accepted_exactly s is (sheet_of h rs) n).1
      (record {
        issues = right;
        mask = has;
        read = any_right most_sheet_rows h rs A;
        prn = agrees_said.prn;
        ssr = agrees_said.ssr;
        iodp = agrees_said.iodp;
        ours = ours_said ours;
        once = once_said once;
        left = left_said n left;
      })

-- rows that rise stand once
rising_once : (rs : List Row) → Rising rs → NoneTwice rs
rising_once rs o i j d p q e =
    dite (dec_lt i j)
    (λ l. absurd (omega (arith, o i j d l q)))
    (λ l. dite (dec_lt j i) (λ m. absurd (omega (arith, o j i d m p))) (λ m. omega arith))

-- OUR OWN SHEET IS ACCEPTED
pub own_accepted : OwnAccepted
own_accepted s prn h is room p H e =
    let f = free s is room e in
    let g = header_in_force prn h is in
    let rs = list_in_force prn h is in
    let l = list_held s prn h is H in
    let a = list_allowed s prn h is H p (rw l at f.few) in
    let c : Agrees s g = record { prn = sym H.own; ssr = sym (ap (λ (m : HeldMask). m.ssr) H.mask); iodp = sym (ap (λ (m : HeldMask). m.iodp) H.mask) } in
    ap (checked_answer s is) (sheet_held s prn h is H)
    ∙ sheet_accepted s is f.issues f.mask g c rs (any_order most_sheet_rows g rs a) 0 (λ r m. rw l m) (rising_once rs a.rising) (omega (arith, ap length l))

-- AND SO IS WHAT THE WRITER LEFT IN THE ROOM
pub written_accepted : WrittenAccepted
written_accepted s prn h is room p H e = ap (checked_answer s is) (written s is room e) ∙ own_accepted s prn h is room p H e
